-- A card whose calls do what the definitions of the picture's calls and of a block's reading say.
-- Definitions only.
use Prim.Native.Nat.{ℕ}
use mathlib.Core.Path.{◌≡◌}
use mathlib.Core.List.{List}
use lib.ListN.{length}
use Rattle.exact.specs.Outcome.{Outcome}
use Rattle.block.specs.Read.{header_of, slice_after}
use Rattle.picture.specs.declared.Phase.TheVariants.{Fresh}
use Rattle.picture.specs.declared.Picture.{Picture}
use Rattle.picture.specs.Picture.{at, total_bytes, opening, rowing, buffer_after, closing}
use Rattle.picture.specs.Book.{Answer}
use Rattle.picture.proofs.Calls.{Label, Card}
use Rattle.picture.proofs.Card.{answer_of, leads, label_of}

-- a call on a that comes to o was answered so, and gave a' to the next call
pub record Follows {A : Type 0} (a : A) (o : Outcome A) (answer : Answer) (a' : A) : Type 0 where
  pub same : answer ≡ answer_of o
  pub next : a' ≡ leads a o

pub record Faithful (card : Card) : Type 0 where
  -- the picture that a caller's stands for
  pub picture : card.Picture → Picture
  pub bytes : (k : card.Picture) → card.bytes k ≡ (picture k).bytes
  pub news : {k : card.Picture} → card.New k → picture k ≡ at Fresh 0
  pub opens : {k k' : card.Picture} {n w h : ℕ} {answer : Answer} → card.Open k n w h answer k' → Follows (picture k) (opening (picture k) n w h) answer (picture k')
  pub rows : {k k' : card.Picture} {lights out out' : List ℕ} {answer : Answer} → card.Row k lights out answer out' k'
      → Follows (picture k) (rowing (picture k) lights (length out)) answer (picture k') × (out' ≡ buffer_after (picture k) lights out)
  pub closes : {k k' : card.Picture} {answer : Answer} → card.Close k answer k' → Follows (picture k) (closing (picture k)) answer (picture k')
  pub reads : {bytes slice left : List ℕ} {r : Outcome Label} → card.Read bytes slice r left
      → (r ≡ label_of (header_of bytes (length slice))) × (left ≡ slice_after bytes slice)
  pub totals : {w h : ℕ} {r : Outcome ℕ} → card.Total w h r → r ≡ total_bytes w h
