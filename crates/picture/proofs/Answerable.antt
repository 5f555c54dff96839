-- What a call on a picture comes to can always be answered.
-- Assumes nothing.
use Prim.Native.Nat.{ℕ, ◌*◌}
use mathlib.Core.List.{List}
use lib.Dec.{ltb, leb, eqb}
use lib.ListN.{length}
use Rattle.exact.specs.Outcome.{Outcome}
use Rattle.systems.specs.declared.refusal.Refusal.TheVariants as refusal
use Rattle.systems.proofs.Answerable.{Answerable, values, refusing, tested, followed, named_answerable}
use Rattle.block.specs.Read.{width_ok}
use Rattle.block.specs.Block.{size}
use Rattle.picture.specs.declared.Phase.{Phase}
use Rattle.picture.specs.declared.Phase.TheVariants.{Fresh, Open, Closed}
use Rattle.picture.specs.Picture.{around, height_ok, sized, total_bytes, begin, open_from, row_open, row_from, close_from}

-- so can the picture around a phase
pub around_answerable : {o : Outcome Phase} → Answerable o → (b : ℕ) → Answerable (around o b)
around_answerable a b = followed a (λ f. values _)

sized_answerable : (w h : ℕ) → Answerable (sized w h)
unfolding sized
sized_answerable w h = tested (width_ok w) refusal.Width (tested (height_ok h) refusal.Height (values _))

pub total_answerable : (w h : ℕ) → Answerable (total_bytes w h)
total_answerable w h = followed (sized_answerable w h) (λ s. values _)

begin_answerable : (n w h : ℕ) → Answerable (begin n w h)
unfolding begin
begin_answerable n w h = followed (named_answerable n) (λ y. followed (sized_answerable w h) (λ s. values _))

pub open_answerable : (f : Phase) (n w h : ℕ) → Answerable (open_from f n w h)
open_answerable Fresh n w h = begin_answerable n w h
open_answerable (Open o) n w h = refusing refusal.AlreadyOpen
open_answerable Closed n w h = begin_answerable n w h

pub row_answerable : (f : Phase) (lights : List ℕ) (room : ℕ) → Answerable (row_from f lights room)
unfolding row_open
row_answerable Fresh lights room = refusing refusal.NotOpen
row_answerable (Open o) lights room =
    tested (ltb o.rows o.height) refusal.AllRows
    (tested (eqb (length lights) (3 * o.width)) refusal.Lights
    (tested (leb (size o.width) room) refusal.Output (values _)))
row_answerable Closed lights room = refusing refusal.NotOpen

pub close_answerable : (f : Phase) → Answerable (close_from f)
close_answerable Fresh = refusing refusal.NotOpen
close_answerable (Open o) = tested (eqb o.rows o.height) refusal.RowsMissing (values _)
close_answerable Closed = refusing refusal.NotOpen
