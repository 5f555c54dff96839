-- What a reading tells of a block, as numbers, and block reading by its own contract (its generated `Post`).
-- Assumes nothing.
use Prim.Native.Nat.{ℕ}
use mathlib.Core.Path.{◌≡◌, ap}
use mathlib.Core.List.{List}
use lib.ListN.{length}
use contract.Lifetimes.{Lfts}
use denote.Ref.{Bor}
use denote.MutBor.{MutBor}
use Rattle.exact.specs.Outcome.{Outcome, accepted, refused}
use Rattle.systems.specs.Systems.{number}
use Rattle.block.specs.declared.Header.{Header}
use Rattle.block.specs.Read.{header_of, slice_after}
use Rattle.block.proofs.read_block.Reads as read-call
use Rattle.std.specs.Prelude.{Result}
use Rattle.systems.specs.declared.refusal.Refusal.{Refusal}
use Rattle.systems.specs.Refusals.{outcome}

-- what an accepted reading tells
pub record Row : Type 0 where
  pub system : ℕ
  pub row : ℕ
  pub samples : ℕ
  pub low : ℕ
  pub high : ℕ

abbrev pub told : Outcome Header → Outcome Row
told (accepted h) = accepted (record { system = number h.system; row = h.row; samples = h.samples; low = h.clips.low; high = h.clips.high })
told (refused n) = refused n

-- a block's bytes and a lent slice; what is told, and the slice as it is left. κs are the lifetimes of the two references, whatever they are
pub data Blocks : List ℕ → List ℕ → Outcome Row → List ℕ → Type 0 where
  by_read_block : (κs : Lfts 2) (bytes : Bor (List ℕ)) (slice : MutBor (List ℕ)) (bytes' : Bor (List ℕ)) (slice' : MutBor (List ℕ)) (r : Result Header Refusal) → read-call.Post κs (bytes, (slice, tt)) r (bytes', (slice', tt))
      → Blocks bytes.now slice.now (told (outcome r)) slice'.now

pub blocks_so : {bytes slice left : List ℕ} {o : Outcome Row} → Blocks bytes slice o left → (o ≡ told (header_of bytes (length slice))) × (left ≡ slice_after bytes slice)
blocks_so (by_read_block _ _ _ _ _ r post) = (ap told post.0, post.1)
