-- What a card's calls with a meter do, and runs of reads on one meter (request 2026-08).
-- Definitions only.
use Prim.Native.Nat.{ℕ}
use mathlib.Core.List.{List, [], ◌∷◌}
use Rattle.exact.specs.Outcome.{Outcome}
use Rattle.block.proofs.Told.{Row}
use Rattle.meter.specs.declared.Meter.{Meter}
use Rattle.meter.specs.declared.Figures.{Figures}

-- a card, by what its calls do: each stands between what it was given and what came of it
pub record Card : Type 1 where
  -- an empty meter
  pub Empty : Meter → Type 0
  -- a read: a meter, a block's bytes and a lent slice; the answer, the slice as it was left, and the meter that is given back
  pub Read : Meter → List ℕ → List ℕ → Outcome Row → List ℕ → Meter → Type 0
  -- block reading: a block's bytes and a lent slice; the answer, and the slice as it was left
  pub Block : List ℕ → List ℕ → Outcome Row → List ℕ → Type 0
  -- a meter; its figures
  pub Shows : Meter → Figures → Type 0

-- a read that was made: what it was given, what was heard of it, and the slice as it was left
pub record Read : Type 0 where
  pub bytes : List ℕ
  pub slice : List ℕ
  pub heard : Outcome Row
  pub left : List ℕ

-- from the meter m the reads rs were made, each with the meter that the one before it gave back, and the last gave back q
pub data Ran (card : Card) : Meter → List Read → Meter → Type 0 where
  ends : {m : Meter} → Ran card m [] m
  after : {m m' q : Meter} {r : Read} {rs : List Read} → card.Read m r.bytes r.slice r.heard r.left m' → Ran card m' rs q → Ran card m (r ∷ rs) q
