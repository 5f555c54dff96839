-- What a card's calls on a picture reader do, and runs of them on one reader (request 2026-10).
-- Definitions only.
use Prim.Native.Nat.{ℕ}
use mathlib.Core.Bool.{Bool}
use mathlib.Core.List.{List, [], ◌∷◌}
use Rattle.exact.specs.Outcome.{Outcome}
use Rattle.block.proofs.Told.{Row}

-- a card, by what its calls do: each stands between what it was given and what came of it
pub record Card : Type 1 where
  -- a reader as the caller holds it
  pub Reader : Type 0
  -- a new one
  pub New : Reader → Type 0
  -- a reader and a height; the answer, and the reader that the next call is given
  pub Open : Reader → ℕ → Outcome (Unit {0}) → Reader → Type 0
  -- a reader, a block's bytes and a lent slice; the answer, the slice as it was left, and the next reader
  pub Read : Reader → List ℕ → List ℕ → Outcome Row → List ℕ → Reader → Type 0
  -- block reading: a block's bytes and a lent slice; the answer, and the slice as it was left
  pub Block : List ℕ → List ℕ → Outcome Row → List ℕ → Type 0
  -- a reader; whether it is complete
  pub Complete : Reader → Bool → Type 0

-- a call that was made: an opening with a height, and the answer; a block's bytes and a lent slice, the answer, and the slice as it was left
pub data Made : Type 0 where
  opening : ℕ → Outcome (Unit {0}) → Made
  block : List ℕ → List ℕ → Outcome Row → List ℕ → Made

-- from the reader r the calls ms were made, each on the reader that the one before it gave, and the last gave q
pub data Ran (card : Card) : card.Reader → List Made → card.Reader → Type 0 where
  ends : {r : card.Reader} → Ran card r [] r
  after_open : {r r' q : card.Reader} {h : ℕ} {o : Outcome (Unit {0})} {ms : List Made} → card.Open r h o r' → Ran card r' ms q → Ran card r (opening h o ∷ ms) q
  after_block : {r r' q : card.Reader} {bytes slice left : List ℕ} {o : Outcome Row} {ms : List Made}
      → card.Read r bytes slice o left r' → Ran card r' ms q → Ran card r (block bytes slice o left ∷ ms) q
