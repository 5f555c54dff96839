-- What request 2026-08 says of every list of reads. What was read is told by what was heard alone, and by nothing inside a meter.
-- Definitions only.
use Prim.Native.Nat.{ℕ, ◌-◌}
use mathlib.Core.Path.{◌≡◌}
use mathlib.Core.List.{List, [], ◌∷◌, ◌++◌, map}
use lib.ListN.{length, take, drop}
use Rattle.std.specs.Prelude.{sum}
use Rattle.exact.specs.Outcome.{Outcome, accepted, refused}
use Rattle.block.proofs.Told.{Row}
use Rattle.meter.specs.declared.Meter.{Meter}
use Rattle.meter.specs.declared.Figures.{Figures}
use Rattle.meter.specs.Meter.{kept}
use Rattle.meter.proofs.Calls.{Card, Read, Ran}

-- a count of each accepted read, in order; a refused one enters nothing
abbrev pub entry : (Row → ℕ) → Outcome Row → List ℕ
entry count (accepted w) = count w ∷ []
entry count (refused n) = []

unfoldable pub entries : (Row → ℕ) → List Read → List ℕ
entries count [] = []
entries count (r ∷ rs) = entry count r.heard ++ entries count rs

abbrev pub lows : List Read → List ℕ
lows rs = entries (λ w. w.low) rs

abbrev pub highs : List Read → List ℕ
highs rs = entries (λ w. w.high) rs

-- the 64 latest of a history, or all of it where there are fewer
abbrev pub latest : List ℕ → List ℕ
latest h = drop (length h - 64) h

-- the figures over a history of low and of high counts
abbrev pub over : List ℕ → List ℕ → Figures
over ls hs = record { rows = length (latest ls); low = sum (latest ls); high = sum (latest hs) }

-- where a list may begin with any meter: its arrays are of 64 counts, and these are the counts of the rows that it holds, the oldest first
pub record Arrays (m : Meter) : Type 0 where
  pub lows : length m.lows ≡ 64
  pub highs : length m.highs ≡ 64

abbrev pub held : List ℕ → ℕ → ℕ → List ℕ
held counts place rows = drop place (take rows counts) ++ take place counts

abbrev pub held_lows : Meter → List ℕ
held_lows m = held (kept m).lows (kept m).place (kept m).rows

abbrev pub held_highs : Meter → List ℕ
held_highs m = held (kept m).highs (kept m).place (kept m).rows

-- what a read is given beside the meter
pub record Given : Type 0 where
  pub bytes : List ℕ
  pub slice : List ℕ

abbrev pub given : List Read → List Given
given rs = map (λ (r : Read). record { bytes = r.bytes; slice = r.slice }) rs

-- reads from an empty meter that were given these, and the figures after them
pub record Happens (card : Card) (gs : List Given) : Type 0 where
  pub start : Meter
  pub made : card.Empty start
  pub rs : List Read
  pub last : Meter
  pub ran : Ran card start rs last
  pub same : given rs ≡ gs
  pub figures : Figures
  pub shown : card.Shows last figures

pub record Claimed (card : Card) : Type 0 where
  -- for every list of reads from an empty meter the figures are the sums over that stretch of history
  pub sums : {m q : Meter} {rs : List Read} {f : Figures} → card.Empty m → Ran card m rs q → card.Shows q f → f ≡ over (lows rs) (highs rs)
  -- and from any meter, whatever it is, over the rows that it holds and these
  pub from_any : {m q : Meter} {rs : List Read} {f : Figures} → Arrays m → Ran card m rs q → card.Shows q f → f ≡ over (held_lows m ++ lows rs) (held_highs m ++ highs rs)
  -- a read gives what block reading gives
  pub reads : {m m' : Meter} {bytes slice left left' : List ℕ} {o o' : Outcome Row} → card.Read m bytes slice o left m' → card.Block bytes slice o' left' → (o ≡ o') × (left ≡ left')
  -- a refused one changes neither meter nor slice
  pub refuses : {m m' : Meter} {bytes slice left : List ℕ} {n : ℕ} → card.Read m bytes slice (refused n) left m' → (m' ≡ m) × (left ≡ slice)
  -- every list of blocks and slices is read so
  pub happens : (gs : List Given) → Happens card gs
