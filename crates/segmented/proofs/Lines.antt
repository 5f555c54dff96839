-- Total lines rise strictly along the segmented order, and each order of rows undoes the other.
-- Assumes nothing.
use Prim.Native.Nat.{ℕ, ◌+◌, ◌*◌, ◌-◌, ◌/◌, ◌%◌, ◌<◌, ◌≤◌}
use mathlib.Core.Path.{◌≡◌, refl}
use mathlib.Core.Logic.{◌⊎◌, inl, inr}
use native.Mathlib.Omega.{arith}
use borrow.Author.Tests.{lt-ltb, le-ltb, eq-eqb, ne_eqb}
use Rattle.exact.proofs.Order.{below_or_not}
use Rattle.segmented.specs.declared.Order.{Order}
use Rattle.segmented.specs.declared.Order.TheVariants as order
use Rattle.segmented.specs.Segmented.{total_line, row_at, place_of, source}
use Rattle.segmented.proofs.Segments.{line_at, first_segment, second_segment}
use Rattle.segmented.proofs.Claims.{other}

-- the first and the last line of each segment, as the Recommendation has them
pub segments_end : (total_line 1 ≡ 21) × (total_line 1079 ≡ 560) × (total_line 2 ≡ 584) × (total_line 1080 ≡ 1123)
segments_end = (refl, refl, refl, refl)

pub total_lines_rise : (p q : ℕ) → p < q → line_at p < line_at q
total_lines_rise p q h = go (below_or_not p 540) (below_or_not q 540)
  where
    go : (p < 540) ⊎ (540 ≤ p) → (q < 540) ⊎ (540 ≤ q) → line_at p < line_at q
    go (inl a) (inl b) = omega (arith, first_segment p a, first_segment q b)
    go (inl a) (inr b) = omega (arith, first_segment p a, second_segment q b)
    go (inr a) (inl b) = absurd (omega arith)
    go (inr a) (inr b) = omega (arith, second_segment p a, second_segment q b)

pub row_first : (p : ℕ) → p < 540 → row_at p ≡ 2 * p
row_first p h = simp (lt-ltb p 540 h)

pub row_second : (p : ℕ) → 540 ≤ p → row_at p ≡ 2 * (p - 540) + 1
row_second p h = simp (le-ltb p 540 h)

pub place_even : (r : ℕ) → r % 2 ≡ 0 → place_of r ≡ r / 2
place_even r h = simp (eq-eqb (r % 2) 0 h)

pub place_odd : (r : ℕ) → r % 2 ≡ 1 → place_of r ≡ 540 + r / 2
place_odd r h = simp (ne_eqb (r % 2) 0 (λ e. omega arith))

-- a row below 1080 has a place below 1080, at which it stands
place_stands : (r : ℕ) → r < 1080 → (place_of r < 1080) × (row_at (place_of r) ≡ r)
place_stands r h = go (below_or_not (r % 2) 1)
  where
    go : (r % 2 < 1) ⊎ (1 ≤ r % 2) → (place_of r < 1080) × (row_at (place_of r) ≡ r)
    go (inl a) = rw (place_even r (omega arith)) (omega arith, rw (row_first (r / 2) (omega arith)) (omega arith))
    go (inr a) = rw (place_odd r (omega arith)) (omega arith, rw (row_second (540 + r / 2) (omega arith)) (omega arith))

-- and at a place below 1080 stands a row below 1080, whose place it is
row_stands : (p : ℕ) → p < 1080 → (row_at p < 1080) × (place_of (row_at p) ≡ p)
row_stands p h = go (below_or_not p 540)
  where
    go : (p < 540) ⊎ (540 ≤ p) → (row_at p < 1080) × (place_of (row_at p) ≡ p)
    go (inl a) = rw (row_first p a) (omega arith, rw (place_even (2 * p) (omega arith)) (omega arith))
    go (inr a) = rw (row_second p a) (omega arith, rw (place_odd (2 * (p - 540) + 1) (omega arith)) (omega arith))

pub source_below : (o : Order) (k : ℕ) → k < 1080 → source o k < 1080
source_below order.Segmented k h = (row_stands k h).0
source_below order.Progressive k h = (place_stands k h).0

-- each order undoes the other
pub there_and_back : (o : Order) (k : ℕ) → k < 1080 → source (other o) (source o k) ≡ k
there_and_back order.Segmented k h = (row_stands k h).1
there_and_back order.Progressive k h = (place_stands k h).1

pub back_and_there : (o : Order) (k : ℕ) → k < 1080 → source o (source (other o) k) ≡ k
back_and_there order.Segmented k h = (place_stands k h).1
back_and_there order.Progressive k h = (row_stands k h).1
