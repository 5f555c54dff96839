-- The total lines of the two segments.
-- Assumes nothing.
use Prim.Native.Nat.{ℕ, ◌+◌, ◌*◌, ◌-◌, ◌%◌, ◌<◌, ◌≤◌}
use mathlib.Core.Path.{◌≡◌}
use native.Mathlib.Omega.{arith}
use borrow.Author.Tests.{lt-ltb, le-ltb, eq-eqb, ne_eqb}
use Rattle.segmented.specs.Segmented.{total_line, row_at}

-- the total line at a place
abbrev pub line_at : ℕ → ℕ
line_at p = total_line (row_at p + 1)

pub first_segment : (p : ℕ) → p < 540 → line_at p ≡ 21 + p
first_segment p h = simp (lt-ltb p 540 h, eq-eqb ((2 * p + 1) % 2) 1 (omega arith)) (omega arith)

pub second_segment : (p : ℕ) → 540 ≤ p → line_at p ≡ 584 + (p - 540)
second_segment p h = simp (le-ltb p 540 h, ne_eqb ((2 * (p - 540) + 1 + 1) % 2) 1 (λ e. omega arith)) (omega arith)
