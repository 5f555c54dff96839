-- Whole numbers: the rounding of document 01, 'Four systems', and the first and the last number that passes a test.
-- Definitions only.
use Rattle.std.specs.Prelude.{ℕ, zero, suc, ◌+◌, ◌*◌, ◌/◌, Bool, true, false}

-- INT of the fraction x/y, y above 0: the greatest whole number not above x/y + 1/2, so that halves go up
unfoldable pub INT : ℕ → ℕ → ℕ
INT x y = (2 * x + y) / (2 * y)

-- the greatest number from 1 to n that passes the test, or 0 where none does
unfoldable pub greatest : (ℕ → Bool) → ℕ → ℕ
greatest p zero = zero
greatest p (suc n) = elim (p (suc n)) [ true ↦ suc n | false ↦ greatest p n ]

-- the least number from 0 to n that passes the test, or n where none below n does
unfoldable pub least : (ℕ → Bool) → ℕ → ℕ
least p zero = zero
least p (suc n) = elim (p (least p n)) [ true ↦ least p n | false ↦ suc n ]
