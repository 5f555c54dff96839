-- The rounding of document 01, 'Four systems', for fractions that may be below 0.
-- Definitions only.
use Rattle.std.specs.Prelude.{ℕ, ◌*◌, ℤ, pos, ◌+ℤ◌, ◌*ℤ◌}
use Rattle.std.specs.Int.Signed.{shr_z}

-- a whole number over one above 0
pub record Ratio : Type 0 where
  pub top : ℤ
  pub bottom : ℕ

-- INT of a ratio x/y: the greatest whole number not above x/y + 1/2 = (2x + y)/(2y), also below 0
unfoldable pub rounded : Ratio → ℤ
rounded r = shr_z (pos 2 *ℤ r.top +ℤ pos r.bottom) (2 * r.bottom)
