use Rattle.std.proofs.Common.{◌≡◌, ap, ◌∙◌, ℕ, ◌^◌, ◌<◌, arith, pos, nat_abs, ℤ, ◌-ℤ◌, ◌*ℤ◌, w32, w64, FitsSigned, to_z, of_z}
use Rattle.std.specs.Int.Signed.{shr_z}
use native.Mathlib.Nat.{lt_of_le_of_lt}
use lib.Signed.{mag_shr, nat_abs-le}
use mir.ValLaws.{to_z-of_z, sfits_le}
use Rattle.exact.specs.Signed.{Ratio}
use Rattle.exact.proofs.Machine.{mag_le, nat_abs_mul_le, fits_i64, reads_back, positive}
use Rattle.levels.specs.Levels.{divided}
use Rattle.levels.proofs.Solution.{solves, rest_is}
use Rattle.levels.proofs.divided.Goals as goal

module _ (c : goal.After-floor-whole) where
  abbrev z : ℤ
  z = c.args.top

  abbrev b : ℤ
  b = c.args.bottom

  abbrev f : ℤ
  f = c.floor-whole.result

  abbrev k : ℕ
  k = nat_abs b

  abbrev q : Ratio
  q = record { top = z; bottom = k }

  abbrev rest : ℕ
  rest = (divided q).remainder

  below : rest < k
  below = (solves q (positive b c.requires.1).1).left

  top_read : to_z w64 (of_z w64 z) ≡ z
  top_read = to_z-of_z w64 z c.ranges.top

  bottom_read : to_z w64 (of_z w64 b) ≡ pos k
  bottom_read = to_z-of_z w64 b c.ranges.bottom ∙ (positive b c.requires.1).0

  whole_fits : FitsSigned w32 (shr_z z k)
  whole_fits = sfits_le {z = z} (mag_shr z k) record { sfits = lt_of_le_of_lt (mag_le z) c.requires.0 }

  whole_read : to_z w64 (of_z w64 f) ≡ shr_z z k
  whole_read = to_z-of_z w64 f record { sfits = c.floor-whole.type_inv } ∙ c.floor-whole.ensures ∙ (λ i. shr_z (top_read i) (nat_abs (bottom_read i)))

  product_small : nat_abs (shr_z z k *ℤ pos k) < 2 ^ 63
  product_small = omega (arith, nat_abs_mul_le (shr_z z k) (pos k) (2 ^ 31) (2 ^ 31) (nat_abs-le (shr_z z k) whole_fits.sfits) (omega (arith, c.requires.2)))

  product_read : to_z w64 (of_z w64 (to_z w64 (of_z w64 f) *ℤ to_z w64 (of_z w64 b))) ≡ shr_z z k *ℤ pos k
  product_read = rw (whole_read, bottom_read) (reads_back (shr_z z k *ℤ pos k) product_small)

  -- what is left, as the code computes it
  abbrev left : ℤ
  left = to_z w64 (of_z w64 z) -ℤ to_z w64 (of_z w64 (to_z w64 (of_z w64 f) *ℤ to_z w64 (of_z w64 b)))

  rest_read : to_z w64 (of_z w64 (pos rest)) ≡ pos rest
  rest_read = reads_back (pos rest) (omega (arith, below, c.requires.2))

pub overflow_mul-result : goal.overflow_mul-result
overflow_mul-result c = rw (whole_read c, bottom_read c) (fits_i64 (shr_z (z c) (k c) *ℤ pos (k c)) (product_small c))

pub overflow_sub-result : goal.overflow_sub-result
overflow_sub-result c =
    let is : left c ≡ pos (rest c) = rw (top_read c, product_read c) (rest_is (q c) (positive (b c) c.requires.1).1) in
    rw is (fits_i64 (pos (rest c)) (omega (arith, below c, c.requires.2)))

pub overflow_cast-result-2 : goal.overflow_cast-result-2
overflow_cast-result-2 c =
    let is : left c ≡ pos (rest c) = rw (top_read c, product_read c) (rest_is (q c) (positive (b c) c.requires.1).1) in
    rw (is, rest_read c) (tt, record { fits = omega (arith, below c, c.requires.2) })

pub returns : goal.returns
unfolding divided
returns c =
    let millivolts = ap (λ (x : ℤ). to_z w32 (of_z w32 x)) (whole_read c) ∙ to_z-of_z w32 (shr_z (z c) (k c)) (whole_fits c) in
    let is : left c ≡ pos (rest c) = rw (top_read c, product_read c) (rest_is (q c) (positive (b c) c.requires.1).1) in
    let remainder = ap nat_abs (ap (λ (x : ℤ). to_z w64 (of_z w64 x)) is ∙ rest_read c) in
    λ i. record { millivolts = millivolts i; remainder = remainder i }
