-- A colour difference in fixed point is INT of the exact fraction; and an i64 holds it.
-- Assumes nothing.
use mathlib.Core.Path.{◌≡◌, sym, ap, ◌∙◌, subst}
use Prim.Native.Nat.{ℕ, suc, ◌+◌, ◌*◌, ◌/◌, ◌%◌, ◌^◌, ◌≤◌, ◌<◌}
use native.Mathlib.Nat.{div-mul-le_self, mul-le-mul_left, mul_comm}
use native.Mathlib.Omega.{arith}
use lib.IntN.{ℤ, pos, negsuc, nat_abs, sub_ℕ, ◌+ℤ◌, ◌-ℤ◌, ◌*ℤ◌}
use lib.Signed.{shr_z}
use Rattle.exact.specs.Signed.{rounded}
use Rattle.exact.proofs.Difference.{pos_sub, neg_sub, sub_add, sub_minus, sub_mul, sub_eq}
use Rattle.exact.proofs.Machine.{nat_abs_less, nat_abs_mul_le}
use Rattle.exact.proofs.Nearest.{rounds}
use Rattle.matrix.specs.Inner.{unit, fixed}
use Rattle.matrix.proofs.FixedPoint.{rounds_as_exact}

-- what the steps can be short in all
abbrev pub error_bound : ℕ
error_bound = 2 ^ 26

-- m and a half, and the error bound
abbrev pub start : ℕ → ℕ
start m = m * unit + (unit / 2 + error_bound)

-- m - 224·z/b in fixed point
abbrev pub total : ℕ → ℕ → ℤ → ℤ
total m b z = pos (start m) -ℤ z *ℤ pos (fixed 224 b)

module _ (m b : ℕ) (M : m ≤ 2048) (B : 438 * 7000 ≤ b) (B' : b < 2 ^ 22) (E : b % 2 ≡ 0) where
  abbrev step : ℕ
  step = fixed 224 b

  -- z = a - c
  rounds_difference : (a c : ℕ) → a ≤ c + error_bound → c ≤ a + error_bound → shr_z (total m b (sub_ℕ a c)) unit ≡ rounded record { top = pos (m * b) -ℤ sub_ℕ a c *ℤ pos 224; bottom = b }
  rounds_difference a c A C =
      let p = m * b + c * 224 in
      let q = 0 + a * 224 in
      let top_is : pos (m * b) -ℤ sub_ℕ a c *ℤ pos 224 ≡ sub_ℕ p q = (λ i. pos_sub (m * b) i -ℤ sub_mul a c 224 i) ∙ sub_minus (m * b) 0 (a * 224) (c * 224) in
      let plus = unit * m + c * step + 0 * fixed 0 b in
      let minus = a * step + 0 * fixed 0 b in
      let lead = unit / 2 + (error_bound + 0) in
      let sum : total m b (sub_ℕ a c) ≡ sub_ℕ plus minus +ℤ pos lead =
      (λ i. pos_sub (start m) i -ℤ sub_mul a c step i) ∙ sub_minus (start m) 0 (a * step) (c * step)
      ∙ sub_eq (start m + c * step) (0 + a * step) (plus + lead) (minus + 0) (omega arith)
      ∙ sym ((λ i. sub_ℕ plus minus +ℤ pos_sub lead i) ∙ sub_add plus minus lead 0) in
      ap (λ (z : ℤ). shr_z z unit) sum
      ∙ rounds_as_exact b error_bound 0 (omega arith) E (omega arith) m c a 224 0 0 0 C A (omega arith) (omega arith) p q _ (rounds p q b (omega arith)) (omega (arith, mul_comm m b)) (omega arith)
      ∙ sym (ap (λ (x : ℤ). rounded record { top = x; bottom = b }) top_is)

  pub difference_rounds : (z : ℤ) → nat_abs z ≤ error_bound → shr_z (total m b z) unit ≡ rounded record { top = pos (m * b) -ℤ z *ℤ pos 224; bottom = b }
  difference_rounds (pos k) h = subst (λ (z : ℤ). shr_z (total m b z) unit ≡ rounded record { top = pos (m * b) -ℤ z *ℤ pos 224; bottom = b }) (sym (pos_sub k)) (rounds_difference k 0 (omega arith) (omega arith))
  difference_rounds (negsuc k) h = subst (λ (z : ℤ). shr_z (total m b z) unit ≡ rounded record { top = pos (m * b) -ℤ z *ℤ pos 224; bottom = b }) (sym (neg_sub (suc k))) (rounds_difference 0 (suc k) (omega arith) (omega arith))

  -- ---- size
  step_small : step * 13687 ≤ unit
  step_small =
      let e : step * b ≤ 224 * unit = div-mul-le_self (224 * unit) b in
      let f : step * (438 * 7000) ≤ step * b = mul-le-mul_left step B in
      omega arith

  pub taken_small : (z : ℤ) → nat_abs z ≤ error_bound → nat_abs (z *ℤ pos step) < 2 ^ 62
  taken_small z h = omega (arith, nat_abs_mul_le z (pos step) error_bound step h (omega arith), step_small)

  pub total_small : (z : ℤ) → nat_abs z ≤ error_bound → nat_abs (total m b z) < 2 ^ 63
  total_small z h = omega (arith, nat_abs_less (pos (start m)) (z *ℤ pos step), taken_small z h)
