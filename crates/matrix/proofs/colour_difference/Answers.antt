use mathlib.Core.Path.{◌≡◌, ap, ◌∙◌}
use Prim.Native.Nat.{ℕ, ◌*◌, ◌-◌, ◌^◌, ◌≤◌, ◌<◌}
use native.Mathlib.Omega.{arith}
use lib.IntN.{ℤ, pos, nat_abs, ◌-ℤ◌, ◌*ℤ◌}
use lib.Signed.{shr_z, ◌<ℤ◌}
use Rattle.exact.specs.Signed.{rounded}
use mir.Syntax.{w64}
use mir.Val.{SFits, to_z, of_z}
use mir.ValLaws.{to_z-of_z, to_z_pos}
use borrow.Author.Rules.{sfits_of}
use Rattle.exact.proofs.Difference.{pos_less, sub_pos}
use Rattle.exact.proofs.Machine.{fits_i64, reads_back, shifted_reads_back, positive}
use Rattle.matrix.specs.Inner.{unit, fixed, colour_difference}
use Rattle.matrix.proofs.ColourDifference.{start, total, difference_rounds, taken_small, total_small}
use Rattle.matrix.proofs.colour_difference.Goals as goal

abbrev bottom : ℤ → ℕ
bottom w = 438 * (10000 - nat_abs w)

-- what is read of the steps' bottom
bottom_is : (w : ℤ) → pos 0 <ℤ w → nat_abs w ≤ 3000 →
    to_z w64 (of_z w64 (pos 438 *ℤ to_z w64 (of_z w64 (pos 10000 -ℤ to_z w64 (of_z w64 w))))) ≡ pos (bottom w)
bottom_is w p h =
    let own_is : pos 10000 -ℤ to_z w64 (of_z w64 w) ≡ pos (10000 - nat_abs w) =
    ap (λ (z : ℤ). pos 10000 -ℤ z) (reads_back w (omega (arith, h)) ∙ (positive w p).0) ∙ pos_less 10000 (nat_abs w) ∙ sub_pos 10000 (nat_abs w) (omega (arith, h)) in
    let own_read : to_z w64 (of_z w64 (pos (10000 - nat_abs w))) ≡ pos (10000 - nat_abs w) = reads_back (pos (10000 - nat_abs w)) (omega arith) in
    rw (own_is, own_read) (reads_back (pos (bottom w)) (omega arith))

module _ (a w : ℤ) (m : ℕ) (h : (pos 0 <ℤ w) × (500 ≤ nat_abs w) × (nat_abs w ≤ 3000) × (m ≤ 2048) × (nat_abs a ≤ 2 ^ 26)) where
  above_read : to_z w64 (of_z w64 a) ≡ a
  above_read = reads_back a (omega (arith, h.4))

  m_read : to_z w64 m ≡ pos m
  m_read = to_z_pos w64 m (omega (arith, h.3))

  m_unit_read : to_z w64 (m * unit) ≡ pos (m * unit)
  m_unit_read = to_z_pos w64 (m * unit) (omega (arith, h.3))

  start_read : to_z w64 (start m) ≡ pos (start m)
  start_read = to_z_pos w64 (start m) (omega (arith, h.3))

  -- what the steps take off
  abbrev taken : ℤ
  taken = a *ℤ pos (fixed 224 (bottom w))

  taken_fits : nat_abs taken < 2 ^ 63
  taken_fits = omega (arith, taken_small m (bottom w) h.3 (omega (arith, h.2)) (omega (arith, h.1)) (omega arith) a h.4)

  abbrev sum : ℤ
  sum = total m (bottom w) a

  sum_fits : nat_abs sum < 2 ^ 63
  sum_fits = total_small m (bottom w) h.3 (omega (arith, h.2)) (omega (arith, h.1)) (omega arith) a h.4

  rounds : to_z w64 (of_z w64 (shr_z sum unit)) ≡ rounded (colour_difference a (nat_abs w) m)
  rounds = shifted_reads_back sum unit sum_fits ∙ difference_rounds m (bottom w) h.3 (omega (arith, h.2)) (omega (arith, h.1)) (omega arith) a h.4

  step_read : (r : ℤ) → SFits w64 r → r ≡ pos (fixed 224 (nat_abs (to_z w64 (of_z w64 (pos 438 *ℤ to_z w64 (of_z w64 (pos 10000 -ℤ to_z w64 (of_z w64 w)))))))) →
      to_z w64 (of_z w64 r) ≡ pos (fixed 224 (bottom w))
  step_read r f e = to_z-of_z w64 r f ∙ e ∙ (λ i. pos (fixed 224 (nat_abs (bottom_is w h.0 h.2 i))))

pub overflow_mul-sum-2 : goal.overflow_mul-sum-2
overflow_mul-sum-2 c =
    let a = c.args.above in
    let w = c.args.weight in
    let m = c.args.middle in
    let h = c.requires in
    rw (above_read a w m h, step_read a w m h c.fixed-step.result (sfits_of c.fixed-step.type_inv) c.fixed-step.ensures) (fits_i64 (taken a w m h) (taken_fits a w m h))

pub overflow_sub-sum : goal.overflow_sub-sum
overflow_sub-sum c =
    let a = c.args.above in
    let w = c.args.weight in
    let m = c.args.middle in
    let h = c.requires in
    rw (above_read a w m h, step_read a w m h c.fixed-step.result (sfits_of c.fixed-step.type_inv) c.fixed-step.ensures, m_read a w m h, m_unit_read a w m h, start_read a w m h, reads_back (taken a w m h) (taken_fits a w m h))
    (fits_i64 (sum a w m h) (sum_fits a w m h))

pub returns : goal.returns
returns c =
    let a = c.args.above in
    let w = c.args.weight in
    let m = c.args.middle in
    let h = c.requires in
    rw (above_read a w m h, step_read a w m h c.fixed-step.result (sfits_of c.fixed-step.type_inv) c.fixed-step.ensures, m_read a w m h, m_unit_read a w m h, start_read a w m h, reads_back (taken a w m h) (taken_fits a w m h), reads_back (sum a w m h) (sum_fits a w m h))
    (rounds a w m h)
