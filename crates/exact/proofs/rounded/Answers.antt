use mathlib.Core.Path.{◌≡◌, ◌∙◌}
use Prim.Native.Nat.{◌*◌, ◌^◌, ◌≤◌}
use native.Mathlib.Nat.{le_refl}
use native.Mathlib.Omega.{arith}
use lib.IntN.{pos, nat_abs, ◌+ℤ◌, ◌*ℤ◌}
use mir.Syntax.{w64}
use mir.Val.{to_z, of_z}
use mir.ValLaws.{to_z-of_z}
use borrow.Author.Rules.{sfits_of}
use Rattle.exact.specs.Signed.{rounded}
use Rattle.exact.proofs.Machine.{nat_abs_add, nat_abs_mul_le, reads_back, positive}
use Rattle.exact.proofs.rounded.Goals as goal

pub returns : goal.returns
unfolding rounded
returns c =
    let z = c.args.top in
    let k = nat_abs c.args.bottom in
    let top_read : to_z w64 (of_z w64 z) ≡ z = reads_back z (omega (arith, c.requires.0)) in
    let bottom_read : to_z w64 (of_z w64 c.args.bottom) ≡ pos k = reads_back c.args.bottom (omega (arith, c.requires.2)) ∙ (positive c.args.bottom c.requires.1).0 in
    let twice_small : nat_abs (pos 2 *ℤ z) ≤ 2 * 2 ^ 60 = nat_abs_mul_le (pos 2) z 2 (2 ^ 60) (le_refl 2) (omega (arith, c.requires.0)) in
    let twice_read : to_z w64 (of_z w64 (pos 2 *ℤ z)) ≡ pos 2 *ℤ z = reads_back (pos 2 *ℤ z) (omega (arith, twice_small)) in
    let sum_read : to_z w64 (of_z w64 (pos 2 *ℤ z +ℤ pos k)) ≡ pos 2 *ℤ z +ℤ pos k =
    reads_back (pos 2 *ℤ z +ℤ pos k) (omega (arith, nat_abs_add (pos 2 *ℤ z) (pos k), twice_small, c.requires.2)) in
    let divisor_read : to_z w64 (of_z w64 (pos (2 * k))) ≡ pos (2 * k) = reads_back (pos (2 * k)) (omega (arith, c.requires.2)) in
    to_z-of_z w64 c.floor.result (sfits_of c.floor.type_inv) ∙ rw (top_read, bottom_read, twice_read, sum_read, divisor_read) at c.floor.ensures
