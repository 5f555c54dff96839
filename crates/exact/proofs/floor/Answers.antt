use mathlib.Core.Path.{◌≡◌, ap, ◌∙◌}
use Prim.Native.Nat.{◌^◌, ◌<◌}
use native.Mathlib.Omega.{arith}
use lib.IntN.{ℤ, pos, nat_abs, ◌-ℤ◌}
use lib.Signed.{lt_z, quot_z, rem_z, mag_rem, ◌<ℤ◌}
use mir.Syntax.{w64}
use mir.Val.{SFits, to_z, of_z}
use mir.ValLaws.{to_z-of_z, sfits_le}
use Rattle.exact.proofs.Boolean.{bit_small}
use Rattle.exact.proofs.Machine.{nat_abs_less, reads_back, positive}
use Rattle.std.specs.Int.{from_bool}
use Rattle.exact.proofs.TowardZero.{floored, quotient_size}
use Rattle.exact.proofs.floor.Goals as goal

-- what the division and the rest are read back as
bottom_read : (b : ℤ) → pos 0 <ℤ b → nat_abs b < 2 ^ 62 → to_z w64 (of_z w64 b) ≡ pos (nat_abs b)
bottom_read b p h = reads_back b (omega (arith, h)) ∙ (positive b p).0

small : (z b : ℤ) → nat_abs z < 2 ^ 62 → nat_abs (quot_z z (pos (nat_abs b))) < 2 ^ 62
small z b h = omega (arith, quotient_size z (nat_abs b), h)

quotient_read : (z b : ℤ) → nat_abs z < 2 ^ 62 → pos 0 <ℤ b → nat_abs b < 2 ^ 62 →
    to_z w64 (of_z w64 (quot_z (to_z w64 (of_z w64 z)) (to_z w64 (of_z w64 b)))) ≡ quot_z z (pos (nat_abs b))
quotient_read z b h p k =
    rw (reads_back z (omega (arith, h)), bottom_read b p k) (reads_back (quot_z z (pos (nat_abs b))) (omega (arith, small z b h)))

rest_read : (z b : ℤ) → nat_abs z < 2 ^ 62 → SFits w64 z → pos 0 <ℤ b → nat_abs b < 2 ^ 62 →
    to_z w64 (of_z w64 (rem_z (to_z w64 (of_z w64 z)) (to_z w64 (of_z w64 b)))) ≡ rem_z z (pos (nat_abs b))
rest_read z b h f p k =
    rw (reads_back z (omega (arith, h)), bottom_read b p k) (to_z-of_z w64 (rem_z z (pos (nat_abs b))) (sfits_le (mag_rem z (pos (nat_abs b))) f))

pub returns : goal.returns
returns c =
    let z = c.args.top in
    let b = c.args.bottom in
    let k = nat_abs b in
    let below = lt_z (rem_z z (pos k)) (pos 0) in
    let rest = rest_read z b c.requires.0 c.ranges.top c.requires.1 c.requires.2 in
    let flag : c.from.result ≡ pos (from_bool below) = c.from.ensures ∙ ap (λ (r : ℤ). pos (from_bool (lt_z r (pos 0)))) rest in
    let flag_read : to_z w64 (of_z w64 c.from.result) ≡ pos (from_bool below) = ap (λ (r : ℤ). to_z w64 (of_z w64 r)) flag ∙ reads_back (pos (from_bool below)) (omega (arith, bit_small below)) in
    let less = quot_z z (pos k) -ℤ pos (from_bool below) in
    rw (quotient_read z b c.requires.0 c.requires.1 c.requires.2, flag_read)
    (reads_back less (omega (arith, nat_abs_less (quot_z z (pos k)) (pos (from_bool below)), small z b c.requires.0, bit_small below))
    ∙ floored z k (positive b c.requires.1).1)
