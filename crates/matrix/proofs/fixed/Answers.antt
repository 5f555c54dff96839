use mathlib.Core.Path.{◌≡◌, ap, ◌∙◌}
use Prim.Native.Nat.{◌+◌, ◌*◌, ◌/◌, ◌%◌, ◌≤◌, ◌<◌}
use native.Mathlib.Nat.{div-le_of_le-mul, div-lt_iff_lt-mul, mod-lt}
use native.Mathlib.Omega.{arith}
use lib.IntN.{pos, nat_abs}
use mir.Syntax.{w64}
use mir.Val.{to_z, of_z}
use mir.ValLaws.{to_z_pos}
use Rattle.exact.proofs.Machine.{reads_back, positive}
use Rattle.matrix.proofs.FixedPoint.{high, low, in_two_steps}
use Rattle.matrix.proofs.fixed.Goals as goal

pub returns : goal.returns
returns c =
    let t = nat_abs c.args.top in
    let b = nat_abs c.args.bottom in
    let top_read : to_z w64 (of_z w64 c.args.top) ≡ pos t = reads_back c.args.top (omega (arith, c.requires.2, c.requires.3)) ∙ (positive c.args.top c.requires.0).0 in
    let bottom_read : to_z w64 (of_z w64 c.args.bottom) ≡ pos b = reads_back c.args.bottom (omega (arith, c.requires.2)) ∙ (positive c.args.bottom c.requires.1).0 in
    let above : 0 < b = (positive c.args.bottom c.requires.1).1 in
    let first : t * high / b ≤ 2 * high = div-le_of_le-mul b (omega (arith, c.requires.3)) in
    let rest : t * high % b < b = mod-lt (t * high) above in
    let second : t * high % b * low / b < low = (div-lt_iff_lt-mul above).1 (omega (arith, rest)) in
    let e = to_z_pos w64 (t * high / b * low + t * high % b * low / b) (omega (arith, first, second)) in
    rw (top_read, bottom_read) (e ∙ ap pos (in_two_steps t b above))
