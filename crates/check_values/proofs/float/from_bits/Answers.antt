use Rattle.std.proofs.Common.{◌≡◌, Bool, true, not, T, sym, refl, ◌∙◌, subst, le-ltb, lt-ltb}
use mathlib.Core.Bool.{false≢true}
use lib.Ieee.{Float, nan, inf, fin, is_nan, binary32}
use lib.Ieee.Bits.{nan_bits_is, nan_bits_above}
use Rattle.check_values.proofs.float.from_bits.Goals as goal

is_nan_lem : (x : Float) → is_nan x ≡ true → nan ≡ x
unfolding is_nan
is_nan_lem nan e = refl
is_nan_lem (inf s) e = absurd (false≢true e)
is_nan_lem (fin s m k) e = absurd (false≢true e)

pub float_from_bits-result : goal.float_from_bits-result
float_from_bits-result c =
    subst (λ (b : Bool). T (not b)) (sym (nan_bits_above binary32 c.args.bits ∙ le-ltb _ _ c.if-unsigned-le2139095040.true)) tt

pub returns-else-unsigned-le2139095040 : goal.returns-else-unsigned-le2139095040
returns-else-unsigned-le2139095040 c =
    let above = nan_bits_above binary32 c.args.bits ∙ lt-ltb _ _ c.if-unsigned-le2139095040.false in
    c.not_a_number.ensures ∙ is_nan_lem _ (sym (nan_bits_is binary32 c.args.bits) ∙ above)
