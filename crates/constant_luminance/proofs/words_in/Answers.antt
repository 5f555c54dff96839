-- The three codes are those of the definition, and the colour differences of every triple of light are words.
-- Assumes nothing.
use mathlib.Core.Path.{◌≡◌, sym, ◌∙◌}
use Prim.Native.Nat.{ℕ}
use native.Mathlib.Omega.{arith}
use lib.IntN.{ℤ, pos, nat_abs}
use mir.Syntax.{w64}
use mir.Val.{to_z, of_z}
use mir.ValLaws.{to_z-of_z}
use borrow.Author.Rules.{sfits_of}
use Rattle.exact.specs.Signed.{rounded}
use Rattle.systems.specs.Systems.{middle}
use Rattle.systems.proofs.Scales.{scale_range}
use Rattle.curve.specs.Curve.{code}
use Rattle.constant_luminance.specs.declared.ConstantSystem.{ConstantSystem}
use Rattle.constant_luminance.specs.declared.Lights.{Lights}
use Rattle.constant_luminance.specs.ConstantLuminance.{base, blue, red, difference, luma_of}
use Rattle.constant_luminance.proofs.Claims.{Lit}
use Rattle.constant_luminance.proofs.Words.{cb_of_lem, cr_of_lem, words_are}
use Rattle.constant_luminance.proofs.words_in.Goals as goal

module _ (y : ConstantSystem) (l : Lights) {m x : ℕ} (middle_so : m ≡ middle (base y)) (luma_so : x ≡ luma_of (base y) l) (lit : Lit l) {d : ℕ} {v : ℤ} (read : to_z w64 (of_z w64 v) ≡ v) where
  cb_read : v ≡ rounded (difference blue m d x) → d ≡ code (base y) l.b → to_z w64 (of_z w64 v) ≡ pos (cb_of_lem y l lit).value
  cb_read e code_so = read ∙ e ∙ (λ i. rounded (difference blue (middle_so i) (code_so i) (luma_so i))) ∙ (cb_of_lem y l lit).is

  cr_read : v ≡ rounded (difference red m d x) → d ≡ code (base y) l.r → to_z w64 (of_z w64 v) ≡ pos (cr_of_lem y l lit).value
  cr_read e code_so = read ∙ e ∙ (λ i. rounded (difference red (middle_so i) (code_so i) (luma_so i))) ∙ (cr_of_lem y l lit).is

pub overflow_cast-result : goal.overflow_cast-result
overflow_cast-result g c =
    let y = c.args.y in
    let l = c.args.lights in
    let lit : Lit l = record { r = omega arith; g = omega arith; b = omega arith } in
    let based = c.base-base.ensures in
    let cb = c.colour_difference in
    rw (cb_read y l (rw based at c.middle-middle.ensures) (rw based at c.luma_in-luma.ensures) lit (to_z-of_z w64 cb.result (sfits_of cb.type_inv)) cb.ensures (rw based at c.component_in-blue.ensures))
    (tt, record { fits = omega (arith, (cb_of_lem y l lit).high, scale_range (base y)) })

pub overflow_cast-result-2 : goal.overflow_cast-result-2
overflow_cast-result-2 g c =
    let y = c.args.y in
    let l = c.args.lights in
    let lit : Lit l = record { r = omega arith; g = omega arith; b = omega arith } in
    let based = c.base-base.ensures in
    let cr = c.colour_difference-2 in
    rw (cr_read y l (rw based at c.middle-middle.ensures) (rw based at c.luma_in-luma.ensures) lit (to_z-of_z w64 cr.result (sfits_of cr.type_inv)) cr.ensures (rw based at c.component_in-red.ensures))
    (tt, record { fits = omega (arith, (cr_of_lem y l lit).high, scale_range (base y)) })

pub returns : goal.returns
returns g c =
    let y = c.args.y in
    let l = c.args.lights in
    let lit : Lit l = record { r = omega arith; g = omega arith; b = omega arith } in
    let based = c.base-base.ensures in
    let cb = c.colour_difference in
    let cr = c.colour_difference-2 in
    let middle_so = rw based at c.middle-middle.ensures in
    let luma_so = rw based at c.luma_in-luma.ensures in
    let cb_so = cb_read y l middle_so luma_so lit (to_z-of_z w64 cb.result (sfits_of cb.type_inv)) cb.ensures (rw based at c.component_in-blue.ensures) in
    let cr_so = cr_read y l middle_so luma_so lit (to_z-of_z w64 cr.result (sfits_of cr.type_inv)) cr.ensures (rw based at c.component_in-red.ensures) in
    (λ i. record { y = luma_so i; cb = nat_abs (cb_so i); cr = nat_abs (cr_so i) }) ∙ sym (words_are y l lit)
