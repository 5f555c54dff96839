use Rattle.std.proofs.Common.{◌≡◌, ℕ, ◌-◌, ◌+◌, ◌*◌, ◌/◌, ◌<◌, ◌≤◌, T, not, pos, ap, ◌∙◌, arith, rules, w64}
use Rattle.std.specs.Float.{float_to_unsigned}
use lib.Ieee.{Float, binary32, binary64, fits, is_nan, mul, of_int}
use lib.Ieee.Fits.{and_i, fits_widens}
use lib.Ieee.Positive.{num, den, den_pos}
use Rattle.systems.specs.declared.Range.{Range}
use Rattle.systems.specs.declared.System.{System}
use Rattle.systems.specs.Systems.{scale, nominal}
use Rattle.systems.proofs.Scales.{scale_range}
use Rattle.signals.specs.Signals.{in_unit, component}
use Rattle.signals.proofs.Unit.{unit_is_a_number}
use Rattle.signals.proofs.Exact.{Cut, product_cut, product_at_most}
use Rattle.signals.proofs.Halves.{code_from_halves}
use Rattle.signals.proofs.code_of.Goals as goal

-- twice the steps of a range
abbrev doubled : Range → ℕ
doubled r = 2 * (r.high - r.low)

module _ (y : System) (r : Range) (n : r ≡ nominal y) (e : Float) (u : T (in_unit e)) (f : T (fits binary32 e)) where
  steps : doubled r ≡ 438 * scale y
  steps = rw n (omega arith)

  -- the product, as it is handed to the truncation
  product : Cut (mul binary64 e (of_int binary64 (pos (doubled r)))) (num e * doubled r / den e)
  product = product_cut (doubled r) (omega (arith, steps, scale_range y)) e f u

  -- what the truncation leaves of it
  module _ (h : ℕ) (is : h ≡ float_to_unsigned w64 (mul binary64 e (of_int binary64 (pos (doubled r))))) where
    whole : h ≡ num e * (438 * scale y) / den e
    whole = is ∙ product.whole ∙ ap (λ (k : ℕ). num e * k / den e) steps

    most : h ≤ 7008
    most = omega (arith, whole, product_at_most (438 * scale y) e u, scale_range y)

    fits_above : r.low + (h + 1) / 2 < 65536
    fits_above = rw n (omega (arith, most, scale_range y))

    code : r.low + (h + 1) / 2 ≡ component (scale y) e
    code = rw n (omega (arith, whole, code_from_halves (scale y) (num e) (den e) (den_pos e)))

pub float_to_float-wide : goal.float_to_float-wide
float_to_float-wide c =
    and_i (fits binary64 c.args.e) (not (is_nan c.args.e)) (fits_widens c.args.e c.type_inv.e) (unit_is_a_number c.args.e c.requires)

pub truncating_f64_to_u64-halves-requires-clause-lower_bound : goal.truncating_f64_to_u64-halves-requires-clause-lower_bound
truncating_f64_to_u64-halves-requires-clause-lower_bound c =
    (product c.args.y c.nominal-nominal.result c.nominal-nominal.ensures c.args.e c.requires c.type_inv.e).above

pub truncating_f64_to_u64-halves-requires-clause-upper_bound : goal.truncating_f64_to_u64-halves-requires-clause-upper_bound
truncating_f64_to_u64-halves-requires-clause-upper_bound c =
    (product c.args.y c.nominal-nominal.result c.nominal-nominal.ensures c.args.e c.requires c.type_inv.e).under

pub overflow_add-steps : goal.overflow_add-steps
overflow_add-steps c =
    let h = c.truncating_f64_to_u64-halves.result in
    omega (arith, most c.args.y c.nominal-nominal.result c.nominal-nominal.ensures c.args.e c.requires c.type_inv.e h c.truncating_f64_to_u64-halves.ensures)

pub overflow_cast-result : goal.overflow_cast-result
overflow_cast-result c =
    let h = c.truncating_f64_to_u64-halves.result in
    omega (arith, most c.args.y c.nominal-nominal.result c.nominal-nominal.ensures c.args.e c.requires c.type_inv.e h c.truncating_f64_to_u64-halves.ensures)

pub overflow_add-result : goal.overflow_add-result
overflow_add-result c =
    let h = c.truncating_f64_to_u64-halves.result in
    let f : T (fits binary32 c.args.e) = search rules in
    omega (arith, fits_above c.args.y c.nominal-nominal.result c.nominal-nominal.ensures c.args.e c.requires f h c.truncating_f64_to_u64-halves.ensures)

pub returns : goal.returns
returns c =
    let h = c.truncating_f64_to_u64-halves.result in
    let f : T (fits binary32 c.args.e) = search rules in
    code c.args.y c.nominal-nominal.result c.nominal-nominal.ensures c.args.e c.requires f h c.truncating_f64_to_u64-halves.ensures
