-- `light::span_in`: the span that the table gives is the code's.
use Rattle.std.proofs.Common.{◌≡◌, ◌+◌, ◌*◌, ◌-◌, ◌≤◌, sym, ap, ◌∙◌, arith}
use Rattle.systems.specs.Systems.{scale}
use Rattle.systems.specs.declared.Range.{Range}
use Rattle.curve.specs.Curve.{least_light, greatest_light}
use Rattle.curve.specs.Inner.{quantiser_of, Boundaries}
use Rattle.light.proofs.Spans.{boundary_above_zero, least_by_table, greatest_by_table}
use Rattle.light.proofs.span_in.Goals as goal

pub greatest_at-requires : goal.greatest_at-requires
greatest_at-requires g c = boundary_above_zero c.args.y c.boundaries-boundaries.result.now (c.boundaries-boundaries.ensures c.args.y c.requires.0) _

pub returns : goal.returns
returns g c =
    let y = c.args.y in
    let t = c.boundaries-boundaries.result.now in
    let bounds : Boundaries (quantiser_of y) t = c.boundaries-boundaries.ensures y c.requires.0 in
    let low = c.nominal.result.low in
    let black : low ≡ 16 * scale y = ap (λ (r : Range). r.low) c.nominal.ensures in
    let n = c.args.d - low in
    let e : 16 * scale y + n ≡ c.args.d = omega (arith, black, c.requires.1) in
    let room : n ≤ 219 * scale y = omega (arith, black, c.requires.2) in
    let lo : c.least_at.result ≡ least_light y c.args.d = c.least_at.ensures ∙ sym (least_by_table y t bounds n room) ∙ ap (least_light y) e in
    let hi : c.greatest_at.result ≡ greatest_light y c.args.d = omega (arith, c.greatest_at.ensures, greatest_by_table y t bounds n room, ap (greatest_light y) e) in
    cc (lo, hi)
