use Rattle.std.proofs.Common.{◌≡◌, ◌-◌, ◌*◌, arith}
use Rattle.systems.proofs.Scales.{scale_range}
use Rattle.systems.specs.Systems.{scale}
use Rattle.signals.proofs.Quotient.{quotient_rounds_once}
use Rattle.signals.proofs.signal_of.Goals as goal

pub returns : goal.returns
returns c =
    let s = scale c.args.y in
    let steps : 235 * s - 16 * s ≡ 219 * s = omega arith in
    let S = scale_range c.args.y in
    rw (c.nominal-nominal.ensures, steps)
    (quotient_rounds_once (c.args.code - 16 * s) (219 * s) (omega arith) (omega (arith, S)) (omega (arith, S)))
