-- `Bits12::boundaries`: the 12-bit table passes its test, which antt computes.
use Rattle.std.proofs.Common.{refl}
use Rattle.systems.specs.declared.System.TheVariants.{Bt2020Bits12}
use Rattle.curve.specs.Curve.{dark, reaches}
use Rattle.curve.proofs.Curve.{on_line_at, at_least}
use Rattle.curve.proofs.Tests.{boundaries, boundary}
use Rattle.luminance.proofs.Luminances.{rule}
use Rattle.luminance_12.proofs.Bits12Thresholds.boundaries.Goals as goal

pub returns : goal.returns
unfolding boundary at_least dark on_line_at reaches
returns c = boundaries (rule Bt2020Bits12) _ refl tt
