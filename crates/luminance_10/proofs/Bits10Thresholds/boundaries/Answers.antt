-- `Bits10::boundaries`: the 10-bit table passes its test, which antt computes.
use Rattle.std.proofs.Common.{refl}
use Rattle.systems.specs.declared.System.TheVariants.{Bt2020Bits10}
use Rattle.curve.specs.Curve.{dark, reaches}
use Rattle.curve.proofs.Curve.{on_line_at, at_least}
use Rattle.curve.proofs.Tests.{boundaries, boundary}
use Rattle.luminance.proofs.Luminances.{rule}
use Rattle.luminance_10.proofs.Bits10Thresholds.boundaries.Goals as goal

pub returns : goal.returns
unfolding boundary at_least dark on_line_at reaches
returns c = boundaries (rule Bt2020Bits10) _ refl tt
