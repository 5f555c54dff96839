-- `Bits12::boundaries`: the 12-bit table passes its test, which antt computes.
use Rattle.std.proofs.Common.{refl}
use Rattle.curve.specs.Curve.{dark, reaches}
use Rattle.curve.proofs.Curve.{on_line_at, at_least}
use Rattle.curve.proofs.Lights.{rule, system_at, boundaries_at}
use Rattle.curve.proofs.Tests.{boundaries, boundary}
use Rattle.thresholds_12.proofs.Bits12Thresholds.boundaries.Goals as goal

pub returns : goal.returns
unfolding boundary at_least dark on_line_at reaches
returns c = boundaries_at 12 (boundaries (rule (system_at 12)) _ refl tt)
