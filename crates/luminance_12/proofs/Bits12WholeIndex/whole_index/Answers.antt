-- `Bits12::whole_index`: the 12-bit index of lights passes its test at the scale of luminance, which antt computes.
use lib.Dec.{lit<, lit≤}
use Rattle.systems.specs.declared.System.TheVariants.{Bt2020Bits12}
use Rattle.curve.specs.Curve.{dark, reaches}
use Rattle.curve.proofs.Curve.{on_line_at, at_least}
use Rattle.curve.proofs.Tests.{index, bucket}
use Rattle.luminance.proofs.Luminances.{rule}
use Rattle.luminance_12.proofs.Bits12WholeIndex.whole_index.Goals as goal

pub returns-clause-index : goal.returns-clause-index
unfolding bucket at_least dark on_line_at reaches
returns-clause-index c = index (rule Bt2020Bits12) 80000 _ (lit< tt) (lit≤ tt) (lit< tt) tt
