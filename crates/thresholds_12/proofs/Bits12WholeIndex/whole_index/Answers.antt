-- `Bits12::whole_index`: the 12-bit index passes its test, which antt computes.
use lib.Dec.{lit<, lit≤}
use Rattle.curve.specs.Curve.{dark, reaches}
use Rattle.curve.proofs.Curve.{on_line_at, at_least}
use Rattle.curve.proofs.Lights.{rule, system_at, index_at}
use Rattle.curve.proofs.Tests.{index, bucket}
use Rattle.thresholds_12.proofs.Bits12WholeIndex.whole_index.Goals as goal

pub returns-clause-index : goal.returns-clause-index
unfolding bucket at_least dark on_line_at reaches
returns-clause-index c = index_at 12 3 (index (rule (system_at 12)) 8 _ (lit< tt) (lit≤ tt) (lit< tt) tt)
