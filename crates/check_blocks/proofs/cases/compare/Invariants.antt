use Rattle.std.proofs.Common.{◌-◌, length}
use Rattle.check_records.specs.Records.{none}
use Rattle.check_records.proofs.Behind.{SoFar}
use Rattle.check_blocks.specs.Cases.{size_at, tallied_at}
use Rattle.check_blocks.proofs.cases.compare.Given as goal

abbrev pub invariant-loop-at : goal.invariant-loop-at
invariant-loop-at l = SoFar (size_at l.cases) (tallied_at l.cases l.number) none (length l.cases) l.at l.tally

abbrev pub decreases-loop-at : goal.decreases-loop-at
decreases-loop-at l = length l.cases - l.at
