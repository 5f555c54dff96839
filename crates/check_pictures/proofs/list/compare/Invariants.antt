use Rattle.std.proofs.Common.{◌-◌, length}
use Rattle.check_records.proofs.Behind.{SoFar}
use Rattle.check_pictures.specs.Calls.{size_at, play_after, begun}
use Rattle.check_pictures.proofs.list.compare.Given as goal

abbrev pub invariant-loop-at : goal.invariant-loop-at
invariant-loop-at l = SoFar (size_at l.calls) (play_after l.calls l.lights l.counted) begun (length l.calls) l.at l.play

abbrev pub decreases-loop-at : goal.decreases-loop-at
decreases-loop-at l = length l.calls - l.at
