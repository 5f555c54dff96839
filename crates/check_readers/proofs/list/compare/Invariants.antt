use Rattle.std.proofs.Common.{◌*◌, length}
use Rattle.check_records.proofs.Behind.{SoFar}
use Rattle.check_readers.specs.Calls.{call_at, begun, after_call}
use Rattle.check_readers.proofs.list.compare.Given as goal

abbrev pub invariant-loop-i : goal.invariant-loop-i
invariant-loop-i l = SoFar (λ _. 32) (λ at. after_call (call_at l.calls at) l.blocks l.number) begun (length l.calls) (32 * l.i) l.play
