use Rattle.std.proofs.Common.{◌*◌, length}
use Rattle.check_records.proofs.Behind.{SoFar}
use Rattle.check_meters.specs.Reads.{read_at, begun, after_read}
use Rattle.check_meters.proofs.list.compare.Given as goal

abbrev pub invariant-loop-i : goal.invariant-loop-i
invariant-loop-i l = SoFar (λ _. 32) (λ at. after_read (read_at l.reads at) l.blocks l.number) begun (length l.reads) (32 * l.i) l.play
