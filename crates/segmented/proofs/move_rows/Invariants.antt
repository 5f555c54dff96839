use Rattle.std.proofs.Common.{◌≡◌}
use Rattle.segmented.proofs.Loop.{so_far}
use Rattle.segmented.proofs.move_rows.Given as goal

abbrev pub invariant-loop-k : goal.invariant-loop-k
invariant-loop-k l = l.to ≡ so_far l.order l.bytes l.from l.initial.to l.k
