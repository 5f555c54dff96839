use Rattle.std.proofs.Common.{◌≡◌}
use Rattle.check_values.specs.Vectors.{signals_to}
use Rattle.check_values.proofs.quantised.compare.Given as goal

abbrev pub invariant-loop-i : goal.invariant-loop-i
invariant-loop-i l = l.tally ≡ signals_to l.records l.i
