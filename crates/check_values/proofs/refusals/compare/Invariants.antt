use Rattle.std.proofs.Common.{◌≡◌, ◌-◌, ◌≤◌}
use Rattle.check_values.specs.Vectors.{codes_to}
use Rattle.check_values.proofs.refusals.compare.Given as goal

abbrev pub invariant-loop-system : goal.invariant-loop-system
invariant-loop-system l = record {
  counted : l.codes ≡ codes_to (l.system - 1);
  begun : 1 ≤ l.system;
}
