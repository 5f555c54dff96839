use Rattle.std.proofs.Common.{◌≡◌}
use Rattle.check_values.specs.Vectors.{place_at, restored_to}
use Rattle.check_values.proofs.restored.compare.Given as goal

abbrev pub invariant-loop-i : goal.invariant-loop-i
invariant-loop-i l = record {
  counted : l.tally ≡ restored_to l.records l.i;
  here : l.place ≡ place_at l.i;
}
