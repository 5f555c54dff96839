use Rattle.std.proofs.Common.{◌≡◌}
use Rattle.check_values.specs.Vectors.{place_at, first_at, lights_to}
use Rattle.check_values.proofs.lights.compare_lights.Given as goal

abbrev pub invariant-loop-i : goal.invariant-loop-i
invariant-loop-i l = record {
  counted : l.tally ≡ lights_to l.records l.i;
  here : l.place ≡ place_at l.i;
  begins : l.first ≡ first_at l.records l.i;
}
