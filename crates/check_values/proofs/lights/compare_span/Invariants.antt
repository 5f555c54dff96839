use Rattle.std.proofs.Common.{◌≡◌, ◌-◌, ◌≤◌}
use Rattle.check_values.specs.Vectors.{lights_tallied}
use Rattle.check_values.proofs.lights.compare_span.Given as goal

abbrev pub invariant-loop-light : goal.invariant-loop-light
invariant-loop-light l = record {
  counted : l.tally ≡ lights_tallied l.place l.begins l.first (l.light - l.first) l.initial.tally;
  within : l.light - l.first ≤ l.end - l.first;
}
