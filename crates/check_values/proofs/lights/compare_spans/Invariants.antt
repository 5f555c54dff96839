use Rattle.std.proofs.Common.{◌≡◌}
use Rattle.check_records.specs.Records.{tally_to}
use Rattle.check_values.specs.Vectors.{place_at, span_at}
use Rattle.check_values.proofs.lights.compare_spans.Given as goal

abbrev pub invariant-loop-i : goal.invariant-loop-i
invariant-loop-i l = record {
  counted : l.tally ≡ tally_to (span_at l.records) l.i;
  here : l.place ≡ place_at l.i;
}
