use Rattle.std.proofs.Common.{add-one}
use Rattle.check_values.specs.Vectors.{place_at, first_at, lights_to}
use Rattle.check_values.proofs.lights.compare_lights.Goals as goal

pub loop-i-preserved : goal.loop-i-preserved
unfolding lights_to first_at place_at
loop-i-preserved c =
    let l = c.loop-i.invariant in
    let next = rw l.here at c.next-place.ensures in
    record {
      counted = rw (add-one, c.compare_span-tally.ensures, c.span_at-span.ensures, l.counted, l.here, l.begins);
      here = rw add-one next;
      begins = rw (add-one, c.after-first.ensures, next, c.span_at-span.ensures);
    }
