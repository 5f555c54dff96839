use Rattle.std.proofs.Common.{eq-eqb, ne_eqb}
use Rattle.check_meters.specs.Reads.{after_read}
use Rattle.check_meters.proofs.list.Play.with.Goals as goal

pub returns-then-read-number : goal.returns-then-read-number
unfolding after_read
returns-then-read-number c = rw (c.with-tally.ensures, c.made-met.ensures.met, c.made-met.ensures.meter_after, eq-eqb _ _ c.if-read-number.true)

pub returns-else-read-number : goal.returns-else-read-number
unfolding after_read
returns-else-read-number c = rw (c.made-met.ensures.meter_after, ne_eqb _ _ c.if-read-number.false)
