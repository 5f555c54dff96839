use Rattle.std.proofs.Common.{eq-eqb, ne_eqb}
use Rattle.check_readers.specs.Calls.{after_call}
use Rattle.check_readers.proofs.list.Play.with.Goals as goal

pub returns-then-call-number : goal.returns-then-call-number
unfolding after_call
returns-then-call-number c = rw (c.with-tally.ensures, c.made-met.ensures.met, c.made-met.ensures.reader_after, eq-eqb _ _ c.if-call-number.true)

pub returns-else-call-number : goal.returns-else-call-number
unfolding after_call
returns-else-call-number c = rw (c.made-met.ensures.reader_after, ne_eqb _ _ c.if-call-number.false)
