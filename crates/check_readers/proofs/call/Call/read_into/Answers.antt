use Rattle.check_answers.proofs.Slices.{slices_same}
use Rattle.check_readers.specs.Calls.{read_into}
use Rattle.check_readers.proofs.call.Call.read_into.Goals as goal

pub returns-clause-met : goal.returns-clause-met
unfolding read_into
returns-clause-met c = rw (c.taken-answered.ensures.met, c.read-answer.ensures.result_value, c.eq.ensures, c.read-answer.ensures.codes_after, c.read_due.ensures, slices_same)

pub returns-clause-reader_after : goal.returns-clause-reader_after
unfolding read_into
returns-clause-reader_after c = rw (c.taken-answered.ensures.reader_after, c.read-answer.ensures.result_value)
