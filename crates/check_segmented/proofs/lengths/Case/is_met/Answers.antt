use Rattle.std.proofs.Common.{arith, le-leb}
use borrow.Author.Tests.{lt-leb}
use Rattle.check_segmented.specs.Cases.{lengths_met}
use Rattle.check_segmented.proofs.lengths.Case.is_met.Goals as goal

pub returns-then-from-gt5400 : goal.returns-then-from-gt5400
unfolding lengths_met
returns-then-from-gt5400 c = simp (lt-leb _ _ c.if-from-gt5400.true)

pub returns : goal.returns
unfolding lengths_met
returns c = simp (le-leb c.args.self.from 5400 (omega arith)) (rw c.due_byte-due.ensures at c.is_moved.ensures)
