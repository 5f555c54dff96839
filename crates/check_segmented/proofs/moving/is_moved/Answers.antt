use Rattle.std.proofs.Common.{arith, le-leb}
use borrow.Author.Tests.{lt-leb}
use Rattle.check_segmented.specs.Cases.{moved}
use Rattle.check_segmented.proofs.moving.is_moved.Goals as goal

pub returns-then-to-gt5400 : goal.returns-then-to-gt5400
unfolding moved
returns-then-to-gt5400 c = simp (lt-leb _ _ c.if-to-gt5400.true)

pub returns : goal.returns
unfolding moved
returns c = simp (le-leb c.args.to 5400 (omega arith)) c.moves.ensures
