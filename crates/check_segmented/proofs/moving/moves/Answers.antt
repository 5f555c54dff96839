use Rattle.segmented.proofs.Lengths.{length_after}
use Rattle.check_segmented.specs.Cases.{moves}
use Rattle.check_segmented.proofs.moving.moves.Goals as goal

pub returns : goal.returns
unfolding moves
returns c = rw (c.is_due.ensures, c.begin_alike.ensures, c.call-found.ensures.result_value, c.call-found.ensures.to_after, length_after)
