use Rattle.check_pictures.specs.Calls.{met}
use Rattle.check_pictures.proofs.list.Play.is_met.Goals as goal

pub returns : goal.returns
unfolding met
returns c = rw (c.is_answered.ensures, c.begin_alike.ensures, c.room.ensures, c.is_met.ensures)
