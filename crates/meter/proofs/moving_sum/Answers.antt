use Rattle.std.proofs.Common.{rules, arith}
use Rattle.meter.proofs.Turns.{sum_fits}
use Rattle.meter.proofs.moving_sum.Goals as goal

pub overflow_add-longer : goal.overflow_add-longer
overflow_add-longer c = let a = c.args in omega (arith, sum_fits a.counts a.place a.rows c.requires.in_turn (λ i. search rules))
