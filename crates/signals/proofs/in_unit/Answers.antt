use lib.Ieee.{of_bits}
use Rattle.signals.proofs.Unit.{tests_are_the_unit}
use Rattle.signals.proofs.in_unit.Goals as goal

pub returns : goal.returns
unfolding of_bits
returns c = tests_are_the_unit c.args.e
