use Rattle.std.proofs.Common.{sym}
use Rattle.exact.proofs.Rounding.{int_over_even}
use Rattle.exact.proofs.int_of.Goals as goal

pub returns : goal.returns
returns c = sym (int_over_even c.args.top c.args.bottom c.requires.1)
