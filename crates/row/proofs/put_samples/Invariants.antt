-- `row::put_samples`: after i turns the words of the first i samples are stored.
use Rattle.row.specs.Row.{sample_words}
use Rattle.row.specs.Inner.{stored}
use Rattle.std.proofs.Common.{◌≡◌}
use Rattle.row.proofs.put_samples.Given as goal

abbrev pub invariant-loop-i : goal.invariant-loop-i
invariant-loop-i g l = l.out ≡ stored (sample_words l.y l.lights) l.width l.fn.out l.i
