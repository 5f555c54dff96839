use Rattle.std.proofs.Common.{◌≡◌}
use Rattle.check_zimg.specs.Samples.{compared_to}
use Rattle.check_zimg.proofs.comparison.compare.Given as goal

abbrev pub invariant-loop-i : goal.invariant-loop-i
invariant-loop-i l = l.found ≡ compared_to l.system l.records l.i
