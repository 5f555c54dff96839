use Rattle.std.proofs.Common.{◌≡◌, ◌≤◌, nat_eq}
use Rattle.block.specs.Inner.{in_range}
use Rattle.block.proofs.in_range.Given as goal

abbrev pub invariant-loop-i : goal.invariant-loop-i
invariant-loop-i l = (l.bad ≤ l.i) × (nat_eq l.bad 0 ≡ in_range l.range l.bytes l.at l.i)
