use Rattle.std.proofs.Common.{arith}
use Rattle.std.proofs.lemmas.List.Edits.{fill_by_more}
use Rattle.std.proofs.lemmas.List.FromFn.{fill_by_all}
use Rattle.check_blocks.specs.Cases.{before}
use Rattle.check_blocks.proofs.slice.fill.Goals as goal

pub loop-i-preserved : goal.loop-i-preserved
loop-i-preserved c = rw c.before-in-loop-i.ensures (fill_by_more before c.loop-i.lent c.loop-i.i 0 (omega arith) c.loop-i.invariant)

pub returns : goal.returns
returns c = fill_by_all before _ _ 0 (omega arith) (λ k l. c.loop-i.invariant k (omega arith))
