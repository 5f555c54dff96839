use Rattle.block.proofs.Clipping.{SoFar}
use Rattle.block.proofs.clip_all.Given as goal

abbrev pub invariant-loop-i : goal.invariant-loop-i
invariant-loop-i l = SoFar l.range l.initial.codes l.i l.clips l.codes
