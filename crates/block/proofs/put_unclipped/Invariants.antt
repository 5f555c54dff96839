use Rattle.systems.specs.Systems.{scale}
use Rattle.block.specs.Read.{sample_at}
use Rattle.block.specs.Inner.{biased_row}
use Rattle.block.proofs.Decoding.{SoFar}
use Rattle.block.proofs.put_unclipped.Given as goal

abbrev pub invariant-loop-i : goal.invariant-loop-i
invariant-loop-i l = SoFar (biased_row l.matrix (scale l.system) (sample_at l.bytes l.samples)) l.samples l.initial.codes l.i l.codes
