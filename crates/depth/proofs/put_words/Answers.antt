use Rattle.std.proofs.Common.{arith}
use Rattle.depth.proofs.Front.{none_stored, one_more_stored}
use Rattle.depth.proofs.put_words.Goals as goal

pub loop-i-init : goal.loop-i-init
loop-i-init c = none_stored _ _ _ (omega (arith, c.requires.fits))

pub loop-i-preserved : goal.loop-i-preserved
loop-i-preserved c = one_more_stored _ _ _ _ (omega (arith, c.requires.fits)) c.loop-i.invariant (rw (c.word.ensures, c.field_at.ensures) at c.put_field.ensures)
