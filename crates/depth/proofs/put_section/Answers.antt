use Rattle.std.proofs.Common.{arith}
use Rattle.block.proofs.Stored.{length_tabulate}
use Rattle.depth.proofs.Front.{section_put}
use Rattle.depth.proofs.put_section.Goals as goal

pub returns : goal.returns
returns c = section_put c.args.at c.args.samples _ c.args.out.now _ _ (length_tabulate _ _) (omega (arith, c.requires.fits)) c.put_field.ensures (rw c.from.ensures at c.put_words.ensures)
