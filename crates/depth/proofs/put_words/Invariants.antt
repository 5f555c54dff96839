-- After i turns the first i words are stored.
use Rattle.std.proofs.Common.{◌≡◌}
use Rattle.block.specs.Block.{fields}
use Rattle.depth.specs.Inner.{words_by, over_at}
use Rattle.depth.proofs.put_words.Given as goal

abbrev pub invariant-loop-i : goal.invariant-loop-i
invariant-loop-i l = l.out ≡ over_at l.at (fields (words_by l.way l.bytes l.at l.i)) l.initial.out
