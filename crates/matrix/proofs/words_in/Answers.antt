use Rattle.systems.specs.Systems.{matrix}
use Rattle.systems.proofs.Scales.{scale_range}
use Rattle.matrix.proofs.EncodingRows.{word_sized}
use Rattle.matrix.proofs.words_in.Goals as goal

pub to_words-requires : goal.to_words-requires
to_words-requires c = let y = c.args.y in rw c.unlimited_in.ensures (word_sized (matrix y) _ _ (scale_range y).1 c.requires)
