-- The row block that is made from a row of lights (document 01, 'Picture': R, G, B for each sample). Definitions only.
use Rattle.std.specs.Prelude.{ℕ, ◌+◌, ◌*◌, List, get_or}
use Rattle.systems.specs.declared.Codes.{Codes}
use Rattle.systems.specs.declared.System.{System}
use Rattle.systems.specs.Systems.{number, matrix, scale}
use Rattle.curve.specs.Curve.{code}
use Rattle.matrix.specs.declared.Words.{Words}
use Rattle.matrix.specs.Triples.{words_at}
use Rattle.block.specs.Block.{tabulate, block}

-- the codes of sample i's three lights
abbrev pub sample_codes : System → List ℕ → ℕ → Codes
sample_codes y lights i = record { r = code y (get_or lights (3 * i) 0); g = code y (get_or lights (3 * i + 1) 0); b = code y (get_or lights (3 * i + 2) 0) }

-- the words of sample i
unfoldable pub sample_words : System → List ℕ → ℕ → Words
sample_words y lights i = words_at (matrix y) (scale y) (sample_codes y lights i)

-- the block of a row of w samples
unfoldable pub row_block : System → ℕ → ℕ → List ℕ → List ℕ
row_block y row w lights =
    block (number y) row
    (tabulate (λ i. (sample_words y lights i).y) w)
    (tabulate (λ i. (sample_words y lights i).cb) w)
    (tabulate (λ i. (sample_words y lights i).cr) w)
