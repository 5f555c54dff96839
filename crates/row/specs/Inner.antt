-- Inner definitions: the stores that make a row block in a buffer, the head, then the words of each sample into the three
-- sections. Nothing here has to be believed.
-- Definitions only.
use Rattle.std.specs.Prelude.{◌≡◌, List, ℕ, zero, suc, ◌+◌, ◌*◌, ◌≤◌, length, set}
use Rattle.matrix.specs.declared.Words.{Words}
use Rattle.block.specs.Block.{size}
use Rattle.block.specs.Inner.{put}

-- the lights of w samples, and room for their block
abbrev pub RowFits : ℕ → List ℕ → List ℕ → Type 0
RowFits w lights out = (length lights ≡ 3 * w) × (size w ≤ length out)

-- d with the system n, the row number and the three counts of w samples
unfoldable pub headed : ℕ → ℕ → ℕ → List ℕ → List ℕ
headed n row w d = put (7 + 4 * w) w (put (5 + 2 * w) w (put 3 w (put 1 row (set d 0 n))))

-- d with the words of sample i of w
unfoldable pub worded : ℕ → ℕ → Words → List ℕ → List ℕ
worded w i x d = put (9 + 4 * w + 2 * i) x.cr (put (7 + 2 * w + 2 * i) x.cb (put (5 + 2 * i) x.y d))

-- d with the words of the first i samples of w
unfoldable pub stored : (ℕ → Words) → ℕ → List ℕ → ℕ → List ℕ
stored words w d zero = d
stored words w d (suc i) = worded w i (words i) (stored words w d i)
