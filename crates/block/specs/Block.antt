-- The bytes of a row block (document 01, 'Row block'). Definitions only.
use Rattle.std.specs.Prelude.{ℕ, zero, suc, ◌+◌, ◌*◌, ◌/◌, ◌%◌, List, [], ◌∷◌, ◌++◌, length, get_or}
use Rattle.matrix.specs.declared.Words.{Words}

-- a field of 2 bytes, low byte first
abbrev pub field : ℕ → List ℕ
field n = n % 256 ∷ n / 256 % 256 ∷ []

-- words of 2 bytes each
unfoldable pub fields : List ℕ → List ℕ
fields [] = []
fields (w ∷ ws) = field w ++ fields ws

-- a section: a count, and that many words
unfoldable pub section : List ℕ → List ℕ
section ws = field (length ws) ++ fields ws

-- the block of a row: system, row number, and the sections Y', Cb, Cr
unfoldable pub block : ℕ → ℕ → List ℕ → List ℕ → List ℕ → List ℕ
block n row ys cbs crs = n ∷ field row ++ section ys ++ section cbs ++ section crs

-- the bytes of a row of w samples
abbrev pub size : ℕ → ℕ
size w = 9 + 6 * w

-- f at 0, 1, .. up to n
unfoldable pub tabulate : (ℕ → ℕ) → ℕ → List ℕ
tabulate f zero = []
tabulate f (suc n) = tabulate f n ++ f n ∷ []

-- the words of sample i of a row
abbrev pub sample_of : List ℕ → List ℕ → List ℕ → ℕ → Words
sample_of ys cbs crs i = record { y = get_or ys i 0; cb = get_or cbs i 0; cr = get_or crs i 0 }
