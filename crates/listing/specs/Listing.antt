-- The listing of a row block (document 01, 'Bench values': the program `rowlist`, and request 2026-07), as ASCII bytes. Definitions only.
use Rattle.std.specs.Prelude.{ℕ, zero, suc, ◌+◌, ◌/◌, ◌%◌, cond, List, [], ◌∷◌, ◌++◌, ltb}
use Rattle.exact.specs.Outcome.{Outcome, accepted, refused}
use Rattle.systems.specs.declared.Codes.{Codes}
use Rattle.systems.specs.Systems.{number}
use Rattle.matrix.specs.declared.Clips.{Clips}
use Rattle.block.specs.declared.Header.{Header}
use Rattle.block.specs.Read.{row_of, header_of}

-- a digit in ASCII
abbrev pub glyph : ℕ → ℕ
glyph d = 48 + d

-- the decimal digits of n without leading zeros, k of them at most: from 10 on those of n/10, then the last
unfoldable pub digits_to : ℕ → ℕ → List ℕ
digits_to zero n = []
digits_to (suc k) n = cond (ltb n 10) [] (digits_to k (n / 10)) ++ glyph (n % 10) ∷ []

-- all decimal digits of n: there are no more than n + 1
abbrev pub decimal : ℕ → List ℕ
decimal n = digits_to (suc n) n

abbrev pub space : List ℕ
space = 32 ∷ []

abbrev pub line_end : List ℕ
line_end = 10 ∷ []

-- 'system '
abbrev pub system_word : List ℕ
system_word = 115 ∷ 121 ∷ 115 ∷ 116 ∷ 101 ∷ 109 ∷ 32 ∷ []

-- ' row '
abbrev pub row_word : List ℕ
row_word = 32 ∷ 114 ∷ 111 ∷ 119 ∷ 32 ∷ []

-- ' samples '
abbrev pub samples_word : List ℕ
samples_word = 32 ∷ 115 ∷ 97 ∷ 109 ∷ 112 ∷ 108 ∷ 101 ∷ 115 ∷ 32 ∷ []

-- ' low '
abbrev pub low_word : List ℕ
low_word = 32 ∷ 108 ∷ 111 ∷ 119 ∷ 32 ∷ []

-- ' high '
abbrev pub high_word : List ℕ
high_word = 32 ∷ 104 ∷ 105 ∷ 103 ∷ 104 ∷ 32 ∷ []

-- 'refused '
abbrev pub refused_word : List ℕ
refused_word = 114 ∷ 101 ∷ 102 ∷ 117 ∷ 115 ∷ 101 ∷ 100 ∷ 32 ∷ []

-- the components clipped low and high, which end the header (request 2026-07)
unfoldable pub clips_end : Clips → List ℕ
clips_end c = low_word ++ decimal c.low ++ high_word ++ decimal c.high ++ line_end

-- the header: system, row number, count and clips
unfoldable pub header_line : Header → List ℕ
header_line h =
    system_word ++ decimal (number h.system) ++ row_word ++ decimal h.row
    ++ samples_word ++ decimal h.samples ++ clips_end h.clips

-- R, G and B of a sample
unfoldable pub line : Codes → List ℕ
line c = decimal c.r ++ space ++ decimal c.g ++ space ++ decimal c.b ++ line_end

-- a line for each of the first n samples
unfoldable pub lines_to : (ℕ → Codes) → ℕ → List ℕ
lines_to sample zero = []
lines_to sample (suc n) = lines_to sample n ++ line (sample n)

-- the one line of a refusal
unfoldable pub refused_line : ℕ → List ℕ
refused_line n = refused_word ++ decimal n ++ line_end

-- the listing of what reading gives
abbrev pub listing_by : Outcome Header → List ℕ → List ℕ
listing_by (accepted h) bs = header_line h ++ lines_to (λ i. (row_of h.system bs h.samples i).codes) h.samples
listing_by (refused n) bs = refused_line n

-- the listing of a block, read into a slice that has room for the widest row
abbrev pub listing : List ℕ → List ℕ
listing bs = listing_by (header_of bs 23040) bs
