-- Reading a row block (document 01, 'Row block' and 'What the caller hears', and request 2026-03): what the caller hears, and the slice that it lent.
-- Definitions only.
use Rattle.std.specs.Prelude.{ℕ, zero, suc, ◌+◌, ◌*◌, Bool, true, ◌&&◌, List, [], ◌∷◌, ◌++◌, leb, eqb, length, get_or, drop}
use Rattle.exact.specs.Outcome.{Outcome, accepted, refused, ◌and_then◌, require}
use Rattle.systems.specs.declared.Codes.{Codes}
use Rattle.systems.specs.declared.Range.{Range}
use Rattle.systems.specs.declared.System.{System}
use Rattle.systems.specs.Systems.{named, matrix, scale, video_data}
use Rattle.matrix.specs.declared.Clips.{Clips}
use Rattle.matrix.specs.declared.Clipped.{Clipped}
use Rattle.matrix.specs.declared.Words.{Words}
use Rattle.matrix.specs.Triples.{no_clips, ◌plus◌, codes_at, words_within}
use Rattle.block.specs.declared.Header.{Header}
use Rattle.block.specs.declared.Judged.{Judged}

-- the field at a place
abbrev pub field_at : List ℕ → ℕ → ℕ
field_at bs i = get_or bs i 0 + 256 * get_or bs (i + 1) 0

-- the section at place i, with a count that passes the test: 8 where the count is missing, then 9, then 8 where words are missing
abbrev pub section_at : List ℕ → ℕ → (ℕ → Bool) → Outcome ℕ
section_at bs i good =
    require (leb (i + 2) (length bs)) 8
    (require (good (field_at bs i)) 9
    (require (leb (i + 2 + 2 * field_at bs i) (length bs)) 8
    (accepted (field_at bs i))))

-- a count of samples that a row can have
abbrev pub width_ok : ℕ → Bool
width_ok w = leb 1 w && leb w 7680

-- the three sections of one count, after which nothing may follow: their count
unfoldable pub sections : List ℕ → Outcome ℕ
sections bs =
    section_at bs 3 width_ok and_then λ w.
    section_at bs (5 + 2 * w) (eqb w) and_then λ _.
    section_at bs (7 + 4 * w) (eqb w) and_then λ _.
    require (eqb (length bs) (9 + 6 * w)) 11
    (accepted w)

-- the walk from the front: system, row number and sections
unfoldable pub walk : List ℕ → Outcome Judged
walk bs =
    require (leb 3 (length bs)) 8
    (named (get_or bs 0 0) and_then λ y.
    require (leb (field_at bs 1) 4319) 10
    (sections bs and_then λ w.
    accepted (record { system = y; row = field_at bs 1; samples = w })))

-- the words of sample i in a block of w samples
abbrev pub sample_at : List ℕ → ℕ → ℕ → Words
sample_at bs w i = record { y = field_at bs (5 + 2 * i); cb = field_at bs (7 + 2 * w + 2 * i); cr = field_at bs (9 + 4 * w + 2 * i) }

-- the words of a row's first n samples are in a range
unfoldable pub within_to : Range → (ℕ → Words) → ℕ → Bool
within_to r sample zero = true
within_to r sample (suc n) = within_to r sample n && words_within r (sample n)

-- the words of a block that was walked are video data
abbrev pub words_ok : Judged → List ℕ → Bool
words_ok b bs = within_to (video_data b.system) (sample_at bs b.samples) b.samples

-- a block judged by itself: after the walk 6
unfoldable pub judge : List ℕ → Outcome Judged
judge bs = walk bs and_then λ b. require (words_ok b bs) 6 (accepted b)

-- the codes of a row's samples, from their words
abbrev pub decoded : System → (ℕ → Words) → ℕ → Clipped
decoded y sample i = codes_at (matrix y) (scale y) (video_data y) (sample i)

-- R, G and B of a sample
abbrev pub rgb : Codes → List ℕ
rgb c = c.r ∷ c.g ∷ c.b ∷ []

-- R, G and B of a row's first n samples
unfoldable pub codes_to : (ℕ → Clipped) → ℕ → List ℕ
codes_to sample zero = []
codes_to sample (suc n) = codes_to sample n ++ rgb (sample n).codes

-- their clips
unfoldable pub clips_to : (ℕ → Clipped) → ℕ → Clips
clips_to sample zero = no_clips
clips_to sample (suc n) = clips_to sample n plus (sample n).clips

-- the codes of a block of w samples
abbrev pub row_of : System → List ℕ → ℕ → ℕ → Clipped
row_of y bs w = decoded y (sample_at bs w)

-- what is read of a judged block
abbrev pub header : Judged → List ℕ → Header
header b bs = record { system = b.system; row = b.row; samples = b.samples; clips = clips_to (row_of b.system bs b.samples) b.samples }

-- reading into a slice of so many words: 5 after what the block itself is refused for
unfoldable pub header_of : List ℕ → ℕ → Outcome Header
header_of bs room = judge bs and_then λ b. require (leb (3 * b.samples) room) 5 (accepted (header b bs))

-- the slice after reading: the codes at its front where the block is accepted, and the rest as it was
abbrev pub slice_by : Outcome Header → List ℕ → List ℕ → List ℕ
slice_by (accepted h) bs slice = codes_to (row_of h.system bs h.samples) h.samples ++ drop (3 * h.samples) slice
slice_by (refused n) bs slice = slice

abbrev pub slice_after : List ℕ → List ℕ → List ℕ
slice_after bs slice = slice_by (header_of bs (length slice)) bs slice
