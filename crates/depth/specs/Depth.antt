-- A block at the other depth of its Recommendation (request 2026-09): what the caller hears, and the buffer that it lent.
-- Definitions only.
use Rattle.std.specs.Prelude.{ℕ, zero, suc, ◌*◌, Bool, true, false, cond, not, ◌&&◌, List, ◌++◌, eqb, leb, ltb, length, drop}
use Rattle.exact.specs.Outcome.{Outcome, accepted, refused, ◌and_then◌, require}
use Rattle.exact.specs.Whole.{INT}
use Rattle.systems.specs.declared.Matrix.{Matrix}
use Rattle.systems.specs.declared.Matrix.TheVariants.{Bt709, Bt2020}
use Rattle.systems.specs.declared.System.{System}
use Rattle.systems.specs.Systems.{number, matrix, bits, timing, named}
use Rattle.matrix.specs.declared.Words.{Words}
use Rattle.block.specs.declared.Judged.{Judged}
use Rattle.block.specs.Block.{block, size, tabulate}
use Rattle.block.specs.Read.{sample_at, judge}

-- two matrices of one Recommendation
abbrev pub alike : Matrix → Matrix → Bool
alike Bt709 Bt709 = true
alike Bt709 Bt2020 = false
alike Bt2020 Bt709 = false
alike Bt2020 Bt2020 = true

-- z is the other depth of y's Recommendation: not equal to y, nor of the other Recommendation
abbrev pub other_depth : System → System → Bool
other_depth y z = not (eqb (number y) (number z)) && alike (matrix y) (matrix z)

-- a word of y in z: upward it is multiplied by 4, downward it is INT(word/4)
abbrev pub word_in : System → System → ℕ → ℕ
word_in y z w = cond (ltb (bits y) (bits z)) (4 * w) (INT w 4)

-- the words of a sample
abbrev pub words_in : System → System → Words → Words
words_in y z w = record { y = word_in y z w.y; cb = word_in y z w.cb; cr = word_in y z w.cr }

-- none of a sample's words is a timing code of z
abbrev pub no_timing : System → Words → Bool
no_timing z w = not (timing z w.y) && not (timing z w.cb) && not (timing z w.cr)

-- none of the words of a row's first n samples
unfoldable pub no_timing_to : System → (ℕ → Words) → ℕ → Bool
no_timing_to z sample zero = true
no_timing_to z sample (suc n) = no_timing_to z sample n && no_timing z (sample n)

-- the words of a judged block's row in z
abbrev pub row_in : System → Judged → List ℕ → ℕ → Words
row_in z b bs i = words_in b.system z (sample_at bs b.samples i)

-- the block of these words, of the same row number and count
unfoldable pub block_in : System → Judged → List ℕ → List ℕ
block_in z b bs =
    block (number z) b.row
    (tabulate (λ i. (row_in z b bs i).y) b.samples)
    (tabulate (λ i. (row_in z b bs i).cb) b.samples)
    (tabulate (λ i. (row_in z b bs i).cr) b.samples)

-- a block judged for the target z: after what reading refuses, up to 6, come 32 and 33
unfoldable pub judge_for : System → List ℕ → Outcome Judged
judge_for z bs =
    judge bs and_then λ b.
    require (other_depth b.system z) 32
    (require (no_timing_to z (row_in z b bs) b.samples) 33
    (accepted b))

-- changing a block to the system of a number, into a buffer of so many bytes: 1, then what the block is refused for, then 5
unfoldable pub changing : ℕ → List ℕ → ℕ → Outcome (List ℕ)
changing n bs room =
    named n and_then λ z.
    judge_for z bs and_then λ b.
    require (leb (size b.samples) room) 5
    (accepted (block_in z b bs))

-- a list with p in place of its front
abbrev pub over : List ℕ → List ℕ → List ℕ
over p d = p ++ drop (length p) d

-- the buffer after a call: the block at its front where there is one, and the rest as it was
abbrev pub buffer_by : Outcome (List ℕ) → List ℕ → List ℕ
buffer_by (accepted p) out = over p out
buffer_by (refused n) out = out

abbrev pub buffer_after : ℕ → List ℕ → List ℕ → List ℕ
buffer_after n bs out = buffer_by (changing n bs (length out)) out

-- what is heard of it: no more than that it was accepted, or the refusal
abbrev pub heard : Outcome (List ℕ) → Outcome (Unit {0})
heard (accepted p) = accepted tt
heard (refused n) = refused n
