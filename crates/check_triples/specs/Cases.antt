-- The records of the files that reference/make_triples.py makes, and whether the conversion agrees with them.
-- Definitions only.
use Rattle.std.specs.Prelude.{ℕ, ◌+◌, ◌*◌, ◌/◌, ◌%◌, Bool, false, ◌&&◌, List, eqb, get_or, Result, Ok, Err}
use Rattle.exact.specs.Outcome.{Outcome, accepted, refused}
use Rattle.systems.specs.declared.Codes.{Codes}
use Rattle.matrix.specs.declared.Clipped.{Clipped}
use Rattle.matrix.specs.declared.Encoding.{Encoding}
use Rattle.matrix.specs.declared.Encoding.TheVariants.{Plain}
use Rattle.matrix.specs.declared.Limited.{Limited}
use Rattle.matrix.specs.declared.Words.{Words}
use Rattle.matrix.specs.Triples.{words_of_codes, codes_of_words}
use Rattle.check_records.specs.Records.{due, u16_at, u32_at}
use Rattle.check_samples.specs.Samples.{words_in, codes_in}
use Rattle.check_triples.specs.declared.codes.Case.{Case as CodesCase}
use Rattle.check_triples.specs.declared.words.Case.{Case as WordsCase}

abbrev pub same_words : Words → Words → Bool
same_words w v = eqb w.y v.y && (eqb w.cb v.cb && eqb w.cr v.cr)

abbrev pub same_codes : Codes → Codes → Bool
same_codes c d = eqb c.r d.r && (eqb c.g d.g && eqb c.b d.b)

-- codes to words: the record of 20 bytes at a place, with the words and moved count that are due, or the number of the refusal where
-- that is not 0
abbrev pub words_due : List ℕ → ℕ → Result Limited ℕ
words_due bs i = due (u16_at bs (i + 4)) (record { words = words_in bs (i + 12); moved = u16_at bs (i + 18) })

abbrev pub words_case : List ℕ → ℕ → WordsCase
words_case bs i = record { system = u32_at bs i; codes = codes_in bs (i + 6); due = words_due bs i }

-- the call's answer is the one that is due
abbrev pub words_agree : Outcome Limited → Result Limited ℕ → Bool
words_agree (accepted l) (Ok d) = same_words l.words d.words && eqb l.moved d.moved
words_agree (accepted l) (Err n) = false
words_agree (refused k) (Ok d) = false
words_agree (refused k) (Err n) = eqb k n

abbrev pub words_met : Encoding → WordsCase → Bool
words_met e c = words_agree (words_of_codes c.system e c.codes) c.due

-- words to codes: the record of 22 bytes at a place, with the codes and clips that are due, or the number of the refusal where that is
-- not 0
abbrev pub codes_due : List ℕ → ℕ → Result Clipped ℕ
codes_due bs i =
    due (u16_at bs (i + 4)) (record { codes = codes_in bs (i + 12); clips = record { low = u16_at bs (i + 18); high = u16_at bs (i + 20) } })

abbrev pub codes_case : List ℕ → ℕ → CodesCase
codes_case bs i = record { system = u32_at bs i; words = words_in bs (i + 6); due = codes_due bs i }

-- the call's answer is the one that is due
abbrev pub codes_agree : Outcome Clipped → Result Clipped ℕ → Bool
codes_agree (accepted c) (Ok d) = same_codes c.codes d.codes && (eqb c.clips.low d.clips.low && eqb c.clips.high d.clips.high)
codes_agree (accepted c) (Err n) = false
codes_agree (refused k) (Ok d) = false
codes_agree (refused k) (Err n) = eqb k n

abbrev pub codes_met : CodesCase → Bool
codes_met c = codes_agree (codes_of_words c.system c.words) c.due

-- the grid of 40 levels a side, where B' changes fastest: the code of a level, which counts again from 0 after the last, and the
-- triple at a place
abbrev pub level : ℕ → ℕ
level i = 16 + 219 * (i % 40) / 39

abbrev pub grid_codes : ℕ → Codes
grid_codes i = record { r = level (i / 1600); g = level (i / 40); b = level i }

abbrev pub grid_words : List ℕ → ℕ → Words
grid_words bs i = record { y = get_or bs i 0; cb = get_or bs (i + 1) 0; cr = get_or bs (i + 2) 0 }

-- the call accepts, with these words, and moves none
abbrev pub gives : Outcome Limited → Words → Bool
gives (accepted l) v = eqb l.moved 0 && same_words l.words v
gives (refused n) v = false

-- whether record i of each file is met
abbrev pub words_at : Encoding → List ℕ → ℕ → Bool
words_at e bs i = words_met e (words_case bs (20 * i))

abbrev pub codes_at : List ℕ → ℕ → Bool
codes_at bs i = codes_met (codes_case bs (22 * i))

abbrev pub grid_at : List ℕ → ℕ → Bool
grid_at bs i = gives (words_of_codes 1 Plain (grid_codes i)) (grid_words bs (3 * i))
