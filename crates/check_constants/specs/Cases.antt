-- The records of the files that reference/make_constants.py makes, and whether the conversion agrees with them.
-- Definitions only.
use Rattle.std.specs.Prelude.{ℕ, ◌+◌, ◌*◌, Bool, false, ◌&&◌, List, eqb, Result, Ok, Err}
use Rattle.exact.specs.Outcome.{Outcome, accepted, refused}
use Rattle.matrix.specs.declared.Words.{Words}
use Rattle.matrix.specs.declared.Clips.{Clips}
use Rattle.constant_luminance.specs.declared.Clipped.{Clipped}
use Rattle.constant_luminance.specs.declared.Lights.{Lights}
use Rattle.constant_luminance.specs.declared.RedBlue.{RedBlue}
use Rattle.constant_luminance.specs.ConstantLuminance.{words_of_lights, codes_of_words}
use Rattle.check_samples.specs.Samples.{words_in}
use Rattle.check_records.specs.Records.{due, u16_at, u32_at}
use Rattle.check_constants.specs.declared.codes.Case.{Case as CodesCase}
use Rattle.check_constants.specs.declared.words.Case.{Case as WordsCase}

-- three numbers from a place on
abbrev pub lights_in : List ℕ → ℕ → Lights
lights_in bs i = record { r = u16_at bs i; g = u16_at bs (i + 2); b = u16_at bs (i + 4) }

-- two numbers
abbrev pub codes_in : List ℕ → ℕ → RedBlue
codes_in bs i = record { r = u16_at bs i; b = u16_at bs (i + 2) }

abbrev pub clips_in : List ℕ → ℕ → Clips
clips_in bs i = record { low = u16_at bs i; high = u16_at bs (i + 2) }

-- a call's answer is the one that is due
abbrev pub agrees : {A : Type 0} → (A → A → Bool) → Outcome A → Result A ℕ → Bool
agrees same (accepted a) (Ok b) = same a b
agrees same (accepted a) (Err n) = false
agrees same (refused m) (Ok b) = false
agrees same (refused m) (Err n) = eqb m n

-- lights to words: the record of 18 bytes at a place
abbrev pub words_case : List ℕ → ℕ → WordsCase
words_case bs i = record { system = u32_at bs i; lights = lights_in bs (i + 6); due = due (u16_at bs (i + 4)) (words_in bs (i + 12)) }

abbrev pub same_words : Words → Words → Bool
same_words w v = eqb w.y v.y && eqb w.cb v.cb && eqb w.cr v.cr

abbrev pub words_met : WordsCase → Bool
words_met c = agrees same_words (words_of_lights c.system c.lights) c.due

-- words to codes: the record of 20 bytes at a place
abbrev pub codes_case : List ℕ → ℕ → CodesCase
codes_case bs i = record {
  system = u32_at bs i;
  words = words_in bs (i + 6);
  due = due (u16_at bs (i + 4)) (record { codes = codes_in bs (i + 12); clips = clips_in bs (i + 16) });
}

abbrev pub same_codes : Clipped → Clipped → Bool
same_codes d e = (eqb d.codes.r e.codes.r && eqb d.codes.b e.codes.b) && (eqb d.clips.low e.clips.low && eqb d.clips.high e.clips.high)

abbrev pub codes_met : CodesCase → Bool
codes_met c = agrees same_codes (codes_of_words c.system c.words) c.due

-- whether record i of each file is met
abbrev pub words_at : List ℕ → ℕ → Bool
words_at bs i = words_met (words_case bs (18 * i))

abbrev pub codes_at : List ℕ → ℕ → Bool
codes_at bs i = codes_met (codes_case bs (20 * i))
