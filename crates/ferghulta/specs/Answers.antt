-- The answers of the C interface as numbers: the values with refusal 0, or the refusal's number and nothing else but zeros.
-- Definitions only.
use Rattle.std.specs.Prelude.{ℕ, false, Float, pos}
use Rattle.std.specs.Float.{fin}
use Rattle.exact.specs.Outcome.{Outcome, accepted, refused}
use Rattle.systems.specs.declared.Codes.{Codes}
use Rattle.systems.specs.Systems.{number}
use Rattle.constant_luminance.specs.declared.Clipped.{Clipped as ConstantClipped}
use Rattle.light.specs.declared.Span.{Span}
use Rattle.signals.specs.declared.Signals.{Signals}
use Rattle.matrix.specs.declared.Limited.{Limited}
use Rattle.matrix.specs.declared.Words.{Words}
use Rattle.matrix.specs.declared.Clipped.{Clipped}
use Rattle.matrix.specs.Triples.{no_clips}
use Rattle.levels.specs.declared.Level.{Level}
use Rattle.block.specs.declared.Header.{Header}
use Rattle.meter.specs.declared.Meter.{Meter}
use Rattle.meter.specs.Meter.{metering}
use Rattle.ferghulta.specs.declared.calls.CodeAnswer.{CodeAnswer}
use Rattle.ferghulta.specs.declared.calls.SpanAnswer.{SpanAnswer}
use Rattle.ferghulta.specs.declared.calls.CodesAnswer.{CodesAnswer}
use Rattle.ferghulta.specs.declared.calls.SignalsAnswer.{SignalsAnswer}
use Rattle.ferghulta.specs.declared.calls.WordsAnswer.{WordsAnswer}
use Rattle.ferghulta.specs.declared.calls.DecodedAnswer.{DecodedAnswer}
use Rattle.ferghulta.specs.declared.calls.LevelAnswer.{LevelAnswer}
use Rattle.ferghulta.specs.declared.calls.BlockAnswer.{BlockAnswer}
use Rattle.ferghulta.specs.declared.constant_calls.ConstantWordsAnswer.{ConstantWordsAnswer}
use Rattle.ferghulta.specs.declared.constant_calls.ConstantCodesAnswer.{ConstantCodesAnswer}
use Rattle.ferghulta.specs.declared.meter_calls.MeteredAnswer.{MeteredAnswer}

-- an answer in parts: 0 and its values, or the refusal's number and the values that stand for none
abbrev pub in_parts : {A : Type 0} → Outcome A → A → ℕ × A
in_parts (accepted a) nothing = (0, a)
in_parts (refused n) nothing = (n, nothing)

abbrev pub code_answer : Outcome ℕ → CodeAnswer
code_answer (accepted d) = record { refusal = 0; code = d }
code_answer (refused n) = record { refusal = n; code = 0 }

abbrev pub span_answer : Outcome Span → SpanAnswer
span_answer (accepted s) = record { refusal = 0; span = s }
span_answer (refused n) = record { refusal = n; span = record { least = 0; greatest = 0 } }

abbrev pub no_codes : Codes
no_codes = record { r = 0; g = 0; b = 0 }

abbrev pub codes_answer : Outcome Codes → CodesAnswer
codes_answer (accepted c) = record { refusal = 0; codes = c }
codes_answer (refused n) = record { refusal = n; codes = no_codes }

abbrev pub positive_zero : Float
positive_zero = fin false 0 (pos 0)

abbrev pub signals_answer : Outcome Signals → SignalsAnswer
signals_answer (accepted e) = record { refusal = 0; signals = e }
signals_answer (refused n) = record { refusal = n; signals = record { r = positive_zero; g = positive_zero; b = positive_zero } }

abbrev pub no_words : Words
no_words = record { y = 0; cb = 0; cr = 0 }

abbrev pub words_answer : Outcome Limited → WordsAnswer
words_answer (accepted l) = record { refusal = 0; moved = l.moved; words = l.words }
words_answer (refused n) = record { refusal = n; moved = 0; words = no_words }

abbrev pub decoded_answer : Outcome Clipped → DecodedAnswer
decoded_answer (accepted c) = record { refusal = 0; clips = c.clips; codes = c.codes }
decoded_answer (refused n) = record { refusal = n; clips = no_clips; codes = no_codes }

abbrev pub level_answer : Outcome Level → LevelAnswer
level_answer (accepted l) = record { refusal = 0; level = l }
level_answer (refused n) = record { refusal = n; level = record { millivolts = pos 0; remainder = 0 } }

abbrev pub block_answer : Outcome Header → BlockAnswer
block_answer (accepted h) = record { refusal = 0; system = number h.system; clips = h.clips; row = h.row; samples = h.samples }
block_answer (refused n) = record { refusal = n; system = 0; clips = no_clips; row = 0; samples = 0 }

-- request 2026-08: what reading gives, and the meter that the next call is to be given
abbrev pub metered_answer : Meter → Outcome Header → MeteredAnswer
metered_answer m o = record { meter = metering m o; block = block_answer o }

-- request 2026-11: the words of a triple of light, and R' and B' of words
abbrev pub constant_words_answer : Outcome Words → ConstantWordsAnswer
constant_words_answer (accepted w) = record { refusal = 0; words = w }
constant_words_answer (refused n) = record { refusal = n; words = no_words }

abbrev pub constant_codes_answer : Outcome ConstantClipped → ConstantCodesAnswer
constant_codes_answer (accepted c) = record { refusal = 0; clips = c.clips; codes = c.codes }
constant_codes_answer (refused n) = record { refusal = n; clips = no_clips; codes = record { r = 0; b = 0 } }

-- an answer that has no other values is its refusal
abbrev pub refusal_answer : Outcome (Unit {0}) → ℕ
refusal_answer (accepted u) = 0
refusal_answer (refused n) = n
