-- What is claimed of constant luminance, of the exported functions; and that all other calls refuse its numbers.
-- Assumes nothing.
use Prim.Native.Nat.{ℕ, ◌≤◌}
use mathlib.Core.Path.{◌≡◌, refl, ap}
use mathlib.Core.List.{List}
use borrow.Author.Tests.{le-leb}
use lib.ListN.{length, get_or}
use Rattle.exact.specs.Outcome.{Outcome, refused}
use Rattle.systems.specs.declared.Codes.{Codes}
use Rattle.systems.specs.Systems.{named}
use Rattle.systems.proofs.Answerable.{Answerable, values, refusing, never_0}
use Rattle.light.specs.Light.{code_of_light, span_of_code}
use Rattle.signals.specs.declared.Signals.{Signals}
use Rattle.signals.specs.Signals.{signal_codes, code_signals}
use Rattle.matrix.specs.declared.Encoding.{Encoding}
use Rattle.matrix.specs.declared.Words.{Words}
use Rattle.matrix.specs.Triples.{words_of_codes, codes_of_words}
use Rattle.levels.specs.Levels.{level_of_code, level_of_difference}
use Rattle.block.specs.Read.{walk, judge, header_of}
use Rattle.depth.specs.Depth.{changing}
use Rattle.picture.specs.declared.Phase.TheVariants.{Fresh, Closed}
use Rattle.picture.specs.Picture.{begin, open_from}
use Rattle.constant_luminance.specs.declared.Lights.{Lights}
use Rattle.constant_luminance.specs.declared.Clipped.{Clipped}
use Rattle.constant_luminance.specs.ConstantLuminance as constant
use Rattle.constant_luminance.proofs.Claims.{Claimed}
use Rattle.constant_luminance.proofs.Faithful.{claimed}
use Rattle.constant_luminance.proofs.Theorem.{words_answerable, codes_answerable}
use Rattle.ferghulta.specs.declared.constant_calls.ConstantWordsAnswer.{ConstantWordsAnswer}
use Rattle.ferghulta.specs.declared.constant_calls.ConstantCodesAnswer.{ConstantCodesAnswer}
use Rattle.ferghulta.specs.Answers.{constant_words_answer, constant_codes_answer}
use Rattle.ferghulta.proofs.Card.{constant_words_by, constant_codes_by, Encodes, by_words_of_lights, Decodes, by_codes_of_words, constant_card}

words_told : {o : Outcome Words} {a : ConstantWordsAnswer} → Answerable o → a ≡ constant_words_answer o → constant_words_by a ≡ o
words_told (values w) e = ap constant_words_by e
words_told (refusing r) e = rw e (simp (never_0 r))

codes_told : {o : Outcome Clipped} {a : ConstantCodesAnswer} → Answerable o → a ≡ constant_codes_answer o → constant_codes_by a ≡ o
codes_told (values c) e = ap constant_codes_by e
codes_told (refusing r) e = rw e (simp (never_0 r))

encodes_so : {n : ℕ} {l : Lights} {a : Outcome Words} → Encodes n l a → a ≡ constant.words_of_lights n l
encodes_so {n} {l} (by_words_of_lights _ _ _ post) = words_told (words_answerable n l) post

decodes_so : {n : ℕ} {w : Words} {a : Outcome Clipped} → Decodes n w a → a ≡ constant.codes_of_words n w
decodes_so {n} {w} (by_codes_of_words _ _ _ post) = codes_told (codes_answerable n w) post

pub constant_luminance : Claimed constant_card
constant_luminance = claimed (record {
  encodes = encodes_so;
  decodes = decodes_so;
  encoding = λ n l. (_, by_words_of_lights n l (constant_words_answer (constant.words_of_lights n l)) refl);
  decoding = λ n w. (_, by_codes_of_words n w (constant_codes_answer (constant.codes_of_words n w)) refl);
})

-- a number that every other call refuses with 1; a block is refused so that names it, and a picture that is not open
pub record Refused1 (n : ℕ) : Type 0 where
  pub light : (k : ℕ) → code_of_light n k ≡ refused 1
  pub span : (d : ℕ) → span_of_code n d ≡ refused 1
  pub signals : (e : Signals) → signal_codes n e ≡ refused 1
  pub codes : (c : Codes) → code_signals n c ≡ refused 1
  pub words : (e : Encoding) (c : Codes) → words_of_codes n e c ≡ refused 1
  pub back : (w : Words) → codes_of_words n w ≡ refused 1
  pub level : (d : ℕ) → level_of_code n d ≡ refused 1
  pub difference : (d : ℕ) → level_of_difference n d ≡ refused 1
  pub block : (bs : List ℕ) (room : ℕ) → 3 ≤ length bs → get_or bs 0 0 ≡ n → header_of bs room ≡ refused 1
  pub depth : (bs : List ℕ) (room : ℕ) → changing n bs room ≡ refused 1
  pub fresh : (w h : ℕ) → open_from Fresh n w h ≡ refused 1
  pub closed : (w h : ℕ) → open_from Closed n w h ≡ refused 1

refused_1 : (n : ℕ) → named n ≡ refused 1 → Refused1 n
unfolding header_of judge walk changing begin
refused_1 n e = record {
  light = λ k. rw (e);
  span = λ d. rw (e);
  signals = λ s. rw (e);
  codes = λ c. rw (e);
  words = λ x c. rw (e);
  back = λ w. rw (e);
  level = λ d. rw (e);
  difference = λ d. rw (e);
  block = λ bs room l f. rw (le-leb 3 (length bs) l, f, e);
  depth = λ bs room. rw (e);
  fresh = λ w h. rw (e);
  closed = λ w h. rw (e);
}

pub others_refuse : Refused1 5 × Refused1 6
others_refuse = (refused_1 5 refl, refused_1 6 refl)
