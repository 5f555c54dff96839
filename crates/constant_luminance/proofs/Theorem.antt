-- The calls' own statements and the claim of them, in one; and figures.
-- Assumes nothing.
use Prim.Native.Nat.{ℕ}
use mathlib.Core.Path.{◌≡◌, refl}
use Rattle.exact.specs.Outcome.{Outcome, accepted, refused}
use Rattle.exact.specs.Signed.{rounded}
use Rattle.exact.specs.Whole.{INT, greatest}
use Rattle.systems.specs.declared.refusal.Refusal.TheVariants as refusal
use Rattle.systems.specs.Systems.{video_data}
use Rattle.systems.proofs.Answerable.{Answerable, values, tested, followed, answer_for}
use Rattle.curve.specs.Curve.{dark, linear, reaches, curved, code_of, code}
use Rattle.luminance.specs.Luminance.{luminance_code}
use Rattle.matrix.specs.declared.Words.{Words}
use Rattle.matrix.specs.Triples.{words_within}
use Rattle.constant_luminance.specs.declared.Lights.{Lights}
use Rattle.constant_luminance.specs.declared.Clipped.{Clipped}
use Rattle.constant_luminance.specs.ConstantLuminance.{base, words_at, words_of_lights, codes_at, codes_of_words}
use Rattle.constant_luminance.proofs.words_of_lights.Statement as encode-statement
use Rattle.constant_luminance.proofs.words_of_lights.Met as encode-met
use Rattle.constant_luminance.proofs.codes_of_words.Statement as decode-statement
use Rattle.constant_luminance.proofs.codes_of_words.Met as decode-met
use Rattle.constant_luminance.proofs.Claims.{Claimed}
use Rattle.constant_luminance.proofs.Card.{Encodes, by_words_of_lights, Decodes, by_codes_of_words, card}
use Rattle.constant_luminance.proofs.Faithful.{Faithful, claimed}
use Rattle.constant_luminance.proofs.Numbers.{named_answerable}

-- ---- every call comes to something

pub words_answerable : (n : ℕ) (l : Lights) → Answerable (words_of_lights n l)
words_answerable n l = followed (named_answerable n) (λ y. values (words_at (base y) l))

pub codes_answerable : (n : ℕ) (w : Words) → Answerable (codes_of_words n w)
codes_answerable n w = followed (named_answerable n) (λ y. tested (words_within (video_data (base y)) w) refusal.Code (values (codes_at (base y) w)))

encodes_so : {n : ℕ} {l : Lights} {a : Outcome Words} → Encodes n l a → a ≡ words_of_lights n l
encodes_so (by_words_of_lights _ _ _ post) = post

decodes_so : {n : ℕ} {w : Words} {a : Outcome Clipped} → Decodes n w a → a ≡ codes_of_words n w
decodes_so (by_codes_of_words _ _ _ post) = post

faithful : Faithful card
faithful = record {
  encodes = encodes_so;
  decodes = decodes_so;
  encoding = λ n l. let r = answer_for (words_answerable n l) in (_, by_words_of_lights n l r.0 r.1);
  decoding = λ n w. let r = answer_for (codes_answerable n w) in (_, by_codes_of_words n w r.0 r.1);
}

-- each `Post` of the card is that of a contract which the routine meets
pub record Theorem : Type 3 where
  pub encodes : {M : Type 1} → encode-statement.statement M
  pub decodes : {M : Type 1} → decode-statement.statement M
  pub claims : Claimed card

pub theorem : Theorem
theorem = record { encodes = encode-met.met; decodes = decode-met.met; claims = claimed faithful }

-- ---- figures: the ends of both differences, the blue of a lamp, clips low and high, and the numbers of the other systems
abbrev lights : ℕ → ℕ → ℕ → Lights
lights r g b = record { r = r; g = g; b = b }

abbrev words : ℕ → ℕ → ℕ → Words
words y cb cr = record { y = y; cb = cb; cr = cr }

abbrev clipped : ℕ → ℕ → ℕ → ℕ → Outcome Clipped
clipped r b low high = accepted (record { codes = record { r = r; b = b }; clips = record { low = low; high = high } })

record Figures : Type 0 where
  red : words_of_lights 5 (lights 65535 0 0) ≡ accepted (words 505 280 960)
  blue : words_of_lights 5 (lights 0 0 65535) ≡ accepted (words 247 960 403)
  cyan : words_of_lights 5 (lights 0 65535 65535) ≡ accepted (words 817 592 64)
  yellow : words_of_lights 5 (lights 65535 65535 0) ≡ accepted (words 914 64 539)
  lamp : words_of_lights 5 (lights 1900 9000 60000) ≡ accepted (words 393 842 381)
  lamp_back : codes_of_words 5 (words 393 842 381) ≡ clipped 173 903 0 0
  lamp_12 : words_of_lights 6 (lights 1900 9000 60000) ≡ accepted (words 1573 3365 1523)
  lamp_12_back : codes_of_words 6 (words 1573 3365 1523) ≡ clipped 691 3610 0 0
  both_ends : codes_of_words 5 (words 600 900 4) ≡ clipped 4 1019 1 1
  low : codes_of_words 6 (words 17 2047 2047) ≡ clipped 16 16 2 0
  outside : codes_of_words 5 (words 3 512 512) ≡ refused 6
  other : words_of_lights 3 (lights 0 0 0) ≡ refused 1

figures : Figures
unfolding words_at codes_at luminance_code code code_of dark linear curved greatest reaches INT rounded
figures = record { red = refl; blue = refl; cyan = refl; yellow = refl; lamp = refl; lamp_back = refl; lamp_12 = refl; lamp_12_back = refl; both_ends = refl; low = refl; outside = refl; other = refl }
