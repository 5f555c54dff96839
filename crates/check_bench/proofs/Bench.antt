-- The starred bench values of document 01, with those of request 2026-03 in their places, the two lamps of request 2026-04, and words
-- that clip low and high in one triple (request 2026-07), shown of the definitions: one table, one theorem.
-- Assumes nothing.
use mathlib.Core.Path.{◌≡◌, refl}
use mathlib.Core.List.{List, [], ◌∷◌, map}
use Prim.Native.Nat.{ℕ}
use lib.Dec.{lit<, lit≤}
use lib.Ieee.{binary32, of_bits}
use Rattle.exact.specs.Whole.{INT, greatest}
use Rattle.exact.specs.Outcome.{Outcome, accepted, refused, ◌and_then◌}
use Rattle.curve.specs.Curve.{dark, linear, reaches, curved, code_of, code, least_light, greatest_light}
use Rattle.systems.specs.declared.System.TheVariants.{Bt709Bits8}
use Rattle.light.proofs.Spans.{span_by_ends}
use Rattle.light.specs.Light.{code_of_light, span_of_code}
use Rattle.signals.specs.Signals.{signal_codes}
use Rattle.exact.specs.Signed.{rounded}
use Rattle.matrix.specs.declared.Encoding.{Encoding}
use Rattle.matrix.specs.declared.Encoding.TheVariants.{Plain, Trim}
use Rattle.matrix.specs.Triples.{limited, codes_at, words_of_codes, codes_of_words}

-- what is given, with its system: a light, a code's span, a signal by its 32 bits in all three components, R, G and B codes with an
-- encoding, or Y', Cb and Cr words
data Case : Type 0 where
  light : ℕ → ℕ → Case
  span : ℕ → ℕ → Case
  signal : ℕ → ℕ → Case
  codes : ℕ → Encoding → ℕ → ℕ → ℕ → Case
  words : ℕ → ℕ → ℕ → ℕ → Case

-- the values that the definitions give
abbrev answer : Case → Outcome (List ℕ)
answer (light n k) = code_of_light n k and_then λ d. accepted (d ∷ [])
answer (span n d) = span_of_code n d and_then λ s. accepted (s.least ∷ s.greatest ∷ [])
answer (signal n bits) =
    let e = of_bits binary32 bits in
    signal_codes n (record { r = e; g = e; b = e }) and_then λ c. accepted (c.r ∷ c.g ∷ c.b ∷ [])
answer (codes n e r g b) =
    words_of_codes n e (record { r = r; g = g; b = b }) and_then λ l. accepted (l.words.y ∷ l.words.cb ∷ l.words.cr ∷ l.moved ∷ [])
answer (words n y cb cr) =
    codes_of_words n (record { y = y; cb = cb; cr = cr }) and_then λ c. accepted (c.codes.r ∷ c.codes.g ∷ c.codes.b ∷ c.clips.low ∷ c.clips.high ∷ [])

record Row : Type 0 where
  given : Case
  result : Outcome (List ℕ)

abbrev row : Case → List ℕ → Row
row c r = record { given = c; result = accepted r }

-- E' 0.5 and 0.375 have the bits 3F000000 and 3EC00000
abbrev table : List Row
table =
    row (light 1 33) (16 ∷ []) ∷ row (light 1 34) (17 ∷ [])
    ∷ row (span 1 17) (34 ∷ 99 ∷ []) ∷ row (light 1 32768) (171 ∷ [])
    ∷ row (light 4 1186) (541 ∷ []) ∷ row (light 4 1187) (542 ∷ [])
    ∷ row (light 1 0) (16 ∷ []) ∷ row (light 1 65535) (235 ∷ [])
    ∷ row (light 2 0) (64 ∷ []) ∷ row (light 2 65535) (940 ∷ [])
    ∷ row (light 3 0) (64 ∷ []) ∷ row (light 3 65535) (940 ∷ [])
    ∷ row (light 4 0) (256 ∷ []) ∷ row (light 4 65535) (3760 ∷ [])
    ∷ row (signal 1 0x3f00_0000) (126 ∷ 126 ∷ 126 ∷ [])
    ∷ row (signal 2 0x3ec0_0000) (393 ∷ 393 ∷ 393 ∷ [])
    ∷ row (codes 1 Plain 235 16 16) (63 ∷ 102 ∷ 240 ∷ 0 ∷ [])
    ∷ row (words 1 63 102 240) (235 ∷ 17 ∷ 16 ∷ 0 ∷ 0 ∷ [])
    ∷ row (codes 1 Plain 16 235 16) (173 ∷ 42 ∷ 26 ∷ 0 ∷ [])
    ∷ row (codes 3 Plain 940 64 64) (294 ∷ 387 ∷ 960 ∷ 0 ∷ [])
    ∷ row (words 1 16 240 240) (188 ∷ 1 ∷ 219 ∷ 1 ∷ 0 ∷ [])
    ∷ row (words 1 15 128 128) (15 ∷ 15 ∷ 15 ∷ 0 ∷ 0 ∷ [])
    ∷ row (words 1 180 1 1) (1 ∷ 254 ∷ 1 ∷ 2 ∷ 1 ∷ []) ∷ row (words 1 75 254 254) (254 ∷ 1 ∷ 254 ∷ 1 ∷ 2 ∷ [])
    ∷ record { given = words 1 0 128 128; result = refused 6 }
    ∷ row (codes 1 Plain 1 1 254) (19 ∷ 254 ∷ 116 ∷ 1 ∷ []) ∷ row (codes 1 Trim 1 1 254) (19 ∷ 240 ∷ 116 ∷ 1 ∷ [])
    ∷ row (codes 1 Plain 16 16 250) (33 ∷ 248 ∷ 117 ∷ 0 ∷ []) ∷ row (codes 1 Trim 16 16 250) (33 ∷ 240 ∷ 117 ∷ 1 ∷ [])
    ∷ []

span_of_17 : (least_light Bt709Bits8 17 ≡ 34) × (greatest_light Bt709Bits8 17 ≡ 99)
unfolding INT greatest dark linear reaches curved code_of code
span_of_17 = span_by_ends Bt709Bits8 17 33 99 (lit< tt) refl refl (lit< tt) (lit≤ tt)

bench_values : map (λ r. answer r.given) table ≡ map (λ r. r.result) table
unfolding INT greatest dark linear reaches curved code_of code of_bits rounded limited codes_at
bench_values = rw (span_of_17.0, span_of_17.1)
