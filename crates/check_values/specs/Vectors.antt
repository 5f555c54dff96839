-- The records of the files that reference/make_values.py makes, and whether the conversion agrees with them. Definitions only.
use Rattle.std.specs.Prelude.{ℕ, zero, suc, ◌+◌, ◌-◌, ◌*◌, ◌/◌, ◌%◌, ◌^◌, Bool, false, cond, ◌&&◌, List, ◌==◌, from_bits, nat_lt, to_bits, Float, Result, Ok, Err}
use Rattle.std.specs.Float.{nan, binary32}
use Rattle.std.specs.Float.Ieee.{eq}
use Rattle.exact.specs.Outcome.{Outcome, accepted, refused}
use Rattle.systems.specs.declared.Codes.{Codes}
use Rattle.light.specs.declared.Span.{Span}
use Rattle.light.specs.Light.{code_of_light, span_of_code}
use Rattle.signals.specs.declared.Signals.{Signals}
use Rattle.signals.specs.Signals.{signal_codes, code_signals}
use Rattle.check_records.specs.declared.tally.Tally.{Tally}
use Rattle.check_records.specs.Records.{u16_at, u32_at, none, tallied, scale_of}
use Rattle.check_values.specs.declared.place.Place.{Place}
use Rattle.check_values.specs.declared.quantised.Case.{Case}
use Rattle.check_values.specs.declared.restored.Bits.{Bits}

-- a float has these bits: a NaN, which does not equal itself, has none
abbrev pub has_bits : Float → ℕ → Bool
has_bits x bits = cond (eq x x) (to_bits binary32 x == bits) false

-- a call is refused with this number
abbrev pub refused_with : {A : Type 0} → Outcome A → ℕ → Bool
refused_with (accepted a) n = false
refused_with (refused k) n = k == n

-- triples by their components
abbrev pub codes : ℕ → ℕ → ℕ → Codes
codes r g b = record { r = r; g = g; b = b }

abbrev pub signals : Float → Float → Float → Signals
signals r g b = record { r = r; g = g; b = b }

-- the code after one: the next system's black after white
abbrev pub next_place : Place → Place
next_place p =
    let n = (p.system + 1) % 2 ^ 32 in
    cond (nat_lt p.code (235 * scale_of p.system)) (record { system = p.system; code = p.code + 1 }) (record { system = n; code = 16 * scale_of n })

-- the code of record i: from system 1's black on
unfoldable pub place_at : ℕ → Place
place_at zero = record { system = 1; code = 16 }
place_at (suc i) = next_place (place_at i)

-- ---- 'spans': the least and the greatest light of each code, 4 bytes a record

abbrev pub span_in : List ℕ → ℕ → Span
span_in bs i = record { least = u16_at bs i; greatest = u16_at bs (i + 2) }

abbrev pub span_met : Outcome Span → Span → Bool
span_met (accepted s) t = s.least == t.least && s.greatest == t.greatest
span_met (refused n) t = false

abbrev pub is_span : Place → Span → Bool
is_span p t = span_met (span_of_code p.system p.code) t

abbrev pub span_at : List ℕ → ℕ → Bool
span_at bs i = is_span (place_at i) (span_in bs (4 * i))

abbrev pub code_met : Outcome ℕ → ℕ → Bool
code_met (accepted c) d = c == d
code_met (refused n) d = false

abbrev pub has_code : Place → ℕ → Bool
has_code p light = code_met (code_of_light p.system light) p.code

-- n lights more from a light on: each has the place's code, where the span begins as it must
unfoldable pub lights_tallied : Place → Bool → ℕ → ℕ → Tally → Tally
lights_tallied p begins first zero t = t
lights_tallied p begins first (suc n) t = tallied (lights_tallied p begins first n t) (begins && has_code p (first + n))

-- the lights of a span, which has to begin at a light
abbrev pub span_tallied : Place → ℕ → Span → Tally → Tally
span_tallied p first s t = lights_tallied p (s.least == first) first (s.greatest + 1 - first) t

-- where the span of the next place has to begin: at 0 for black
abbrev pub after : Span → Place → ℕ
after s p = cond (p.code == 16 * scale_of p.system) 0 (s.greatest + 1)

unfoldable pub first_at : List ℕ → ℕ → ℕ
first_at bs zero = 0
first_at bs (suc i) = after (span_in bs (4 * i)) (place_at (suc i))

unfoldable pub lights_to : List ℕ → ℕ → Tally
lights_to bs zero = none
lights_to bs (suc i) = span_tallied (place_at i) (first_at bs i) (span_in bs (4 * i)) (lights_to bs i)

-- ---- 'signals': a signal's bits, and its code in a system, or 0 where it is refused with 7; 8 bytes a record

abbrev pub due_in : List ℕ → ℕ → Result ℕ ℕ
due_in bs i = let code = u16_at bs i in cond (code == 0) (Err 7) (Ok code)

abbrev pub case_in : List ℕ → ℕ → Case
case_in bs i = record { system = u16_at bs i; signal = from_bits binary32 (u32_at bs (i + 4)); due = due_in bs (i + 2) }

abbrev pub codes_met : Outcome Codes → Result Codes ℕ → Bool
codes_met (accepted c) (Ok d) = c.r == d.r && (c.g == d.g && c.b == d.b)
codes_met (accepted c) (Err n) = false
codes_met (refused k) (Ok d) = false
codes_met (refused k) (Err n) = k == n

abbrev pub is_met : ℕ → Signals → Result Codes ℕ → Bool
is_met n e due = codes_met (signal_codes n e) due

-- the codes that are due where one is
abbrev pub codes_with : (ℕ → Codes) → Result ℕ ℕ → Result Codes ℕ
codes_with at_code (Ok code) = Ok (at_code code)
codes_with at_code (Err n) = Err n

-- 0.5, and its code: 125.5·s, the half going up
abbrev pub half : Float
half = from_bits binary32 0x3f00_0000

abbrev pub half_code : ℕ → ℕ
half_code n = (251 * scale_of n + 1) / 2

-- the signal as R', as G' and as B', where the other two are 0.5
unfoldable pub signal_tallied : Case → Tally → Tally
signal_tallied c t =
    let x = c.signal in
    let h = half_code c.system in
    tallied (tallied (tallied t
    (is_met c.system (signals x half half) (codes_with (λ code. codes code h h) c.due)))
    (is_met c.system (signals half x half) (codes_with (λ code. codes h code h) c.due)))
    (is_met c.system (signals half half x) (codes_with (λ code. codes h h code) c.due))

unfoldable pub signals_to : List ℕ → ℕ → Tally
signals_to bs zero = none
signals_to bs (suc i) = signal_tallied (case_in bs (8 * i)) (signals_to bs i)

-- ---- 'restored': the bits of each code's signal, 4 bytes a record

abbrev pub bits_met : Outcome Signals → Bits → Bool
bits_met (accepted s) b = has_bits s.r b.r && has_bits s.g b.g && has_bits s.b b.b
bits_met (refused n) b = false

abbrev pub is_restored : ℕ → Codes → Bits → Bool
is_restored n d b = bits_met (code_signals n d) b

-- the bits of 0 and 1
abbrev pub zero_bits : ℕ
zero_bits = 0

abbrev pub one_bits : ℕ
one_bits = 0x3f80_0000

-- the code as R', as G' and as B', where the other two are black and white
unfoldable pub code_tallied : Place → ℕ → Tally → Tally
code_tallied p bits t =
    let n = p.system in
    let c = p.code in
    let black = 16 * scale_of n in
    let white = 235 * scale_of n in
    tallied (tallied (tallied t
    (is_restored n (codes c black white) (record { r = bits; g = zero_bits; b = one_bits })))
    (is_restored n (codes white c black) (record { r = one_bits; g = bits; b = zero_bits })))
    (is_restored n (codes black white c) (record { r = zero_bits; g = one_bits; b = bits }))

unfoldable pub restored_to : List ℕ → ℕ → Tally
restored_to bs zero = none
restored_to bs (suc i) = code_tallied (place_at i) (u32_at bs (4 * i)) (restored_to bs i)

-- ---- refusals

-- a code that is not nominal is refused with 6
unfoldable pub code_refused : ℕ → ℕ → Tally → Tally
code_refused n c t =
    let good = 16 * scale_of n in
    tallied (tallied (tallied (tallied t
    (refused_with (span_of_code n c) 6))
    (refused_with (code_signals n (codes c good good)) 6))
    (refused_with (code_signals n (codes good c good)) 6))
    (refused_with (code_signals n (codes good good c)) 6)

-- the codes next to the nominal range, and the ends of all codes
unfoldable pub codes_refused : ℕ → Tally → Tally
codes_refused n t = code_refused n 65535 (code_refused n 0 (code_refused n (235 * scale_of n + 1) (code_refused n (16 * scale_of n - 1) t)))

-- those of the first n systems
unfoldable pub codes_to : ℕ → Tally
codes_to zero = none
codes_to (suc n) = codes_refused (suc n) (codes_to n)

-- an unknown system is refused with 1, also where a code or a signal is wrong too
unfoldable pub system_refused : ℕ → Tally → Tally
system_refused n t =
    tallied (tallied (tallied (tallied (tallied (tallied (tallied t
    (refused_with (code_of_light n 0) 1))
    (refused_with (span_of_code n 100) 1))
    (refused_with (span_of_code n 0) 1))
    (refused_with (code_signals n (codes 100 100 100)) 1))
    (refused_with (code_signals n (codes 0 0 0)) 1))
    (refused_with (signal_codes n (signals half half half)) 1))
    (refused_with (signal_codes n (signals nan nan nan)) 1)

abbrev pub refusals_tally : Tally
refusals_tally = system_refused 4294967295 (system_refused 5 (system_refused 0 (codes_to 4)))
