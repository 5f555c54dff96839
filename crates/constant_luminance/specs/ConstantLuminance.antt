-- Constant luminance (request 2026-11): Y'c, C'bc and C'rc of a triple of light, and R' and B' back. Inside INT stands the exact
-- rational, here as one ratio.
-- Definitions only.
use Rattle.std.specs.Prelude.{◌≡◌, Result, ℕ, ◌+◌, ◌*◌, true, false, leb, eqb, pos, ◌+ℤ◌, ◌-ℤ◌, ◌*ℤ◌}
use Rattle.exact.specs.Signed.{Ratio, rounded}
use Rattle.exact.specs.Outcome.{Outcome, accepted, refused, ◌and_then◌, require}
use Rattle.systems.specs.declared.System.{System}
use Rattle.systems.specs.declared.System.TheVariants.{Bt2020Bits10, Bt2020Bits12}
use Rattle.systems.specs.declared.Matrix.TheVariants.{Bt2020}
use Rattle.systems.specs.Systems.{kr, kg, kb, middle, video_data}
use Rattle.systems.specs.Refusals.{outcome}
use Rattle.systems.specs.declared.refusal.Refusal.{Refusal}
use Rattle.curve.specs.Curve.{code}
use Rattle.luminance.specs.Luminance.{luminance_code}
use Rattle.matrix.specs.declared.Words.{Words}
use Rattle.matrix.specs.declared.Unlimited.{Unlimited}
use Rattle.matrix.specs.Triples.{worded, clipped, beyond, ◌plus◌, words_within}
use Rattle.constant_luminance.specs.declared.ConstantSystem.{ConstantSystem}
use Rattle.constant_luminance.specs.declared.ConstantSystem.TheVariants.{Bits10, Bits12}
use Rattle.constant_luminance.specs.declared.Lights.{Lights}
use Rattle.constant_luminance.specs.declared.Divisors.{Divisors}
use Rattle.constant_luminance.specs.declared.Clipped.{Clipped}

-- the number of a system of constant luminance
abbrev pub number : ConstantSystem → ℕ
number Bits10 = 5
number Bits12 = 6

-- the system that it takes n, α and β of
abbrev pub base : ConstantSystem → System
base Bits10 = Bt2020Bits10
base Bits12 = Bt2020Bits12

-- the system of constant luminance that n names, or refusal 1
abbrev pub named : ℕ → Outcome ConstantSystem
named n = elim (eqb n 5) [ true ↦ accepted Bits10 | false ↦ elim (eqb n 6) [ true ↦ accepted Bits12 | false ↦ refused 1 ] ]

-- a number's system, or the refusal, as `named` says
abbrev pub Names : ℕ → Result ConstantSystem Refusal → Type 0
Names n r = outcome r ≡ named n

-- 0.2627·R + 0.6780·G + 0.0593·B of light, exactly: a luminance of 10000·65535
abbrev pub luminance : Lights → ℕ
luminance l = kr Bt2020 * l.r + kg Bt2020 * l.g + kb Bt2020 * l.b

-- what B' - Y'c and R' - Y'c are divided by, in ten-thousandths, where they are not above zero and where they are
abbrev pub blue : Divisors
blue = record { low = 19404; high = 15820 }

abbrev pub red : Divisors
red = record { low = 17182; high = 9938 }

-- the divisor of the difference a - b
abbrev pub divisor : Divisors → ℕ → ℕ → ℕ
divisor v a b = elim (leb a b) [ true ↦ v.low | false ↦ v.high ]

-- C'bc of the codes B' and Y'c, C'rc of R' and Y'c: (B' - Y'c)·10000·224/(219·divisor) + m
abbrev pub difference : Divisors → ℕ → ℕ → ℕ → Ratio
difference v m d y =
    let n = divisor v d y in
    record { top = (pos d -ℤ pos y) *ℤ pos (10000 * 224) +ℤ pos (m * (219 * n)); bottom = 219 * n }

-- Y'c, the code of the exact sum
abbrev pub luma_of : System → Lights → ℕ
luma_of y l = luminance_code y (luminance l)

abbrev pub cb_of : System → Lights → Ratio
cb_of y l = difference blue (middle y) (code y l.b) (luma_of y l)

abbrev pub cr_of : System → Lights → Ratio
cr_of y l = difference red (middle y) (code y l.r) (luma_of y l)

-- the words of a triple of light as INT leaves them
abbrev pub encoded_at : System → Lights → Unlimited
encoded_at y l = record { y = pos (luma_of y l); cb = rounded (cb_of y l); cr = rounded (cr_of y l) }

-- as words: of every triple of light INT leaves nominal ones, so that none is moved
unfoldable pub words_at : System → Lights → Words
words_at y l = worded (encoded_at y l)

-- the words of a triple of light in the system that n names, or refusal 1
abbrev pub words_of_lights : ℕ → Lights → Outcome Words
words_of_lights n l = named n and_then λ (y : ConstantSystem). accepted (words_at (base y) l)

-- R' of Y'c and the word C'rc, B' of Y'c and C'bc, with q = 219/224 and the divisor by the side of m: Y'c + q·(C'rc - m)·divisor/10000
abbrev pub primary : Divisors → ℕ → ℕ → ℕ → Ratio
primary v m y w = record { top = pos (224 * 10000 * y) +ℤ (pos w -ℤ pos m) *ℤ pos (219 * divisor v w m); bottom = 224 * 10000 }

abbrev pub red_of : System → Words → Ratio
red_of y w = primary red (middle y) w.y w.cr

abbrev pub blue_of : System → Words → Ratio
blue_of y w = primary blue (middle y) w.y w.cb

-- R' and B' of a triple of words, clipped to video data, and their clips
unfoldable pub codes_at : System → Words → Clipped
codes_at y w =
    let r = rounded (red_of y w) in
    let b = rounded (blue_of y w) in
    record {
      codes = record { r = clipped (video_data y) r; b = clipped (video_data y) b };
      clips = beyond (video_data y) r plus beyond (video_data y) b;
    }

-- R' and B' of a word triple in the system that n names, or refusal 1 or 6
abbrev pub codes_of_words : ℕ → Words → Outcome Clipped
codes_of_words n w = named n and_then λ (y : ConstantSystem). require (words_within (video_data (base y)) w) 6 (accepted (codes_at (base y) w))
