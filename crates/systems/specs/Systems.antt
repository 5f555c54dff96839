-- The four systems and their constants (document 01, 'Four systems'), and the weights (document 01, 'Triples'). docs/CONVERSION.md
-- retells document 01.
-- Definitions only.
use Rattle.std.specs.Prelude.{◌≡◌, Result, ℕ, ◌*◌, ◌-◌, ◌^◌, Bool, true, false, ◌&&◌, ◌||◌, List, [], ◌∷◌, leb, ltb, eqb}
use Rattle.exact.specs.Outcome.{Outcome, accepted, refused}
use Rattle.systems.specs.Refusals.{outcome}
use Rattle.systems.specs.declared.refusal.Refusal.{Refusal}
use Rattle.systems.specs.declared.System.{System}
use Rattle.systems.specs.declared.System.TheVariants.{Bt709Bits8, Bt709Bits10, Bt2020Bits10, Bt2020Bits12}
use Rattle.systems.specs.declared.Matrix.{Matrix}
use Rattle.systems.specs.declared.Matrix.TheVariants.{Bt709, Bt2020}
use Rattle.systems.specs.declared.Transfer.{Transfer}
use Rattle.systems.specs.declared.Range.{Range}
use Rattle.systems.specs.declared.Codes.{Codes}

-- a system's number
abbrev pub number : System → ℕ
number Bt709Bits8 = 1
number Bt709Bits10 = 2
number Bt2020Bits10 = 3
number Bt2020Bits12 = 4

abbrev pub matrix : System → Matrix
matrix Bt709Bits8 = Bt709
matrix Bt709Bits10 = Bt709
matrix Bt2020Bits10 = Bt2020
matrix Bt2020Bits12 = Bt2020

-- the bit depth n
abbrev pub bits : System → ℕ
bits Bt709Bits8 = 8
bits Bt709Bits10 = 10
bits Bt2020Bits10 = 10
bits Bt2020Bits12 = 12

-- s = 2^(n-8)
abbrev pub scale : System → ℕ
scale y = 2 ^ (bits y - 8)

-- α and β in ten-thousandths: 1.099 and 0.018, at 12 bits 1.0993 and 0.0181
abbrev pub transfer : System → Transfer
transfer Bt709Bits8 = record { alpha = 10990; beta = 180 }
transfer Bt709Bits10 = record { alpha = 10990; beta = 180 }
transfer Bt2020Bits10 = record { alpha = 10990; beta = 180 }
transfer Bt2020Bits12 = record { alpha = 10993; beta = 181 }

-- m = 128s
abbrev pub middle : System → ℕ
middle y = 128 * scale y

-- nominal R', G', B' and Y': 16s to 235s
abbrev pub nominal : System → Range
nominal y = record { low = 16 * scale y; high = 235 * scale y }

-- nominal Cb and Cr: 16s to 240s
abbrev pub nominal_difference : System → Range
nominal_difference y = record { low = 16 * scale y; high = 240 * scale y }

-- video data, what the timing codes leave: s to 255s-1
abbrev pub video_data : System → Range
video_data y = record { low = scale y; high = 255 * scale y - 1 }

-- a code is in a range, its ends included
abbrev pub within : Range → ℕ → Bool
within r d = leb r.low d && leb d r.high

-- so are all three codes of a sample
abbrev pub all_within : Range → Codes → Bool
all_within r d = within r d.r && within r d.g && within r d.b

-- the timing codes: 0 to s-1 and 255s to 256s-1
abbrev pub timing : System → ℕ → Bool
timing y d = ltb d (scale y) || (leb (255 * scale y) d && ltb d (256 * scale y))

-- kr, kg and kb in ten-thousandths
abbrev pub kr : Matrix → ℕ
kr Bt709 = 2126
kr Bt2020 = 2627

abbrev pub kg : Matrix → ℕ
kg Bt709 = 7152
kg Bt2020 = 6780

abbrev pub kb : Matrix → ℕ
kb Bt709 = 722
kb Bt2020 = 593

-- the first system of a list that has the number n, or refusal 1
abbrev pub named_in : List System → ℕ → Outcome System
named_in [] n = refused 1
named_in (y ∷ ys) n = elim (eqb n (number y)) [ true ↦ accepted y | false ↦ named_in ys n ]

-- the system that n names: one of the four, or refusal 1
abbrev pub named : ℕ → Outcome System
named = named_in (Bt709Bits8 ∷ Bt709Bits10 ∷ Bt2020Bits10 ∷ Bt2020Bits12 ∷ [])

-- a number's system, or the refusal, as `named` says
abbrev pub Names : ℕ → Result System Refusal → Type 0
Names n r = outcome r ≡ named n
