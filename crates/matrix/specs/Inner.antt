-- Inner definitions: each matrix as three rows of three whole numbers, and fixed point. Nothing here has to be believed but, for the
-- claims on words of video data, `CodesIn`, `WordsIn`, `nominal_at` and `video_at`.
-- Definitions only.
use Rattle.std.specs.Prelude.{ℕ, ◌+◌, ◌*◌, ◌-◌, ◌/◌, ◌^◌, ◌≤◌, ◌<◌, ◌≡◌, List, [], ◌∷◌, ℤ, pos, neg_ℤ, nat_abs, ◌+ℤ◌, ◌-ℤ◌, ◌*ℤ◌, get_or}
use Rattle.std.specs.Int.Signed.{shr_z}
use Rattle.systems.specs.declared.Matrix.{Matrix}
use Rattle.systems.specs.declared.Range.{Range}
use Rattle.systems.specs.Systems.{kr, kg, kb}
use Rattle.exact.specs.Signed.{Ratio, rounded}
use Rattle.systems.specs.declared.Codes.{Codes}
use Rattle.matrix.specs.declared.WideCodes.{WideCodes}
use Rattle.matrix.specs.declared.Words.{Words}
use Rattle.matrix.specs.declared.WordRanges.{WordRanges}
use Rattle.matrix.specs.declared.Unclipped.{Unclipped}
use Rattle.matrix.specs.declared.Unlimited.{Unlimited}
use Rattle.matrix.specs.Triples.{signed, red_of, green_of, blue_of}

-- the codes that are held as wide as a register
abbrev pub narrow : WideCodes → Codes
narrow c = record { r = c.r; g = c.g; b = c.b }

-- codes that a range holds, and words that their ranges hold
pub record CodesIn (n : Range) (c : Codes) : Type 0 where
  pub r_low : n.low ≤ c.r
  pub r_high : c.r ≤ n.high
  pub g_low : n.low ≤ c.g
  pub g_high : c.g ≤ n.high
  pub b_low : n.low ≤ c.b
  pub b_high : c.b ≤ n.high

pub record WordsIn (n : WordRanges) (w : Words) : Type 0 where
  pub y_low : n.luma.low ≤ w.y
  pub y_high : w.y ≤ n.luma.high
  pub cb_low : n.difference.low ≤ w.cb
  pub cb_high : w.cb ≤ n.difference.high
  pub cr_low : n.difference.low ≤ w.cr
  pub cr_high : w.cr ≤ n.difference.high

-- nominal and video data at the scale s
abbrev pub nominal_at : ℕ → WordRanges
nominal_at s = record { luma = record { low = 16 * s; high = 235 * s }; difference = record { low = 16 * s; high = 240 * s } }

abbrev pub video_at : ℕ → Range
video_at s = record { low = s; high = 255 * s - 1 }

abbrev pub NominalCodes : ℕ → Codes → Type 0
NominalCodes s = CodesIn (nominal_at s).luma

-- codes and words of at most 12 bits
pub record TwelveBitCodes (c : Codes) : Type 0 where
  pub r_high : c.r < 2 ^ 12
  pub g_high : c.g < 2 ^ 12
  pub b_high : c.b < 2 ^ 12

pub record TwelveBitWords (w : Words) : Type 0 where
  pub y_high : w.y < 2 ^ 12
  pub cb_high : w.cb < 2 ^ 12
  pub cr_high : w.cr < 2 ^ 12

-- numbers that a word holds
pub record WordSized (v : Unlimited) : Type 0 where
  pub y : ℕ
  pub cb : ℕ
  pub cr : ℕ
  pub is : v ≡ record { y = pos y; cb = pos cb; cr = pos cr }
  pub y_high : y < 2 ^ 16
  pub cb_high : cb < 2 ^ 16
  pub cr_high : cr < 2 ^ 16

-- a row by a triple
abbrev pub dotted : List ℤ → List ℤ → ℤ
dotted row t =
    get_or row 0 (pos 0) *ℤ get_or t 0 (pos 0) +ℤ get_or row 1 (pos 0) *ℤ get_or t 1 (pos 0) +ℤ get_or row 2 (pos 0) *ℤ get_or t 2 (pos 0)

-- a row and a triple whose product an i64 holds
pub record Small (row t : List ℤ) : Type 0 where
  pub first : nat_abs (get_or row 0 (pos 0)) ≤ 2 ^ 49
  pub others : nat_abs (get_or row 1 (pos 0)) + nat_abs (get_or row 2 (pos 0)) ≤ 2 ^ 50
  pub triple_0 : nat_abs (get_or t 0 (pos 0)) ≤ 2 ^ 12
  pub triple_1 : nat_abs (get_or t 1 (pos 0)) ≤ 2 ^ 12
  pub triple_2 : nat_abs (get_or t 2 (pos 0)) ≤ 2 ^ 12

-- by (R, G, B) they give 10000 times Y', Y' - B and Y' - R
unfoldable pub encoding_rows : Matrix → List (List ℤ)
encoding_rows x =
    (pos (kr x) ∷ pos (kg x) ∷ pos (kb x) ∷ [])
    ∷ (pos (kr x) ∷ pos (kg x) ∷ (pos (kb x) -ℤ pos 10000) ∷ [])
    ∷ ((pos (kr x) -ℤ pos 10000) ∷ pos (kg x) ∷ pos (kb x) ∷ [])
    ∷ []

-- m - z·224/(219·2·(10000 - k)): Cb or Cr of z, 10000 times what Y' is above the colour, and k, the colour's weight
abbrev pub colour_difference : ℤ → ℕ → ℕ → Ratio
colour_difference z k m = record { top = pos (m * (219 * 2 * (10000 - k))) -ℤ z *ℤ pos 224; bottom = 219 * 2 * (10000 - k) }

-- fixed point with 49 fraction bits
abbrev pub unit : ℕ
unit = 2 ^ 49

-- the fraction a/d in fixed point, rounded down
abbrev pub fixed : ℕ → ℕ → ℕ
fixed a d = a * unit / d

-- by (Y', cb, cr) they give R, G and B in fixed point, but for what the entries are rounded
unfoldable pub decoding_rows : Matrix → List (List ℤ)
decoding_rows x =
    let y = 224 * 10000 in
    (pos unit ∷ pos 0 ∷ pos (fixed (219 * 2 * (10000 - kr x)) y) ∷ [])
    ∷ (pos unit ∷ neg_ℤ (pos (fixed (219 * 2 * kb x * (10000 - kb x)) (y * kg x))) ∷ neg_ℤ (pos (fixed (219 * 2 * kr x * (10000 - kr x)) (y * kg x))) ∷ [])
    ∷ (pos unit ∷ pos (fixed (219 * 2 * (10000 - kb x)) y) ∷ pos 0 ∷ [])
    ∷ []

-- what they multiply
abbrev pub decoding_column : ℕ → Words → List ℤ
decoding_column s w = pos w.y ∷ signed s w.cb ∷ signed s w.cr ∷ []

-- no cb or cr is further from 0
abbrev pub reach : ℕ
reach = 2 ^ 12

-- a sum of two rounded entries, by cb and cr, to the nearest whole number: the entries are short by less than 1 each
abbrev pub from_fixed : ℤ → ℤ
from_fixed z = shr_z (z +ℤ pos (unit / 2 + (reach + reach))) unit

-- R, G and B before they are clipped
unfoldable pub unclipped_at : Matrix → ℕ → Words → Unclipped
unclipped_at x s w = record { r = rounded (red_of x s w); g = rounded (green_of x s w); b = rounded (blue_of x s w) }
