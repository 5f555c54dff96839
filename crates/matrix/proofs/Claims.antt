-- What the rules leave, what trim before the guard changes (request 2026-04), and what clips low and high count (request 2026-07), stated.
-- Definitions only.
use mathlib.Core.Path.{◌≡◌}
use mathlib.Core.Bool.{true, false}
use mathlib.Core.List.{List, [], ◌∷◌}
use Prim.Native.Nat.{ℕ, ◌+◌, ◌*◌, ◌-◌, ◌≤◌}
use lib.IntN.{ℤ, pos}
use lib.Signed.{lt_z}
use Rattle.exact.specs.Signed.{rounded}
use Rattle.exact.specs.Outcome.{Outcome, accepted, refused, ◌and_then◌, require}
use Rattle.systems.specs.declared.Codes.{Codes}
use Rattle.systems.specs.declared.Range.{Range}
use Rattle.systems.specs.declared.System.{System}
use Rattle.systems.specs.Systems.{matrix, scale, nominal, nominal_difference, video_data, all_within, named}
use Rattle.matrix.specs.declared.Encoding.{Encoding}
use Rattle.matrix.specs.declared.Encoding.TheVariants.{Plain, Trim}
use Rattle.matrix.specs.declared.Limited.{Limited}
use Rattle.matrix.specs.declared.Unlimited.{Unlimited}
use Rattle.matrix.specs.declared.Words.{Words}
use Rattle.matrix.specs.declared.WordRanges.{WordRanges}
use Rattle.matrix.specs.declared.Clips.{Clips}
use Rattle.matrix.specs.declared.Clipped.{Clipped}
use Rattle.matrix.specs.Triples.{limited_by, encoded_at, words_of_codes, red_of, green_of, blue_of, words_within, codes_at}
use Rattle.matrix.specs.Inner.{nominal_at, video_at}

-- ---- what the rules leave

-- the range that an encoding holds a word to
abbrev pub range_of : Encoding → Range → Range → Range
range_of Plain video nominal = video
range_of Trim video nominal = nominal

-- at the scale s: in trim encoding every word is nominal, in plain encoding every word is video data
abbrev pub ranges_of : Encoding → ℕ → WordRanges
ranges_of e s = record { luma = range_of e (video_at s) (nominal_at s).luma; difference = range_of e (video_at s) (nominal_at s).difference }

-- ---- what trim before the guard changes: the rules as they were are kept here, beside those of the product

-- the rules of an encoding in the order in which they were tried: the guard, then trim if it is chosen
abbrev pub former_rules : Encoding → Range → Range → List Range
former_rules Plain video nominal = video ∷ []
former_rules Trim video nominal = video ∷ nominal ∷ []

-- the words of a code triple as they were
abbrev pub formerly : ℕ → Encoding → Codes → Outcome Limited
formerly n e c =
    named n and_then λ (y : System).
    require (all_within (video_data y) c) 6
    (accepted (limited_by (former_rules e (video_data y) (nominal y)) (former_rules e (video_data y) (nominal_difference y)) (encoded_at (matrix y) (scale y) c)))

-- Cb or Cr of trim encoding at the scale s, what it was and what it is now, where INT left v
pub record Colour (s : ℕ) (v : ℤ) (was now : ℕ) : Type 0 where
  pub above : lt_z (pos (255 * s - 1)) v ≡ true → (was ≡ 255 * s - 1) × (now ≡ 240 * s)
  pub below : lt_z v (pos s) ≡ true → (was ≡ s) × (now ≡ 16 * s)
  pub other : lt_z v (pos s) ≡ false → lt_z (pos (255 * s - 1)) v ≡ false → now ≡ was

-- an answer of trim encoding as it was and as it is, where INT left v; Y' and the count stay
pub record Change (s : ℕ) (v : Unlimited) (was now : Limited) : Type 0 where
  pub y : now.words.y ≡ was.words.y
  pub cb : Colour s v.cb was.words.cb now.words.cb
  pub cr : Colour s v.cr was.words.cr now.words.cr
  pub moved : now.moved ≡ was.moved

-- in the system that n names
pub record Trimmed (n : ℕ) (c : Codes) (was now : Limited) : Type 0 where
  pub system : System
  pub of : named n ≡ accepted system
  pub change : Change (scale system) (encoded_at (matrix system) (scale system) c) was now

-- two answers that are refused with the same number, or accepted and related by R
abbrev pub Alike : {A B : Type 0} → (A → B → Type 0) → Outcome A → Outcome B → Type 0
Alike R (accepted was) (accepted now) = R was now
Alike R (refused was) (refused now) = now ≡ was
Alike R (accepted was) (refused now) = ⊥
Alike R (refused was) (accepted now) = ⊥

-- the answers for a code triple in the system that n names, as they were and as they are
pub record TheseChange (n : ℕ) (c : Codes) : Type 0 where
  pub plain : words_of_codes n Plain c ≡ formerly n Plain c
  pub trim : Alike (Trimmed n c) (formerly n Trim c) (words_of_codes n Trim c)

-- ---- clips low and high: the clipped total as it was is kept here, beside the counts of the product

-- 1 where a component is beyond the range
abbrev pub formerly_beyond : Range → ℤ → ℕ
formerly_beyond n v = elim (lt_z v (pos n.low)) [ true ↦ 1 | false ↦ elim (lt_z (pos n.high) v) [ true ↦ 1 | false ↦ 0 ] ]

-- the clipped total of a triple of words
unfoldable pub former_total : System → Words → ℕ
former_total y w =
    formerly_beyond (video_data y) (rounded (red_of (matrix y) (scale y) w))
    + formerly_beyond (video_data y) (rounded (green_of (matrix y) (scale y) w))
    + formerly_beyond (video_data y) (rounded (blue_of (matrix y) (scale y) w))

-- the codes of a word triple with their clipped total, as they were
pub record Totalled : Type 0 where
  pub codes : Codes
  pub total : ℕ

abbrev pub formerly_decoded : ℕ → Words → Outcome Totalled
formerly_decoded n w =
    named n and_then λ (y : System).
    require (words_within (video_data y) w) 6
    (accepted (record { codes = (codes_at (matrix y) (scale y) (video_data y) w).codes; total = former_total y w }))

-- what a component counts, where INT left v: one low, one high or none, and never in both
pub record ComponentClips (n : Range) (v : ℤ) (k : Clips) : Type 0 where
  pub below : lt_z v (pos n.low) ≡ true → k ≡ record { low = 1; high = 0 }
  pub above : lt_z (pos n.high) v ≡ true → k ≡ record { low = 0; high = 1 }
  pub other : lt_z v (pos n.low) ≡ false → lt_z (pos n.high) v ≡ false → k ≡ record { low = 0; high = 0 }

-- what R, G and B of a triple of words count together
pub record TripleClips (y : System) (w : Words) (k : Clips) : Type 0 where
  pub r : Clips
  pub g : Clips
  pub b : Clips
  pub red : ComponentClips (video_data y) (rounded (red_of (matrix y) (scale y) w)) r
  pub green : ComponentClips (video_data y) (rounded (green_of (matrix y) (scale y) w)) g
  pub blue : ComponentClips (video_data y) (rounded (blue_of (matrix y) (scale y) w)) b
  pub low : k.low ≡ r.low + g.low + b.low
  pub high : k.high ≡ r.high + g.high + b.high

-- an answer as it was and as it is, in the system that n names
pub record Split (n : ℕ) (w : Words) (was : Totalled) (now : Clipped) : Type 0 where
  pub system : System
  pub of : named n ≡ accepted system
  pub codes : now.codes ≡ was.codes
  pub clips : TripleClips system w now.clips
  pub sum : now.clips.low + now.clips.high ≡ was.total
  pub most : now.clips.low + now.clips.high ≤ 3
