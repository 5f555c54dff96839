-- Codes to words and back (document 01, 'Triples', and requests 2026-03, 2026-04 and 2026-07). Inside INT stands the exact rational,
-- here as one ratio.
-- Definitions only.
use Rattle.std.specs.Prelude.{ℕ, ◌+◌, ◌*◌, ◌-◌, Bool, true, false, ◌&&◌, ◌||◌, List, [], ◌∷◌, ℤ, pos, negsuc, ◌+ℤ◌, ◌-ℤ◌, ◌*ℤ◌}
use Rattle.std.specs.Int.Signed.{lt_z}
use mir.Val.{bool_byte}
use Rattle.exact.specs.Signed.{Ratio, rounded}
use Rattle.exact.specs.Outcome.{Outcome, accepted, ◌and_then◌, require}
use Rattle.systems.specs.declared.Codes.{Codes}
use Rattle.systems.specs.declared.Matrix.{Matrix}
use Rattle.systems.specs.declared.Range.{Range}
use Rattle.systems.specs.declared.System.{System}
use Rattle.systems.specs.Systems.{matrix, scale, kr, kg, kb, nominal, nominal_difference, video_data, within, all_within, named}
use Rattle.matrix.specs.declared.Words.{Words}
use Rattle.matrix.specs.declared.WordRanges.{WordRanges}
use Rattle.matrix.specs.declared.Unlimited.{Unlimited}
use Rattle.matrix.specs.declared.Ruled.{Ruled}
use Rattle.matrix.specs.declared.Limited.{Limited}
use Rattle.matrix.specs.declared.Encoding.{Encoding}
use Rattle.matrix.specs.declared.Encoding.TheVariants.{Plain, Trim}
use Rattle.matrix.specs.declared.Clips.{Clips}
use Rattle.matrix.specs.declared.Clipped.{Clipped}

-- kr·R + kg·G + kb·B
abbrev pub weighted : Matrix → Codes → ℕ
weighted x c = kr x * c.r + kg x * c.g + kb x * c.b

-- Y': (kr·R + kg·G + kb·B)/10000
abbrev pub luma : Matrix → Codes → Ratio
luma x c = record { top = pos (weighted x c); bottom = 10000 }

-- Cb of the code B with k = kb, Cr of R with k = kr, where m = 128s:
-- (10000·B - kr·R - kg·G - kb·B)·224/(219·2·(10000 - kb)) + m
abbrev pub difference : Matrix → ℕ → ℕ → ℕ → Codes → Ratio
difference x m k d c = record {
  top = (pos (10000 * d) -ℤ pos (weighted x c)) *ℤ pos 224 +ℤ pos (m * (219 * 2 * (10000 - k)));
  bottom = 219 * 2 * (10000 - k);
}

abbrev pub cb_of : Matrix → ℕ → Codes → Ratio
cb_of x s c = difference x (128 * s) (kb x) c.b c

abbrev pub cr_of : Matrix → ℕ → Codes → Ratio
cr_of x s c = difference x (128 * s) (kr x) c.r c

-- a whole number that is not below 0
abbrev pub natural : ℤ → ℕ
natural (pos n) = n
natural (negsuc n) = 0

-- Y', Cb and Cr of a code triple, as INT leaves them: some may be below 0 or above every code
abbrev pub encoded_at : Matrix → ℕ → Codes → Unlimited
encoded_at x s c = record { y = rounded (luma x c); cb = rounded (cb_of x s c); cr = rounded (cr_of x s c) }

-- as words, where none is below 0
abbrev pub worded : Unlimited → Words
worded v = record { y = natural v.y; cb = natural v.cb; cr = natural v.cr }

-- the words of a triple of nominal codes
unfoldable pub words_at : Matrix → ℕ → Codes → Words
words_at x s c = worded (encoded_at x s c)

-- a number is beyond a range; and brought to the range's nearer end where it is
abbrev pub outside : Range → ℤ → Bool
outside r v = lt_z v (pos r.low) || lt_z (pos r.high) v

abbrev pub clipped : Range → ℤ → ℕ
clipped r v = elim (lt_z v (pos r.low)) [ true ↦ r.low | false ↦ elim (lt_z (pos r.high) v) [ true ↦ r.high | false ↦ natural v ] ]

-- nominal Y', Cb and Cr
abbrev pub nominal_words : System → WordRanges
nominal_words y = record { luma = nominal y; difference = nominal_difference y }

-- A rule brings a number beyond its range to the range's nearer end. The rules of an encoding, in the order in which they are tried
-- (request 2026-04): trim, by nominal, if it is chosen; then the guard, by video data
abbrev pub rules : Encoding → Range → Range → List Range
rules Plain video nominal = video ∷ []
rules Trim video nominal = nominal ∷ video ∷ []

-- what the rules leave of a number that INT left: the first rule whose range it is beyond acts on it, and no other
abbrev pub ruled : List Range → ℤ → Ruled
ruled [] v = record { word = natural v; moved = false }
ruled (r ∷ rs) v = elim (outside r v) [ true ↦ record { word = clipped r v; moved = true } | false ↦ ruled rs v ]

-- what the rules of Y' and those of Cb and Cr leave of the three: the words, and how many were moved, 0 to 3 (`bool_byte` is 1 where one was)
abbrev pub limited_by : List Range → List Range → Unlimited → Limited
limited_by luma difference v =
    let y = ruled luma v.y in
    let cb = ruled difference v.cb in
    let cr = ruled difference v.cr in
    record { words = record { y = y.word; cb = cb.word; cr = cr.word }; moved = bool_byte y.moved + bool_byte cb.moved + bool_byte cr.moved }

-- what the rules of an encoding leave of them
unfoldable pub limited : Encoding → Range → WordRanges → Unlimited → Limited
limited e video n = limited_by (rules e video n.luma) (rules e video n.difference)

-- the words of a code triple in the system that n names, or refusal 1 or 6
abbrev pub words_of_codes : ℕ → Encoding → Codes → Outcome Limited
words_of_codes n e c =
    named n and_then λ (y : System).
    require (all_within (video_data y) c) 6
    (accepted (limited e (video_data y) (nominal_words y) (encoded_at (matrix y) (scale y) c)))

-- the signed difference C - m, cb or cr
abbrev pub signed : ℕ → ℕ → ℤ
signed s w = pos w -ℤ pos (128 * s)

-- with q = 219/224. R: Y' + q·cr·2·(10000 - kr)/10000; B: the same with cb and kb
abbrev pub primary : ℕ → ℤ → ℕ → Ratio
primary y c k = record { top = pos (224 * 10000 * y) +ℤ c *ℤ pos (219 * 2 * (10000 - k)); bottom = 224 * 10000 }

abbrev pub red_of : Matrix → ℕ → Words → Ratio
red_of x s w = primary w.y (signed s w.cr) (kr x)

abbrev pub blue_of : Matrix → ℕ → Words → Ratio
blue_of x s w = primary w.y (signed s w.cb) (kb x)

-- G: Y' - q·cr·2·kr·(10000 - kr)/(10000·kg) - q·cb·2·kb·(10000 - kb)/(10000·kg)
abbrev pub green_of : Matrix → ℕ → Words → Ratio
green_of x s w = record {
  top = pos (224 * 10000 * kg x * w.y) -ℤ signed s w.cr *ℤ pos (219 * 2 * kr x * (10000 - kr x)) -ℤ signed s w.cb *ℤ pos (219 * 2 * kb x * (10000 - kb x));
  bottom = 224 * 10000 * kg x;
}

-- no clips, and two counts of clips together
abbrev pub no_clips : Clips
no_clips = record { low = 0; high = 0 }

infixl 6 ◌plus◌
abbrev pub ◌plus◌ : Clips → Clips → Clips
a plus b = record { low = a.low + b.low; high = a.high + b.high }

-- the clips of a component (request 2026-07): one low where it is below the range, one high where it is above it
abbrev pub beyond : Range → ℤ → Clips
beyond r v = record { low = elim (lt_z v (pos r.low)) [ true ↦ 1 | false ↦ 0 ]; high = elim (lt_z (pos r.high) v) [ true ↦ 1 | false ↦ 0 ] }

-- the codes of a triple of words, clipped to the range n, and their clips
unfoldable pub codes_at : Matrix → ℕ → Range → Words → Clipped
codes_at x s n w =
    let r = rounded (red_of x s w) in
    let g = rounded (green_of x s w) in
    let b = rounded (blue_of x s w) in
    record { codes = record { r = clipped n r; g = clipped n g; b = clipped n b }; clips = beyond n r plus beyond n g plus beyond n b }

-- a sample's words are in a range
abbrev pub words_within : Range → Words → Bool
words_within r w = within r w.y && within r w.cb && within r w.cr

-- the codes of a word triple in the system that n names, or refusal 1 or 6
abbrev pub codes_of_words : ℕ → Words → Outcome Clipped
codes_of_words n w = named n and_then λ (y : System). require (words_within (video_data y) w) 6 (accepted (codes_at (matrix y) (scale y) (video_data y) w))
