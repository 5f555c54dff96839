-- Codes that were encoded come back within one code, and greys come back as they were.
-- Assumes nothing.
use mathlib.Core.Path.{◌≡◌, sym, ap, ◌∙◌}
use Prim.Native.Nat.{ℕ, ◌+◌, ◌*◌, ◌-◌, ◌≤◌, ◌<◌}
use native.Mathlib.Nat.{lt_of_mul-lt-mul_right}
use native.Mathlib.Omega.{arith}
use lib.Dec.{lit<}
use lib.IntN.{ℤ, pos}
use mir.Val.{bool_byte}
use Rattle.exact.specs.Signed.{rounded}
use Rattle.exact.proofs.Difference.{pos_sub, sub_eq}
use Rattle.exact.proofs.Nearest.{Rounds}
use Rattle.systems.specs.declared.Codes.{Codes}
use Rattle.systems.specs.declared.Matrix.{Matrix}
use Rattle.systems.specs.declared.Matrix.TheVariants.{Bt709, Bt2020}
use Rattle.systems.specs.declared.Range.{Range}
use Rattle.systems.specs.Systems.{kr, kb}
use Rattle.matrix.specs.declared.Encoding.{Encoding}
use Rattle.matrix.specs.declared.Encoding.TheVariants.{Plain}
use Rattle.matrix.specs.declared.Words.{Words}
use Rattle.matrix.specs.declared.WordRanges.{WordRanges}
use Rattle.matrix.specs.Triples.{weighted, primary, signed, green_of, encoded_at, words_at, limited, no_clips, ◌plus◌, codes_at}
use Rattle.matrix.specs.Inner.{CodesIn, NominalCodes, nominal_at, video_at}
use Rattle.matrix.proofs.Fractions.{luma_rounds, difference_rounds, primary_rounds, green_rounds}
use Rattle.matrix.proofs.Nominal.{divisors, Word, WordsOf, words_of, words_are}
use Rattle.matrix.proofs.Clipping.{OffByOne, clipped_nearer, kept_whole}
use Rattle.matrix.proofs.Rules.{luma_inside, difference_inside, rule_keeps, unmoved}

-- ---- within one
pub off : {p n d : ℕ} {v : ℤ} (k : ℕ) (r : Rounds p n d v) → r.up ≤ k + 1 + r.down → k + r.down ≤ r.up + 1 → OffByOne v k
off k r h l = record { up = r.up; down = r.down; is = r.is; not_over = h; not_under = l }

-- the words that INT left
abbrev words : (x : Matrix) (s : ℕ) {m : WordRanges} (c : Codes) → WordsOf x s m c → Words
words x s c v = record { y = v.y.value; cb = v.cb.value; cr = v.cr.value }

-- R of Y' and Cr, and B of Y' and Cb, whatever the colour's weight k is: n is 10000 times Y' before INT, and d the code
primary_near : (s k d n : ℕ) {l h l' h' : ℕ} {z z' : ℤ} (y : Word n 0 10000 l h z)
    (c : Word (10000 * d * 224 + 128 * s * (219 * 2 * (10000 - k))) (n * 224 + 0) (219 * 2 * (10000 - k)) l' h' z')
    → OffByOne (rounded (primary y.value (signed s c.value) k)) d
primary_near s k d n y c = let r = primary_rounds y.value c.value s k in off d r (omega arith) (omega arith)

green_near : (x : Matrix) (s : ℕ) {m : WordRanges} (c : Codes) (v : WordsOf x s m c) → OffByOne (rounded (green_of x s (words x s c v))) c.g
green_near Bt709 s c v = let g = green_rounds Bt709 s (words Bt709 s c v) (lit< tt) in off c.g g (omega arith) (omega arith)
green_near Bt2020 s c v = let g = green_rounds Bt2020 s (words Bt2020 s c v) (lit< tt) in off c.g g (omega arith) (omega arith)

-- each component of c is off that of d by at most one code
pub record CodesWithinOne (c d : Codes) : Type 0 where
  pub r : (c.r ≤ d.r + 1) × (d.r ≤ c.r + 1)
  pub g : (c.g ≤ d.g + 1) × (d.g ≤ c.g + 1)
  pub b : (c.b ≤ d.b + 1) × (d.b ≤ c.b + 1)

-- clipped to a range that holds them
codes_near_lem : (x : Matrix) (s : ℕ) (n : Range) {m : WordRanges} (c : Codes) → CodesIn n c → (v : WordsOf x s m c) → CodesWithinOne (codes_at x s n (words x s c v)).codes c
unfolding codes_at
codes_near_lem x s n c i v = record {
  r = clipped_nearer n _ c.r i.r_low i.r_high (primary_near s (kr x) c.r (weighted x c) v.y v.cr);
  g = clipped_nearer n _ c.g i.g_low i.g_high (green_near x s c v);
  b = clipped_nearer n _ c.b i.b_low i.b_high (primary_near s (kb x) c.b (weighted x c) v.y v.cb);
}

return_within_one : (x : Matrix) (s : ℕ) (n : Range) {m : WordRanges} (c : Codes) → CodesIn n c → WordsOf x s m c → CodesWithinOne (codes_at x s n (words_at x s c)).codes c
return_within_one x s n c i v = rw (words_are x s c v) (codes_near_lem x s n c i v)

-- nominal codes, clipped to a range that holds them
pub codes_return_within_one : (x : Matrix) (s : ℕ) (n : Range) (c : Codes) → n.low ≤ 16 * s → 235 * s ≤ n.high → NominalCodes s c → CodesWithinOne (codes_at x s n (words_at x s c)).codes c
codes_return_within_one x s n c low high i =
    let held : CodesIn n c = record { r_low = omega (arith, i.r_low); r_high = omega (arith, i.r_high); g_low = omega (arith, i.g_low); g_high = omega (arith, i.g_high); b_low = omega (arith, i.b_low); b_high = omega (arith, i.b_high) } in
    return_within_one x s n c held (words_of x s c i)

-- codes of video data none of whose words was moved, by any encoding
pub unmoved_return_within_one : (x : Matrix) (s : ℕ) (e : Encoding) (c : Codes) → CodesIn (video_at s) c →
    let l = limited e (video_at s) (nominal_at s) (encoded_at x s c) in
    l.moved ≡ 0 → CodesWithinOne (codes_at x s (video_at s) l.words).codes c
unmoved_return_within_one x s e c i none =
    let u = unmoved s e x c none in
    rw u.1 (return_within_one x s (video_at s) c i u.0)

-- ---- greys
abbrev pub grey : ℕ → Codes
grey d = record { r = d; g = d; b = d }

abbrev pub grey_words : ℕ → ℕ → Words
grey_words s d = record { y = d; cb = 128 * s; cr = 128 * s }

-- the weights are 10000 in all
grey_weighted : (x : Matrix) (d : ℕ) → weighted x (grey d) ≡ d * 10000
grey_weighted Bt709 d = omega arith
grey_weighted Bt2020 d = omega arith

-- INT leaves a whole number as it is
pub whole_stays : {p n k : ℕ} {v : ℤ} (d : ℕ) (r : Rounds p n k v) → p ≡ d * k + n → v ≡ pos d
whole_stays {k = k} d r e =
    let above : r.up < d + r.down + 1 = lt_of_mul-lt-mul_right k (omega arith) in
    let below : d + r.down < r.up + 1 = lt_of_mul-lt-mul_right k (omega arith) in
    let same : r.up + 0 ≡ d + r.down = omega arith in
    r.is ∙ sub_eq r.up r.down d 0 same ∙ sym (pos_sub d)

grey_encoded : (x : Matrix) (s d : ℕ) → encoded_at x s (grey d) ≡ record { y = pos d; cb = pos (128 * s); cr = pos (128 * s) }
grey_encoded x s d =
    let n = grey_weighted x d in
    let y = whole_stays d (luma_rounds x (grey d)) (omega arith) in
    let cb = whole_stays (128 * s) (difference_rounds x (128 * s) (kb x) d (grey d) (divisors x).cb) (omega arith) in
    let cr = whole_stays (128 * s) (difference_rounds x (128 * s) (kr x) d (grey d) (divisors x).cr) (omega arith) in
    λ i. record { y = y i; cb = cb i; cr = cr i }

grey_codes_lem : (x : Matrix) (s : ℕ) (n : Range) (d : ℕ) → n.low ≤ d → d ≤ n.high → codes_at x s n (grey_words s d) ≡ record { codes = grey d; clips = no_clips }
unfolding codes_at
grey_codes_lem x s n d l h =
    let r = kept_whole n _ d l h (whole_stays d (primary_rounds d (128 * s) s (kr x)) (omega arith)) in
    let g = kept_whole n _ d l h (whole_stays d (green_rounds x s (grey_words s d) (divisors x).green) (omega arith)) in
    let b = kept_whole n _ d l h (whole_stays d (primary_rounds d (128 * s) s (kb x)) (omega arith)) in
    λ i. record { codes = record { r = r.0 i; g = g.0 i; b = b.0 i }; clips = r.1 i plus g.1 i plus b.1 i }

-- of a grey of any video data code, plain encoding gives its code as Y' and colour differences of zero, and moves no word; it comes
-- back as it was, unclipped
pub grey_returns : (x : Matrix) (s d : ℕ) → s ≤ d → d ≤ 255 * s - 1 →
    (limited Plain (video_at s) (nominal_at s) (encoded_at x s (grey d)) ≡ record { words = grey_words s d; moved = 0 })
    × (codes_at x s (video_at s) (grey_words s d) ≡ record { codes = grey d; clips = no_clips })
unfolding limited
grey_returns x s d l h =
    let y = rule_keeps Plain (video_at s) (nominal_at s).luma (luma_inside s) d (l, h) in
    let c = rule_keeps Plain (video_at s) (nominal_at s).difference (difference_inside s) (128 * s) (omega arith, omega arith) in
    (ap (limited Plain (video_at s) (nominal_at s)) (grey_encoded x s d) ∙ (λ i. record { words = record { y = (y i).word; cb = (c i).word; cr = (c i).word }; moved = bool_byte (y i).moved + bool_byte (c i).moved + bool_byte (c i).moved }), grey_codes_lem x s (video_at s) d l h)
