-- What INT leaves of Y', Cb and Cr is within half a code of its fraction; of nominal codes it is nominal words, and none is a timing code.
-- Assumes nothing.
use mathlib.Core.Path.{◌≡◌, sym, ap, ◌∙◌}
use mathlib.Core.Bool.{false}
use Prim.Native.Nat.{ℕ, ◌+◌, ◌*◌, ◌-◌, ◌≤◌, ◌<◌}
use native.Mathlib.Nat.{add-mul}
use native.Mathlib.Omega.{arith}
use lib.Dec.{lit<}
use lib.IntN.{ℤ, pos}
use borrow.Author.Tests.{le-ltb, lt-leb}
use Rattle.exact.specs.Signed.{rounded}
use Rattle.exact.proofs.Difference.{sub_pos}
use Rattle.exact.proofs.Nearest.{Rounds, Near, rounded_near}
use Rattle.systems.specs.declared.Codes.{Codes}
use Rattle.systems.specs.declared.Matrix.{Matrix}
use Rattle.systems.specs.declared.Matrix.TheVariants.{Bt709, Bt2020}
use Rattle.systems.specs.declared.System.{System}
use Rattle.systems.specs.Systems.{matrix, scale, kr, kg, kb, timing}
use Rattle.systems.proofs.Scales.{scale_range}
use Rattle.matrix.specs.declared.WordRanges.{WordRanges}
use Rattle.matrix.specs.Triples.{weighted, luma, cb_of, cr_of, natural, encoded_at, words_at}
use Rattle.matrix.specs.Inner.{NominalCodes, WordsIn, nominal_at}
use Rattle.matrix.proofs.Fractions.{luma_rounds, difference_rounds}

-- z is a natural from low to high, INT of (p - n)/d
pub record Word (p n d low high : ℕ) (z : ℤ) : Type 0 where
  pub value : ℕ
  pub is : z ≡ pos value
  pub not_over : 2 * (value * d) + 2 * n ≤ 2 * p + d
  pub not_under : 2 * p + d < 2 * (value * d) + 2 * n + 2 * d
  pub at_least_lem : low ≤ value
  pub at_most : value ≤ high

pub word : {p n d low high : ℕ} {z : ℤ} (r : Rounds p n d z) → r.down + low ≤ r.up → r.up ≤ r.down + high → Word p n d low high z
word {d = d} r l h =
    let v = r.up - r.down in
    let e : r.up ≡ v + r.down = omega arith in
    let q : r.up * d ≡ v * d + r.down * d = ap (λ (k : ℕ). k * d) e ∙ add-mul v r.down d in
    let o = r.not_over in
    let u = r.not_under in
    record {
      value = v;
      is = r.is ∙ sub_pos r.up r.down (omega arith);
      not_over = omega arith;
      not_under = omega arith;
      at_least_lem = omega arith;
      at_most = omega arith;
    }

-- no fraction is over 0
pub record Divisors (x : Matrix) : Type 0 where
  pub cb : 0 < 219 * 2 * (10000 - kb x)
  pub cr : 0 < 219 * 2 * (10000 - kr x)
  pub green : 0 < 224 * 10000 * kg x

pub divisors : (x : Matrix) → Divisors x
divisors Bt709 = record { cb = lit< tt; cr = lit< tt; green = lit< tt }
divisors Bt2020 = record { cb = lit< tt; cr = lit< tt; green = lit< tt }

-- video data has no timing code
pub untimed : (y : System) (d : ℕ) → scale y ≤ d → d ≤ 255 * scale y - 1 → timing y d ≡ false
untimed y d l h =
    let s = scale_range y in
    let above : d < 255 * scale y = omega arith in
    rw (le-ltb d (scale y) l, lt-leb (255 * scale y) d above)

-- the three words of a code triple, as INT leaves them, in their ranges
pub record WordsOf (x : Matrix) (s : ℕ) (n : WordRanges) (c : Codes) : Type 0 where
  pub y : Word (weighted x c) 0 10000 n.luma.low n.luma.high (rounded (luma x c))
  pub cb : Word (10000 * c.b * 224 + 128 * s * (219 * 2 * (10000 - kb x))) (weighted x c * 224 + 0) (219 * 2 * (10000 - kb x)) n.difference.low n.difference.high (rounded (cb_of x s c))
  pub cr : Word (10000 * c.r * 224 + 128 * s * (219 * 2 * (10000 - kr x))) (weighted x c * 224 + 0) (219 * 2 * (10000 - kr x)) n.difference.low n.difference.high (rounded (cr_of x s c))

pub words_of : (x : Matrix) (s : ℕ) (c : Codes) → NominalCodes s c → WordsOf x s (nominal_at s) c
words_of Bt709 s c n =
    let y = luma_rounds Bt709 c in
    let b = difference_rounds Bt709 (128 * s) (kb Bt709) c.b c (lit< tt) in
    let r = difference_rounds Bt709 (128 * s) (kr Bt709) c.r c (lit< tt) in
    record { y = word y (omega arith) (omega arith); cb = word b (omega arith) (omega arith); cr = word r (omega arith) (omega arith) }
words_of Bt2020 s c n =
    let y = luma_rounds Bt2020 c in
    let b = difference_rounds Bt2020 (128 * s) (kb Bt2020) c.b c (lit< tt) in
    let r = difference_rounds Bt2020 (128 * s) (kr Bt2020) c.r c (lit< tt) in
    record { y = word y (omega arith) (omega arith); cb = word b (omega arith) (omega arith); cr = word r (omega arith) (omega arith) }

pub words_are : (x : Matrix) (s : ℕ) {n : WordRanges} (c : Codes) (v : WordsOf x s n c) → words_at x s c ≡ record { y = v.y.value; cb = v.cb.value; cr = v.cr.value }
unfolding words_at
words_are x s c v = λ i. record { y = natural (v.y.is i); cb = natural (v.cb.is i); cr = natural (v.cr.is i) }

-- of every code triple, before a rule acts
pub encoded_near : (x : Matrix) (s : ℕ) (c : Codes) →
    let v = encoded_at x s c in
    Near v.y (luma x c) × Near v.cb (cb_of x s c) × Near v.cr (cr_of x s c)
encoded_near x s c = let d = divisors x in (rounded_near (luma x c) (lit< tt), rounded_near (cb_of x s c) d.cb, rounded_near (cr_of x s c) d.cr)

module _ (x : Matrix) (s : ℕ) (c : Codes) (n : NominalCodes s c) where
  pub words_nominal : WordsIn (nominal_at s) (words_at x s c)
  words_nominal =
      let v = words_of x s c n in
      rw (words_are x s c v) record { y_low = v.y.at_least_lem; y_high = v.y.at_most; cb_low = v.cb.at_least_lem; cb_high = v.cb.at_most; cr_low = v.cr.at_least_lem; cr_high = v.cr.at_most }

  -- none is below 0, so that `whole` loses nothing
  pub words-whole :
      let w = words_at x s c in
      (pos w.y ≡ rounded (luma x c)) × (pos w.cb ≡ rounded (cb_of x s c)) × (pos w.cr ≡ rounded (cr_of x s c))
  words-whole =
      let v = words_of x s c n in
      rw (words_are x s c v) (sym v.y.is, sym v.cb.is, sym v.cr.is)

  pub word-near :
      let w = words_at x s c in
      Near (pos w.y) (luma x c) × Near (pos w.cb) (cb_of x s c) × Near (pos w.cr) (cr_of x s c)
  word-near = let w = words-whole in rw (w.0, w.1, w.2) (encoded_near x s c)

pub no_timing_code : (y : System) (c : Codes) → NominalCodes (scale y) c →
    let w = words_at (matrix y) (scale y) c in
    (timing y w.y ≡ false) × (timing y w.cb ≡ false) × (timing y w.cr ≡ false)
no_timing_code y c h =
    let n = words_nominal (matrix y) (scale y) c h in
    let s = scale_range y in
    (untimed y _ (omega (arith, n.y_low)) (omega (arith, n.y_high)), untimed y _ (omega (arith, n.cb_low)) (omega (arith, n.cb_high)), untimed y _ (omega (arith, n.cr_low)) (omega (arith, n.cr_high)))
