-- The product of a signal by a small whole number is exact in binary64, and its whole part is that of the fraction.
-- Assumes nothing.
use Rattle.std.proofs.Common.{◌≡◌, ℕ, zero, suc, ◌+◌, ◌-◌, ◌*◌, ◌/◌, ◌%◌, ◌^◌, ◌<◌, ◌≤◌, min, Bool, true, false, ◌&&◌, T, eqb, ltb, leb, ℤ, pos, negsuc, sym, ap, ◌∙◌, true≢false, le_trans, le_of_eq, lt_of_lt_of_le, le_of_suc-le-suc, lt_of_le_of_lt, le_of_lt, mul-le-mul_right, mul_assoc, mul_comm, div-lt_iff_lt-mul, mul-le-mul_left, mul-lt-mul_of_pos_right, mul-pos, lt_of_not-le, zero-mul, mul-one, not-le_of_lt, le-mul_of_pos_right, arith, lit<, lit≤, eqb→eq, ltb→lt, lt→ltb, leb→le, pow_pos, pow_mono, pow-add, shl_lt}
use native.Mathlib.Nat.{div-le_of_le-mul, zero-div}
use lib.Pow.{pow-lt}
use lib.Ieee.{Float, nan, inf, fin, binary32, binary64, up, down, unlike, round, mul, lt, to_unsigned, fits, of_int}
use lib.Ieee.Back.{round_whole}
use lib.Ieee.Digits.{back}
use lib.Ieee.Exact.{HasValue, round_exact}
use lib.Ieee.Fits.{up_pos, down_pos}
use lib.Ieee.Nearest.{div_same}
use lib.Ieee.Positive.{num, den}
use lib.Ieee.Scale.{round_same}
use Rattle.signals.specs.Signals.{in_unit}
use Rattle.signals.proofs.Unit.{unit_at_most_one}

-- a/2^t is a value of binary64 where a has at most 53 digits
dyadic_exact : (s : Bool) (a t : ℕ) → a < 2 ^ 53 → t ≤ 1074 → HasValue (round binary64 s a (2 ^ t)) s a (2 ^ t)
dyadic_exact s a t small h =
    let whole : 2 ^ (1074 - t) * 2 ^ t ≡ 2 ^ 1074 = sym (pow-add 2 (1074 - t) t) ∙ ap (λ (x : ℕ). 2 ^ x) (back 1074 t h) in
    round_exact binary64 s a (2 ^ t) a (1074 - t) (pow_pos t) small
    (lt_of_lt_of_le (shl_lt 53 (1074 - t) small) (pow_mono {i = 53 + (1074 - t)} {j = 2098} (omega arith)))
    (sym (mul_assoc a (2 ^ (1074 - t)) (2 ^ t) ∙ ap (λ (x : ℕ). a * x) whole))

-- ---- the digits of a binary32
inner_two : (a b c d : Bool) → T (a && b && c && d) → T b × T c
inner_two true true true d t = (tt, tt)
inner_two true true false d t = absurd t
inner_two true false c d t = absurd t
inner_two false b c d t = absurd t

digits : (s : Bool) (m : ℕ) (e : ℤ) → T (fits binary32 (fin s m e)) → (m < 2 ^ 24) × (down e ≤ 2 ^ 149)
unfolding fits
digits s zero e t =
    let one : down e * up e ≡ 1 = mul_comm (down e) (up e) ∙ eqb→eq (up e * down e) 1 t in
    (lit< tt, le_trans (le-mul_of_pos_right (down e) (up_pos e)) (le_trans (le_of_eq one) (lit≤ tt)))
digits s (suc m) e t =
    let h = inner_two (eqb (suc m % 2) 1) (ltb (suc m) (2 ^ 24)) (leb (down e) (2 ^ 149)) (ltb (suc m * up e) (2 ^ 128 * down e)) t in
    (ltb→lt (suc m) (2 ^ 24) h.0, leb→le (down e) (2 ^ 149) h.1)

pow_reflects : (i j : ℕ) → 2 ^ i ≤ 2 ^ j → i ≤ j
pow_reflects i j h = le_of_suc-le-suc (lt_of_not-le (λ (g : suc j ≤ i). not-le_of_lt (pow-lt g) h))

-- a binary32 from 0 to 1 is a fraction of at most 24 digits over a power of two
numerator_small : (s : Bool) (m : ℕ) (e : ℤ) → T (fits binary32 (fin s m e)) → m * up e ≤ down e → m * up e < 2 ^ 24
numerator_small s m (pos k) t h = lt_of_le_of_lt h (lit< tt)
numerator_small s m (negsuc k) t h = lt_of_le_of_lt (le_of_eq (mul-one m)) (digits s m (negsuc k) t).0

fraction_exact : (s : Bool) (a : ℕ) (e : ℤ) → a < 2 ^ 53 → down e ≤ 2 ^ 149 → HasValue (round binary64 s a (down e)) s a (down e)
fraction_exact s a (pos k) small h = dyadic_exact s a 0 small (lit≤ tt)
fraction_exact s a (negsuc k) small h = dyadic_exact s a (suc k) small (le_trans (pow_reflects (suc k) 149 h) (lit≤ tt))

-- ---- the product by a whole number K
same_fraction : (a b K c d : ℕ) → b ≡ K * d → a * b * c ≡ a * K * (c * d)
same_fraction a b K c d p = rw p (simp (mul_assoc, mul_comm))

product : (s : Bool) (m : ℕ) (e : ℤ) (y : Float) (K : ℕ) → HasValue y false K 1 → mul binary64 (fin s m e) y ≡ round binary64 (unlike s false) (m * up e * K) (down e)
unfolding mul
product s m e nan K h = absurd h
product s m e (inf t) K h = absurd h
product s m e (fin true n d) K h = absurd (true≢false h.0)
product s m e (fin false n d) K h =
    round_same binary64 (unlike s false) (m * up e * (n * up d)) (down e * down d) (m * up e * K) (down e) (mul-pos (down_pos e) (down_pos d)) (down_pos e)
    (same_fraction (m * up e) (n * up d) K (down e) (down d) (sym (mul-one (n * up d)) ∙ h.1))

product_exact : (s : Bool) (m : ℕ) (e : ℤ) (K : ℕ) → T (fits binary32 (fin s m e)) → m * up e ≤ down e → K < 2 ^ 29
    → HasValue (mul binary64 (fin s m e) (round binary64 false K 1)) (unlike s false) (m * up e * K) (down e)
product_exact s m e K f u k =
    let small : m * up e * K < 2 ^ 53 = lt_of_le_of_lt (mul-le-mul_left (m * up e) (le_of_lt k)) (mul-lt-mul_of_pos_right (numerator_small s m e f u) (pow_pos 29)) in
    rw (product s m e (round binary64 false K 1) K (round_whole binary64 false K (le_trans (le_of_lt k) (lit≤ tt))))
    (fraction_exact (unlike s false) (m * up e * K) e small (digits s m e f).1)

-- ---- what is cut off it
-- the float z is above -1 and below 2^64, and its whole part is q
pub record Cut (z : Float) (q : ℕ) : Type 0 where
  pub above : T (lt (fin true 1 (pos 0)) z)
  pub under : T (lt z (fin false 1 (pos 64)))
  pub whole : to_unsigned 64 z ≡ q

uncapped : (w : ℕ) → w < 2 ^ 29 → (min w (2 ^ 64 - 1) ≡ w) × (w < 2 ^ 64)
uncapped w h = (omega arith, omega arith)

cut : (z : Float) (s : Bool) (a c : ℕ) → 0 < c → a / c < 2 ^ 29 → (T s → a ≡ 0) → HasValue z s a c → Cut z (a / c)
unfolding to_unsigned lt
cut nan s a c C l n h = absurd h
cut (inf t) s a c C l n h = absurd h
cut (fin true m e) false a c C l n h = absurd (true≢false h.0)
cut (fin false m e) true a c C l n h = absurd (true≢false (sym h.0))
cut (fin true m e) true a c C l n h =
    let za : a ≡ 0 = n tt in
    let zm : m * up e ≤ 0 = le_trans (le-mul_of_pos_right (m * up e) C) (le_of_eq (h.1 ∙ rw (za, zero-mul))) in
    let d : 0 < down e = down_pos e in
    record {
      above = lt→ltb (m * up e * 1) (1 * 1 * down e) (omega arith);
      under = lt→ltb 0 (m * up e * 1 + 1 * 2 ^ 64 * down e) (omega arith);
      whole = sym (ap (λ (x : ℕ). x / c) za ∙ zero-div c);
    }
cut (fin false m e) false a c C l n h =
    let q : m * up e / down e ≡ a / c = div_same (m * up e) (down e) a c (down_pos e) C h.1 in
    let d : 0 < down e = down_pos e in
    let w = uncapped (a / c) l in
    record {
      above = lt→ltb 0 (1 * 1 * down e + m * up e * 1) (omega arith);
      under = lt→ltb (m * up e * 1) (1 * 2 ^ 64 * down e) (rw mul-one ((div-lt_iff_lt-mul (down_pos e)).0 (rw q w.1)));
      whole = ap (λ (x : ℕ). min x (2 ^ 64 - 1)) q ∙ w.0;
    }

-- a negative signal is zero
negative_zero : (s : Bool) (m : ℕ) (e : ℤ) (K : ℕ) → T (in_unit (fin s m e)) → T (unlike s false) → m * up e * K ≡ 0
negative_zero true m e K t n = rw (eqb→eq m 0 t) (simp zero-mul)
negative_zero false m e K t n = absurd n

pub product_at_most : (K : ℕ) (x : Float) → T (in_unit x) → num x * K / den x ≤ K
product_at_most K x u = div-le_of_le-mul (den x) (mul-le-mul_right K (unit_at_most_one x u))

pub product_cut : (K : ℕ) → K < 2 ^ 29 → (x : Float) → T (fits binary32 x) → T (in_unit x) → Cut (mul binary64 x (of_int binary64 (pos K))) (num x * K / den x)
unfolding of_int
product_cut K small nan f u = absurd u
product_cut K small (inf s) f u = absurd u
product_cut K small (fin s m e) f u =
    cut (mul binary64 (fin s m e) (round binary64 false K 1)) (unlike s false) (m * up e * K) (down e) (down_pos e)
    (lt_of_le_of_lt (product_at_most K (fin s m e) u) small) (negative_zero s m e K u)
    (product_exact s m e K f (unit_at_most_one (fin s m e) u) small)
