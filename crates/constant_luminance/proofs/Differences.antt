-- A colour difference and its way back, in naturals: C'bc of B' and Y'c is nominal where they are not too far apart, lies on the side of
-- m that B' - Y'c has of zero, and gives B' back within one code; and so C'rc. Over the scale s, and k, 219 times the divisor.
-- Assumes nothing.
use mathlib.Core.Path.{◌≡◌, refl, ap, subst⁻¹, ◌∙◌}
use mathlib.Core.Bool.{Bool, true, false}
use mathlib.Core.Logic.{inl, inr}
use Prim.Native.Nat.{ℕ, ◌+◌, ◌*◌, ◌≤◌, ◌<◌}
use native.Mathlib.Nat.{mul-le-mul_right, add-mul, mul_assoc, lt_of_mul-lt-mul_right}
use native.Mathlib.Omega.{arith}
use lib.Dec.{leb, lit<}
use lib.IntN.{ℤ, pos, ◌+ℤ◌, ◌-ℤ◌, ◌*ℤ◌}
use borrow.Author.Tests.{leb-true, leb-false, le-leb, lt-leb}
use Rattle.exact.specs.Signed.{rounded}
use Rattle.exact.proofs.Order.{below_or_not}
use Rattle.exact.proofs.Difference.{pos_sub, pos_less, sub_add, sub_mul}
use Rattle.exact.proofs.Nearest.{Rounds}
use Rattle.matrix.proofs.Fractions.{rounds_top}
use Rattle.matrix.proofs.Nominal.{Word, word}
use Rattle.matrix.proofs.Return.{off}
use Rattle.matrix.proofs.Clipping.{OffByOne}
use Rattle.constant_luminance.specs.declared.Divisors.{Divisors}
use Rattle.constant_luminance.specs.ConstantLuminance.{difference, primary}
use Rattle.constant_luminance.proofs.Spread.{Reach, Apart}

-- ---- the fractions with their numerators as differences of naturals

-- (d - y)·2240000/k + m
abbrev difference_by : ℕ → ℕ → ℕ → ℕ → ℤ
difference_by k m d y = rounded record { top = (pos d -ℤ pos y) *ℤ pos 2240000 +ℤ pos (m * k); bottom = k }

-- y + (w - m)·k/2240000
abbrev primary_by : ℕ → ℕ → ℕ → ℕ → ℤ
primary_by k m y w = rounded record { top = pos (2240000 * y) +ℤ (pos w -ℤ pos m) *ℤ pos k; bottom = 2240000 }

pub difference_rounds : (k m d y : ℕ) → 0 < k → Rounds (d * 2240000 + m * k) (y * 2240000 + 0) k (difference_by k m d y)
difference_rounds k m d y K =
    rounds_top ((pos d -ℤ pos y) *ℤ pos 2240000 +ℤ pos (m * k)) (d * 2240000 + m * k) (y * 2240000 + 0) k
    ((λ i. (ap (λ (z : ℤ). z *ℤ pos 2240000) (pos_less d y) ∙ sub_mul d y 2240000) i +ℤ pos_sub (m * k) i) ∙ sub_add (d * 2240000) (y * 2240000) (m * k) 0) K

pub primary_rounds : (k m y w : ℕ) → Rounds (2240000 * y + w * k) (0 + m * k) 2240000 (primary_by k m y w)
primary_rounds k m y w =
    rounds_top (pos (2240000 * y) +ℤ (pos w -ℤ pos m) *ℤ pos k) (2240000 * y + w * k) (0 + m * k) 2240000
    ((λ i. pos_sub (2240000 * y) i +ℤ (ap (λ (z : ℤ). z *ℤ pos k) (pos_less w m) ∙ sub_mul w m k) i) ∙ sub_add (2240000 * y) 0 (w * k) (m * k)) (lit< tt)

-- ---- one side of zero: k is 219 times the side's divisor
module _ (s k d y : ℕ) (some : 0 < k) where
  abbrev r : Rounds (d * 2240000 + 128 * s * k) (y * 2240000 + 0) k (difference_by k (128 * s) d y)
  r = difference_rounds k (128 * s) d y some

  -- at most n below Y'c, so many that half a word is not reached beyond 16s
  not_lower : (n : ℕ) → y ≤ d + n → n * 4480000 ≤ (224 * s + 1) * k → r.down + 16 * s ≤ r.up
  not_lower n h l = elim (below_or_not r.up (r.down + 16 * s)) [
    | inl p ↦
        let q : (r.up + 1) * k ≤ (r.down + 16 * s) * k = mul-le-mul_right k (omega arith) in
        absurd (omega (arith, q, l, add-mul r.up 1 k, add-mul r.down (16 * s) k, add-mul (224 * s) 1 k, mul_assoc 16 s k, mul_assoc 224 s k, mul_assoc 128 s k, r.not_under))
    | inr p ↦ p
  ]

  -- at most n above Y'c, so many that half a word is not reached beyond 240s
  not_higher : (n : ℕ) → d ≤ y + n → n * 4480000 < (224 * s + 1) * k → r.up ≤ r.down + 240 * s
  not_higher n h l = elim (below_or_not (r.down + 240 * s) r.up) [
    | inl p ↦
        let q : (r.down + 240 * s + 1) * k ≤ r.up * k = mul-le-mul_right k (omega arith) in
        absurd (omega (arith, q, l, add-mul (r.down + 240 * s) 1 k, add-mul r.down (240 * s) k, add-mul (224 * s) 1 k, mul_assoc 240 s k, mul_assoc 224 s k, mul_assoc 128 s k, r.not_over))
    | inr p ↦ p
  ]

  module _ {low high : ℕ} (w : Word (d * 2240000 + 128 * s * k) (y * 2240000 + 0) k low high (difference_by k (128 * s) d y)) where
    -- the word lies on the side of m that the difference has of zero
    not_above : d ≤ y → w.value ≤ 128 * s
    not_above h =
        let q : w.value < 128 * s + 1 = lt_of_mul-lt-mul_right k (omega (arith, w.not_over, add-mul (128 * s) 1 k, mul_assoc 128 s k)) in
        omega arith

    above : y < d → k ≤ 4480000 → 128 * s < w.value
    above h small = elim (below_or_not (128 * s) w.value) [
      | inl p ↦ p
      | inr p ↦ absurd (omega (arith, mul-le-mul_right {m = w.value} {n = 128 * s} k p, w.not_under, mul_assoc 128 s k))
    ]

    -- and gives the code back within one
    back : k ≤ 4480000 → OffByOne (primary_by k (128 * s) y w.value) d
    back small =
        let p = primary_rounds k (128 * s) y w.value in
        off d p (omega (arith, w.not_over, w.not_under, p.not_over, p.not_under)) (omega (arith, w.not_over, w.not_under, p.not_over, p.not_under))

-- ---- both sides

-- divisors by which differences within reach are nominal at the scale s, and return within one
pub record Holds (v : Divisors) (s : ℕ) (reach : Reach) : Type 0 where
  pub low_some : 0 < 219 * v.low
  pub high_some : 0 < 219 * v.high
  pub low_small : 219 * v.low ≤ 4480000
  pub high_small : 219 * v.high ≤ 4480000
  pub over : reach.over * 4480000 ≤ (224 * s + 1) * (219 * v.low)
  pub under : reach.under * 4480000 < (224 * s + 1) * (219 * v.high)

-- a word of a colour difference: nominal, within half a code of its fraction, and it gives the code back within one
pub record Differs (v : Divisors) (s d y : ℕ) : Type 0 where
  pub value : ℕ
  pub is : rounded (difference v (128 * s) d y) ≡ pos value
  pub low : 16 * s ≤ value
  pub high : value ≤ 240 * s
  pub returns : OffByOne (rounded (primary v (128 * s) y value)) d

pub differs : (v : Divisors) (s d y : ℕ) (reach : Reach) → Holds v s reach → Apart reach y d → Differs v s d y
differs v s d y reach h a = by_side (leb d y) refl
  where
    pick : Bool → ℕ
    pick t = elim t [ true ↦ v.low | false ↦ v.high ]

    by_side : (t : Bool) → leb d y ≡ t → Differs v s d y
    by_side true e =
        let k = 219 * v.low in
        let l = leb-true d y e in
        let w = word (difference_rounds k (128 * s) d y h.low_some) (not_lower s k d y h.low_some reach.over a.over h.over) (not_higher s k d y h.low_some 0 (omega arith) (omega (arith, h.low_some, add-mul (224 * s) 1 k))) in
        record {
          value = w.value;
          is = (λ i. difference_by (219 * pick (e i)) (128 * s) d y) ∙ w.is;
          low = w.at_least_lem;
          high = w.at_most;
          returns = subst⁻¹ (λ (t : Bool). OffByOne (primary_by (219 * pick t) (128 * s) y w.value) d) (le-leb w.value (128 * s) (not_above s k d y h.low_some w l)) (back s k d y h.low_some w h.low_small);
        }
    by_side false e =
        let k = 219 * v.high in
        let l = leb-false d y e in
        let w = word (difference_rounds k (128 * s) d y h.high_some) (not_lower s k d y h.high_some 0 (omega arith) (omega arith)) (not_higher s k d y h.high_some reach.under a.under h.under) in
        record {
          value = w.value;
          is = (λ i. difference_by (219 * pick (e i)) (128 * s) d y) ∙ w.is;
          low = w.at_least_lem;
          high = w.at_most;
          returns = subst⁻¹ (λ (t : Bool). OffByOne (primary_by (219 * pick t) (128 * s) y w.value) d) (lt-leb w.value (128 * s) (above s k d y h.high_some w l h.high_small)) (back s k d y h.high_some w h.high_small);
        }
