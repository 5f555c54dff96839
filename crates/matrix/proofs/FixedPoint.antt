-- A sum of fractions in fixed point, by entries that are rounded down, is rounded as the exact sum is.
-- Assumes nothing.
use mathlib.Core.Path.{◌≡◌, sym, ap, ◌∙◌}
use Prim.Native.Nat.{ℕ, ◌+◌, ◌*◌, ◌-◌, ◌/◌, ◌%◌, ◌^◌, ◌≤◌, ◌<◌}
use native.Mathlib.Nat.{mod-add-div', add_comm, add-mul-div_right, div-mul-le_self, lt-div-mul-add, lt_of_mul-lt-mul_right, le_of_mul-le-mul_right, mul-le-mul_left, mul-le-mul_right, mul_assoc, mul_right_comm, mul-add, add-mul}
use native.Mathlib.Omega.{arith}
use lib.Dec.{lit<}
use lib.IntN.{ℤ, pos, sub_ℕ, ◌+ℤ◌}
use lib.Signed.{shr_z}
use Rattle.exact.proofs.Difference.{pos_sub, sub_add}
use Rattle.exact.proofs.Nearest.{Rounds, floor_is}
use Rattle.matrix.specs.Inner.{unit, fixed}

-- the bits of a fraction in two parts
abbrev pub high : ℕ
high = 2 ^ 25

abbrev pub low : ℕ
low = 2 ^ 24

-- divided twice, each time with some of the bits
pub in_two_steps : (t b : ℕ) → 0 < b → t * high / b * low + t * high % b * low / b ≡ fixed t b
in_two_steps t b B =
    let a = t * high in
    let q = a / b in
    let r = a % b in
    let e : (r + q * b) * low ≡ a * low = ap (λ (x : ℕ). x * low) (mod-add-div' a b) in
    let f : r * low + q * low * b ≡ t * unit = omega (arith, add-mul r (q * b) low, mul_right_comm q low b) in
    add_comm (q * low) (r * low / b) ∙ sym (add-mul-div_right (r * low) (q * low) B) ∙ ap (λ (x : ℕ). x / b) f

-- fractions over d, which is even, by up to n and n'
module _ (d n n' : ℕ) (D : 0 < d) (E : d % 2 ≡ 0) (S : 2 * (n * d + n' * d) < unit) where
  -- what an entry is short of its fraction, by d
  abbrev short : ℕ → ℕ
  short a = a * unit - fixed a d * d

  entry : (a : ℕ) → (fixed a d * d + short a ≡ a * unit) × (short a ≤ d)
  entry a =
      let l : fixed a d * d ≤ a * unit = div-mul-le_self (a * unit) d in
      let u : a * unit < fixed a d * d + d = lt-div-mul-add D in
      (omega arith, omega arith)

  times : (k a : ℕ) → k * fixed a d * d + k * short a ≡ k * a * unit
  times k a =
      ap (λ (x : ℕ). x + k * short a) (mul_assoc k (fixed a d) d) ∙ sym (mul-add k (fixed a d * d) (short a))
      ∙ ap (λ (x : ℕ). k * x) (entry a).0 ∙ sym (mul_assoc k a unit)

  -- what up to k entries more are short
  rounding : (k u v a : ℕ) → u ≤ v + k → u * short a ≤ v * short a + k * d
  rounding k u v a h =
      let l : u * short a ≤ (v + k) * short a = mul-le-mul_right (short a) h in
      let e : (v + k) * short a ≡ v * short a + k * short a = add-mul v k (short a) in
      let m : k * short a ≤ k * d = mul-le-mul_left k (entry a).1 in
      omega arith

  -- y and two differences, u less v each, by a fraction a/d each
  module _ (y u v a u' v' a' : ℕ) (U : u ≤ v + n) (L : v ≤ u + n) (U' : u' ≤ v' + n') (L' : v' ≤ u' + n') where
    abbrev plus : ℕ
    plus = unit * y + u * fixed a d + u' * fixed a' d

    abbrev minus : ℕ
    minus = v * fixed a d + v' * fixed a' d

    -- a half, and the error bound
    abbrev lead : ℕ
    lead = unit / 2 + (n + n')

    -- what the sums come to, by d
    plus_by : (plus + lead) * d + (u * short a + u' * short a') ≡ unit * (d * y + u * a + u' * a') + unit / 2 * d + (n * d + n' * d)
    plus_by =
        let e : (plus + lead) * d ≡ plus * d + lead * d = add-mul plus lead d in
        let f : plus * d ≡ (unit * y + u * fixed a d) * d + u' * fixed a' d * d = add-mul (unit * y + u * fixed a d) (u' * fixed a' d) d in
        let g : (unit * y + u * fixed a d) * d ≡ unit * y * d + u * fixed a d * d = add-mul (unit * y) (u * fixed a d) d in
        let h : unit * y * d ≡ unit * d * y = mul_right_comm unit y d in
        let i : lead * d ≡ unit / 2 * d + (n + n') * d = add-mul (unit / 2) (n + n') d in
        omega (arith, times u a, times u' a', mul_assoc unit d y, add-mul n n' d)

    minus_by : minus * d + (v * short a + v' * short a') ≡ unit * (v * a + v' * a')
    minus_by =
        let e : minus * d ≡ v * fixed a d * d + v' * fixed a' d * d = add-mul (v * fixed a d) (v' * fixed a' d) d in
        omega (arith, times v a, times v' a')

    within : (u * short a + u' * short a' ≤ v * short a + v' * short a' + (n * d + n' * d)) × (v * short a + v' * short a' ≤ u * short a + u' * short a' + (n * d + n' * d))
    within = (omega (arith, rounding n u v a U, rounding n' u' v' a' U'), omega (arith, rounding n v u a L, rounding n' v' u' a' L'))

    -- a sum p - q over d that is z when it is rounded
    module _ (p q : ℕ) (z : ℤ) (r : Rounds p q d z) (P : p ≡ d * y + u * a + u' * a') (Q : q ≡ v * a + v' * a') where
      pub rounds_as_exact : shr_z (sub_ℕ plus minus +ℤ pos lead) unit ≡ z
      rounds_as_exact =
          let same : minus + 0 ≡ minus = omega arith in
          let up : r.up * unit * d ≡ r.up * d * unit = mul_right_comm r.up unit d in
          let down : r.down * unit * d ≡ r.down * d * unit = mul_right_comm r.down unit d in
          let above : (r.up * unit + minus) * d ≡ r.up * unit * d + minus * d = add-mul (r.up * unit) minus d in
          let below : (plus + lead + r.down * unit) * d ≡ (plus + lead) * d + r.down * unit * d = add-mul (plus + lead) (r.down * unit) d in
          let next : (r.up * unit + minus + unit) * d ≡ (r.up * unit + minus) * d + unit * d = add-mul (r.up * unit + minus) unit d in
          let floor = floor_is (plus + lead) minus r.up r.down unit (lit< tt)
          (le_of_mul-le-mul_right {k = d} (omega (arith, plus_by, minus_by, within, r.not_over)) D)
          (lt_of_mul-lt-mul_right d (omega (arith, plus_by, minus_by, within, r.not_under))) in
          ap (λ (t : ℤ). shr_z t unit) ((λ i. sub_ℕ plus minus +ℤ pos_sub lead i) ∙ sub_add plus minus lead 0 ∙ ap (sub_ℕ (plus + lead)) same) ∙ floor ∙ sym r.is
