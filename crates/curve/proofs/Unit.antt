-- The unit of light does not matter: c·k of c·u has the code of k of u, whatever the scale s, α and β are.
-- Assumes nothing.
use mathlib.Core.Path.{◌≡◌, sym, ap, ◌∙◌}
use mathlib.Core.Bool.{true, false}
use mathlib.Core.Logic.{inl, inr}
use Prim.Native.Nat.{ℕ, zero, suc, ◌+◌, ◌*◌, ◌-◌, ◌^◌, ◌<◌}
use native.Mathlib.Nat.{mul-le-mul_left, mul_assoc, mul_left_comm, mul-mul-mul_comm, mul-suc, mul-add, pow-zero, pow-suc, pow-le-pow_left}
use native.Mathlib.Omega.{arith}
use lib.Dec.{leb, ltb}
use borrow.Author.Tests.{lt-ltb, le-ltb, le-leb, lt-leb}
use Rattle.exact.specs.Whole.{INT, greatest}
use Rattle.exact.proofs.Order.{below_or_not}
use Rattle.exact.proofs.Rounding.{int_scaled}
use Rattle.curve.specs.Curve.{dark, linear, reaches, curved, code_of}

-- a factor on both sides of an order
less : (c x y : ℕ) → 0 < c → x < y → c * x < c * y
less c x y p h = omega (arith, mul-le-mul_left c h, mul-suc c x)

ltb_scaled : (c x y : ℕ) → 0 < c → ltb (c * x) (c * y) ≡ ltb x y
ltb_scaled c x y p = elim (below_or_not x y) [
  | inl h ↦ lt-ltb (c * x) (c * y) (less c x y p h) ∙ sym (lt-ltb x y h)
  | inr h ↦ le-ltb (c * x) (c * y) (mul-le-mul_left c h) ∙ sym (le-ltb x y h)
]

leb_scaled : (c x y : ℕ) → 0 < c → leb (c * x) (c * y) ≡ leb x y
leb_scaled c x y p = elim (below_or_not y x) [
  | inl h ↦ lt-leb (c * x) (c * y) (less c y x p h) ∙ sym (lt-leb x y h)
  | inr h ↦ le-leb (c * x) (c * y) (mul-le-mul_left c h) ∙ sym (le-leb x y h)
]

power_of_product : (c x n : ℕ) → (c * x) ^ n ≡ c ^ n * x ^ n
power_of_product c x zero = simp pow-zero
power_of_product c x (suc n) =
    pow-suc (c * x) n ∙ ap (λ (z : ℕ). z * (c * x)) (power_of_product c x n) ∙ mul-mul-mul_comm (c ^ n) (x ^ n) c x
    ∙ (λ i. sym (pow-suc c n) i * sym (pow-suc x n) i)

module _ (c u s a b k : ℕ) (some : 0 < c) where
  dark_scaled : dark (c * u) b (c * k) ≡ dark u b k
  unfolding dark
  dark_scaled = (λ i. ltb (mul_assoc c k 10000 i) (mul_left_comm b c u i)) ∙ ltb_scaled c (k * 10000) (b * u) some

  linear_scaled : linear (c * u) s (c * k) ≡ linear u s k
  unfolding linear
  linear_scaled = (λ i. INT (top i) (mul_left_comm 2 c u i)) ∙ int_scaled c ((219 * 9 * k + 32 * u) * s) (2 * u) some
    where
      top : (219 * 9 * (c * k) + 32 * (c * u)) * s ≡ c * ((219 * 9 * k + 32 * u) * s)
      top =
          let e : 219 * 9 * (c * k) + 32 * (c * u) ≡ c * (219 * 9 * k + 32 * u) = omega (arith, mul-add c (219 * 9 * k) (32 * u), mul_left_comm c (219 * 9) k, mul_left_comm c 32 u) in
          ap (λ (z : ℕ). z * s) e ∙ mul_assoc c (219 * 9 * k + 32 * u) s

  reaches_scaled : (D : ℕ) → reaches (c * u) s a (c * k) D ≡ reaches u s a k D
  unfolding reaches
  reaches_scaled D = (λ i. leb (side u x i) (side k z i)) ∙ leb_scaled (c ^ 9) (u ^ 9 * x) (k ^ 9 * z) (pow-le-pow_left some 9)
    where
      x : ℕ
      x = ((2 * D - 1 - 32 * s) * 10000 + 438 * s * (a - 10000)) ^ 20

      z : ℕ
      z = (438 * s * a) ^ 20

      side : (l w : ℕ) → (c * l) ^ 9 * w ≡ c ^ 9 * (l ^ 9 * w)
      side l w = ap (λ (p : ℕ). p * w) (power_of_product c l 9) ∙ mul_assoc (c ^ 9) (l ^ 9) w

  curved_scaled : curved (c * u) s a (c * k) ≡ curved u s a k
  unfolding curved
  curved_scaled = λ i. 16 * s + greatest (λ d. reaches_scaled (16 * s + d) i) (219 * s)

  pub same_code : code_of (c * u) s a b (c * k) ≡ code_of u s a b k
  unfolding code_of
  same_code = λ i. elim (dark_scaled i) [ true ↦ linear_scaled i | false ↦ curved_scaled i ]
