-- A whole number as the difference of two naturals, `sub_ℕ a b`: sums and multiples keep that form, so that an equation of whole numbers is one of naturals.
-- Assumes nothing.
use mathlib.Core.Path.{◌≡◌, refl, sym, ap, ◌∙◌}
use mathlib.Core.Bool.{false≢true}
use mathlib.Core.Logic.{◌⊎◌, inl, inr}
use Prim.Native.Nat.{ℕ, zero, suc, ◌+◌, ◌*◌, ◌-◌, ◌≤◌, ◌<◌, zero-le}
use native.Mathlib.Omega.{arith}
use borrow.Author.Tests.{lt-ltb, le-ltb}
use lib.Dec.{le→leb}
use lib.Signed.{◌≤ℤ◌, non_neg}
use lib.IntN.{ℤ, pos, negsuc, neg_ℤ, nat_abs, sub_ℕ, ◌+ℤ◌, ◌-ℤ◌, ◌*ℤ◌, zero-*ℤ, *ℤ-zero, *ℤ-negsuc, *ℤ_comm}
use Rattle.exact.proofs.Order.{below_or_not}

pub sub_pos : (a b : ℕ) → b ≤ a → sub_ℕ a b ≡ pos (a - b)
sub_pos a b h = rw (le-ltb a b h) refl

pub sub_neg : (a b : ℕ) → a < b → sub_ℕ a b ≡ negsuc (b - suc a)
sub_neg a b h = rw (lt-ltb a b h) refl

-- two differences are equal where the sums across are
pub sub_eq : (a b c d : ℕ) → a + d ≡ c + b → sub_ℕ a b ≡ sub_ℕ c d
sub_eq a b c d e = elim (below_or_not a b) [
  | inl h ↦ let k : c < d = omega arith in let q : b - suc a ≡ d - suc c = omega arith in sub_neg a b h ∙ ap negsuc q ∙ sym (sub_neg c d k)
  | inr h ↦ let k : d ≤ c = omega arith in let q : a - b ≡ c - d = omega arith in sub_pos a b h ∙ ap pos q ∙ sym (sub_pos c d k)
]

pub pos_sub : (n : ℕ) → pos n ≡ sub_ℕ n 0
pos_sub n = let q : n - 0 ≡ n = omega arith in sym (sub_pos n 0 zero-le ∙ ap pos q)

pub neg_sub : (n : ℕ) → neg_ℤ (pos n) ≡ sub_ℕ 0 n
neg_sub zero = refl
neg_sub (suc n) = let h : 0 < suc n = omega arith in let q : suc n - suc 0 ≡ n = omega arith in sym (sub_neg 0 (suc n) h ∙ ap negsuc q)

pub sub_add : (a b c d : ℕ) → sub_ℕ a b +ℤ sub_ℕ c d ≡ sub_ℕ (a + c) (b + d)
sub_add a b c d = by_order (below_or_not a b) (below_or_not c d)
  where
    by_order : (a < b) ⊎ (b ≤ a) → (c < d) ⊎ (d ≤ c) → sub_ℕ a b +ℤ sub_ℕ c d ≡ sub_ℕ (a + c) (b + d)
    by_order (inl h) (inl k) =
        let x = b - suc a in
        let y = d - suc c in
        let q : 0 + (b + d) ≡ a + c + suc (suc (x + y)) = omega arith in
        (λ i. sub_neg a b h i +ℤ sub_neg c d k i) ∙ neg_sub (suc (suc (x + y))) ∙ sub_eq 0 (suc (suc (x + y))) (a + c) (b + d) q
    by_order (inl h) (inr k) =
        let x = b - suc a in
        let q : c - d + (b + d) ≡ a + c + suc x = omega arith in
        (λ i. sub_neg a b h i +ℤ sub_pos c d k i) ∙ sub_eq (c - d) (suc x) (a + c) (b + d) q
    by_order (inr h) (inl k) =
        let y = d - suc c in
        let q : a - b + (b + d) ≡ a + c + suc y = omega arith in
        (λ i. sub_pos a b h i +ℤ sub_neg c d k i) ∙ sub_eq (a - b) (suc y) (a + c) (b + d) q
    by_order (inr h) (inr k) =
        let q : a - b + (c - d) + (b + d) ≡ a + c + 0 = omega arith in
        (λ i. sub_pos a b h i +ℤ sub_pos c d k i) ∙ pos_sub (a - b + (c - d)) ∙ sub_eq (a - b + (c - d)) 0 (a + c) (b + d) q

negate_sub : (a b : ℕ) → neg_ℤ (sub_ℕ a b) ≡ sub_ℕ b a
negate_sub a b = elim (below_or_not a b) [
  | inl h ↦ let k : a ≤ b = omega arith in let q : suc (b - suc a) ≡ b - a = omega arith in ap neg_ℤ (sub_neg a b h) ∙ ap pos q ∙ sym (sub_pos b a k)
  | inr h ↦ let q : 0 + a ≡ b + (a - b) = omega arith in ap neg_ℤ (sub_pos a b h) ∙ neg_sub (a - b) ∙ sub_eq 0 (a - b) b a q
]

pub sub_minus : (a b c d : ℕ) → sub_ℕ a b -ℤ sub_ℕ c d ≡ sub_ℕ (a + d) (b + c)
sub_minus a b c d = ap (λ (z : ℤ). sub_ℕ a b +ℤ z) (negate_sub c d) ∙ sub_add a b d c

pub pos_less : (a b : ℕ) → pos a -ℤ pos b ≡ sub_ℕ a b
pos_less a b =
    let p : a + 0 ≡ a = omega arith in
    let q : 0 + b ≡ b = omega arith in
    (λ i. pos_sub a i -ℤ pos_sub b i) ∙ sub_minus a 0 b 0 ∙ (λ i. sub_ℕ (p i) (q i))

-- a difference by a natural
pub sub_mul : (a b k : ℕ) → sub_ℕ a b *ℤ pos k ≡ sub_ℕ (a * k) (b * k)
sub_mul a b k = elim (below_or_not a b) [
  | inl h ↦
      let x = suc (b - suc a) in
      let p : b ≡ x + a = omega arith in
      let r : b * k ≡ (x + a) * k = ap (λ (n : ℕ). n * k) p in
      let q : 0 + b * k ≡ a * k + x * k = omega arith in
      ap (λ (z : ℤ). z *ℤ pos k) (sub_neg a b h) ∙ neg_sub (x * k) ∙ sub_eq 0 (x * k) (a * k) (b * k) q
  | inr h ↦
      let x = a - b in
      let p : a ≡ x + b = omega arith in
      let r : a * k ≡ (x + b) * k = ap (λ (n : ℕ). n * k) p in
      let q : x * k + b * k ≡ a * k + 0 = omega arith in
      ap (λ (z : ℤ). z *ℤ pos k) (sub_pos a b h) ∙ pos_sub (x * k) ∙ sub_eq (x * k) 0 (a * k) (b * k) q
]

-- the negative of a natural by a whole number
pub negated : (k : ℕ) (z : ℤ) → neg_ℤ (pos k) *ℤ z ≡ neg_ℤ (z *ℤ pos k)
negated zero z = zero-*ℤ z ∙ sym (ap neg_ℤ (*ℤ-zero z))
negated (suc k) z = *ℤ_comm (negsuc k) z ∙ *ℤ-negsuc z k

-- a difference that is a natural
pub sub_is : (a b k : ℕ) → sub_ℕ a b ≡ pos k → a ≡ k + b
sub_is a b k e = elim (below_or_not a b) [
  | inl h ↦ absurd (false≢true (ap non_neg (sym (sub_neg a b h) ∙ e)))
  | inr h ↦ let q : a - b ≡ k = ap nat_abs (sym (sub_pos a b h) ∙ e) in omega arith
]

pub sub_size : (a b k : ℕ) → a ≤ b + k → b ≤ a + k → nat_abs (sub_ℕ a b) ≤ k
sub_size a b k h l = elim (below_or_not a b) [
  | inl m ↦ rw (sub_neg a b m) (omega arith)
  | inr m ↦ rw (sub_pos a b m) (omega arith)
]

-- the order of two differences is that of the sums across
pub sub_le : (a b c d : ℕ) → a + d ≤ c + b → sub_ℕ a b ≤ℤ sub_ℕ c d
sub_le a b c d h = by_order (below_or_not a b) (below_or_not c d)
  where
    by_order : (a < b) ⊎ (b ≤ a) → (c < d) ⊎ (d ≤ c) → sub_ℕ a b ≤ℤ sub_ℕ c d
    by_order (inl k) (inl l) = rw (sub_neg a b k, sub_neg c d l) record { le = le→leb (d - suc c) (b - suc a) (omega arith) }
    by_order (inl k) (inr l) = rw (sub_neg a b k, sub_pos c d l) record { le = tt }
    by_order (inr k) (inl l) = absurd (omega arith)
    by_order (inr k) (inr l) = rw (sub_pos a b k, sub_pos c d l) record { le = le→leb (a - b) (c - d) (omega arith) }
