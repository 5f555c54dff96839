-- What holds of the code of a light, over the scale of light u, the scale s, and α and β as a and b of 10000.
-- Assumes nothing.
use mathlib.Core.Path.{◌≡◌, ap, subst⁻¹}
use mathlib.Core.Bool.{Bool, true, false}
use mathlib.Core.Logic.{◌⊎◌, inl, inr, ◌↔◌}
use Prim.Native.Nat.{ℕ, suc, ◌+◌, ◌*◌, ◌-◌, ◌≤◌, ◌<◌}
use native.Mathlib.Nat.{le_trans, mul-le-mul_left, mul-le-mul_right, pow-le-pow_left, mul_assoc, add-mul, mul_comm, mul_left_comm, mul-add, mul-one}
use native.Mathlib.Omega.{arith}
use lib.Dec.{T, leb, leb→le, le→leb}
use borrow.Author.Tests.{lt-ltb, le-ltb}
use Rattle.exact.specs.Whole.{greatest}
use Rattle.exact.proofs.Order.{below_or_not}
use Rattle.exact.proofs.Rounding.{int_at_least, int_rises}
use Rattle.exact.proofs.Search.{greatest_within, greatest_passes, greatest_above}
use Rattle.curve.specs.Curve.{dark, linear, reaches, curved, code_of}
use Rattle.curve.proofs.Tests.{Rule}

-- the powers' rule rises with the light and falls with the code
reaches_up : (u s a D : ℕ) {k l : ℕ} → k ≤ l → T (reaches u s a k D) → T (reaches u s a l D)
unfolding reaches
reaches_up u s a D h p = le→leb _ _ (le_trans (leb→le _ _ p) (mul-le-mul_right _ (pow-le-pow_left h 9)))

reaches_down : (u s a k : ℕ) {D E : ℕ} → D ≤ E → T (reaches u s a k E) → T (reaches u s a k D)
unfolding reaches
reaches_down u s a k {D} {E} h p = le→leb _ _ (le_trans (mul-le-mul_left _ (pow-le-pow_left lower 20)) (leb→le _ _ p))
  where
    lower : (2 * D - 1 - 32 * s) * 10000 + 438 * s * (a - 10000) ≤ (2 * E - 1 - 32 * s) * 10000 + 438 * s * (a - 10000)
    lower = omega arith

-- the light reaches 16s + d on the line
unfoldable pub on_line_at : ℕ → ℕ → ℕ → ℕ → Bool
on_line_at u s k d = leb ((16 * s + d) * (2 * (2 * u))) (2 * ((219 * 9 * k + 32 * u) * s) + 2 * u)

-- the light's code is at least 16s + d, as a test
unfoldable pub at_least : ℕ → ℕ → ℕ → ℕ → ℕ → ℕ → Bool
at_least u s a b k d = elim (dark u b k) [ true ↦ on_line_at u s k d | false ↦ reaches u s a k (16 * s + d) ]

-- k0 is the first light from β on, the line ends at or below full signal, and at k0 the curve has not fallen below the line's last code
pub record Edge (u s a b k0 : ℕ) : Type 0 where
  pub light : 0 < u
  pub last : k0 * 10000 < b * u + 10000
  pub first : b * u ≤ k0 * 10000
  pub gentle : 9 * b ≤ 20000
  pub meets : T (reaches u s a k0 (linear u s (k0 - 1)))

module _ (u s a b k0 : ℕ) (edge : Edge u s a b k0) where
  dark_before : (k : ℕ) → k < k0 → dark u b k ≡ true
  unfolding dark
  dark_before k h = lt-ltb (k * 10000) (b * u) (omega (arith, edge.last))

  bright_from : (k : ℕ) → k0 ≤ k → dark u b k ≡ false
  unfolding dark
  bright_from k h = le-ltb (k * 10000) (b * u) (omega (arith, edge.first))

  on_line : (k d : ℕ) → (16 * s + d ≤ linear u s k) ↔ T (on_line_at u s k d)
  unfolding linear on_line_at
  on_line k d =
      let i = int_at_least ((219 * 9 * k + 32 * u) * s) (2 * u) (16 * s + d) (omega (arith, edge.light)) in
      ((λ h. le→leb _ _ (i.0 h)), (λ t. i.1 (leb→le _ _ t)))

  -- the products of the line's rule, over k·s, u·s and d·u
  spread : (k : ℕ) → (219 * 9 * k + 32 * u) * s ≡ 1971 * (k * s) + 32 * (u * s)
  spread k = omega (arith, add-mul (219 * 9 * k) (32 * u) s, mul_assoc 1971 k s, mul_assoc 32 u s)

  twice : (d : ℕ) → d * (2 * (2 * u)) ≡ 4 * (u * d)
  twice d = omega (arith, mul_left_comm d 2 (2 * u), mul_left_comm d 2 u, mul_comm d u)

  line_low : (k : ℕ) → 16 * s ≤ linear u s k
  unfolding linear
  line_low k = (int_at_least ((219 * 9 * k + 32 * u) * s) (2 * u) (16 * s) (omega (arith, edge.light))).1
      (omega (arith, spread k, mul_assoc 16 s (2 * (2 * u)), twice s))

  -- 9k ≤ 2u is V ≤ 1
  line_high : (k : ℕ) → k < k0 → linear u s k ≤ 235 * s
  unfolding on_line_at
  line_high k h = go (below_or_not (235 * s) (linear u s k))
    where
      small : 9 * k ≤ 2 * u
      small = omega (arith, edge.last, mul-le-mul_right u edge.gentle, mul_assoc 9 b u)

      go : (235 * s < linear u s k) ⊎ (linear u s k ≤ 235 * s) → linear u s k ≤ 235 * s
      go (inl l) =
          let past : (16 * s + suc (219 * s)) * (2 * (2 * u)) ≤ 2 * ((219 * 9 * k + 32 * u) * s) + 2 * u = leb→le _ _ ((on_line k (suc (219 * s))).0 (omega arith)) in
          let sum : 16 * s + suc (219 * s) ≡ 235 * s + 1 = omega arith in
          absurd (omega (arith, edge.light, spread k, mul-le-mul_right s small, mul_assoc 9 k s, mul_assoc 2 u s, past, sum, twice (16 * s + suc (219 * s)), ap (λ (n : ℕ). u * n) sum, mul-add u (235 * s) 1, mul_left_comm u 235 s, mul-one u))
      go (inr l) = l

  on_curve : (k d : ℕ) → 0 < d → d ≤ 219 * s → (16 * s + d ≤ curved u s a k) ↔ T (reaches u s a k (16 * s + d))
  unfolding curved
  on_curve k d p h =
      let f : ℕ → Bool = λ n. reaches u s a k (16 * s + n) in (
        (λ l. reaches_down u s a k {E = 16 * s + greatest f (219 * s)} l (greatest_passes f (219 * s) (omega arith))),
        (λ t. omega (arith, greatest_above f (219 * s) d h t)),
      )

  curve_high : (k : ℕ) → curved u s a k ≤ 235 * s
  unfolding curved
  curve_high k = omega (arith, greatest_within (λ (n : ℕ). reaches u s a k (16 * s + n)) (219 * s))

  curve_low : (k : ℕ) → 16 * s ≤ curved u s a k
  unfolding curved
  curve_low k = omega arith

  -- what holds of the line's code and of the curve's holds of the code
  by_part : (P : ℕ → Type 0) (k : ℕ) → (k < k0 → P (linear u s k)) → (k0 ≤ k → P (curved u s a k)) → P (code_of u s a b k)
  unfolding code_of
  by_part P k f g = go (below_or_not k k0)
    where
      pick : Bool → ℕ
      pick x = elim x [ true ↦ linear u s k | false ↦ curved u s a k ]

      go : (k < k0) ⊎ (k0 ≤ k) → P (pick (dark u b k))
      go (inl h) = subst⁻¹ (λ (x : Bool). P (pick x)) (dark_before k h) (f h)
      go (inr h) = subst⁻¹ (λ (x : Bool). P (pick x)) (bright_from k h) (g h)

  code_low : (k : ℕ) → 16 * s ≤ code_of u s a b k
  code_low k = by_part (λ c. 16 * s ≤ c) k (λ h. line_low k) (λ h. curve_low k)

  code_high : (k : ℕ) → code_of u s a b k ≤ 235 * s
  code_high k = by_part (λ c. c ≤ 235 * s) k (line_high k) (λ h. curve_high k)

  -- document 01's own words: from β on, the code is at least D exactly when the rule at D holds
  pub at_least_by_rule : (k d : ℕ) → k0 ≤ k → 0 < d → d ≤ 219 * s → (16 * s + d ≤ code_of u s a b k) ↔ T (reaches u s a k (16 * s + d))
  at_least_by_rule k d h p q = by_part (λ c. (16 * s + d ≤ c) ↔ T (reaches u s a k (16 * s + d))) k (λ l. absurd (omega arith)) (λ l. on_curve k d p q)

  -- the test says what the code is at least
  at_least_lem : (k d : ℕ) → 0 < d → d ≤ 219 * s → (16 * s + d ≤ code_of u s a b k) ↔ T (at_least u s a b k d)
  unfolding at_least
  at_least_lem k d p q = by_part (λ c. (16 * s + d ≤ c) ↔ T (pick (dark u b k))) k
      (λ h. subst⁻¹ (λ (x : Bool). (16 * s + d ≤ linear u s k) ↔ T (pick x)) (dark_before k h) (on_line k d))
      (λ h. subst⁻¹ (λ (x : Bool). (16 * s + d ≤ curved u s a k) ↔ T (pick x)) (bright_from k h) (on_curve k d p q))
    where
      pick : Bool → Bool
      pick x = elim x [ true ↦ on_line_at u s k d | false ↦ reaches u s a k (16 * s + d) ]

  line_rises : (k l : ℕ) → k ≤ l → linear u s k ≤ linear u s l
  unfolding linear
  line_rises k l h = int_rises _ _ (2 * u) (omega (arith, edge.light)) (omega (arith, spread k, spread l, mul-le-mul_right s h))

  curve_rises : (k l : ℕ) → k ≤ l → curved u s a k ≤ curved u s a l
  curve_rises k l h = go (below_or_not (16 * s) (curved u s a k))
    where
      go : (16 * s < curved u s a k) ⊎ (curved u s a k ≤ 16 * s) → curved u s a k ≤ curved u s a l
      go (inl p) =
          let d = curved u s a k - 16 * s in
          let e : 16 * s + d ≡ curved u s a k = omega arith in
          let q : d ≤ 219 * s = omega (arith, curve_high k) in
          omega (arith, (on_curve l d (omega arith) q).1 (reaches_up u s a (16 * s + d) h ((on_curve k d (omega arith) q).0 (omega arith))))
      go (inr p) = omega (arith, curve_low l)

  -- at the first light from β on the code has not fallen
  met : 0 < k0 → linear u s (k0 - 1) ≤ curved u s a k0
  met z = go (below_or_not (16 * s) (linear u s (k0 - 1)))
    where
      go : (16 * s < linear u s (k0 - 1)) ⊎ (linear u s (k0 - 1) ≤ 16 * s) → linear u s (k0 - 1) ≤ curved u s a k0
      go (inl p) =
          let d = linear u s (k0 - 1) - 16 * s in
          let e : 16 * s + d ≡ linear u s (k0 - 1) = omega arith in
          omega (arith, (on_curve k0 d (omega arith) (omega (arith, line_high (k0 - 1) (omega arith)))).1 (subst⁻¹ (λ (n : ℕ). T (reaches u s a k0 n)) e edge.meets))
      go (inr p) = omega (arith, curve_low k0)

  codes_rise : (k l : ℕ) → k ≤ l → code_of u s a b k ≤ code_of u s a b l
  codes_rise k l h =
      by_part (λ c. c ≤ code_of u s a b l) k
      (λ kd. by_part (λ c. linear u s k ≤ c) l (λ ld. line_rises k l h)
      (λ lb. le_trans (line_rises k (k0 - 1) (omega arith)) (le_trans (met (omega arith)) (curve_rises k0 l lb))))
      (λ kb. by_part (λ c. curved u s a k ≤ c) l (λ ld. absurd (omega arith)) (λ lb. curve_rises k l h))

  -- the curve's codes, with their test
  pub rule : Rule (record { full = u; first = 16 * s; above = 219 * s; code = code_of u s a b }) (at_least u s a b)
  rule = record { low = code_low; high = λ k. omega (arith, code_high k); rises = codes_rise; tests = at_least_lem }
