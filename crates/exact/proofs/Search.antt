-- What the greatest and the least number that passes a test are known by.
-- Assumes nothing.
use mathlib.Core.Path.{◌≡◌, refl, sym, ap, subst, ◌∙◌}
use mathlib.Core.Bool.{Bool, true, false}
use mathlib.Core.Logic.{◌⊎◌, inl, inr}
use Prim.Native.Nat.{ℕ, zero, suc, ◌≤◌, ◌<◌}
use native.Mathlib.Nat.{not-suc-le-zero, le_of_suc-le-suc}
use native.Mathlib.Omega.{arith}
use lib.Dec.{T}
use Rattle.exact.specs.Whole.{greatest, least}
use Rattle.exact.proofs.Order.{below_or_not}

module _ (p : ℕ → Bool) where
  -- it is within the bound
  pub greatest_within : (n : ℕ) → greatest p n ≤ n
  unfolding greatest
  greatest_within zero = omega arith
  greatest_within (suc n) = go (p (suc n)) (greatest_within n)
    where
      go : (x : Bool) → greatest p n ≤ n → elim x [ true ↦ suc n | false ↦ greatest p n ] ≤ suc n
      go true h = omega arith
      go false h = omega arith

  -- it passes, unless it is 0
  pub greatest_passes : (n : ℕ) → 0 < greatest p n → T (p (greatest p n))
  unfolding greatest
  greatest_passes zero h = absurd (not-suc-le-zero h)
  greatest_passes (suc n) h = go (p (suc n)) refl h (greatest_passes n)
    where
      go : (x : Bool) → p (suc n) ≡ x → 0 < elim x [ true ↦ suc n | false ↦ greatest p n ] → (0 < greatest p n → T (p (greatest p n)))
          → T (p (elim x [ true ↦ suc n | false ↦ greatest p n ]))
      go true e l r = subst T (sym e) tt
      go false e l r = r l

  -- none that passes is above it
  pub greatest_above : (n d : ℕ) → d ≤ n → T (p d) → d ≤ greatest p n
  unfolding greatest
  greatest_above zero d h t = h
  greatest_above (suc n) d h t = go (p (suc n)) refl (below_or_not d (suc n)) (λ l. greatest_above n d l t)
    where
      go : (x : Bool) → p (suc n) ≡ x → (d < suc n) ⊎ (suc n ≤ d) → (d ≤ n → d ≤ greatest p n) → d ≤ elim x [ true ↦ suc n | false ↦ greatest p n ]
      go true e s r = h
      go false e (inl l) r = r (le_of_suc-le-suc l)
      go false e (inr l) r = absurd (subst T (ap p same ∙ e) t)
        where
          same : d ≡ suc n
          same = omega arith

  -- it is within the bound
  least_within : (n : ℕ) → least p n ≤ n
  unfolding least
  least_within zero = omega arith
  least_within (suc n) = go (p (least p n)) (least_within n)
    where
      go : (x : Bool) → least p n ≤ n → elim x [ true ↦ least p n | false ↦ suc n ] ≤ suc n
      go true h = omega arith
      go false h = omega arith

  -- it passes, where any within the bound does
  pub least_passes : (n d : ℕ) → d ≤ n → T (p d) → T (p (least p n))
  unfolding least
  least_passes zero d h t = subst (λ (i : ℕ). T (p i)) same t
    where
      same : d ≡ zero
      same = omega arith
  least_passes (suc n) d h t = go (p (least p n)) refl (below_or_not d (suc n)) (λ l. least_passes n d l t)
    where
      go : (x : Bool) → p (least p n) ≡ x → (d < suc n) ⊎ (suc n ≤ d) → (d ≤ n → T (p (least p n)))
          → T (p (elim x [ true ↦ least p n | false ↦ suc n ]))
      go true e s r = subst T (sym e) tt
      go false e (inl l) r = absurd (subst T e (r (le_of_suc-le-suc l)))
      go false e (inr l) r = subst (λ (i : ℕ). T (p i)) same t
        where
          same : d ≡ suc n
          same = omega arith

  -- none that passes is below it
  pub least_below : (n d : ℕ) → d ≤ n → T (p d) → least p n ≤ d
  unfolding least
  least_below zero d h t = omega arith
  least_below (suc n) d h t = go (p (least p n)) refl (below_or_not d (suc n)) (λ l. least_below n d l t) (λ l. least_passes n d l t)
    where
      go : (x : Bool) → p (least p n) ≡ x → (d < suc n) ⊎ (suc n ≤ d) → (d ≤ n → least p n ≤ d) → (d ≤ n → T (p (least p n)))
          → elim x [ true ↦ least p n | false ↦ suc n ] ≤ d
      go true e (inl l) r q = r (le_of_suc-le-suc l)
      go true e (inr l) r q = omega (arith, least_within n)
      go false e (inl l) r q = absurd (subst T e (q (le_of_suc-le-suc l)))
      go false e (inr l) r q = l
