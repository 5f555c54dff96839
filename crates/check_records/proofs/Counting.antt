-- The tally of cases that are compared one after the other.
-- Assumes nothing.
use Prim.Native.Nat.{ℕ, ◌+◌, ◌≤◌, ◌<◌}
use mathlib.Core.Path.{◌≡◌, refl, sym, ap, ◌∙◌}
use mathlib.Core.Bool.{Bool}
use native.Mathlib.Numerals.{add-one}
use native.Mathlib.Omega.{arith}
use Rattle.check_records.specs.declared.tally.Tally.{Tally}
use Rattle.check_records.specs.Records.{none, tallied, tally_to, ended}

module _ (same : ℕ → Bool) (n : ℕ) where
  -- the tally of the first i of n cases
  pub record Counted (i : ℕ) (t : Tally) : Type 0 where
    pub within : i ≤ n
    pub tally : t ≡ tally_to same i

  pub none_yet : Counted 0 none
  unfolding tally_to
  none_yet = record { within = omega arith; tally = refl }

module _ {same : ℕ → Bool} {n i : ℕ} {t : Tally} (k : Counted same n i t) where
  pub one_more : {u : Tally} {b : Bool} → i < n → b ≡ same i → u ≡ tallied t b → Counted same n (i + 1) u
  unfolding tally_to
  one_more {u} {b} h s w = record {
    within = omega arith;
    tally = w ∙ ap (λ (x : Tally). tallied x b) k.tally ∙ ap (tallied (tally_to same i)) s ∙ ap (tally_to same) (sym (add-one i));
  }

  pub all_counted : {u : Tally} (left : ℕ) → n ≤ i → u ≡ ended t left → u ≡ ended (tally_to same n) left
  all_counted left h w =
      let e : i ≡ n = omega (arith, k.within) in
      w ∙ ap (λ (x : Tally). ended x left) (k.tally ∙ ap (tally_to same) e)
