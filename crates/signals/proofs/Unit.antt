-- A signal's two tests: from 0 to 1 in the order of the floats is from 0 to 1 in value.
-- Assumes nothing.
use Rattle.std.proofs.Common.{◌≡◌, ℕ, zero, suc, ◌+◌, ◌*◌, ◌<◌, ◌≤◌, Bool, true, false, not, ◌&&◌, ◌||◌, T, eqb, ltb, leb, pos, sym, refl, ◌∙◌, inl, inr, zero-le, le_of_eq, le_of_lt, eq-or-lt_of_le, mul-pos, one-mul, zero-mul, mul-one, arith, eqb→eq, leb→le, ltb-false, ltb-true, lt-ltb, eq-eqb, ne_eqb, le-leb}
use lib.Dec.{leb-zero}
use lib.Ieee.{Float, nan, inf, fin, up, down, le, is_nan}
use lib.Ieee.Fits.{up_pos, down_pos}
use lib.Ieee.Positive.{num, den}
use borrow.Author.Tests.{lt-leb}
use Rattle.signals.specs.Signals.{in_unit}

below_or_equal : (a b : ℕ) → (ltb a b || (eqb a b && true)) ≡ leb a b
below_or_equal a b = go (ltb a b) (ltb-true a b) (ltb-false a b)
  where
    go : (t : Bool) → (t ≡ true → a < b) → (t ≡ false → b ≤ a) → (t || (eqb a b && true)) ≡ leb a b
    go true l g = sym (le-leb a b (le_of_lt (l refl)))
    go false l g = elim (eq-or-lt_of_le (g refl)) [
      | inl e ↦ rw (eq-eqb a b (sym e), le-leb a b (le_of_eq (sym e)))
      | inr h ↦ rw (ne_eqb a b (λ (e : a ≡ b). omega arith), lt-leb a b h)
    ]

and_true : (b : Bool) → (b && true) ≡ b
and_true true = refl
and_true false = refl

-- a product is zero where its first factor is
zero_first : (m u : ℕ) → 0 < u → eqb 0 (m * u) ≡ eqb m 0
zero_first zero u U = rw zero-mul
zero_first (suc m) u U =
    let p : 0 < suc m * u = mul-pos (omega arith) U in
    ne_eqb 0 (suc m * u) (λ (e : 0 ≡ suc m * u). omega arith) ∙ sym (ne_eqb (suc m) 0 (λ (e : suc m ≡ 0). omega arith))

pub tests_are_the_unit : (x : Float) → (le (fin false 0 (pos 0)) x && le x (fin false 1 (pos 0))) ≡ in_unit x
unfolding le
tests_are_the_unit nan = refl
tests_are_the_unit (inf true) = refl
tests_are_the_unit (inf false) = refl
tests_are_the_unit (fin true m e) =
    let d : 0 < m * up e + down e = omega (arith, down_pos e) in
    simp (mul-one, one-mul, zero-mul, zero_first m (up e) (up_pos e), lt-ltb 0 (m * up e + down e) d, and_true)
tests_are_the_unit (fin false m e) = simp (below_or_equal, mul-one, one-mul, zero-mul, leb-zero)

pub unit_is_a_number : (x : Float) → T (in_unit x) → T (not (is_nan x))
unfolding is_nan
unit_is_a_number nan t = absurd t
unit_is_a_number (inf s) t = tt
unit_is_a_number (fin s m e) t = tt

pub unit_at_most_one : (x : Float) → T (in_unit x) → num x ≤ den x
unit_at_most_one nan t = absurd t
unit_at_most_one (inf s) t = absurd t
unit_at_most_one (fin true m e) t = rw (eqb→eq m 0 t, zero-mul) zero-le
unit_at_most_one (fin false m e) t = leb→le (m * up e) (down e) t
