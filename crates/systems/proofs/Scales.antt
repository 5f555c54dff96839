-- What holds of every system's depth and scale.
-- Assumes nothing.
use Prim.Native.Nat.{ℕ, ◌≤◌, ◌<◌}
use mathlib.Core.Path.{◌≡◌, refl, ap, ◌∙◌}
use mathlib.Core.Bool.{Bool, true, false}
use mathlib.Core.List.{List, [], ◌∷◌}
use native.Mathlib.Omega.{arith}
use lib.Dec.{eqb}
use borrow.Author.Tests.{eqb-true, ne_eqb}
use Rattle.exact.specs.Outcome.{Outcome, accepted, refused}
use Rattle.systems.specs.declared.System.{System}
use Rattle.systems.specs.declared.System.TheVariants.{Bt709Bits8, Bt709Bits10, Bt2020Bits10, Bt2020Bits12}
use Rattle.systems.specs.Systems.{number, scale, named, named_in}

pub scale_range : (y : System) → (0 < scale y) × (scale y ≤ 16)
scale_range Bt709Bits8 = omega arith
scale_range Bt709Bits10 = omega arith
scale_range Bt2020Bits10 = omega arith
scale_range Bt2020Bits12 = omega arith

-- a system's number names it
pub named_number : (y : System) → named (number y) ≡ accepted y
named_number Bt709Bits8 = refl
named_number Bt709Bits10 = refl
named_number Bt2020Bits10 = refl
named_number Bt2020Bits12 = refl

-- and no other number does
number_among : (ys : List System) (n : ℕ) (y : System) → named_in ys n ≡ accepted y → n ≡ number y
number_among [] n y e = let z : ◌≡◌ {A = ℕ} 0 1 = cc in absurd (omega arith)
number_among (x ∷ xs) n y e = found (eqb n (number x)) refl e (number_among xs n y)
  where
    found : (t : Bool) → eqb n (number x) ≡ t → elim t [ true ↦ accepted x | false ↦ named_in xs n ] ≡ accepted y → (named_in xs n ≡ accepted y → n ≡ number y) → n ≡ number y
    found true f g later = let same : x ≡ y = cc in eqb-true n (number x) f ∙ ap number same
    found false f g later = later g

pub only_its_number : (n : ℕ) (y : System) → named n ≡ accepted y → n ≡ number y
only_its_number = number_among (Bt709Bits8 ∷ Bt709Bits10 ∷ Bt2020Bits10 ∷ Bt2020Bits12 ∷ [])

-- a number that no system has is refused
pub unnamed : (n : ℕ) → (n ≡ 1 → ⊥) → (n ≡ 2 → ⊥) → (n ≡ 3 → ⊥) → (n ≡ 4 → ⊥) → named n ≡ refused 1
unnamed n n1 n2 n3 n4 = other Bt709Bits8 (Bt709Bits10 ∷ Bt2020Bits10 ∷ Bt2020Bits12 ∷ []) n1
    ∙ other Bt709Bits10 (Bt2020Bits10 ∷ Bt2020Bits12 ∷ []) n2 ∙ other Bt2020Bits10 (Bt2020Bits12 ∷ []) n3 ∙ other Bt2020Bits12 [] n4
  where
    other : (y : System) (ys : List System) → (n ≡ number y → ⊥) → named_in (y ∷ ys) n ≡ named_in ys n
    other y ys h = ap pick (ne_eqb n (number y) h)
      where
        pick : Bool → Outcome System
        pick b = elim b [ true ↦ accepted y | false ↦ named_in ys n ]
