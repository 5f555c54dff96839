-- The numbers of the systems of constant luminance: each names its system, and no other number names one.
-- Assumes nothing.
use Prim.Native.Nat.{ℕ}
use mathlib.Core.Path.{◌≡◌, refl}
use mathlib.Core.Bool.{Bool, true, false}
use lib.Dec.{eqb}
use borrow.Author.Tests.{ne_eqb}
use Rattle.exact.specs.Outcome.{accepted, refused}
use Rattle.systems.specs.declared.refusal.Refusal.TheVariants as refusal
use Rattle.systems.proofs.Answerable.{Answerable, values, refusing}
use Rattle.constant_luminance.specs.declared.ConstantSystem.{ConstantSystem}
use Rattle.constant_luminance.specs.declared.ConstantSystem.TheVariants.{Bits10, Bits12}
use Rattle.constant_luminance.specs.ConstantLuminance.{number, named}

pub named_number : (y : ConstantSystem) → named (number y) ≡ accepted y
named_number Bits10 = refl
named_number Bits12 = refl

pub unnamed : (n : ℕ) → (n ≡ 5 → ⊥) → (n ≡ 6 → ⊥) → named n ≡ refused 1
unnamed n n5 n6 = λ i. elim (ne_eqb n 5 n5 i) [ true ↦ accepted Bits10 | false ↦ elim (ne_eqb n 6 n6 i) [ true ↦ accepted Bits12 | false ↦ refused 1 ] ]

-- a number has an answer
pub named_answerable : (n : ℕ) → Answerable (named n)
named_answerable n = by_tests (eqb n 5) (eqb n 6)
  where
    by_tests : (a b : Bool) → Answerable {A = ConstantSystem} (elim a [ true ↦ accepted Bits10 | false ↦ elim b [ true ↦ accepted Bits12 | false ↦ refused 1 ] ])
    by_tests true b = values Bits10
    by_tests false true = values Bits12
    by_tests false false = refusing refusal.System
