-- What an accepted outcome says of those that it is made of.
-- Assumes nothing.
use mathlib.Core.Path.{◌≡◌, refl}
use mathlib.Core.Bool.{Bool, true, false}
use Prim.Native.Nat.{ℕ}
use native.Mathlib.Omega.{arith}
use Rattle.exact.specs.Outcome.{Outcome, accepted, refused, ◌and_then◌, require}

refused_not_accepted : {A : Type 0} (k : ℕ) (a : A) → refused k ≡ accepted a → ⊥
refused_not_accepted k a h = let z : ◌≡◌ {A = ℕ} 0 1 = cc in omega arith

pub accepted_first : {A B : Type 0} (o : Outcome A) (f : A → Outcome B) (b : B) → (o and_then f) ≡ accepted b → (a : A) × (o ≡ accepted a) × (f a ≡ accepted b)
accepted_first (accepted a) f b h = (a, refl, h)
accepted_first (refused k) f b h = absurd (refused_not_accepted k b h)

pub required : {A : Type 0} (t : Bool) (k : ℕ) (x a : A) → require t k (accepted x) ≡ accepted a → (t ≡ true) × (x ≡ a)
required true k x a h = (refl, cc)
required false k x a h = absurd (refused_not_accepted k a h)
