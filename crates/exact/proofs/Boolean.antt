-- A test as a number, and a test that is made of others, taken apart.
-- Assumes nothing.
use mathlib.Core.Path.{◌≡◌, refl, sym, subst}
use mathlib.Core.Bool.{Bool, true, false, ◌&&◌, false≢true}
use Prim.Native.Nat.{◌≤◌}
use native.Mathlib.Omega.{arith}
use lib.Dec.{T}
use mir.Val.{bool_byte}

pub bit_small : (t : Bool) → bool_byte t ≤ 1
bit_small true = omega arith
bit_small false = omega arith

pub holds : {b : Bool} → b ≡ true → T b
holds e = subst T (sym e) tt

pub is_true : (b : Bool) → T b → b ≡ true
is_true true t = refl
is_true false t = absurd t

pub is_false : (b : Bool) → (b ≡ true → ⊥) → b ≡ false
is_false true h = absurd (h refl)
is_false false h = refl

pub all_three : (a b c : Bool) → T (a && (b && c)) → T a × T b × T c
all_three true true c t = (tt, tt, t)
all_three true false c t = absurd t
all_three false b c t = absurd t

pub each_of_three : (a b c : Bool) → (a && b && c) ≡ true → (a ≡ true) × (b ≡ true) × (c ≡ true)
each_of_three true true true h = (refl, refl, refl)
each_of_three true true false h = absurd (false≢true h)
each_of_three true false c h = absurd (false≢true h)
each_of_three false b c h = absurd (false≢true h)
