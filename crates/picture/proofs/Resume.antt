-- Whatever phase and bytes a caller kept, calls can make the picture that they are resumed as; and what calls can make is resumed as it was.
-- Assumes nothing.
use Prim.Native.Nat.{ℕ}
use mathlib.Core.Path.{◌≡◌, refl}
use mathlib.Core.Bool.{true}
use native.Mathlib.Omega.{arith}
use Rattle.std.proofs.lemmas.Bool.Decides.{nat_tests}
use Rattle.picture.specs.declared.Opened.{Opened}
use Rattle.picture.specs.declared.Phase.{Phase}
use Rattle.picture.specs.declared.Phase.TheVariants.{Fresh, Open, Closed}
use Rattle.picture.specs.Picture.{proper, resumed}
use Rattle.picture.proofs.Claims.{Sized, ProperAt}

proper_sized : (o : Opened) (b : ℕ) → proper o b ≡ true → Sized o b
unfolding proper
proper_sized o b e = grind (arith, nat_tests)

sized_proper : (o : Opened) (b : ℕ) → Sized o b → proper o b ≡ true
unfolding proper
sized_proper o b g = grind (arith, nat_tests)

pub resumed_proper : (f : Phase) (b : ℕ) → ProperAt (resumed f b) b
resumed_proper Fresh b = tt
resumed_proper (Open o) b = grind (arith, nat_tests, proper_sized)
resumed_proper Closed b = tt

pub resumed_same : (f : Phase) (b : ℕ) → ProperAt f b → resumed f b ≡ f
resumed_same Fresh b g = refl
resumed_same (Open o) b g = simp (sized_proper o b g)
resumed_same Closed b g = refl
