-- The weights are one of two rows.
-- Assumes nothing.
use mathlib.Core.Path.{◌≡◌, refl}
use mathlib.Core.Logic.{◌⊎◌, inl, inr}
use Prim.Native.Nat.{◌≤◌}
use lib.Dec.{lit≤}
use lib.IntN.{pos}
use Rattle.systems.specs.declared.Matrix.{Matrix}
use Rattle.systems.specs.declared.Matrix.TheVariants.{Bt709, Bt2020}
use Rattle.systems.specs.declared.Weights.{Weights}
use Rattle.systems.specs.Systems.{kr, kg, kb}

abbrev pub Row : Matrix → Matrix → Weights → Type 0
Row m x w = (x ≡ m) × (w ≡ record { kr = pos (kr m); kg = pos (kg m); kb = pos (kb m) })

pub row_of : (x : Matrix) (w : Weights) → (w.kr ≡ pos (kr x)) × (w.kg ≡ pos (kg x)) × (w.kb ≡ pos (kb x)) → Row Bt709 x w ⊎ Row Bt2020 x w
row_of Bt709 w e = inl (refl, λ i. record { kr = e.0 i; kg = e.1 i; kb = e.2 i })
row_of Bt2020 w e = inr (refl, λ i. record { kr = e.0 i; kg = e.1 i; kb = e.2 i })

pub weights_between : (x : Matrix) → ((500 ≤ kb x) × (kb x ≤ 3000)) × ((500 ≤ kr x) × (kr x ≤ 3000))
weights_between Bt709 = ((lit≤ tt, lit≤ tt), (lit≤ tt, lit≤ tt))
weights_between Bt2020 = ((lit≤ tt, lit≤ tt), (lit≤ tt, lit≤ tt))
