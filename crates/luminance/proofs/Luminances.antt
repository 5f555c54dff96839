-- The codes of every luminance: within nominal, rising, and of 10000 times a light that light's own.
-- Assumes nothing.
use mathlib.Core.Path.{◌≡◌}
use mathlib.Core.Bool.{Bool}
use mathlib.Core.Logic.{◌↔◌}
use Prim.Native.Nat.{ℕ, ◌+◌, ◌*◌, ◌≤◌, ◌<◌}
use native.Mathlib.Omega.{arith}
use lib.Dec.{T, lit<, lit≤}
use Rattle.exact.specs.Whole.{INT}
use Rattle.systems.specs.declared.System.{System}
use Rattle.systems.specs.declared.System.TheVariants.{Bt709Bits8, Bt709Bits10, Bt2020Bits10, Bt2020Bits12}
use Rattle.systems.specs.Systems.{scale, transfer}
use Rattle.curve.specs.Curve.{full_light, linear, reaches, code}
use Rattle.curve.proofs.Tests.{Rule}
use Rattle.curve.proofs.Curve.{at_least, Edge}
use Rattle.curve.proofs.Curve as curve
use Rattle.curve.proofs.Unit.{same_code}
use Rattle.luminance.specs.Luminance.{full_luminance, luminance_code}
use Rattle.luminance.specs.Inner.{quantiser_of}

-- the first luminance from β on: β in ten-thousandths by the greatest light
abbrev first : System → ℕ
first y = (transfer y).beta * full_light

edge : (y : System) → Edge full_luminance (scale y) (transfer y).alpha (transfer y).beta (first y)
unfolding reaches linear INT
edge Bt709Bits8 = record { light = lit< tt; last = lit< tt; first = lit≤ tt; gentle = lit≤ tt; meets = tt }
edge Bt709Bits10 = record { light = lit< tt; last = lit< tt; first = lit≤ tt; gentle = lit≤ tt; meets = tt }
edge Bt2020Bits10 = record { light = lit< tt; last = lit< tt; first = lit≤ tt; gentle = lit≤ tt; meets = tt }
edge Bt2020Bits12 = record { light = lit< tt; last = lit< tt; first = lit≤ tt; gentle = lit≤ tt; meets = tt }

-- the test of `at_least` in a system
abbrev pub reached : System → ℕ → ℕ → Bool
reached y = at_least full_luminance (scale y) (transfer y).alpha (transfer y).beta

pub rule : (y : System) → Rule (quantiser_of y) (reached y)
unfolding luminance_code
rule y = curve.rule _ _ _ _ (first y) (edge y)

module _ (y : System) where
  pub luminance_high : (k : ℕ) → luminance_code y k ≤ 235 * scale y
  luminance_high k = omega (arith, (rule y).high k)

  -- document 01's own words, of a luminance: from β on, the code is at least D exactly when the rule at D holds
  pub at_least_by_rule : (k d : ℕ) → (transfer y).beta * full_light ≤ k → 0 < d → d ≤ 219 * scale y
      → (16 * scale y + d ≤ luminance_code y k) ↔ T (reaches full_luminance (scale y) (transfer y).alpha k (16 * scale y + d))
  unfolding luminance_code
  at_least_by_rule = curve.at_least_by_rule _ _ _ _ (first y) (edge y)

  -- of 10000 times a light
  pub of_light : (k : ℕ) → luminance_code y (10000 * k) ≡ code y k
  unfolding luminance_code code
  of_light k = same_code 10000 full_light (scale y) (transfer y).alpha (transfer y).beta k (lit< tt)
