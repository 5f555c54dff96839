-- A light whose code is within one code of another lies between the lights of that code's neighbours.
-- Assumes nothing.
use Prim.Native.Nat.{ℕ, ◌+◌, ◌*◌, ◌-◌, ◌≤◌, ◌<◌}
use mathlib.Core.Path.{◌≡◌, subst}
use mathlib.Core.Logic.{◌⊎◌, inl, inr}
use native.Mathlib.Omega.{arith}
use Rattle.exact.proofs.Order.{below_or_not}
use Rattle.systems.specs.declared.System.{System}
use Rattle.systems.specs.Systems.{scale}
use Rattle.systems.proofs.Ranges.{Nominal}
use Rattle.curve.specs.Curve.{code, full_light, least_light, greatest_light}
use Rattle.curve.proofs.Lights.{code_low, code_high, codes_rise}
use Rattle.light.proofs.Lit.{Lit, every_code_lit}
use Rattle.light.proofs.Spans.{least_has, least_first, greatest_has, greatest_last}
use Rattle.picture.proofs.Claims.{WithinOne, below, above, as_nominal}

lit : (y : System) (d : ℕ) → Nominal y d → Lit y d
lit y d n =
    let e : 16 * scale y + (d - 16 * scale y) ≡ d = omega arith in
    subst (Lit y) e (every_code_lit y (d - 16 * scale y) (omega arith))

module _ (y : System) (k d : ℕ) (light : k ≤ full_light) (nominal : Nominal y d) where
  least_before : d ≤ code y k → least_light y d ≤ k
  least_before h = go (below_or_not k (least_light y d))
    where
      go : (k < least_light y d) ⊎ (least_light y d ≤ k) → least_light y d ≤ k
      go (inl l) =
          let e : code y k ≡ d = omega (arith, least_has y d (lit y d nominal), codes_rise y k (least_light y d) (omega arith)) in
          least_first y d (lit y d nominal) k light e
      go (inr l) = l

  greatest_after : code y k ≤ d → k ≤ greatest_light y d
  greatest_after h = go (below_or_not (greatest_light y d) k)
    where
      go : (greatest_light y d < k) ⊎ (k ≤ greatest_light y d) → k ≤ greatest_light y d
      go (inl l) =
          let e : code y k ≡ d = omega (arith, greatest_has y d (lit y d nominal), codes_rise y (greatest_light y d) k (omega arith)) in
          greatest_last y d (lit y d nominal) k light e
      go (inr l) = l

module _ (y : System) (k d : ℕ) (light : k ≤ full_light) (near : WithinOne d (code y k)) where
  pub from_below : least_light y (below y (as_nominal y d)) ≤ k
  from_below = least_before y k (below y (as_nominal y d)) light (omega arith) (omega (arith, code_low y k))

  pub to_above : k ≤ greatest_light y (above y (as_nominal y d))
  to_above = greatest_after y k (above y (as_nominal y d)) light (omega arith) (omega (arith, code_high y k))
