-- How far the codes of two luminances that rise with a light come apart: shown of every light by a few of them, the stairs, with one
-- test that antt computes.
-- Assumes nothing.
use mathlib.Core.Bool.{Bool, not, ◌&&◌}
use mathlib.Core.List.{List, [], ◌∷◌}
use mathlib.Core.Logic.{inl, inr}
use Prim.Native.Nat.{ℕ, suc, ◌+◌, ◌*◌, ◌-◌, ◌≤◌}
use native.Mathlib.Nat.{mul-le-mul_left}
use native.Mathlib.Omega.{arith}
use lib.Dec.{T, leb, leb→le}
use lib.Ieee.Fits.{and_l, and_r}
use Rattle.exact.proofs.Boolean.{all_three}
use Rattle.exact.proofs.Order.{below_or_not}
use Rattle.systems.specs.declared.System.{System}
use Rattle.systems.specs.Systems.{scale}
use Rattle.curve.proofs.Tests.{unreached}
use Rattle.luminance.specs.Luminance.{luminance_code}
use Rattle.luminance.proofs.Luminances.{reached, rule}

-- up to the light before `next` the lower code is at least 16s + `code`
pub record Stair : Type 0 where
  pub code : ℕ
  pub next : ℕ

-- of the light k the upper luminance is a·k + c and the lower one b·k, and their codes are at most n apart
module _ (y : System) (a c b n : ℕ) where
  -- from the light k on, each stair holds: its code is reached where it begins, and where it ends the upper code is at most n above it
  unfoldable pub climbs : ℕ → List Stair → Bool
  climbs k [] = leb 65536 k
  climbs k (s ∷ ss) =
      reached y (b * k) s.code && (not (reached y (a * (s.next - 1) + c) (suc (s.code + n))) && (leb s.code (219 * scale y) && climbs s.next ss))

  at_least_lem : (k d : ℕ) → d ≤ 219 * scale y → T (reached y k d) → 16 * scale y + d ≤ luminance_code y k
  at_least_lem k d h t = elim (below_or_not 0 d) [
    | inl p ↦ ((rule y).tests k d p h).1 t
    | inr p ↦ omega (arith, (rule y).low k)
  ]

  at_most : (k d : ℕ) → T (not (reached y k (suc d))) → luminance_code y k ≤ 16 * scale y + d
  at_most k d t = elim (below_or_not d (219 * scale y)) [
    | inl p ↦ omega (arith, unreached (rule y) k (suc d) (omega arith) p t)
    | inr p ↦ omega (arith, (rule y).high k)
  ]

  pub climbed : (ss : List Stair) (x : ℕ) → T (climbs x ss) → (k : ℕ) → x ≤ k → k ≤ 65535 → luminance_code y (a * k + c) ≤ luminance_code y (b * k) + n
  unfolding climbs
  climbed [] x t k l h = absurd (omega (arith, leb→le 65536 x t))
  climbed (s ∷ ss) x t k l h = elim (below_or_not k s.next) [
    | inl p ↦
        omega (
          arith,
          at_least_lem (b * x) s.code (leb→le s.code (219 * scale y) (and_l small rest tests.2)) tests.0,
          (rule y).rises (b * x) (b * k) (mul-le-mul_left b l),
          at_most (a * (s.next - 1) + c) (s.code + n) tests.1,
          (rule y).rises (a * k + c) (a * (s.next - 1) + c) (omega (arith, mul-le-mul_left {m = k} {n = s.next - 1} a (omega arith))),
        )
    | inr p ↦ climbed ss s.next (and_r small rest tests.2) k p h
  ]
    where
      begins : Bool
      begins = reached y (b * x) s.code

      ends : Bool
      ends = not (reached y (a * (s.next - 1) + c) (suc (s.code + n)))

      small : Bool
      small = leb s.code (219 * scale y)

      rest : Bool
      rest = climbs s.next ss

      tests : T begins × T ends × T (small && rest)
      tests = all_three begins ends (small && rest) t
