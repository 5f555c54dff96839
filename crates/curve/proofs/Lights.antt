-- The codes of every light of the four systems: within nominal, rising, and the same in systems of one depth.
-- Assumes nothing.
use mathlib.Core.Path.{◌≡◌, refl, ap, subst⁻¹, ◌∙◌}
use mathlib.Core.Bool.{Bool, true, false}
use mathlib.Core.List.{List}
use Prim.Native.Nat.{ℕ, ◌*◌, ◌^◌, ◌≤◌}
use native.Mathlib.Omega.{arith}
use lib.Dec.{eqb, lit<, lit≤}
use Rattle.exact.specs.Whole.{INT}
use Rattle.systems.specs.declared.System.{System}
use Rattle.systems.specs.declared.System.TheVariants.{Bt709Bits8, Bt709Bits10, Bt2020Bits10, Bt2020Bits12}
use Rattle.systems.specs.Systems.{bits, scale, transfer}
use Rattle.curve.specs.Curve.{linear, reaches, code, full_light}
use Rattle.curve.specs.Inner.{Quantiser, quantiser_of, Boundaries, Index, BoundariesAt, IndexAt}
use Rattle.curve.proofs.Tests.{Rule}
use Rattle.curve.proofs.Curve.{at_least, Edge}
use Rattle.curve.proofs.Curve as curve

-- the first light from β on
abbrev first : System → ℕ
first Bt709Bits8 = 1180
first Bt709Bits10 = 1180
first Bt2020Bits10 = 1180
first Bt2020Bits12 = 1187

edge : (y : System) → Edge full_light (scale y) (transfer y).alpha (transfer y).beta (first y)
unfolding reaches linear INT
edge Bt709Bits8 = record { light = lit< tt; last = lit< tt; first = lit≤ tt; gentle = lit≤ tt; meets = tt }
edge Bt709Bits10 = record { light = lit< tt; last = lit< tt; first = lit≤ tt; gentle = lit≤ tt; meets = tt }
edge Bt2020Bits10 = record { light = lit< tt; last = lit< tt; first = lit≤ tt; gentle = lit≤ tt; meets = tt }
edge Bt2020Bits12 = record { light = lit< tt; last = lit< tt; first = lit≤ tt; gentle = lit≤ tt; meets = tt }

-- the test of `at_least` in a system
abbrev pub reached : System → ℕ → ℕ → Bool
reached y = at_least full_light (scale y) (transfer y).alpha (transfer y).beta

pub rule : (y : System) → Rule (quantiser_of y) (reached y)
unfolding code
rule y = curve.rule _ _ _ _ (first y) (edge y)

module _ (y : System) where
  pub code_low : (k : ℕ) → 16 * scale y ≤ code y k
  code_low = (rule y).low

  pub code_high : (k : ℕ) → code y k ≤ 235 * scale y
  code_high k = omega (arith, (rule y).high k)

  pub codes_rise : (k l : ℕ) → k ≤ l → code y k ≤ code y l
  codes_rise = (rule y).rises

-- a system of n bits
abbrev pub system_at : ℕ → System
system_at n = elim (eqb n 8) [ true ↦ Bt709Bits8 | false ↦ elim (eqb n 10) [ true ↦ Bt709Bits10 | false ↦ Bt2020Bits12 ] ]

-- the bits alone decide scale, α and β, and so the codes
by_bits : (y : System) → quantiser_of y ≡ quantiser_of (system_at (bits y))
unfolding code
by_bits Bt709Bits8 = refl
by_bits Bt709Bits10 = refl
by_bits Bt2020Bits10 = refl
by_bits Bt2020Bits12 = refl

same_curve : (n : ℕ) (y : System) → bits y ≡ n → quantiser_of y ≡ quantiser_of (system_at n)
same_curve n y e = by_bits y ∙ ap (λ (m : ℕ). quantiser_of (system_at m)) e

-- so one system's boundaries and index are those of every system of as many bits
pub boundaries_at : (n : ℕ) {t : List ℕ} → Boundaries (quantiser_of (system_at n)) t → BoundariesAt n t
boundaries_at n {t} b y e = subst⁻¹ (λ (q : Quantiser). Boundaries q t) (same_curve n y e) b

pub index_at : (n h : ℕ) {x : List ℕ} → Index (quantiser_of (system_at n)) (2 ^ h) x → IndexAt n h x
index_at n h {x} i y e = subst⁻¹ (λ (q : Quantiser). Index q (2 ^ h) x) (same_curve n y e) i
