-- Sizes, by which no product of codes overflows.
-- Assumes nothing.
use mathlib.Core.Bool.{Bool, true, false}
use Prim.Native.Nat.{ℕ, ◌^◌, ◌≤◌, ◌<◌}
use native.Mathlib.Omega.{arith}
use lib.Dec.{leb, lit<}
use lib.IntN.{ℤ, nat_abs, ◌*ℤ◌}
use Rattle.exact.proofs.Machine.{nat_abs_mul_le}
use Rattle.systems.specs.declared.System.{System}
use Rattle.systems.specs.Systems.{middle}
use Rattle.systems.proofs.Scales.{scale_range}
use Rattle.curve.specs.Curve.{code}
use Rattle.curve.proofs.Lights.{code_high}
use Rattle.luminance.proofs.Luminances.{luminance_high}
use Rattle.constant_luminance.specs.declared.Divisors.{Divisors}
use Rattle.constant_luminance.specs.declared.Lights.{Lights}
use Rattle.constant_luminance.specs.ConstantLuminance.{blue, red, divisor, luminance, luma_of}
use Rattle.constant_luminance.specs.Inner.{Sized}

pub divisor_sized : (v : Divisors) (a b : ℕ) → Sized v → (0 < divisor v a b) × (divisor v a b < 2 ^ 16)
divisor_sized v a b s = by_test (leb a b)
  where
    by_test : (t : Bool) → let n : ℕ = elim t [ true ↦ v.low | false ↦ v.high ] in (0 < n) × (n < 2 ^ 16)
    by_test true = (s.low_some, s.low_small)
    by_test false = (s.high_some, s.high_small)

pub blue_sized : Sized blue
blue_sized = record { low_some = lit< tt; low_small = lit< tt; high_some = lit< tt; high_small = lit< tt }

pub red_sized : Sized red
red_sized = record { low_some = lit< tt; low_small = lit< tt; high_some = lit< tt; high_small = lit< tt }

-- a product of two numbers of 24 bits
pub product_small : (a b : ℤ) → nat_abs a ≤ 2 ^ 24 → nat_abs b ≤ 2 ^ 24 → nat_abs (a *ℤ b) ≤ 2 ^ 48
product_small a b h k = omega (arith, nat_abs_mul_le a b (2 ^ 24) (2 ^ 24) h k)

pub middle_small : (b : System) → middle b < 2 ^ 12
middle_small b = omega (arith, scale_range b)

pub code_small : (b : System) (k : ℕ) → code b k < 2 ^ 12
code_small b k = omega (arith, scale_range b, code_high b k)

pub luma_small : (b : System) (l : Lights) → luma_of b l < 2 ^ 12
luma_small b l = omega (arith, scale_range b, luminance_high b (luminance l))

-- what a colour difference asks
pub ruleset sized = (blue_sized, red_sized, middle_small, code_small, luma_small)
