-- INT is what document 01 says it is: d is at most INT(x/y) exactly when d is at most x/y + 1/2.
-- Assumes nothing.
use mathlib.Core.Logic.{◌↔◌}
use mathlib.Core.Path.{◌≡◌, refl, ap, ◌∙◌}
use Prim.Native.Nat.{ℕ, ◌+◌, ◌*◌, ◌/◌, ◌%◌, ◌≤◌, ◌<◌}
use native.Mathlib.Nat.{le-div_iff_mul-le, le_refl, mul-add, mul_left_comm, mul-div-mul_left}
use native.Mathlib.Omega.{arith}
use lib.Dec.{lit<}
use lib.IntN.{pos}
use Rattle.exact.specs.Signed.{rounded}
use Rattle.exact.specs.Whole.{INT}

pub int_at_least : (x y d : ℕ) → 0 < y → (d ≤ INT x y) ↔ (d * (2 * y) ≤ 2 * x + y)
unfolding INT
int_at_least x y d h = le-div_iff_mul-le {k = 2 * y} {x = d} {y = 2 * x + y} (omega arith)

pub int_rises : (x z y : ℕ) → 0 < y → x ≤ z → INT x y ≤ INT z y
int_rises x z y h l = (int_at_least z y (INT x y) h).1 (omega (arith, (int_at_least x y (INT x y) h).0 (le_refl _)))

-- a factor of top and bottom cancels
pub int_scaled : (c x y : ℕ) → 0 < c → INT (c * x) (c * y) ≡ INT x y
unfolding INT
int_scaled c x y h =
    let t : 2 * (c * x) + c * y ≡ c * (2 * x + y) = omega (arith, mul-add c (2 * x) y, mul_left_comm c 2 x) in
    (λ i. t i / mul_left_comm 2 c y i) ∙ mul-div-mul_left (2 * x + y) (2 * y) h

-- half of an even bottom is whole
pub int_over_even : (x y : ℕ) → y % 2 ≡ 0 → INT x y ≡ (x + y / 2) / y
unfolding INT
int_over_even x y e =
    let d : 2 * x + y ≡ 2 * (x + y / 2) = omega arith in
    ap (λ (n : ℕ). n / (2 * y)) d ∙ mul-div-mul_left (x + y / 2) y (lit< tt)

-- the two definitions agree on what is not below 0
pub rounded_whole : (x y : ℕ) → rounded record { top = pos x; bottom = y } ≡ pos (INT x y)
unfolding INT rounded
rounded_whole x y = refl
