-- What an i64 holds: a whole number whose size is below 2^63 is read back as it was written.
-- Assumes nothing.
use mathlib.Core.Path.{◌≡◌, refl}
use mathlib.Core.Bool.{Bool, true, false, cond}
use Prim.Native.Nat.{ℕ, zero, suc, ◌+◌, ◌*◌, ◌-◌, ◌^◌, ◌≤◌, ◌<◌}
use native.Mathlib.Nat.{le_refl, le-suc, le_trans, lt_of_le_of_lt, mul-le-mul_left, mul-le-mul_right}
use native.Mathlib.Omega.{arith}
use lib.Dec.{ltb, lt→ltb}
use lib.IntN.{ℤ, pos, negsuc, neg_ℤ, nat_abs, sub_ℕ, ◌+ℤ◌, ◌-ℤ◌, ◌*ℤ◌}
use lib.Signed.{mag, shr_z, mag_shr, ◌<ℤ◌}
use mir.Syntax.{w64}
use mir.Val.{SFits, to_z, of_z}
use mir.ValLaws.{to_z-of_z}

-- the size of a sum and of a product
nat_abs_neg : (z : ℤ) → nat_abs (neg_ℤ z) ≡ nat_abs z
nat_abs_neg (pos zero) = refl
nat_abs_neg (pos (suc n)) = refl
nat_abs_neg (negsuc n) = refl

nat_abs_mul : (a b : ℤ) → nat_abs (a *ℤ b) ≡ nat_abs a * nat_abs b
nat_abs_mul (pos a) (pos b) = refl
nat_abs_mul (pos a) (negsuc b) = nat_abs_neg (pos (a * suc b))
nat_abs_mul (negsuc a) (pos b) = nat_abs_neg (pos (suc a * b))
nat_abs_mul (negsuc a) (negsuc b) = refl

nat_abs_sub : (a b : ℕ) → nat_abs (sub_ℕ a (suc b)) ≤ a + suc b
nat_abs_sub a b = by_order (ltb a (suc b))
  where
    by_order : (t : Bool) → nat_abs (cond t (negsuc (suc b - suc a)) (pos (a - suc b))) ≤ a + suc b
    by_order true = omega arith
    by_order false = omega arith

pub nat_abs_add : (a b : ℤ) → nat_abs (a +ℤ b) ≤ nat_abs a + nat_abs b
nat_abs_add (pos a) (pos b) = le_refl (a + b)
nat_abs_add (pos a) (negsuc b) = nat_abs_sub a b
nat_abs_add (negsuc a) (pos b) = omega (arith, nat_abs_sub b a)
nat_abs_add (negsuc a) (negsuc b) = omega arith

pub nat_abs_less : (a b : ℤ) → nat_abs (a -ℤ b) ≤ nat_abs a + nat_abs b
nat_abs_less a b = omega (arith, nat_abs_add a (neg_ℤ b), nat_abs_neg b)

pub nat_abs_mul_le : (a b : ℤ) (m n : ℕ) → nat_abs a ≤ m → nat_abs b ≤ n → nat_abs (a *ℤ b) ≤ m * n
nat_abs_mul_le a b m n h k = rw (nat_abs_mul a b) (le_trans (mul-le-mul_left (nat_abs a) k) (mul-le-mul_right n h))

pub mag_le : (z : ℤ) → mag z ≤ nat_abs z
mag_le (pos n) = le_refl n
mag_le (negsuc n) = le-suc n

pub fits_i64 : (z : ℤ) → nat_abs z < 2 ^ 63 → SFits w64 z
fits_i64 z h = record { sfits = lt_of_le_of_lt (mag_le z) h }

pub reads_back : (z : ℤ) → nat_abs z < 2 ^ 63 → to_z w64 (of_z w64 z) ≡ z
reads_back z h = to_z-of_z w64 z (fits_i64 z h)

pub shifted_reads_back : (z : ℤ) (m : ℕ) → nat_abs z < 2 ^ 63 → to_z w64 (of_z w64 (shr_z z m)) ≡ shr_z z m
shifted_reads_back z m h = to_z-of_z w64 (shr_z z m) record { sfits = lt_of_le_of_lt (le_trans (mag_shr z m) (mag_le z)) h }

pub positive : (z : ℤ) → pos 0 <ℤ z → (z ≡ pos (nat_abs z)) × (0 < nat_abs z)
positive (pos zero) h = absurd h.lt
positive (pos (suc n)) h = (refl, omega arith)
positive (negsuc n) h = absurd h.lt

pub is_positive : (n : ℕ) → 0 < n → pos 0 <ℤ pos n
is_positive n h = record { lt = lt→ltb 0 n h }
