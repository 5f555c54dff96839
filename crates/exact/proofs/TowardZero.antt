-- Division toward zero, brought to division that rounds down.
-- Assumes nothing.
use mathlib.Core.Path.{◌≡◌, refl, sym, ap, ◌∙◌}
use mathlib.Core.Bool.{Bool, true, false, false≢true}
use Prim.Native.Nat.{ℕ, zero, suc, ◌+◌, ◌*◌, ◌/◌, ◌%◌, ◌≤◌, ◌<◌}
use native.Mathlib.Nat.{mod-lt, div-add-mod', div-le_self}
use native.Mathlib.Omega.{arith}
use borrow.Author.Tests.{ltb-true}
use lib.IntN.{ℤ, pos, negsuc, neg_ℤ, nat_abs, ◌-ℤ◌}
use lib.Signed.{lt_z, quot_z, rem_z, shr_z}
use Rattle.std.specs.Int.{from_bool}
use Rattle.exact.proofs.Difference.{pos_sub, neg_sub, sub_minus, sub_size}
use Rattle.exact.proofs.Nearest.{floor_is}

-- a quotient that leaves nothing below 0 is rounded down already
pub rounded_down : (z : ℤ) (k : ℕ) → 0 < k → lt_z (rem_z z (pos k)) (pos 0) ≡ false → quot_z z (pos k) ≡ shr_z z k
rounded_down (pos a) k K e = refl
rounded_down (negsuc a) k K e = by_rest (suc a % k) refl e
  where
    by_rest : (y : ℕ) → suc a % k ≡ y → lt_z (neg_ℤ (pos y)) (pos 0) ≡ false → neg_ℤ (pos (suc a / k)) ≡ negsuc (a / k)
    by_rest zero r t =
        let whole : suc a / k * k ≡ suc a = omega (arith, div-add-mod' (suc a) k, r) in
        neg_sub (suc a / k) ∙ sym (ap (λ (z : ℤ). shr_z z k) (neg_sub (suc a)) ∙ floor_is 0 (suc a) 0 (suc a / k) k K (omega arith) (omega arith))
    by_rest (suc y) r t = absurd (false≢true (sym t))

-- one that leaves something below 0 is one above that
pub one_down : (z : ℤ) (k : ℕ) → 0 < k → lt_z (rem_z z (pos k)) (pos 0) ≡ true → quot_z z (pos k) -ℤ pos 1 ≡ shr_z z k
one_down (pos a) k K e = absurd (omega (arith, ltb-true (a % k) 0 e))
one_down (negsuc a) k K e = by_rest (suc a % k) refl e
  where
    by_rest : (y : ℕ) → suc a % k ≡ y → lt_z (neg_ℤ (pos y)) (pos 0) ≡ true → neg_ℤ (pos (suc a / k)) -ℤ pos 1 ≡ negsuc (a / k)
    by_rest zero r t = absurd (false≢true t)
    by_rest (suc y) r t =
        let x = suc a / k in
        let less : suc y < k = omega (arith, mod-lt (suc a) K, r) in
        let whole : x * k + suc y ≡ suc a = omega (arith, div-add-mod' (suc a) k, r) in
        (λ i. neg_sub x i -ℤ pos_sub 1 i) ∙ sub_minus 0 x 1 0 ∙ sym (ap (λ (z : ℤ). shr_z z k) (neg_sub (suc a)) ∙ floor_is 0 (suc a) 0 (x + 1) k K (omega arith) (omega arith))

minus_none : (z : ℤ) → z -ℤ pos 0 ≡ z
minus_none (pos a) = ap pos (omega arith)
minus_none (negsuc a) = sym (neg_sub (suc a))

-- a quotient less 1 where something below 0 is left is rounded down
pub floored : (z : ℤ) (k : ℕ) → 0 < k → quot_z z (pos k) -ℤ pos (from_bool (lt_z (rem_z z (pos k)) (pos 0))) ≡ shr_z z k
floored z k K = by_rest (lt_z (rem_z z (pos k)) (pos 0)) refl
  where
    by_rest : (below : Bool) → lt_z (rem_z z (pos k)) (pos 0) ≡ below → quot_z z (pos k) -ℤ pos (from_bool below) ≡ shr_z z k
    by_rest true e = one_down z k K e
    by_rest false e = minus_none (quot_z z (pos k)) ∙ rounded_down z k K e

-- neither is further from 0 than what was divided
pub quotient_size : (z : ℤ) (k : ℕ) → nat_abs (quot_z z (pos k)) ≤ nat_abs z
quotient_size (pos a) k = div-le_self a k
quotient_size (negsuc a) k = rw (neg_sub (suc a / k)) (sub_size 0 (suc a / k) (suc a) (omega arith) (omega (arith, div-le_self (suc a) k)))
