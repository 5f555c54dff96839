-- INT of a ratio, also of one below 0, is off it by at most a half, and a half goes up.
-- Assumes nothing.
use mathlib.Core.Path.{◌≡◌, sym, ap, ◌∙◌, subst}
use mathlib.Core.Logic.{◌⊎◌, inl, inr}
use Prim.Native.Nat.{ℕ, suc, ◌+◌, ◌*◌, ◌-◌, ◌/◌, ◌≤◌, ◌<◌}
use native.Mathlib.Nat.{div-mul-le_self, lt-div-mul-add, div-eq_of_lt-le, lt_of_mul-lt-mul_right}
use native.Mathlib.Omega.{arith}
use lib.IntN.{ℤ, pos, negsuc, sub_ℕ, ◌+ℤ◌, ◌-ℤ◌, ◌*ℤ◌, *ℤ_comm}
use lib.Signed.{shr_z, ◌≤ℤ◌}
use Rattle.exact.specs.Signed.{Ratio, rounded}
use Rattle.exact.proofs.Order.{below_or_not}
use Rattle.exact.proofs.Difference.{sub_pos, sub_neg, pos_sub, neg_sub, sub_add, sub_minus, sub_mul, sub_le}

-- (a - b)/k rounded down is u - v where k times that is not above a - b, and k more is
pub floor_is : (a b u v k : ℕ) → 0 < k → u * k + b ≤ a + v * k → a + v * k < u * k + b + k → shr_z (sub_ℕ a b) k ≡ sub_ℕ u v
floor_is a b u v k K l h = by_order (below_or_not a b)
  where
    by_order : (a < b) ⊎ (b ≤ a) → shr_z (sub_ℕ a b) k ≡ sub_ℕ u v
    by_order (inl m) =
        let less : u < v = lt_of_mul-lt-mul_right k (omega arith) in
        let n = v - suc u in
        let e : v ≡ n + suc u = omega arith in
        let f : v * k ≡ (n + suc u) * k = ap (λ (x : ℕ). x * k) e in
        ap (λ (z : ℤ). shr_z z k) (sub_neg a b m) ∙ ap negsuc (div-eq_of_lt-le k (omega arith) (omega arith)) ∙ sym (sub_neg u v less)
    by_order (inr m) =
        let not_more : v < u + 1 = lt_of_mul-lt-mul_right k (omega arith) in
        let n = u - v in
        let e : u ≡ n + v = omega arith in
        let f : u * k ≡ (n + v) * k = ap (λ (x : ℕ). x * k) e in
        ap (λ (z : ℤ). shr_z z k) (sub_pos a b m) ∙ ap pos (div-eq_of_lt-le k (omega arith) (omega arith)) ∙ sym (sub_pos u v (omega arith))

-- v is INT of (p - n)/d, in naturals: v = up - down, and 2vd ≤ 2(p - n) + d < 2vd + 2d
pub record Rounds (p n d : ℕ) (v : ℤ) : Type 0 where
  pub up : ℕ
  pub down : ℕ
  pub is : v ≡ sub_ℕ up down
  pub not_over : 2 * (up * d) + 2 * n ≤ 2 * p + d + 2 * (down * d)
  pub not_under : 2 * p + d + 2 * (down * d) < 2 * (up * d) + 2 * n + 2 * d

pub rounds : (p n d : ℕ) → 0 < d → Rounds p n d (rounded record { top = sub_ℕ p n; bottom = d })
unfolding rounded
rounds p n d D = subst (λ (z : ℤ). Rounds p n d (shr_z z (2 * d))) (sym doubled) (by_order (below_or_not (p * 2 + d) (n * 2 + 0)))
  where
    doubled : pos 2 *ℤ sub_ℕ p n +ℤ pos d ≡ sub_ℕ (p * 2 + d) (n * 2 + 0)
    doubled = (λ i. (*ℤ_comm (pos 2) (sub_ℕ p n) ∙ sub_mul p n 2) i +ℤ pos_sub d i) ∙ sub_add (p * 2) (n * 2) d 0

    by_order : (p * 2 + d < n * 2 + 0) ⊎ (n * 2 + 0 ≤ p * 2 + d) → Rounds p n d (shr_z (sub_ℕ (p * 2 + d) (n * 2 + 0)) (2 * d))
    by_order (inl h) =
        let a = n * 2 + 0 - suc (p * 2 + d) in
        let q = a / (2 * d) in
        let l : q * (2 * d) ≤ a = div-mul-le_self a (2 * d) in
        let u : a < q * (2 * d) + 2 * d = lt-div-mul-add (omega arith) in
        record {
          up = 0;
          down = suc q;
          is = ap (λ (x : ℤ). shr_z x (2 * d)) (sub_neg (p * 2 + d) (n * 2 + 0) h) ∙ neg_sub (suc q);
          not_over = omega arith;
          not_under = omega arith;
        }
    by_order (inr h) =
        let a = p * 2 + d - (n * 2 + 0) in
        let q = a / (2 * d) in
        let l : q * (2 * d) ≤ a = div-mul-le_self a (2 * d) in
        let u : a < q * (2 * d) + 2 * d = lt-div-mul-add (omega arith) in
        record {
          up = q;
          down = 0;
          is = ap (λ (x : ℤ). shr_z x (2 * d)) (sub_pos (p * 2 + d) (n * 2 + 0) h) ∙ pos_sub q;
          not_over = omega arith;
          not_under = omega arith;
        }

-- v is off top/bottom by at most a half: 2·|v·bottom - top| ≤ bottom
pub record Near (v : ℤ) (q : Ratio) : Type 0 where
  pub not_over : (pos 2 *ℤ (v *ℤ pos q.bottom -ℤ q.top)) ≤ℤ pos q.bottom
  pub not_under : (pos 2 *ℤ (q.top -ℤ v *ℤ pos q.bottom)) ≤ℤ pos q.bottom

-- twice what u - v is above p - n is at most d
twice_above : (u v p n d : ℕ) → 2 * (u + n) ≤ 2 * (v + p) + d → (pos 2 *ℤ (sub_ℕ u v -ℤ sub_ℕ p n)) ≤ℤ pos d
twice_above u v p n d h =
    rw (sub_minus u v p n, *ℤ_comm (pos 2) (sub_ℕ (u + n) (v + p)), sub_mul (u + n) (v + p) 2, pos_sub d)
    (sub_le ((u + n) * 2) ((v + p) * 2) d 0 (omega arith))

near : (p n d a b : ℕ) → 2 * (a * d) + 2 * n ≤ 2 * p + d + 2 * (b * d) → 2 * p + 2 * (b * d) ≤ 2 * (a * d) + 2 * n + d
    → Near (sub_ℕ a b) record { top = sub_ℕ p n; bottom = d }
near p n d a b o u = record {
  not_over = rw (sub_mul a b d) (twice_above (a * d) (b * d) p n d (omega arith));
  not_under = rw (sub_mul a b d) (twice_above p n (a * d) (b * d) d (omega arith));
}

difference_near : (p n d : ℕ) → 0 < d → Near (rounded record { top = sub_ℕ p n; bottom = d }) record { top = sub_ℕ p n; bottom = d }
difference_near p n d D =
    let r = rounds p n d D in
    rw r.is (near p n d r.up r.down r.not_over (omega (arith, r.not_under)))

pub rounded_near : (q : Ratio) → 0 < q.bottom → Near (rounded q) q
rounded_near q D = by_sign q.top
  where
    by_sign : (t : ℤ) → Near (rounded record { top = t; bottom = q.bottom }) record { top = t; bottom = q.bottom }
    by_sign (pos n) = rw (pos_sub n) (difference_near n 0 q.bottom D)
    by_sign (negsuc n) = rw (neg_sub (suc n)) (difference_near 0 (suc n) q.bottom D)
