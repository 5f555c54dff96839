-- A ratio's level is the one solution of top = mV·bottom + remainder with a remainder from 0 to bottom - 1.
-- Assumes nothing.
use mathlib.Core.Path.{◌≡◌, sym, ap, ◌∙◌, subst}
use Prim.Native.Nat.{ℕ, suc, ◌+◌, ◌*◌, ◌-◌, ◌/◌, ◌%◌, ◌≤◌, ◌<◌}
use native.Mathlib.Nat.{mod-lt, div-add-mod', div-mul-le_self, lt-div-mul-add}
use native.Mathlib.Omega.{arith}
use lib.IntN.{ℤ, pos, negsuc, nat_abs, sub_ℕ, ◌+ℤ◌, ◌-ℤ◌, ◌*ℤ◌, +ℤ_comm, +ℤ-neg_ℤ_cancel}
use lib.Signed.{shr_z}
use Rattle.exact.specs.Signed.{Ratio}
use Rattle.exact.proofs.Difference.{sub_eq, pos_sub, neg_sub, sub_add, sub_mul}
use Rattle.exact.proofs.Nearest.{floor_is}
use Rattle.levels.specs.declared.Level.{Level}
use Rattle.levels.specs.Levels.{divided}
use Rattle.levels.proofs.Claims.{Solves}

-- every whole number is a difference of naturals
pub record Difference (z : ℤ) : Type 0 where
  pub up : ℕ
  pub down : ℕ
  pub is : z ≡ sub_ℕ up down

pub difference : (z : ℤ) → Difference z
difference (pos n) = record { up = n; down = 0; is = pos_sub n }
difference (negsuc n) = record { up = 0; down = suc n; is = neg_sub (suc n) }

-- (u - v)·k + r is one too
pub sum_is : (u v k r : ℕ) → sub_ℕ u v *ℤ pos k +ℤ pos r ≡ sub_ℕ (u * k + r) (v * k)
sum_is u v k r =
    let e : v * k + 0 ≡ v * k = omega arith in
    (λ i. sub_mul u v k i +ℤ pos_sub r i) ∙ sub_add (u * k) (v * k) r 0 ∙ ap (sub_ℕ (u * k + r)) e

-- m·k + r over k, rounded down
whole : (m : ℤ) (k r : ℕ) → r < k → shr_z (m *ℤ pos k +ℤ pos r) k ≡ m
whole m k r h =
    let d = difference m in
    let floor = ap (λ (z : ℤ). shr_z z k) (sum_is d.up d.down k r) ∙ floor_is (d.up * k + r) (d.down * k) d.up d.down k (omega arith) (omega arith) (omega arith) in
    subst (λ (z : ℤ). shr_z (z *ℤ pos k +ℤ pos r) k ≡ z) (sym d.is) floor

pub only : (q : Ratio) (l : Level) → Solves q l → divided q ≡ l
unfolding divided
only q l s = λ i. record { millivolts = millivolts i; remainder = remainder i }
  where
    k : ℕ
    k = q.bottom

    millivolts : shr_z q.top k ≡ l.millivolts
    millivolts = ap (λ (z : ℤ). shr_z z k) s.sum ∙ whole l.millivolts k l.remainder s.left

    remainder : nat_abs (q.top -ℤ shr_z q.top k *ℤ pos k) ≡ l.remainder
    remainder =
        let product = l.millivolts *ℤ pos k in
        ap nat_abs ((λ i. (s.sum ∙ +ℤ_comm product (pos l.remainder)) i -ℤ millivolts i *ℤ pos k) ∙ +ℤ-neg_ℤ_cancel (pos l.remainder) product)

-- there is one
solution : (z : ℤ) (k : ℕ) → 0 < k → (l : Level) × Solves (record { top = z; bottom = k }) l
solution (pos a) k K = (record { millivolts = pos (a / k); remainder = a % k }, record { sum = ap pos (sym (div-add-mod' a k)); left = mod-lt a K })
solution (negsuc a) k K =
    let x = a / k in
    let l : x * k ≤ a = div-mul-le_self a k in
    let u : a < x * k + k = lt-div-mul-add K in
    let r = suc x * k - suc a in
    let e : 0 + suc x * k ≡ 0 * k + r + suc a = omega arith in (
      record { millivolts = negsuc x; remainder = r },
      record {
        sum = neg_sub (suc a) ∙ sub_eq 0 (suc a) (0 * k + r) (suc x * k) e ∙ sym (sum_is 0 (suc x) k r) ∙ ap (λ (z : ℤ). z *ℤ pos k +ℤ pos r) (sym (neg_sub (suc x)));
        left = omega arith;
      },
    )

pub solves : (q : Ratio) → 0 < q.bottom → Solves q (divided q)
solves q K = let s = solution q.top q.bottom K in subst (Solves q) (sym (only q s.0 s.1)) s.1

-- what is left is never negative
pub rest_is : (q : Ratio) → 0 < q.bottom → q.top -ℤ shr_z q.top q.bottom *ℤ pos q.bottom ≡ pos (divided q).remainder
unfolding divided
rest_is q K =
    let product = shr_z q.top q.bottom *ℤ pos q.bottom in
    let r = (divided q).remainder in
    ap (λ (z : ℤ). z -ℤ product) ((solves q K).sum ∙ +ℤ_comm product (pos r)) ∙ +ℤ-neg_ℤ_cancel (pos r) product
