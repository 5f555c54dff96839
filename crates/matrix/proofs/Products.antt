-- A row by a triple, and each of its products, fit an i64.
-- Assumes nothing.
use mathlib.Core.List.{List}
use Prim.Native.Nat.{ℕ, ◌*◌, ◌^◌, ◌≤◌}
use native.Mathlib.Omega.{arith}
use lib.IntN.{ℤ, pos, nat_abs, ◌+ℤ◌, ◌*ℤ◌}
use lib.ListN.{get_or}
use Rattle.exact.proofs.Machine.{nat_abs_add, nat_abs_mul_le}
use Rattle.matrix.specs.Inner.{Small, dotted}

abbrev pub product : List ℤ → List ℤ → ℕ → ℤ
product row t k = get_or row k (pos 0) *ℤ get_or t k (pos 0)

module _ (row t : List ℤ) (h : Small row t) where
  pub size_0 : nat_abs (product row t 0) ≤ 2 ^ 61
  size_0 = nat_abs_mul_le (get_or row 0 (pos 0)) (get_or t 0 (pos 0)) (2 ^ 49) (2 ^ 12) h.first h.triple_0

  by_entry_1 : nat_abs (product row t 1) ≤ nat_abs (get_or row 1 (pos 0)) * 2 ^ 12
  by_entry_1 = nat_abs_mul_le (get_or row 1 (pos 0)) (get_or t 1 (pos 0)) (nat_abs (get_or row 1 (pos 0))) (2 ^ 12) (omega arith) h.triple_1

  by_entry_2 : nat_abs (product row t 2) ≤ nat_abs (get_or row 2 (pos 0)) * 2 ^ 12
  by_entry_2 = nat_abs_mul_le (get_or row 2 (pos 0)) (get_or t 2 (pos 0)) (nat_abs (get_or row 2 (pos 0))) (2 ^ 12) (omega arith) h.triple_2

  pub size_1 : nat_abs (product row t 1) ≤ 2 ^ 62
  size_1 = omega (arith, by_entry_1, h.others)

  pub size_2 : nat_abs (product row t 2) ≤ 2 ^ 62
  size_2 = omega (arith, by_entry_2, h.others)

  pub size_sum : nat_abs (product row t 0 +ℤ product row t 1) ≤ 3 * 2 ^ 61
  size_sum = omega (arith, nat_abs_add (product row t 0) (product row t 1), size_0, size_1)

  pub dotted_small : nat_abs (dotted row t) ≤ 3 * 2 ^ 61
  dotted_small = omega (arith, nat_abs_add (product row t 0 +ℤ product row t 1) (product row t 2), nat_abs_add (product row t 0) (product row t 1), size_0, by_entry_1, by_entry_2, h.others)
