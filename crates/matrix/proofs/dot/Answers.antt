use mathlib.Core.Path.{◌≡◌}
use mathlib.Core.List.{List}
use Prim.Native.Nat.{ℕ, ◌^◌, ◌<◌}
use native.Mathlib.Omega.{arith}
use lib.IntN.{ℤ, pos, nat_abs, ◌+ℤ◌}
use lib.ListN.{get_or}
use mir.Syntax.{w64}
use mir.Val.{to_z, of_z}
use Rattle.exact.proofs.Machine.{fits_i64, reads_back}
use Rattle.matrix.specs.Inner.{Small}
use Rattle.matrix.proofs.Products.{product, size_0, size_1, size_2, size_sum, dotted_small}
use Rattle.matrix.proofs.dot.Goals as goal

module _ (row t : List ℤ) (h : Small row t) where
  abbrev entry : ℕ → ℤ
  entry k = product row t k

  abbrev kept : ℤ → Type 0
  kept z = to_z w64 (of_z w64 z) ≡ z

  read : (z : ℤ) → nat_abs z < 2 ^ 63 → kept z
  read z k = reads_back z (omega arith)

  row_0 : kept (get_or row 0 (pos 0))
  row_0 = read _ (omega (arith, h.first))

  row_1 : kept (get_or row 1 (pos 0))
  row_1 = read _ (omega (arith, h.others))

  row_2 : kept (get_or row 2 (pos 0))
  row_2 = read _ (omega (arith, h.others))

  triple_0 : kept (get_or t 0 (pos 0))
  triple_0 = read _ (omega (arith, h.triple_0))

  triple_1 : kept (get_or t 1 (pos 0))
  triple_1 = read _ (omega (arith, h.triple_1))

  triple_2 : kept (get_or t 2 (pos 0))
  triple_2 = read _ (omega (arith, h.triple_2))

  product_0 : kept (entry 0)
  product_0 = read (entry 0) (omega (arith, size_0 _ _ h))

  product_1 : kept (entry 1)
  product_1 = read (entry 1) (omega (arith, size_1 _ _ h))

  product_2 : kept (entry 2)
  product_2 = read (entry 2) (omega (arith, size_2 _ _ h))

  sum_01 : kept (entry 0 +ℤ entry 1)
  sum_01 = read (entry 0 +ℤ entry 1) (omega (arith, size_sum _ _ h))

  sum_012 : kept (entry 0 +ℤ entry 1 +ℤ entry 2)
  sum_012 = read (entry 0 +ℤ entry 1 +ℤ entry 2) (omega (arith, dotted_small _ _ h))

pub overflow_mul-result : goal.overflow_mul-result
overflow_mul-result c =
    let r = c.args.row in
    let t = c.args.triple in
    let h = c.requires in
    rw (row_0 r t h, triple_0 r t h) (fits_i64 (entry r t h 0) (omega (arith, size_0 _ _ h)))

pub overflow_mul-result-2 : goal.overflow_mul-result-2
overflow_mul-result-2 c =
    let r = c.args.row in
    let t = c.args.triple in
    let h = c.requires in
    rw (row_1 r t h, triple_1 r t h) (fits_i64 (entry r t h 1) (omega (arith, size_1 _ _ h)))

pub overflow_add-result : goal.overflow_add-result
overflow_add-result c =
    let r = c.args.row in
    let t = c.args.triple in
    let h = c.requires in
    rw (row_0 r t h, triple_0 r t h, row_1 r t h, triple_1 r t h, product_0 r t h, product_1 r t h)
    (fits_i64 (entry r t h 0 +ℤ entry r t h 1) (omega (arith, size_sum _ _ h)))

pub overflow_mul-result-3 : goal.overflow_mul-result-3
overflow_mul-result-3 c =
    let r = c.args.row in
    let t = c.args.triple in
    let h = c.requires in
    rw (row_2 r t h, triple_2 r t h) (fits_i64 (entry r t h 2) (omega (arith, size_2 _ _ h)))

pub overflow_add-result-2 : goal.overflow_add-result-2
overflow_add-result-2 c =
    let r = c.args.row in
    let t = c.args.triple in
    let h = c.requires in
    rw (row_0 r t h, triple_0 r t h, row_1 r t h, triple_1 r t h, row_2 r t h, triple_2 r t h, product_0 r t h, product_1 r t h, product_2 r t h, sum_01 r t h)
    (fits_i64 (entry r t h 0 +ℤ entry r t h 1 +ℤ entry r t h 2) (omega (arith, dotted_small _ _ h)))

pub returns : goal.returns
returns c =
    let r = c.args.row in
    let t = c.args.triple in
    let h = c.requires in
    rw (row_0 r t h, triple_0 r t h, row_1 r t h, triple_1 r t h, row_2 r t h, triple_2 r t h, product_0 r t h, product_1 r t h, product_2 r t h, sum_01 r t h, sum_012 r t h)
