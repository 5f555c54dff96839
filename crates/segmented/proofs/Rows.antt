-- Rows brought into an order: how long they are, which row stands where, and that another order may bring them back.
-- Assumes nothing.
use Prim.Native.Nat.{ℕ, zero, suc, ◌+◌, ◌*◌, ◌<◌, ◌≤◌}
use mathlib.Core.Path.{◌≡◌, refl, sym, ap, ◌∙◌}
use mathlib.Core.List.{List, ◌++◌}
use mathlib.Core.Logic.{◌⊎◌, inl, inr}
use native.Mathlib.Nat.{mul-zero, mul-suc, mul-le-mul_left}
use native.Mathlib.Omega.{arith}
use lib.ListN.{length, take, drop, length-append, length-drop}
use lib.Seq.{length-take-le, take_all, drop_at, drop-append-le, take-append-le, take-add}
use Rattle.exact.proofs.Order.{below_or_not}
use Rattle.segmented.specs.Segmented.{byte_row, rows_by}

pub row_fits : (n s m : ℕ) → s < m → n * s + n ≤ n * m
row_fits n s m h = omega (arith, mul-suc n s, mul-le-mul_left n h)

module _ (from : ℕ → ℕ) (n : ℕ) (bs : List ℕ) (long : length bs ≡ n * 1080) (within : (k : ℕ) → k < 1080 → from k < 1080) where
  length_row : (k : ℕ) → k < 1080 → length (byte_row n bs (from k)) ≡ n
  length_row k h = length-take-le n (drop (n * from k) bs) (simp length-drop (omega (arith, long, row_fits n (from k) 1080 (within k h))))

  pub length_rows : (k : ℕ) → k ≤ 1080 → length (rows_by from n bs k) ≡ n * k
  unfolding rows_by
  length_rows zero h = omega arith
  length_rows (suc k) h = simp length-append (omega (arith, length_rows k (omega arith), length_row k h, mul-suc n k))

  -- row j of the rows in another order
  pub row_of_rows : (m j : ℕ) → m ≤ 1080 → j < m → byte_row n (rows_by from n bs m) j ≡ byte_row n bs (from j)
  unfolding rows_by
  row_of_rows zero j h i = absurd (omega arith)
  row_of_rows (suc m) j h i = go (row_of_rows m j (omega arith)) (below_or_not j m)
    where
      front : List ℕ
      front = rows_by from n bs m

      here : List ℕ
      here = byte_row n bs (from m)

      long_front : length front ≡ n * m
      long_front = length_rows m (omega arith)

      go : (j < m → byte_row n front j ≡ byte_row n bs (from j)) → (j < m) ⊎ (m ≤ j) → byte_row n (front ++ here) j ≡ byte_row n bs (from j)
      go earlier (inl a) =
          let f = row_fits n j m a in
          ap (take n) (drop-append-le (n * j) front here (omega (arith, long_front)))
          ∙ take-append-le n (drop (n * j) front) here (simp length-drop (omega (arith, long_front)))
          ∙ earlier a
      go earlier (inr a) =
          let e : j ≡ m = omega arith in
          ap (byte_row n (front ++ here)) e ∙ ap (take n) (drop_at front here (n * m) long_front) ∙ take_all n here (omega (arith, length_row m h)) ∙ ap (λ (k : ℕ). byte_row n bs (from k)) (sym e)

  through : (back : ℕ → ℕ) → ((k : ℕ) → k < 1080 → back k < 1080) → (m : ℕ) → m ≤ 1080 → rows_by back n (rows_by from n bs 1080) m ≡ rows_by (λ k. from (back k)) n bs m
  unfolding rows_by
  through back b zero h = refl
  through back b (suc m) h = λ i. through back b m (omega arith) i ++ row_of_rows 1080 (back m) (omega arith) (b m h) i

  -- rows in the order in which they stand
  in_place : (f : ℕ → ℕ) → ((k : ℕ) → k < 1080 → f k ≡ k) → (m : ℕ) → m ≤ 1080 → rows_by f n bs m ≡ take (n * m) bs
  unfolding rows_by
  in_place f p zero h = ap (λ (k : ℕ). take k bs) (sym (mul-zero n))
  in_place f p (suc m) h =
      (λ i. in_place f p m (omega arith) i ++ byte_row n bs (p m h i))
      ∙ sym (take-add (n * m) n bs) ∙ ap (λ (k : ℕ). take k bs) (sym (mul-suc n m))

  pub undone : (back : ℕ → ℕ) → ((k : ℕ) → k < 1080 → back k < 1080) → ((k : ℕ) → k < 1080 → from (back k) ≡ k) → rows_by back n (rows_by from n bs 1080) 1080 ≡ bs
  undone back b p = through back b 1080 (omega arith) ∙ in_place (λ k. from (back k)) p 1080 (omega arith) ∙ take_all (n * 1080) bs (omega (arith, long))
