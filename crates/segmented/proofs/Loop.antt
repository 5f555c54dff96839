-- The loop that moves rows one by one.
-- Assumes nothing.
use Prim.Native.Nat.{ℕ, suc, ◌+◌, ◌*◌, ◌<◌}
use mathlib.Core.Path.{◌≡◌, sym, ap, ◌∙◌}
use mathlib.Core.List.{List, [], ◌++◌, append-nil, append_assoc}
use native.Mathlib.Nat.{mul-zero, mul-suc}
use native.Mathlib.Numerals.{add-one}
use native.Mathlib.Omega.{arith}
use lib.ListN.{length, take, drop}
use lib.Seq.{drop-length, drop-drop, take_at, drop-append-add}
use Rattle.segmented.specs.declared.Order.{Order}
use Rattle.segmented.specs.Segmented.{source, byte_row, rows_by}
use Rattle.segmented.proofs.Lines.{source_below}
use Rattle.segmented.proofs.Rows.{length_rows}

-- the second buffer, where the rows before place k have come: what lies from there on is as it was
abbrev pub so_far : Order → ℕ → List ℕ → List ℕ → ℕ → List ℕ
so_far o n bs out k = rows_by (source o) n bs k ++ drop (n * k) out

module _ (o : Order) (n : ℕ) (bs out : List ℕ) where
  pub none_yet : out ≡ so_far o n bs out 0
  unfolding rows_by
  none_yet = ap (λ (k : ℕ). drop k out) (sym (mul-zero n))

  pub one_more : {k : ℕ} {d e : List ℕ} → length bs ≡ n * 1080 → k < 1080 → d ≡ so_far o n bs out k → e ≡ take (n * k) d ++ (byte_row n bs (source o k) ++ drop (n * k + n) d) → e ≡ so_far o n bs out (k + 1)
  unfolding rows_by
  one_more {k} long h was is =
      let front = rows_by (source o) n bs k in
      let rest = drop (n * k) out in
      let long_front : length front ≡ n * k = length_rows (source o) n bs long (source_below o) k (omega arith) in
      let before : take (n * k) (front ++ rest) ≡ front = take_at front rest (n * k) long_front in
      let behind : drop (n * k + n) (front ++ rest) ≡ drop (n * suc k) out =
      ap (λ (j : ℕ). drop (j + n) (front ++ rest)) (sym long_front) ∙ drop-append-add front rest n ∙ drop-drop n (n * k) out ∙ ap (λ (j : ℕ). drop j out) (sym (mul-suc n k)) in
      is ∙ rw (was, before, behind, add-one k) (sym (append_assoc front (byte_row n bs (source o k)) (drop (n * suc k) out)))

  pub all_come : {k : ℕ} {d : List ℕ} → length out ≡ n * 1080 → k ≡ 1080 → d ≡ so_far o n bs out k → d ≡ rows_by (source o) n bs 1080
  all_come long e was =
      let none : drop (n * 1080) out ≡ [] = ap (λ (j : ℕ). drop j out) (sym long) ∙ drop-length out in
      was ∙ ap (so_far o n bs out) e ∙ rw none (append-nil (rows_by (source o) n bs 1080))
