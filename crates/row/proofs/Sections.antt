-- The words of a section as they are stored over other bytes.
-- Assumes nothing.
use mathlib.Core.Path.{◌≡◌, sym, ap, ◌∙◌}
use mathlib.Core.List.{List, [], ◌∷◌, ◌++◌, append_assoc, append-nil}
use Prim.Native.Nat.{ℕ, suc, ◌+◌, ◌*◌, ◌≤◌, ◌<◌}
use native.Mathlib.Omega.{arith}
use lib.ListN.{length, get_or, drop, length-append, length-drop, drop_of_length-le}
use Rattle.block.specs.Block.{field, fields, tabulate}
use Rattle.block.specs.Inner.{put}
use Rattle.block.proofs.Stored.{length_tabulate, fields_append, length_fields, pair_at, put_at}

-- b joins a, behind p
join_left : (p a b c q : List ℕ) → p ++ a ++ (b ++ (c ++ q)) ≡ p ++ (a ++ b ++ c ++ q)
join_left p a b c q = simp append_assoc

-- the first i words of a section, and after them what is left of the bytes g
unfoldable pub part : (ℕ → ℕ) → List ℕ → ℕ → List ℕ
part f g i = fields (tabulate f i) ++ drop (2 * i) g

module _ (f : ℕ → ℕ) (g : List ℕ) (w : ℕ) (size : length g ≡ 2 * w) where
  -- all words stored: none of the bytes is left
  pub part_all : part f g w ≡ fields (tabulate f w)
  unfolding part
  part_all =
      let over : length g ≤ 2 * w = omega arith in
      rw (drop_of_length-le g over) (append-nil (fields (tabulate f w)))

  pub length_part : (i : ℕ) → i ≤ w → length (part f g i) ≡ 2 * w
  unfolding part
  length_part i h = simp (length-append, length_fields, length_tabulate, length-drop) (omega arith)

  -- word i is stored behind the first i
  pub part_more : (p q : List ℕ) (i n : ℕ) → length p + 2 * i ≡ n → i < w → put n (f i) (p ++ (part f g i ++ q)) ≡ p ++ (part f g (suc i) ++ q)
  unfolding part tabulate fields
  part_more p q i n e h =
      let stored : List ℕ = fields (tabulate f i) in
      let left : List ℕ = drop (2 * suc i) g in
      let next : 2 * i + 2 ≡ 2 * suc i = omega arith in
      let room : 2 * suc i ≤ length g = omega arith in
      let here : length (p ++ stored) ≡ n = simp (length-append, length_fields, length_tabulate) (omega arith) in
      ap (put n (f i))
      (ap (λ (l : List ℕ). p ++ l) (append_assoc stored (drop (2 * i) g) q)
      ∙ sym (append_assoc p stored (drop (2 * i) g ++ q))
      ∙ ap (λ (l : List ℕ). p ++ stored ++ (l ++ q)) (pair_at (2 * i) (2 * suc i) g next room))
      ∙ put_at (p ++ stored) (left ++ q) (get_or g (2 * i) 0) (get_or g (suc (2 * i)) 0) (f i) n here
      ∙ join_left p stored (field (f i)) left q
      ∙ ap (λ (l : List ℕ). p ++ (l ++ left ++ q)) (sym (fields_append (tabulate f i) (f i ∷ [])))
