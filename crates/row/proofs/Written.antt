-- The stores of a row make its block in front of what stays.
-- Assumes nothing.
use mathlib.Core.Path.{◌≡◌, refl, sym, ap, ◌∙◌}
use mathlib.Core.List.{List, ◌∷◌, ◌++◌, append_assoc}
use Prim.Native.Nat.{ℕ, zero, suc, ◌+◌, ◌*◌, ◌≤◌, ◌<◌}
use native.Mathlib.Nat.{le_refl}
use native.Mathlib.Omega.{arith}
use lib.ListN.{length, get_or, take, drop, length-append, length-drop}
use lib.Seq.{length-take-le, drop-cons}
use Rattle.systems.specs.declared.System.{System}
use Rattle.systems.specs.Systems.{number}
use Rattle.matrix.specs.declared.Words.{Words}
use Rattle.block.specs.Block.{field, fields, section, block, tabulate}
use Rattle.block.specs.Inner.{put}
use Rattle.block.proofs.Stored.{length_tabulate, gap_at, pair_at, put_at}
use Rattle.block.proofs.Bytes.{block_fields}
use Rattle.row.specs.Row.{sample_words, row_block}
use Rattle.row.specs.Inner.{headed, worded, stored}
use Rattle.row.proofs.Sections.{part, part_all, part_more, length_part}

-- what stands behind three lists, and behind five
behind_3 : (a b c q : List ℕ) → a ++ b ++ c ++ q ≡ a ++ (b ++ (c ++ q))
behind_3 a b c q = simp append_assoc

behind_5 : (a b c d e q : List ℕ) → a ++ b ++ c ++ d ++ e ++ q ≡ a ++ (b ++ (c ++ (d ++ (e ++ q))))
behind_5 a b c d e q = simp append_assoc

-- system, row number and the first count
abbrev head : ℕ → ℕ → ℕ → List ℕ
head n row w = n ∷ field row ++ field w

-- the block with i Y', j Cb and k Cr words stored, over the bytes ys, cbs and crs, and the rest of the buffer
unfoldable laid : (ℕ → Words) → ℕ → ℕ → ℕ → List ℕ → List ℕ → List ℕ → List ℕ → ℕ → ℕ → ℕ → List ℕ
laid words n row w ys cbs crs rest i j k =
    head n row w
    ++ (part (λ m. (words m).y) ys i
    ++ (field w ++ (part (λ m. (words m).cb) cbs j ++ (field w ++ (part (λ m. (words m).cr) crs k ++ rest)))))

module _ (words : ℕ → Words) (n row w : ℕ) (ys cbs crs rest : List ℕ)
    (size_y : length ys ≡ 2 * w) (size_cb : length cbs ≡ 2 * w) (size_cr : length crs ≡ 2 * w) where
  abbrev at : ℕ → ℕ → ℕ → List ℕ
  at i j k = laid words n row w ys cbs crs rest i j k

  abbrev y_part : ℕ → List ℕ
  y_part i = part (λ m. (words m).y) ys i

  abbrev cb_part : ℕ → List ℕ
  cb_part j = part (λ m. (words m).cb) cbs j

  abbrev cr_part : ℕ → List ℕ
  cr_part k = part (λ m. (words m).cr) crs k

  put_y : (i j k : ℕ) → i < w → put (5 + 2 * i) (words i).y (at i j k) ≡ at (suc i) j k
  unfolding laid
  put_y i j k h = part_more (λ m. (words m).y) ys w size_y (head n row w) _ i (5 + 2 * i) (omega arith) h

  put_cb : (i j k : ℕ) → i ≤ w → j < w → put (7 + 2 * w + 2 * j) (words j).cb (at i j k) ≡ at i (suc j) k
  unfolding laid
  put_cb i j k hi h =
      let q : List ℕ = field w ++ (cr_part k ++ rest) in
      let here : length (head n row w ++ y_part i ++ field w) + 2 * j ≡ 7 + 2 * w + 2 * j =
      simp length-append (omega (arith, length_part (λ m. (words m).y) ys w size_y i hi)) in
      ap (put (7 + 2 * w + 2 * j) (words j).cb) (sym (behind_3 (head n row w) (y_part i) (field w) (cb_part j ++ q)))
      ∙ part_more (λ m. (words m).cb) cbs w size_cb (head n row w ++ y_part i ++ field w) q j (7 + 2 * w + 2 * j) here h
      ∙ behind_3 (head n row w) (y_part i) (field w) (cb_part (suc j) ++ q)

  put_cr : (i j k : ℕ) → i ≤ w → j ≤ w → k < w → put (9 + 4 * w + 2 * k) (words k).cr (at i j k) ≡ at i j (suc k)
  unfolding laid
  put_cr i j k hi hj h =
      let here : length (head n row w ++ y_part i ++ field w ++ cb_part j ++ field w) + 2 * k ≡ 9 + 4 * w + 2 * k =
      simp length-append (omega (arith, length_part (λ m. (words m).y) ys w size_y i hi, length_part (λ m. (words m).cb) cbs w size_cb j hj)) in
      ap (put (9 + 4 * w + 2 * k) (words k).cr) (sym (behind_5 (head n row w) (y_part i) (field w) (cb_part j) (field w) (cr_part k ++ rest)))
      ∙ part_more (λ m. (words m).cr) crs w size_cr (head n row w ++ y_part i ++ field w ++ cb_part j ++ field w) rest k (9 + 4 * w + 2 * k) here h
      ∙ behind_5 (head n row w) (y_part i) (field w) (cb_part j) (field w) (cr_part (suc k) ++ rest)

  sample_stored : (i : ℕ) → i < w → worded w i (words i) (at i i i) ≡ at (suc i) (suc i) (suc i)
  unfolding worded
  sample_stored i h =
      let next : suc i ≤ w = omega arith in
      ap (λ (d : List ℕ). put (9 + 4 * w + 2 * i) (words i).cr (put (7 + 2 * w + 2 * i) (words i).cb d)) (put_y i i i h)
      ∙ ap (put (9 + 4 * w + 2 * i) (words i).cr) (put_cb (suc i) i i next h)
      ∙ put_cr (suc i) (suc i) i next next h

  samples_stored : (i : ℕ) → i ≤ w → stored words w (at 0 0 0) i ≡ at i i i
  unfolding stored
  samples_stored zero h = refl
  samples_stored (suc i) h = ap (worded w i (words i)) (samples_stored i (omega arith)) ∙ sample_stored i (omega arith)

  head_stored : (a₀ a₁ a₂ a₃ a₄ b₀ b₁ c₀ c₁ : ℕ)
      → headed n row w (a₀ ∷ a₁ ∷ a₂ ∷ a₃ ∷ a₄ ∷ (ys ++ (b₀ ∷ b₁ ∷ (cbs ++ (c₀ ∷ c₁ ∷ (crs ++ rest)))))) ≡ at 0 0 0
  unfolding headed laid part tabulate fields
  head_stored a₀ a₁ a₂ a₃ a₄ b₀ b₁ c₀ c₁ =
      let last : List ℕ = c₀ ∷ c₁ ∷ (crs ++ rest) in
      let front : List ℕ = head n row w ++ ys in
      let cb_place : length front ≡ 5 + 2 * w = simp length-append (omega arith) in
      let cr_place : length (front ++ field w ++ cbs) ≡ 7 + 4 * w = simp length-append (omega arith) in
      ap (put (7 + 4 * w) w)
      (ap (put (5 + 2 * w) w) (sym (append_assoc (head n row w) ys (b₀ ∷ b₁ ∷ (cbs ++ last))))
      ∙ put_at front (cbs ++ last) b₀ b₁ w (5 + 2 * w) cb_place
      ∙ sym (behind_3 front (field w) cbs last))
      ∙ put_at (front ++ field w ++ cbs) (crs ++ rest) c₀ c₁ w (7 + 4 * w) cr_place
      ∙ behind_3 front (field w) cbs (field w ++ (crs ++ rest))
      ∙ append_assoc (head n row w) ys (field w ++ (cbs ++ (field w ++ (crs ++ rest))))

  all_stored : at w w w ≡ block n row (tabulate (λ m. (words m).y) w) (tabulate (λ m. (words m).cb) w) (tabulate (λ m. (words m).cr) w) ++ rest
  unfolding laid block section
  all_stored =
      rw (part_all (λ m. (words m).y) ys w size_y, part_all (λ m. (words m).cb) cbs w size_cb, part_all (λ m. (words m).cr) crs w size_cr)
      (simp length_tabulate
      (ap (λ (l : List ℕ). head n row w ++ l)
      (sym (behind_3 (fields (tabulate (λ m. (words m).y) w)) (field w ++ fields (tabulate (λ m. (words m).cb) w)) (field w ++ fields (tabulate (λ m. (words m).cr) w)) rest))))

-- a row's stores make its block in every buffer that has room for it
row_stored : (words : ℕ → Words) (n row w : ℕ) (d : List ℕ) → 9 + 6 * w ≤ length d
    → stored words w (headed n row w d) w
    ≡ block n row (tabulate (λ m. (words m).y) w) (tabulate (λ m. (words m).cb) w) (tabulate (λ m. (words m).cr) w) ++ drop (9 + 6 * w) d
row_stored words n row w d h =
    let room : 0 < length d = omega arith in
    let ys : List ℕ = take (2 * w) (drop 5 d) in
    let cbs : List ℕ = take (2 * w) (drop (7 + 2 * w) d) in
    let crs : List ℕ = take (2 * w) (drop (9 + 4 * w) d) in
    let system : d ≡ get_or d 0 0 ∷ drop 1 d = drop-cons d 0 0 room in
    let number_field : drop 1 d ≡ get_or d 1 0 ∷ get_or d 2 0 ∷ drop 3 d = pair_at 1 3 d refl (omega arith) in
    let y_count : drop 3 d ≡ get_or d 3 0 ∷ get_or d 4 0 ∷ drop 5 d = pair_at 3 5 d refl (omega arith) in
    let y_words : drop 5 d ≡ ys ++ drop (5 + 2 * w) d = gap_at 5 (2 * w) (5 + 2 * w) d refl in
    let b₀ : ℕ = get_or d (5 + 2 * w) 0 in
    let b₁ : ℕ = get_or d (suc (5 + 2 * w)) 0 in
    let c₀ : ℕ = get_or d (7 + 4 * w) 0 in
    let c₁ : ℕ = get_or d (suc (7 + 4 * w)) 0 in
    let cb_count : drop (5 + 2 * w) d ≡ b₀ ∷ b₁ ∷ drop (7 + 2 * w) d = pair_at (5 + 2 * w) (7 + 2 * w) d (omega arith) (omega arith) in
    let cb_words : drop (7 + 2 * w) d ≡ cbs ++ drop (7 + 4 * w) d = gap_at (7 + 2 * w) (2 * w) (7 + 4 * w) d (omega arith) in
    let cr_count : drop (7 + 4 * w) d ≡ c₀ ∷ c₁ ∷ drop (9 + 4 * w) d = pair_at (7 + 4 * w) (9 + 4 * w) d (omega arith) (omega arith) in
    let cr_words : drop (9 + 4 * w) d ≡ crs ++ drop (9 + 6 * w) d = gap_at (9 + 4 * w) (2 * w) (9 + 6 * w) d (omega arith) in
    let cut : d ≡ get_or d 0 0 ∷ get_or d 1 0 ∷ get_or d 2 0 ∷ get_or d 3 0 ∷ get_or d 4 0 ∷ (ys ++ (b₀ ∷ b₁ ∷ (cbs ++ (c₀ ∷ c₁ ∷ (crs ++ drop (9 + 6 * w) d))))) = cc in
    let size_y : length ys ≡ 2 * w = length-take-le (2 * w) (drop 5 d) (simp length-drop (omega arith)) in
    let size_cb : length cbs ≡ 2 * w = length-take-le (2 * w) (drop (7 + 2 * w) d) (simp length-drop (omega arith)) in
    let size_cr : length crs ≡ 2 * w = length-take-le (2 * w) (drop (9 + 4 * w) d) (simp length-drop (omega arith)) in
    ap (λ (l : List ℕ). stored words w (headed n row w l) w) cut
    ∙ ap (λ (l : List ℕ). stored words w l w) (head_stored words n row w ys cbs crs (drop (9 + 6 * w) d) size_y size_cb size_cr _ _ _ _ _ b₀ b₁ c₀ c₁)
    ∙ samples_stored words n row w ys cbs crs (drop (9 + 6 * w) d) size_y size_cb size_cr w (le_refl w)
    ∙ all_stored words n row w ys cbs crs (drop (9 + 6 * w) d) size_y size_cb size_cr

-- so they make the block of the row's lights in front of what stays
pub row_written : (y : System) (row w : ℕ) (lights d d₁ d₂ : List ℕ) → 9 + 6 * w ≤ length d → d₁ ≡ headed (number y) row w d
    → d₂ ≡ stored (sample_words y lights) w d₁ w → d₂ ≡ row_block y row w lights ++ drop (9 + 6 * w) d
unfolding row_block
row_written y row w lights d d₁ d₂ h begun done =
    done ∙ ap (λ (l : List ℕ). stored (sample_words y lights) w l w) begun ∙ row_stored (sample_words y lights) (number y) row w d h

-- a row of w samples takes 9 + 6w bytes
pub length_row_block : (y : System) (row w : ℕ) (lights : List ℕ) → length (row_block y row w lights) ≡ 9 + 6 * w
unfolding row_block
length_row_block y row w lights = (block_fields (number y) row w _ _ _ (length_tabulate _ w) (length_tabulate _ w) (length_tabulate _ w)).size
