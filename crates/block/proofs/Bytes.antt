-- The fields of a block's bytes.
-- Assumes nothing.
use mathlib.Core.Path.{◌≡◌, sym, ap, ◌∙◌}
use mathlib.Core.List.{List, [], ◌∷◌, ◌++◌, append_assoc, append-nil}
use Prim.Native.Nat.{ℕ, zero, suc, ◌+◌, ◌*◌, ◌/◌, ◌%◌, ◌<◌}
use native.Mathlib.Nat.{not-suc-le-zero}
use native.Mathlib.Omega.{arith}
use lib.ListN.{length, get_or, length-append}
use lib.Seq.{get_or-append-add}
use Rattle.block.specs.Block.{field, fields, section, block}
use Rattle.block.specs.Read.{field_at}
use Rattle.block.proofs.Stored.{length_fields}

-- two bytes hold a number below 65536
field_reads_back : (n : ℕ) → n < 65536 → n % 256 + 256 * (n / 256 % 256) ≡ n
field_reads_back n h = omega arith

-- a field behind other bytes
field_behind : (p q : List ℕ) (i j : ℕ) → i ≡ length p + j → field_at (p ++ q) i ≡ field_at q j
field_behind p q i j e =
    let f : i + 1 ≡ length p + (j + 1) = omega arith in
    (λ k. get_or (p ++ q) (e k) 0 + 256 * get_or (p ++ q) (f k) 0)
    ∙ (λ k. get_or-append-add p q j 0 k + 256 * get_or-append-add p q (j + 1) 0 k)

-- word i of a list that is followed by other bytes
word_at : (ws q : List ℕ) (i : ℕ) → i < length ws → get_or ws i 0 < 65536 → field_at (fields ws ++ q) (2 * i) ≡ get_or ws i 0
unfolding fields
word_at [] q i h s = absurd (not-suc-le-zero h)
word_at (w ∷ ws) q zero h s = field_reads_back w s
word_at (w ∷ ws) q (suc i) h s = field_behind (field w) (fields ws ++ q) (2 * suc i) (2 * i) (omega arith) ∙ word_at ws q i (omega arith) s

-- the fields of a block of w samples
pub record Fields (bs : List ℕ) (n row w : ℕ) (ys cbs crs : List ℕ) : Type 0 where
  pub size : length bs ≡ 9 + 6 * w
  pub system : get_or bs 0 0 ≡ n
  pub row_number : row < 65536 → field_at bs 1 ≡ row
  pub luma_count : w < 65536 → field_at bs 3 ≡ w
  pub cb_count : w < 65536 → field_at bs (5 + 2 * w) ≡ w
  pub cr_count : w < 65536 → field_at bs (7 + 4 * w) ≡ w
  pub luma : (i : ℕ) → i < w → get_or ys i 0 < 65536 → field_at bs (5 + 2 * i) ≡ get_or ys i 0
  pub cb : (i : ℕ) → i < w → get_or cbs i 0 < 65536 → field_at bs (7 + 2 * w + 2 * i) ≡ get_or cbs i 0
  pub cr : (i : ℕ) → i < w → get_or crs i 0 < 65536 → field_at bs (9 + 4 * w + 2 * i) ≡ get_or crs i 0

module _ (n row w : ℕ) (ys cbs crs : List ℕ) (ey : length ys ≡ w) (eb : length cbs ≡ w) (er : length crs ≡ w) where
  abbrev front : List ℕ
  front = n ∷ field row ++ field (length ys)

  abbrev behind : List ℕ
  behind = field (length cbs) ++ (fields cbs ++ (field (length crs) ++ fields crs))

  in_order : block n row ys cbs crs ≡ front ++ (fields ys ++ behind)
  unfolding block section
  in_order = simp append_assoc

  size : length (block n row ys cbs crs) ≡ 9 + 6 * w
  size =
      let ly = length_fields ys in
      let lb = length_fields cbs in
      let lr = length_fields crs in
      rw in_order (simp length-append (omega arith))

  system_first : get_or (block n row ys cbs crs) 0 0 ≡ n
  system_first = rw in_order

  row_next : row < 65536 → field_at (block n row ys cbs crs) 1 ≡ row
  row_next h = rw in_order (field_reads_back row h)

  luma_counted : w < 65536 → field_at (block n row ys cbs crs) 3 ≡ w
  luma_counted h = rw in_order (field_reads_back (length ys) (omega arith) ∙ ey)

  luma_word : (i : ℕ) → i < w → get_or ys i 0 < 65536 → field_at (block n row ys cbs crs) (5 + 2 * i) ≡ get_or ys i 0
  luma_word i h s = rw in_order (field_behind front (fields ys ++ behind) (5 + 2 * i) (2 * i) (omega arith) ∙ word_at ys behind i (omega arith) s)

  behind_luma : (i j : ℕ) → i ≡ 5 + 2 * w + j → field_at (block n row ys cbs crs) i ≡ field_at behind j
  behind_luma i j e =
      let l = length_fields ys in
      rw in_order
      (field_behind front (fields ys ++ behind) i (2 * w + j) (omega arith)
      ∙ field_behind (fields ys) behind (2 * w + j) j (omega arith))

  cb_counted : w < 65536 → field_at (block n row ys cbs crs) (5 + 2 * w) ≡ w
  cb_counted h = behind_luma (5 + 2 * w) 0 (omega arith) ∙ field_reads_back (length cbs) (omega arith) ∙ eb

  cb_word : (i : ℕ) → i < w → get_or cbs i 0 < 65536 → field_at (block n row ys cbs crs) (7 + 2 * w + 2 * i) ≡ get_or cbs i 0
  cb_word i h s =
      behind_luma (7 + 2 * w + 2 * i) (2 + 2 * i) (omega arith)
      ∙ field_behind (field (length cbs)) (fields cbs ++ (field (length crs) ++ fields crs)) (2 + 2 * i) (2 * i) (omega arith)
      ∙ word_at cbs (field (length crs) ++ fields crs) i (omega arith) s

  behind_cb : (i j : ℕ) → i ≡ 7 + 4 * w + j → field_at (block n row ys cbs crs) i ≡ field_at (field (length crs) ++ fields crs) j
  behind_cb i j e =
      let l = length_fields cbs in
      behind_luma i (2 + 2 * w + j) (omega arith)
      ∙ field_behind (field (length cbs)) (fields cbs ++ (field (length crs) ++ fields crs)) (2 + 2 * w + j) (2 * w + j) (omega arith)
      ∙ field_behind (fields cbs) (field (length crs) ++ fields crs) (2 * w + j) j (omega arith)

  cr_counted : w < 65536 → field_at (block n row ys cbs crs) (7 + 4 * w) ≡ w
  cr_counted h = behind_cb (7 + 4 * w) 0 (omega arith) ∙ field_reads_back (length crs) (omega arith) ∙ er

  cr_word : (i : ℕ) → i < w → get_or crs i 0 < 65536 → field_at (block n row ys cbs crs) (9 + 4 * w + 2 * i) ≡ get_or crs i 0
  cr_word i h s =
      behind_cb (9 + 4 * w + 2 * i) (2 + 2 * i) (omega arith)
      ∙ field_behind (field (length crs)) (fields crs) (2 + 2 * i) (2 * i) (omega arith)
      ∙ ap (λ (l : List ℕ). field_at l (2 * i)) (sym (append-nil (fields crs)))
      ∙ word_at crs [] i (omega arith) s

  pub block_fields : Fields (block n row ys cbs crs) n row w ys cbs crs
  block_fields = record {
    size = size;
    system = system_first;
    row_number = row_next;
    luma_count = luma_counted;
    cb_count = cb_counted;
    cr_count = cr_counted;
    luma = luma_word;
    cb = cb_word;
    cr = cr_word;
  }
