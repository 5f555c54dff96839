-- The listing of what reading a block gave.
-- Assumes nothing.
use mathlib.Core.Path.{◌≡◌, refl, sym, ap, ◌∙◌}
use mathlib.Core.Logic.{◌⊎◌, inl, inr}
use mathlib.Core.List.{List, ◌++◌, append_assoc}
use Prim.Native.Nat.{ℕ, zero, suc, ◌+◌, ◌*◌, ◌≤◌, ◌<◌}
use native.Mathlib.Omega.{arith}
use lib.ListN.{length, get_or, drop}
use lib.Seq.{get_or-append-add}
use Rattle.exact.specs.Outcome.{Outcome, accepted, refused}
use Rattle.exact.proofs.Order.{below_or_not}
use Rattle.systems.specs.declared.Codes.{Codes}
use Rattle.matrix.specs.declared.Clipped.{Clipped}
use Rattle.block.specs.declared.Header.{Header}
use Rattle.block.specs.Read.{rgb, codes_to, row_of, header_of, slice_after}
use Rattle.block.proofs.Decoding.{length_codes}
use Rattle.block.proofs.Reading.{codes_in_front}
use Rattle.listing.specs.Listing.{header_line, lines_to, refused_line, listing_by, listing}
use Rattle.listing.specs.Inner.{triple_at}

module _ (f g : ℕ → Codes) where
  lines_agree : (n : ℕ) → ((i : ℕ) → i < n → f i ≡ g i) → lines_to f n ≡ lines_to g n
  unfolding lines_to
  lines_agree zero h = refl
  lines_agree (suc n) h = rw (lines_agree n (λ i l. h i (omega arith)), h n (omega arith))

module _ (row : ℕ → Clipped) where
  -- the triple behind those of n samples
  triple_behind : (n : ℕ) (rest : List ℕ) → triple_at (codes_to row n ++ (rgb (row n).codes ++ rest)) n ≡ (row n).codes
  triple_behind n rest =
      let front = codes_to row n in
      let three = rgb (row n).codes ++ rest in
      let l : length front ≡ 3 * n = length_codes row n in
      let at : (k : ℕ) → get_or (front ++ three) (3 * n + k) 0 ≡ get_or three k 0 = λ k. ap (λ (m : ℕ). get_or (front ++ three) (m + k) 0) (sym l) ∙ get_or-append-add front three k 0 in
      let zeroth : 3 * n ≡ 3 * n + 0 = omega arith in
      rw (ap (λ (m : ℕ). get_or (front ++ three) m 0) zeroth ∙ at 0, at 1, at 2)

  triple_read : (n : ℕ) (rest : List ℕ) (i : ℕ) → i < n → triple_at (codes_to row n ++ rest) i ≡ (row i).codes
  unfolding codes_to
  triple_read zero rest i h = absurd (omega arith)
  triple_read (suc n) rest i h = rw (append_assoc (codes_to row n) (rgb (row n).codes) rest) (go (triple_read n (rgb (row n).codes ++ rest) i) (below_or_not i n))
    where
      go : (i < n → triple_at (codes_to row n ++ (rgb (row n).codes ++ rest)) i ≡ (row i).codes) → (i < n) ⊎ (n ≤ i) → triple_at (codes_to row n ++ (rgb (row n).codes ++ rest)) i ≡ (row i).codes
      go before (inl l) = before l
      go before (inr l) = let e : i ≡ n = omega arith in rw e (triple_behind n rest)

module _ (bs slice : List ℕ) (room : length slice ≡ 23040) where
  read_as : (o : Outcome Header) → o ≡ header_of bs (length slice) → listing bs ≡ listing_by o bs
  read_as o e = ap (λ (t : Outcome Header). listing_by t bs) (ap (header_of bs) (sym room) ∙ sym e)

  pub row_listed : {codes : List ℕ} {h : Header} → accepted h ≡ header_of bs (length slice) → codes ≡ slice_after bs slice → header_line h ++ lines_to (triple_at codes) h.samples ≡ listing bs
  row_listed {codes} {h} e read =
      let row = row_of h.system bs h.samples in
      let there : codes ≡ codes_to row h.samples ++ drop (3 * h.samples) slice = read ∙ sym (codes_in_front bs slice h (sym e)) in
      ap (λ (t : List ℕ). header_line h ++ t) (lines_agree (triple_at codes) (λ i. (row i).codes) h.samples (λ i l. rw there (triple_read row h.samples (drop (3 * h.samples) slice) i l)))
      ∙ sym (read_as (accepted h) e)

  pub refusal_listed : {n : ℕ} → refused n ≡ header_of bs (length slice) → refused_line n ≡ listing bs
  refusal_listed {n} e = sym (read_as (refused n) e)
