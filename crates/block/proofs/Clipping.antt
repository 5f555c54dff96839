-- Biased components clipped one by one, and the codes of a row that they come to.
-- Assumes nothing.
use mathlib.Core.Path.{◌≡◌, refl, sym, ap, ◌∙◌}
use mathlib.Core.List.{List, [], ◌∷◌, ◌++◌}
use Prim.Native.Nat.{ℕ, zero, suc, ◌+◌, ◌*◌, ◌≤◌, ◌<◌}
use native.Mathlib.Numerals.{add-one}
use native.Mathlib.Omega.{arith}
use lib.ListN.{length, get_or, take, drop, set, length-append, length-drop}
use lib.Seq.{length-take-le, take-suc, drop-cons, append_snoc, set_at, get_or_at, take_at, drop_at}
use Rattle.systems.specs.declared.Matrix.{Matrix}
use Rattle.systems.specs.declared.Range.{Range}
use Rattle.matrix.specs.declared.Clips.{Clips}
use Rattle.matrix.specs.declared.Clipped.{Clipped}
use Rattle.matrix.specs.declared.Words.{Words}
use Rattle.matrix.specs.Triples.{no_clips, ◌plus◌, clipped, beyond, codes_at}
use Rattle.matrix.specs.Inner.{TwelveBitWords, unclipped_at}
use Rattle.matrix.proofs.Clipping.{none_plus, plus_none, plus_assoc}
use Rattle.block.specs.Read.{rgb, codes_to, clips_to}
use Rattle.block.specs.Inner.{unbiased, biased_triple, biased_row, triples_to, clipped_all, beyond_all}
use Rattle.block.proofs.Bias.{from_biased, codes_from_biased}
use Rattle.block.proofs.Decoding.{length_triples}

module _ (r : Range) where
  clipped_append : (a b : List ℕ) → clipped_all r (a ++ b) ≡ clipped_all r a ++ clipped_all r b
  unfolding clipped_all
  clipped_append [] b = refl
  clipped_append (v ∷ a) b = ap (λ (t : List ℕ). clipped r (unbiased v) ∷ t) (clipped_append a b)

  beyond_append : (a b : List ℕ) → beyond_all r (a ++ b) ≡ (beyond_all r a plus beyond_all r b)
  unfolding beyond_all
  beyond_append [] b = sym (none_plus (beyond_all r b))
  beyond_append (v ∷ a) b = ap (λ (t : Clips). beyond r (unbiased v) plus t) (beyond_append a b) ∙ sym (plus_assoc (beyond r (unbiased v)) (beyond_all r a) (beyond_all r b))

  length_clipped : (a : List ℕ) → length (clipped_all r a) ≡ length a
  unfolding clipped_all
  length_clipped [] = refl
  length_clipped (v ∷ a) = ap suc (length_clipped a)

  -- the first i components of a slice are clipped
  pub record SoFar (slice : List ℕ) (i : ℕ) (k : Clips) (d : List ℕ) : Type 0 where
    pub within : i ≤ length slice
    pub few_low : k.low ≤ i
    pub few_high : k.high ≤ i
    pub counted : k ≡ beyond_all r (take i slice)
    pub codes : d ≡ clipped_all r (take i slice) ++ drop i slice

  pub none_yet : (slice : List ℕ) → SoFar slice 0 no_clips slice
  unfolding clipped_all beyond_all
  none_yet slice = record { within = omega arith; few_low = omega arith; few_high = omega arith; counted = refl; codes = refl }

  module _ (slice : List ℕ) (i : ℕ) (k : Clips) (d : List ℕ) (f : SoFar slice i k d) where
    front_long : length (clipped_all r (take i slice)) ≡ i
    front_long = length_clipped (take i slice) ∙ length-take-le i slice f.within

    pub so_far_long : length d ≡ length slice
    so_far_long = let l = front_long in ap length f.codes ∙ simp (length-append, length-drop) (omega (arith, f.within))

    module _ (h : i < length slice) where
      cut : d ≡ clipped_all r (take i slice) ++ get_or slice i 0 ∷ drop (suc i) slice
      cut = f.codes ∙ ap (λ (t : List ℕ). clipped_all r (take i slice) ++ t) (drop-cons slice i 0 h)

      -- the next component is still as it was
      same : get_or d i 0 ≡ get_or slice i 0
      same = ap (λ (t : List ℕ). get_or t i 0) cut ∙ get_or_at (clipped_all r (take i slice)) (get_or slice i 0) (drop (suc i) slice) 0 i front_long

      pub one_more : (b t : Clips) (c : ℕ) → (b ≡ beyond r (unbiased (get_or d i 0))) × (b.low ≤ 1) × (b.high ≤ 1) → t ≡ (k plus b) → c ≡ clipped r (unbiased (get_or d i 0)) → SoFar slice (i + 1) t (set d i c)
      unfolding clipped_all beyond_all
      one_more b t c (p, u, w) e q =
          let front = take i slice in
          let v = get_or slice i 0 in
          let next : take (suc i) slice ≡ front ++ (v ∷ []) = take-suc slice i 0 h in
          let b' : b ≡ beyond r (unbiased v) = p ∙ ap (λ (k : ℕ). beyond r (unbiased k)) same in
          let c' : c ≡ clipped r (unbiased v) = q ∙ ap (λ (k : ℕ). clipped r (unbiased k)) same in
          rw (add-one i, e) record {
            within = h;
            few_low = omega (arith, f.few_low);
            few_high = omega (arith, f.few_high);
            counted = (λ j. f.counted j plus (b' ∙ sym (plus_none (beyond r (unbiased v)))) j) ∙ sym (beyond_append front (v ∷ [])) ∙ ap (beyond_all r) (sym next);
            codes = (λ j. set (cut j) i (c' j)) ∙ set_at (clipped_all r front) v (drop (suc i) slice) (clipped r (unbiased v)) i front_long
                ∙ sym (append_snoc (clipped_all r front) (clipped r (unbiased v)) (drop (suc i) slice))
                ∙ ap (λ (l : List ℕ). l ++ drop (suc i) slice) (sym (clipped_append front (v ∷ [])) ∙ ap (clipped_all r) (sym next));
          }

-- ---- a row of words
module _ (x : Matrix) (s : ℕ) (range : Range) (row : ℕ → Words) (S : s ≤ 16) where
  abbrev decoded_row : ℕ → Clipped
  decoded_row i = codes_at x s range (row i)

  row_clipped : (n : ℕ) → ((i : ℕ) → i < n → TwelveBitWords (row i))
      → (clipped_all range (triples_to (biased_row x s row) n) ≡ codes_to decoded_row n) × (beyond_all range (triples_to (biased_row x s row) n) ≡ clips_to decoded_row n)
  unfolding triples_to codes_to clips_to clipped_all beyond_all
  row_clipped zero h = (refl, refl)
  row_clipped (suc n) h =
      let before = row_clipped n (λ i l. h i (omega arith)) in
      let here = codes_from_biased x s range (row n) S (h n (omega arith)) in
      let v = biased_triple (unclipped_at x s (row n)) in
      let r = beyond range (unbiased v.r) in
      let g = beyond range (unbiased v.g) in
      let b = beyond range (unbiased v.b) in
      let three : beyond_all range (rgb v) ≡ (from_biased range v).clips = (λ j. r plus (g plus plus_none b j)) ∙ sym (plus_assoc r g b) in
      (clipped_append range (triples_to (biased_row x s row) n) (rgb v) ∙ (λ j. before.0 j ++ rgb (here j).codes), beyond_append range (triples_to (biased_row x s row) n) (rgb v) ∙ (λ j. before.1 j plus (three ∙ ap (λ (t : Clipped). t.clips) here) j))

  -- biased, then clipped
  pub clipped_row : (n : ℕ) (slice mid : List ℕ) → ((i : ℕ) → i < n → TwelveBitWords (row i)) → mid ≡ triples_to (biased_row x s row) n ++ drop (3 * n) slice
      → (beyond_all range (take (3 * n) mid) ≡ clips_to decoded_row n) × (clipped_all range (take (3 * n) mid) ++ drop (3 * n) mid ≡ codes_to decoded_row n ++ drop (3 * n) slice)
  clipped_row n slice mid h e =
      let front = triples_to (biased_row x s row) n in
      let rest = drop (3 * n) slice in
      let l = length_triples (biased_row x s row) n in
      let done = row_clipped n h in
      rw (e, take_at front rest (3 * n) l, drop_at front rest (3 * n) l) (done.1, ap (λ (t : List ℕ). t ++ rest) done.0)
