-- The triples of a row at the front of a slice.
-- Assumes nothing.
use mathlib.Core.Path.{◌≡◌, refl, ap, ◌∙◌}
use mathlib.Core.List.{List, ◌++◌}
use Prim.Native.Nat.{ℕ, zero, suc, ◌+◌, ◌*◌, ◌-◌, ◌≤◌, ◌<◌}
use native.Mathlib.Numerals.{add-one}
use native.Mathlib.Omega.{arith}
use lib.ListN.{length, drop, length-append, length-drop}
use lib.Seq.{sets, sets-eq, take_at, drop-append-add, drop-drop}
use Rattle.systems.specs.declared.Codes.{Codes}
use Rattle.matrix.specs.declared.Clipped.{Clipped}
use Rattle.block.specs.Read.{rgb, codes_to}
use Rattle.block.specs.Inner.{triples_to}

module _ (row : ℕ → Codes) where
  pub length_triples : (n : ℕ) → length (triples_to row n) ≡ 3 * n
  unfolding triples_to
  length_triples zero = refl
  length_triples (suc n) = let h : length (triples_to row n) ≡ 3 * n = length_triples n in simp length-append (omega arith)

  -- a sample's triple stored behind those before it
  triples_more : (i : ℕ) (slice d : List ℕ) → 3 * i + 3 ≤ length slice → d ≡ triples_to row i ++ drop (3 * i) slice
      → sets d (3 * i) (rgb (row i)) ≡ triples_to row (i + 1) ++ drop (3 * (i + 1)) slice
  unfolding triples_to
  triples_more i slice d h e =
      let front = triples_to row i in
      let rest = drop (3 * i) slice in
      let l : length front ≡ 3 * i = length_triples i in
      let m : length rest ≡ length slice - 3 * i = length-drop (3 * i) slice in
      let n : 3 * i + 3 ≤ length (front ++ rest) = simp length-append (omega arith) in
      let p : 3 * i + 3 ≡ length front + 3 = omega arith in
      let q : 3 * i + 3 ≡ 3 * suc i = omega arith in
      rw (e, add-one i)
      (sets-eq (rgb (row i)) (front ++ rest) (3 * i) n
      ∙ ap (λ (t : List ℕ). t ++ rgb (row i) ++ drop (3 * i + 3) (front ++ rest)) (take_at front rest (3 * i) l)
      ∙ ap (λ (t : List ℕ). front ++ rgb (row i) ++ t) (ap (λ (j : ℕ). drop j (front ++ rest)) p ∙ drop-append-add front rest 3 ∙ drop-drop 3 (3 * i) slice ∙ ap (λ (j : ℕ). drop j slice) q))

  pub triples_kept : (n : ℕ) (slice : List ℕ) → 3 * n ≤ length slice → length (triples_to row n ++ drop (3 * n) slice) ≡ length slice
  triples_kept n slice h = simp (length-append, length-drop, length_triples) (omega arith)

  -- the triples of the first i of n samples stand at the front of the slice
  pub record SoFar (n : ℕ) (slice : List ℕ) (i : ℕ) (d : List ℕ) : Type 0 where
    pub within : i ≤ n
    pub codes : d ≡ triples_to row i ++ drop (3 * i) slice

  pub none_yet : (n : ℕ) (slice : List ℕ) → SoFar n slice 0 slice
  unfolding triples_to
  none_yet n slice = record { within = omega arith; codes = refl }

  pub one_more : (n i : ℕ) (slice d e : List ℕ) (c : Codes) → 3 * n ≤ length slice → i < n → SoFar n slice i d
      → c ≡ row i → e ≡ sets d (3 * i) (rgb c) → SoFar n slice (i + 1) e
  one_more n i slice d e c room h f p g = record {
    within = omega arith;
    codes = g ∙ ap (λ (t : Codes). sets d (3 * i) (rgb t)) p ∙ triples_more i slice d (omega arith) f.codes;
  }

  pub so_far_long : (n i : ℕ) (slice d : List ℕ) → 3 * n ≤ length slice → SoFar n slice i d → length d ≡ length slice
  so_far_long n i slice d room f = ap length f.codes ∙ triples_kept i slice (omega (arith, f.within))

module _ (row : ℕ → Clipped) where
  codes_triples : (n : ℕ) → codes_to row n ≡ triples_to (λ i. (row i).codes) n
  unfolding codes_to triples_to
  codes_triples zero = refl
  codes_triples (suc n) = ap (λ (t : List ℕ). t ++ rgb (row n).codes) (codes_triples n)

  pub length_codes : (n : ℕ) → length (codes_to row n) ≡ 3 * n
  length_codes n = ap length (codes_triples n) ∙ length_triples (λ i. (row i).codes) n

  pub length_kept : (n : ℕ) (slice : List ℕ) → 3 * n ≤ length slice → length (codes_to row n ++ drop (3 * n) slice) ≡ length slice
  length_kept n slice h = simp (length-append, length-drop, length_codes) (omega arith)
