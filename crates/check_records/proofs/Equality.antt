-- `==` of the beginnings of two slices, by their elements.
-- Assumes nothing.
use Rattle.std.proofs.Common.{ℕ, zero, suc, ◌≤◌, ◌&&◌, List, [], ◌∷◌, ◌++◌, length, take, eqb, ◌≡◌, refl, arith, take-suc}
use Rattle.std.proofs.lemmas.Grind.{common_steps}
use Rattle.std.specs.Cmp.Lexicographic.{pointwise}
use Rattle.check_records.specs.Records.{same_to}

pointwise-snoc : (xs ys : List ℕ) (x y : ℕ) → length xs ≡ length ys → pointwise eqb (xs ++ (x ∷ [])) (ys ++ (y ∷ [])) ≡ (pointwise eqb xs ys && eqb x y)
pointwise-snoc [] [] x y e = grind (arith, common_steps)
pointwise-snoc (v ∷ xs) (w ∷ ys) x y e = let h : length xs ≡ length ys = omega arith in grind (arith, common_steps, pointwise-snoc xs ys x y h)
pointwise-snoc [] (w ∷ ys) x y e = absurd (omega arith)
pointwise-snoc (v ∷ xs) [] x y e = absurd (omega arith)

pub same_to-pointwise : (a b : List ℕ) (n : ℕ) → n ≤ length a → n ≤ length b → same_to a b n ≡ pointwise eqb (take n a) (take n b)
unfolding same_to
same_to-pointwise a b zero h k = refl
same_to-pointwise a b (suc n) h k =
    let shorter : same_to a b n ≡ pointwise eqb (take n a) (take n b) = same_to-pointwise a b n (omega arith) (omega arith) in
    let same_length : length (take n a) ≡ length (take n b) = grind (arith, common_steps) in
    rw (take-suc a n 0 (omega arith), take-suc b n 0 (omega arith), pointwise-snoc _ _ _ _ same_length, ← shorter)

pub ruleset alike = (same_to-pointwise)
