-- The words of a section, and a field stored into a list at its place.
-- Assumes nothing.
use mathlib.Core.Path.{◌≡◌, refl, sym, ap, ◌∙◌}
use mathlib.Core.List.{List, [], ◌∷◌, ◌++◌, append_assoc}
use mathlib.Core.Logic.{◌⊎◌, inl, inr}
use Prim.Native.Nat.{ℕ, zero, suc, ◌+◌, ◌*◌, ◌/◌, ◌%◌, ◌≤◌, ◌<◌}
use native.Mathlib.Omega.{arith}
use lib.ListN.{length, set, get_or, take, drop, length-append, take-append-drop, get_or-append}
use lib.Seq.{set_at, drop-drop, drop-cons, get_or-append-add}
use Rattle.exact.proofs.Order.{below_or_not}
use Rattle.block.specs.Block.{field, fields, tabulate}
use Rattle.block.specs.Inner.{put}

-- ---- the words

pub length_tabulate : (f : ℕ → ℕ) (n : ℕ) → length (tabulate f n) ≡ n
unfolding tabulate
length_tabulate f zero = refl
length_tabulate f (suc n) = simp length-append (omega (arith, length_tabulate f n))

pub tabulate_at : (f : ℕ → ℕ) (n i : ℕ) → i < n → get_or (tabulate f n) i 0 ≡ f i
unfolding tabulate
tabulate_at f zero i h = absurd (omega arith)
tabulate_at f (suc n) i h = go (tabulate_at f n i) (below_or_not i n)
  where
    go : (i < n → get_or (tabulate f n) i 0 ≡ f i) → (i < n) ⊎ (n ≤ i) → get_or (tabulate f n ++ f n ∷ []) i 0 ≡ f i
    go before (inl l) = get_or-append (tabulate f n) (f n ∷ []) 0 i (omega (arith, length_tabulate f n)) ∙ before l
    go before (inr l) =
        let e : i ≡ length (tabulate f n) + 0 = omega (arith, length_tabulate f n) in
        let same : n ≡ i = omega arith in
        ap (λ (j : ℕ). get_or (tabulate f n ++ f n ∷ []) j 0) e ∙ get_or-append-add (tabulate f n) (f n ∷ []) 0 0 ∙ ap f same

pub fields_append : (a b : List ℕ) → fields (a ++ b) ≡ fields a ++ fields b
unfolding fields
fields_append [] b = refl
fields_append (x ∷ a) b = ap (λ (l : List ℕ). field x ++ l) (fields_append a b)

pub length_fields : (a : List ℕ) → length (fields a) ≡ 2 * length a
unfolding fields
length_fields [] = refl
length_fields (x ∷ a) = omega (arith, length_fields a)

-- ---- a list cut at a place

-- behind so many bytes
pub gap_at : (n m k : ℕ) (d : List ℕ) → n + m ≡ k → drop n d ≡ take m (drop n d) ++ drop k d
gap_at n m k d e =
    sym (take-append-drop m (drop n d)) ∙ ap (λ (l : List ℕ). take m (drop n d) ++ l) (drop-drop m n d ∙ ap (λ (j : ℕ). drop j d) e)

-- behind two
pub pair_at : (n k : ℕ) (d : List ℕ) → n + 2 ≡ k → k ≤ length d → drop n d ≡ get_or d n 0 ∷ get_or d (suc n) 0 ∷ drop k d
pair_at n k d e h =
    let last : suc (suc n) ≡ k = omega arith in
    let first_in : n < length d = omega arith in
    let second_in : suc n < length d = omega arith in
    drop-cons d n 0 first_in
    ∙ ap (λ (l : List ℕ). get_or d n 0 ∷ l) (drop-cons d (suc n) 0 second_in ∙ ap (λ (j : ℕ). get_or d (suc n) 0 ∷ drop j d) last)

-- ---- stores

-- a field stored over two bytes
pub put_at : (p q : List ℕ) (a b x n : ℕ) → length p ≡ n → put n x (p ++ a ∷ b ∷ q) ≡ p ++ (field x ++ q)
put_at p q a b x n e =
    let low : List ℕ = x % 256 ∷ [] in
    let longer : length (p ++ low) ≡ n + 1 = simp length-append (omega arith) in
    ap (λ (l : List ℕ). set l (n + 1) (x / 256 % 256)) (set_at p a (b ∷ q) (x % 256) n e ∙ sym (append_assoc p low (b ∷ q)))
    ∙ set_at (p ++ low) b q (x / 256 % 256) (n + 1) longer
    ∙ append_assoc p low (x / 256 % 256 ∷ q)
