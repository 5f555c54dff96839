-- The words of a block in a range: counted outside it section by section, and required of each sample.
-- Assumes nothing.
use mathlib.Core.Path.{◌≡◌, refl, sym, ap, ◌∙◌}
use mathlib.Core.Bool.{Bool, true, false, ◌&&◌, ◌||◌, and-false, false≢true}
use mathlib.Core.Logic.{⊎_elim}
use mathlib.Core.List.{List}
use Prim.Native.Nat.{ℕ, zero, suc, ◌+◌, ◌*◌, ◌≤◌, ◌<◌}
use native.Mathlib.Nat.{not-suc-le-zero}
use native.Mathlib.Numerals.{add-one}
use native.Mathlib.Omega.{arith}
use lib.Dec.{leb, ltb, eqb}
use mir.Val.{bool_byte}
use Rattle.std.proofs.lemmas.Bool.Decides.{nat_tests}
use Rattle.exact.proofs.Order.{below_or_not}
use Rattle.systems.specs.declared.Range.{Range}
use Rattle.matrix.specs.declared.Words.{Words}
use Rattle.matrix.specs.Triples.{words_within}
use Rattle.block.specs.Read.{field_at, sample_at, within_to}
use Rattle.block.specs.Inner.{in_range}

-- 1 where w is outside a range
abbrev pub misses : Range → ℕ → ℕ
misses r w = bool_byte (ltb w r.low || ltb r.high w)

sum_tested : (bad w low high : ℕ) → eqb (bad + bool_byte (ltb w low || ltb high w)) 0 ≡ (eqb bad 0 && (leb low w && leb w high))
sum_tested bad w low high = grind (arith, nat_tests)

-- both of two tests that pass together
pub each : (a b : Bool) → (a && b) ≡ true → (a ≡ true) × (b ≡ true)
each true true e = (refl, refl)
each true false e = absurd (false≢true e)
each false b e = absurd (false≢true e)

-- one word more
pub range_more : (r : Range) (bs : List ℕ) (at i bad : ℕ) → eqb bad 0 ≡ in_range r bs at i
    → eqb (bad + misses r (field_at bs (at + 2 * i))) 0 ≡ in_range r bs at (i + 1)
unfolding in_range
range_more r bs at i bad e = rw (add-one i, ← e) (sum_tested bad (field_at bs (at + 2 * i)) r.low r.high)

-- two tests of three parts, part by part
pub by_parts : (a b c d e f : Bool) → ((a && b && c) && (d && e && f)) ≡ ((a && d) && (b && e) && (c && f))
by_parts true true true d e f = refl
by_parts true true false d e f = sym (and-false (d && e))
by_parts true false c d e f = sym (ap (λ (t : Bool). t && (c && f)) (and-false d))
by_parts false b c d e f = refl

-- the samples are in the range where the sections are
pub within_by_sections : (r : Range) (bs : List ℕ) (w n : ℕ) → within_to r (sample_at bs w) n
    ≡ (in_range r bs 5 n && in_range r bs (7 + 2 * w) n && in_range r bs (9 + 4 * w) n)
unfolding within_to in_range
within_by_sections r bs w zero = refl
within_by_sections r bs w (suc n) = ap (λ (t : Bool). t && words_within r (sample_at bs w n)) (within_by_sections r bs w n)
    ∙ by_parts (in_range r bs 5 n) (in_range r bs (7 + 2 * w) n) (in_range r bs (9 + 4 * w) n) _ _ _

module _ (r : Range) (row : ℕ → Words) where
  -- each of the first n samples is in the range
  pub within_at : (n i : ℕ) → within_to r row n ≡ true → i < n → words_within r (row i) ≡ true
  unfolding within_to
  within_at zero i e h = absurd (not-suc-le-zero h)
  within_at (suc n) i e h =
      let both = each (within_to r row n) (words_within r (row n)) e in
      ⊎_elim
      (λ (l : i < n). within_at n i both.0 l)
      (λ (l : n ≤ i). let same : i ≡ n = omega arith in ap (λ (j : ℕ). words_within r (row j)) same ∙ both.1)
      (below_or_not i n)

  pub within_if : (n : ℕ) → ((i : ℕ) → i < n → words_within r (row i) ≡ true) → within_to r row n ≡ true
  unfolding within_to
  within_if zero h = refl
  within_if (suc n) h = rw (within_if n (λ i l. h i (omega arith)), h n (omega arith)) refl
