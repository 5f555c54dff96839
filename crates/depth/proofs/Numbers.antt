-- What reading refuses a block for has a number below 12, so 33 is no other call's.
-- Assumes nothing.
use Prim.Native.Nat.{ℕ, ◌+◌, ◌*◌, ◌<◌}
use mathlib.Core.Bool.{Bool, true, false}
use mathlib.Core.List.{List, [], ◌∷◌}
use native.Mathlib.Omega.{arith}
use lib.Dec.{leb, eqb}
use lib.ListN.{length, get_or}
use Rattle.exact.specs.Outcome.{Outcome, accepted, refused, ◌and_then◌, require}
use Rattle.systems.specs.declared.System.{System}
use Rattle.systems.specs.declared.System.TheVariants.{Bt709Bits8, Bt709Bits10, Bt2020Bits10, Bt2020Bits12}
use Rattle.systems.specs.Systems.{number, named_in}
use Rattle.block.specs.Read.{field_at, section_at, width_ok, sections, walk, words_ok, judge}

pub data Below {A : Type 0} : Outcome A → Type 0 where
  values : (a : A) → Below (accepted a)
  refusing : (n : ℕ) → n < 12 → Below (refused n)

tested : {A : Type 0} {o : Outcome A} (t : Bool) (n : ℕ) → n < 12 → Below o → Below (require t n o)
tested true n h o = o
tested false n h o = refusing n h

followed : {A B : Type 0} {o : Outcome A} {f : A → Outcome B} → Below o → ((a : A) → Below (f a)) → Below (o and_then f)
followed (values a) g = g a
followed (refusing n h) g = refusing n h

named_in_below : (ys : List System) (n : ℕ) → Below (named_in ys n)
named_in_below [] n = refusing 1 (omega arith)
named_in_below (y ∷ ys) n = found (eqb n (number y)) (named_in_below ys n)
  where
    found : (t : Bool) → Below (named_in ys n) → Below {A = System} (elim t [ true ↦ accepted y | false ↦ named_in ys n ])
    found true k = values y
    found false k = k

section_below : (bs : List ℕ) (i : ℕ) (good : ℕ → Bool) → Below (section_at bs i good)
section_below bs i good =
    tested (leb (i + 2) (length bs)) 8 (omega arith)
    (tested (good (field_at bs i)) 9 (omega arith)
    (tested (leb (i + 2 + 2 * field_at bs i) (length bs)) 8 (omega arith) (values _)))

sections_below : (bs : List ℕ) → Below (sections bs)
unfolding sections
sections_below bs =
    followed (section_below bs 3 width_ok) (λ w.
    followed (section_below bs (5 + 2 * w) (eqb w)) (λ _.
    followed (section_below bs (7 + 4 * w) (eqb w)) (λ _.
    tested (eqb (length bs) (9 + 6 * w)) 11 (omega arith) (values w))))

walk_below : (bs : List ℕ) → Below (walk bs)
unfolding walk
walk_below bs =
    tested (leb 3 (length bs)) 8 (omega arith)
    (followed (named_in_below (Bt709Bits8 ∷ Bt709Bits10 ∷ Bt2020Bits10 ∷ Bt2020Bits12 ∷ []) (get_or bs 0 0)) (λ y.
    tested (leb (field_at bs 1) 4319) 10 (omega arith)
    (followed (sections_below bs) (λ w. values _))))

pub judge_below : (bs : List ℕ) → Below (judge bs)
unfolding judge
judge_below bs = followed (walk_below bs) (λ b. tested (words_ok b bs) 6 (omega arith) (values b))
