-- The walk of a block: a count that must be one number, and what an accepted block shows of its bytes.
-- Assumes nothing.
use mathlib.Core.Path.{◌≡◌, refl, sym, ap, ◌∙◌}
use mathlib.Core.Bool.{Bool, true, false}
use mathlib.Core.List.{List}
use Prim.Native.Nat.{ℕ, ◌+◌, ◌*◌, ◌≤◌}
use native.Mathlib.Omega.{arith}
use lib.Dec.{leb, eqb}
use lib.ListN.{length, get_or}
use borrow.Author.Tests.{leb-true, eqb-true}
use Rattle.exact.specs.Outcome.{Outcome, accepted, require}
use Rattle.std.proofs.lemmas.Bool.Decides.{nat_tests}
use Rattle.exact.proofs.Outcome.{accepted_first, required}
use Rattle.systems.specs.declared.Range.{Range}
use Rattle.systems.specs.Systems.{named, within}
use Rattle.block.specs.declared.Judged.{Judged}
use Rattle.block.specs.Read.{field_at, section_at, width_ok, sections, walk}
use Rattle.block.proofs.Ranges.{each}
use Rattle.std.specs.Prelude.{Result}
use Rattle.systems.specs.declared.refusal.Refusal.{Refusal}
use Rattle.systems.specs.Refusals.{outcome}

-- the range of one count
abbrev pub only : ℕ → Range
only w = record { low = w; high = w }

one_count : (w n : ℕ) → within (only w) n ≡ eqb w n
one_count w n = grind (arith, nat_tests)

section_of_one_count : (bs : List ℕ) (i w : ℕ) → section_at bs i (within (only w)) ≡ section_at bs i (eqb w)
section_of_one_count bs i w = rw (one_count w (field_at bs i))

-- what the section of a count that is known says
pub section_said : (bs : List ℕ) (i w : ℕ) (r : Result ℕ Refusal) → outcome r ≡ section_at bs i (within (only w)) → section_at bs i (eqb w) ≡ outcome r
section_said bs i w r e = sym (e ∙ section_of_one_count bs i w)

-- an outcome that was required and is accepted
pub passed : {A : Type 0} (t : Bool) (n : ℕ) (o : Outcome A) (a : A) → require t n o ≡ accepted a → (t ≡ true) × (o ≡ accepted a)
passed true n o a e = (refl, e)
passed false n o a e = absurd (let z : ◌≡◌ {A = ℕ} 0 1 = cc in omega arith)

-- the bytes of three sections of w words
pub record Sectioned (bs : List ℕ) (w : ℕ) : Type 0 where
  pub size : length bs ≡ 9 + 6 * w
  pub some : 1 ≤ w
  pub most : w ≤ 7680

-- the count of an accepted section
pub section_count : (bs : List ℕ) (i w : ℕ) (good : ℕ → Bool) → section_at bs i good ≡ accepted w → (good w ≡ true) × (field_at bs i ≡ w)
section_count bs i w good e =
    let counted = passed (leb (i + 2) (length bs)) 8 _ w e in
    let tested = passed (good (field_at bs i)) 9 _ w counted.1 in
    let ends = passed (leb (i + 2 + 2 * field_at bs i) (length bs)) 8 _ w tested.1 in
    let same : field_at bs i ≡ w = let h = ends.1 in cc in
    (ap good (sym same) ∙ tested.0, same)

sections_accepted : (bs : List ℕ) (w : ℕ) → sections bs ≡ accepted w → Sectioned bs w
unfolding sections
sections_accepted bs w e =
    let luma = accepted_first (section_at bs 3 width_ok) _ w e in
    let n = luma.0 in
    let cb = accepted_first (section_at bs (5 + 2 * n) (eqb n)) _ w luma.2 in
    let cr = accepted_first (section_at bs (7 + 4 * n) (eqb n)) _ w cb.2 in
    let ends = required (eqb (length bs) (9 + 6 * n)) 11 n w cr.2 in
    let ok = (section_count bs 3 n width_ok luma.1).0 in
    let t = each (leb 1 n) (leb n 7680) ok in
    record {
      size = omega (arith, eqb-true (length bs) (9 + 6 * n) ends.0, ends.1);
      some = omega (arith, leb-true 1 n t.0, ends.1);
      most = omega (arith, leb-true n 7680 t.1, ends.1);
    }

pub walk_accepted : (bs : List ℕ) (b : Judged) → walk bs ≡ accepted b → Sectioned bs b.samples × (b.row ≤ 4319)
unfolding walk
walk_accepted bs b e =
    let long = passed (leb 3 (length bs)) 8 _ b e in
    let system = accepted_first (named (get_or bs 0 0)) _ b long.1 in
    let row = passed (leb (field_at bs 1) 4319) 10 _ b system.2 in
    let counted = accepted_first (sections bs) _ b row.1 in
    let is : record { system = system.0; row = field_at bs 1; samples = counted.0 } ≡ b = let h = counted.2 in cc in
    rw (← is) (sections_accepted bs counted.0 counted.1, leb-true (field_at bs 1) 4319 row.0)
