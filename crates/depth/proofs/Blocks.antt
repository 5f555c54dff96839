-- A block of bytes that reading accepts is the block of its words.
-- Assumes nothing.
use Prim.Native.Nat.{ℕ, zero, suc, ◌+◌, ◌*◌, ◌/◌, ◌%◌, ◌≤◌, ◌<◌}
use mathlib.Core.Path.{◌≡◌, refl, sym, ap, ◌∙◌}
use mathlib.Core.List.{List, [], ◌∷◌, ◌++◌, append_assoc, append-nil}
use native.Mathlib.Omega.{arith}
use lib.Dec.{leb, eqb}
use lib.ListN.{length, get_or, take, drop, drop_of_length-le}
use lib.Seq.{drop-cons, drop-drop, take-add}
use borrow.Author.Tests.{eqb-true}
use Rattle.exact.specs.Outcome.{accepted}
use Rattle.exact.proofs.Outcome.{accepted_first, required}
use Rattle.systems.specs.Systems.{number, named}
use Rattle.systems.proofs.Scales.{only_its_number}
use Rattle.block.specs.declared.Judged.{Judged}
use Rattle.block.specs.Block.{field, fields, section, block, tabulate}
use Rattle.block.specs.Read.{field_at, section_at, width_ok, sections, walk, words_ok, judge, sample_at}
use Rattle.block.proofs.Stored.{length_tabulate, fields_append, gap_at, pair_at}
use Rattle.block.proofs.Walking.{passed, section_count, walk_accepted}
use Rattle.depth.proofs.Claims.{Bytes}

-- ---- what the walk found

-- the fields of a block of w samples but its words
record Headed (bs : List ℕ) (w : ℕ) : Type 0 where
  luma : field_at bs 3 ≡ w
  cb : field_at bs (5 + 2 * w) ≡ w
  cr : field_at bs (7 + 4 * w) ≡ w

-- a section whose count must be n
section_of : (bs : List ℕ) (i n w : ℕ) → section_at bs i (eqb n) ≡ accepted w → field_at bs i ≡ n
section_of bs i n w e = let count = section_count bs i w (eqb n) e in count.1 ∙ sym (eqb-true n w count.0)

sections_headed : (bs : List ℕ) (w : ℕ) → sections bs ≡ accepted w → Headed bs w
unfolding sections
sections_headed bs w e =
    let luma = accepted_first (section_at bs 3 width_ok) _ w e in
    let n = luma.0 in
    let cb = accepted_first (section_at bs (5 + 2 * n) (eqb n)) _ w luma.2 in
    let cr = accepted_first (section_at bs (7 + 4 * n) (eqb n)) _ w cb.2 in
    let ends = required (eqb (length bs) (9 + 6 * n)) 11 n w cr.2 in
    rw (← ends.1) record {
      luma = (section_count bs 3 n width_ok luma.1).1;
      cb = section_of bs (5 + 2 * n) n cb.0 cb.1;
      cr = section_of bs (7 + 4 * n) n cr.0 cr.1;
    }

-- the fields of a block but its words
record Walked (bs : List ℕ) (b : Judged) : Type 0 where
  size : length bs ≡ 9 + 6 * b.samples
  system : get_or bs 0 0 ≡ number b.system
  row : field_at bs 1 ≡ b.row
  counts : Headed bs b.samples

walked : (bs : List ℕ) (b : Judged) → walk bs ≡ accepted b → Walked bs b
unfolding walk
walked bs b e =
    let long = passed (leb 3 (length bs)) 8 _ b e in
    let system = accepted_first (named (get_or bs 0 0)) _ b long.1 in
    let row = passed (leb (field_at bs 1) 4319) 10 _ b system.2 in
    let counted = accepted_first (sections bs) _ b row.1 in
    let is : record { system = system.0; row = field_at bs 1; samples = counted.0 } ≡ b = let h = counted.2 in cc in
    let size = (walk_accepted bs b e).0.size in
    record {
      size = size;
      system = only_its_number (get_or bs 0 0) system.0 system.1 ∙ ap (λ (j : Judged). number j.system) is;
      row = ap (λ (j : Judged). j.row) is;
      counts = rw (← is) (sections_headed bs counted.0 counted.1);
    }

-- what was judged was walked
judged_walked : (bs : List ℕ) (b : Judged) → judge bs ≡ accepted b → walk bs ≡ accepted b
unfolding judge
judged_walked bs b e =
    let found = accepted_first (walk bs) _ b e in
    found.1 ∙ ap accepted (required (words_ok found.0 bs) 6 found.0 b found.2).1

-- ---- bytes cut into fields

-- two bytes are the field that they hold
field_of_bytes : (a b : ℕ) → a < 256 → b < 256 → a ∷ b ∷ [] ≡ field (a + 256 * b)
field_of_bytes a b h k =
    let low : a ≡ (a + 256 * b) % 256 = omega arith in
    let quotient : (a + 256 * b) / 256 ≡ b = omega arith in
    let small : b ≡ b % 256 = omega arith in
    let high : b ≡ (a + 256 * b) / 256 % 256 = small ∙ ap (λ (q : ℕ). q % 256) (sym quotient) in
    λ j. low j ∷ high j ∷ []

module _ (bs : List ℕ) (all : Bytes bs) where
  -- a field at a place
  field_cut : (n k : ℕ) → n + 2 ≡ k → k ≤ length bs → drop n bs ≡ field (field_at bs n) ++ drop k bs
  field_cut n k e h =
      let next : suc n ≡ n + 1 = omega arith in
      pair_at n k bs e h ∙ ap (λ (m : ℕ). get_or bs n 0 ∷ get_or bs m 0 ∷ drop k bs) next
      ∙ ap (λ (l : List ℕ). l ++ drop k bs) (field_of_bytes (get_or bs n 0) (get_or bs (n + 1) 0) (all n) (all (n + 1)))

  -- n words from a place on
  words_cut : (at n : ℕ) → at + 2 * n ≤ length bs → take (2 * n) (drop at bs) ≡ fields (tabulate (λ i. field_at bs (at + 2 * i)) n)
  unfolding tabulate fields
  words_cut at zero h = refl
  words_cut at (suc n) h =
      let f : ℕ → ℕ = λ i. field_at bs (at + 2 * i) in
      let longer : 2 * suc n ≡ 2 * n + 2 = omega arith in
      let last : take 2 (drop (2 * n) (drop at bs)) ≡ field (f n) =
      ap (take 2) (drop-drop (2 * n) at bs ∙ field_cut (at + 2 * n) (at + 2 * n + 2) refl (omega arith)) in
      ap (λ (k : ℕ). take k (drop at bs)) longer
      ∙ take-add (2 * n) 2 (drop at bs)
      ∙ (λ j. words_cut at n (omega arith) j ++ last j)
      ∙ sym (fields_append (tabulate f n) (f n ∷ []))

  -- a section whose count is w
  section_cut : (at k e w : ℕ) → at + 2 ≡ k → k + 2 * w ≡ e → e ≤ length bs → field_at bs at ≡ w
      → drop at bs ≡ section (tabulate (λ i. field_at bs (k + 2 * i)) w) ++ drop e bs
  unfolding section
  section_cut at k e w p q h count =
      let ws : List ℕ = tabulate (λ i. field_at bs (k + 2 * i)) w in
      let same : field_at bs at ≡ length ws = count ∙ sym (length_tabulate _ w) in
      field_cut at k p (omega arith)
      ∙ (λ j. field (same j) ++ (gap_at k (2 * w) e bs q ∙ ap (λ (l : List ℕ). l ++ drop e bs) (words_cut k w (omega arith))) j)
      ∙ sym (append_assoc (field (length ws)) (fields ws) (drop e bs))

  module _ (b : Judged) (e : judge bs ≡ accepted b) where
    abbrev row : ℕ → ℕ → List ℕ
    row at w = tabulate (λ i. field_at bs (at + 2 * i)) w

    pub is_block : bs ≡ block (number b.system) b.row (tabulate (λ i. (sample_at bs b.samples i).y) b.samples)
        (tabulate (λ i. (sample_at bs b.samples i).cb) b.samples) (tabulate (λ i. (sample_at bs b.samples i).cr) b.samples)
    unfolding block
    is_block =
        let w = b.samples in
        let f = walked bs b (judged_walked bs b e) in
        let size = f.size in
        let some : 0 < length bs = omega arith in
        let luma = section_cut 3 5 (5 + 2 * w) w refl refl (omega arith) f.counts.luma in
        let cb = section_cut (5 + 2 * w) (7 + 2 * w) (7 + 4 * w) w (omega arith) (omega arith) (omega arith) f.counts.cb in
        let cr = section_cut (7 + 4 * w) (9 + 4 * w) (9 + 6 * w) w (omega arith) (omega arith) (omega arith) f.counts.cr in
        let ends = drop_of_length-le bs {i = 9 + 6 * w} (omega arith) in
        drop-cons bs 0 0 some
        ∙ (λ j. f.system j ∷ (field_cut 1 3 refl (omega arith) ∙ (λ k. field (f.row k) ++ luma k)) j)
        ∙ ap (λ (l : List ℕ). number b.system ∷ field b.row ++ (section (row 5 w) ++ l))
        (cb ∙ ap (λ (l : List ℕ). section (row (7 + 2 * w) w) ++ l) (cr ∙ ap (λ (l : List ℕ). section (row (9 + 4 * w) w) ++ l) ends ∙ append-nil (section (row (9 + 4 * w) w))))
        ∙ sym (simp append_assoc)
