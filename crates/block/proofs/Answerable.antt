-- Every outcome of reading a block has an answer that says it, so the claims about readings speak of every block.
-- Assumes nothing.
use Prim.Native.Nat.{ℕ, ◌+◌, ◌*◌}
use mathlib.Core.Path.{◌≡◌}
use mathlib.Core.Bool.{Bool}
use mathlib.Core.List.{List}
use lib.Dec.{leb, eqb}
use lib.ListN.{length, get_or}
use Rattle.systems.specs.declared.refusal.Refusal.TheVariants as refusal
use Rattle.systems.proofs.Answerable.{Answerable, values, answer_for, tested, followed, named_answerable}
use Rattle.block.specs.declared.Header.{Header}
use Rattle.block.specs.Read.{field_at, section_at, width_ok, sections, walk, words_ok, judge, header_of}
use Rattle.std.specs.Prelude.{Result}
use Rattle.systems.specs.declared.refusal.Refusal.{Refusal}
use Rattle.systems.specs.Refusals.{outcome}

section_answerable : (bs : List ℕ) (i : ℕ) (good : ℕ → Bool) → Answerable (section_at bs i good)
section_answerable bs i good =
    tested (leb (i + 2) (length bs)) refusal.BlockEnd
    (tested (good (field_at bs i)) refusal.Count
    (tested (leb (i + 2 + 2 * field_at bs i) (length bs)) refusal.BlockEnd (values _)))

sections_answerable : (bs : List ℕ) → Answerable (sections bs)
unfolding sections
sections_answerable bs =
    followed (section_answerable bs 3 width_ok) (λ w.
    followed (section_answerable bs (5 + 2 * w) (eqb w)) (λ _.
    followed (section_answerable bs (7 + 4 * w) (eqb w)) (λ _.
    tested (eqb (length bs) (9 + 6 * w)) refusal.BytesAfter (values w))))

walk_answerable : (bs : List ℕ) → Answerable (walk bs)
unfolding walk
walk_answerable bs =
    tested (leb 3 (length bs)) refusal.BlockEnd
    (followed (named_answerable (get_or bs 0 0)) (λ y.
    tested (leb (field_at bs 1) 4319) refusal.RowNumber
    (followed (sections_answerable bs) (λ w. values _))))

pub judge_answerable : (bs : List ℕ) → Answerable (judge bs)
unfolding judge
judge_answerable bs = followed (walk_answerable bs) (λ b. tested (words_ok b bs) refusal.Code (values b))

pub reading_answerable : (bs : List ℕ) (room : ℕ) → Answerable (header_of bs room)
unfolding header_of
reading_answerable bs room = followed (judge_answerable bs) (λ b. tested (leb (3 * b.samples) room) refusal.Output (values _))

-- an answer that says what reading comes to
pub read_for : (bs : List ℕ) (room : ℕ) → (r : Result Header Refusal) × (outcome r ≡ header_of bs room)
read_for bs room = answer_for (reading_answerable bs room)
