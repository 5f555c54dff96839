-- The cases of the files that reference/make_depths.py makes, and whether changing a block's depth agrees with them.
-- Definitions only.
use Rattle.std.specs.Prelude.{ℕ, ◌+◌, ◌-◌, ◌%◌, Bool, false, ◌&&◌, cond, List, map, eqb, leb, length, take, drop}
use Rattle.std.specs.List.{range_with_len}
use Rattle.depth.specs.Depth.{changing, over, buffer_after, heard}
use Rattle.check_records.specs.declared.tally.Tally.{Tally}
use Rattle.check_records.specs.Records.{u16_at, u32_at, begin_alike, none, tallied, Compared}
use Rattle.check_answers.specs.Answers.{number_of}
use Rattle.check_depths.specs.declared.cases.Case.{Case}

-- what stands at a place of the lent buffer before the call, and the buffer of n such places
abbrev pub before : ℕ → ℕ
before i = 100 + i % 151

abbrev pub filled : ℕ → List ℕ
filled n = map before (range_with_len 0 n)

-- the numbers of the case at a place
abbrev pub case_at : List ℕ → ℕ → Case
case_at bs i = record {
  target = u32_at bs i;
  room = u16_at bs (i + 4);
  answer = u16_at bs (i + 6);
  length = u16_at bs (i + 8);
  due = u16_at bs (i + 10);
}

-- the bytes of a case: the numbers, the block and the new block
abbrev pub size_of : Case → ℕ
size_of c = 12 + c.length + c.due

-- changing the block into a buffer of so many bytes gives the case's answer, and the new block, which fits, at the buffer's front alone
unfoldable pub answered : Case → List ℕ → List ℕ → ℕ → Bool
answered c block new room =
    cond (leb (length new) room)
    (eqb (number_of (heard (changing c.target block room))) c.answer && begin_alike (buffer_after c.target block (filled room)) (over new (filled room)) room)
    false

-- a case is met by the bytes behind its numbers: the block, and the new block that is due
abbrev pub met : Case → List ℕ → Bool
met c bs = answered c (take c.length bs) (drop c.length bs) c.room

-- the bytes of the case at a place
abbrev pub size_at : List ℕ → ℕ → ℕ
size_at bs at = size_of (case_at bs at)

-- the tally after a case and the bytes behind its numbers: it counts where the answer in question is due
abbrev pub case_tallied : Case → List ℕ → ℕ → Tally → Tally
case_tallied c bs answer t = cond (eqb c.answer answer) (tallied t (met c bs)) t

-- the tally after the case at a place
abbrev pub tallied_at : List ℕ → ℕ → ℕ → Tally → Tally
tallied_at bs answer at t = case_tallied (case_at bs at) (take (size_at bs at - 12) (drop (at + 12) bs)) answer t

-- the tally of all cases
abbrev pub CasesCompared : List ℕ → ℕ → Tally → Type 0
CasesCompared bs answer t = Compared (size_at bs) (tallied_at bs answer) none (λ u. u) (length bs) t
