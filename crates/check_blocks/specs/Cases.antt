-- The cases of the file that reference/make_blocks.py makes, and whether reading agrees with them. Definitions only.
use Rattle.std.specs.Prelude.{ℕ, ◌+◌, ◌*◌, ◌-◌, ◌/◌, ◌%◌, Bool, ◌&&◌, cond, List, map, eqb, ltb, length, take, drop}
use Rattle.std.specs.List.{range_with_len, enumerate_from, list_all}
use Rattle.block.specs.Read.{header_of, slice_after}
use Rattle.check_records.specs.declared.tally.Tally.{Tally}
use Rattle.check_records.specs.Records.{u16_at, none, tallied, Compared}
use Rattle.check_answers.specs.Answers.{due_at, agrees}
use Rattle.check_blocks.specs.declared.cases.Case.{Case}

-- what stands at a place of the lent slice before the call, and the slice of n such places
abbrev pub before : ℕ → ℕ
before i = 40000 + i % 25536

abbrev pub filled : ℕ → List ℕ
filled n = map before (range_with_len 0 n)

-- what has to stand there after it: the codes that are due, 2 bytes each, and beyond them what stood there before
abbrev pub due : List ℕ → ℕ → ℕ
due codes i = cond (ltb i (length codes / 2)) (u16_at codes (2 * i)) (before i)

-- each place of a slice holds what is due
abbrev pub are_due : List ℕ → List ℕ → Bool
are_due slice codes = list_all (λ x. eqb x.1 (due codes x.0)) (enumerate_from 0 slice)

-- the numbers of the case at a place
abbrev pub case_at : List ℕ → ℕ → Case
case_at bs i = record { places = u16_at bs i; answer = u16_at bs (i + 2); length = u16_at bs (i + 4); due = due_at bs (i + 6) }

-- the bytes of a case: the numbers, the block and the codes
abbrev pub size_of : Case → ℕ
size_of c = 16 + c.length + 6 * c.due.samples

-- reading the block into a slice of so many places gives the case's answer, and the codes at the slice's front alone
unfoldable pub answered : Case → List ℕ → List ℕ → ℕ → Bool
answered c block codes places = agrees (header_of block places) c.answer c.due && are_due (slice_after block (filled places)) codes

-- a case is met by the bytes behind its numbers: the block, and the codes that are due
abbrev pub met : Case → List ℕ → Bool
met c bs = answered c (take c.length bs) (drop c.length bs) c.places

-- the bytes of the case at a place
abbrev pub size_at : List ℕ → ℕ → ℕ
size_at bs at = size_of (case_at bs at)

-- the tally after a case and the bytes behind its numbers: it counts where the answer in question is due
abbrev pub case_tallied : Case → List ℕ → ℕ → Tally → Tally
case_tallied c bs answer t = cond (eqb c.answer answer) (tallied t (met c bs)) t

-- the tally after the case at a place
abbrev pub tallied_at : List ℕ → ℕ → ℕ → Tally → Tally
tallied_at bs answer at t = case_tallied (case_at bs at) (take (size_at bs at - 16) (drop (at + 16) bs)) answer t

-- the tally of all cases
abbrev pub CasesCompared : List ℕ → ℕ → Tally → Type 0
CasesCompared bs answer t = Compared (size_at bs) (tallied_at bs answer) none (λ u. u) (length bs) t
