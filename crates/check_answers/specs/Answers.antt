-- The numbers by which the data name an answer, and what reading an accepted block has to give. Definitions only.
use Rattle.std.specs.Prelude.{ℕ, ◌+◌, Bool, ◌&&◌, List, eqb}
use Rattle.exact.specs.Outcome.{Outcome, accepted, refused}
use Rattle.systems.specs.Systems.{number}
use Rattle.block.specs.declared.Header.{Header}
use Rattle.check_records.specs.Records.{u16_at}
use Rattle.check_answers.specs.declared.due.Due.{Due}

-- 0 for an accepted call, else the refusal
abbrev pub number_of : {A : Type 0} → Outcome A → ℕ
number_of (accepted a) = 0
number_of (refused n) = n

-- the numbers at a place, 2 bytes each
abbrev pub due_at : List ℕ → ℕ → Due
due_at bs i = record {
  system = u16_at bs i;
  row = u16_at bs (i + 2);
  samples = u16_at bs (i + 4);
  clips = record { low = u16_at bs (i + 6); high = u16_at bs (i + 8) };
}

-- what a header gives
abbrev pub seen : Header → Due
seen h = record { system = number h.system; row = h.row; samples = h.samples; clips = h.clips }

-- two of them are the same
abbrev pub same_due : Due → Due → Bool
same_due a b = eqb a.system b.system && eqb a.row b.row && eqb a.samples b.samples && eqb a.clips.low b.clips.low && eqb a.clips.high b.clips.high

-- an answer is the one that is due: this header where the number is 0, or this refusal
abbrev pub agrees : Outcome Header → ℕ → Due → Bool
agrees (accepted h) n due = eqb n 0 && same_due (seen h) due
agrees (refused m) n due = eqb m n
