-- The records of the file of totals that reference/make_pictures.py makes, and whether the call agrees with them.
-- Definitions only.
use Rattle.std.specs.Prelude.{ℕ, ◌+◌, ◌*◌, Bool, false, List, eqb, Result, Ok, Err}
use Rattle.exact.specs.Outcome.{Outcome, accepted, refused}
use Rattle.picture.specs.Picture.{total_bytes}
use Rattle.check_records.specs.Records.{due, u16_at, u32_at}
use Rattle.check_pictures.specs.declared.total.Case.{Case}

-- the record of 14 bytes at a place
abbrev pub total_case : List ℕ → ℕ → Case
total_case bs i = record { width = u32_at bs (i + 2); height = u32_at bs (i + 6); due = due (u16_at bs i) (u32_at bs (i + 10)) }

-- the call's answer is the one that is due
abbrev pub total_agrees : Outcome ℕ → Result ℕ ℕ → Bool
total_agrees (accepted b) (Ok c) = eqb b c
total_agrees (accepted b) (Err n) = false
total_agrees (refused m) (Ok c) = false
total_agrees (refused m) (Err n) = eqb m n

abbrev pub total_met : Case → Bool
total_met c = total_agrees (total_bytes c.width c.height) c.due

-- whether record i is met
abbrev pub total_at : List ℕ → ℕ → Bool
total_at bs i = total_met (total_case bs (14 * i))
