-- The records of the files that reference/make_levels.py makes, and whether the conversion agrees with them.
-- Definitions only.
use Rattle.std.specs.Prelude.{ℕ, ◌+◌, ◌*◌, ◌≡◌, Bool, false, ◌&&◌, List, ◌==◌, pos, ◌-ℤ◌, Result, Ok, Err}
use Rattle.std.specs.Ordering.{int_eq}
use Rattle.exact.specs.Outcome.{Outcome, accepted, refused}
use Rattle.systems.specs.declared.refusal.Refusal.{Refusal}
use Rattle.systems.specs.Refusals.{outcome}
use Rattle.levels.specs.declared.Level.{Level}
use Rattle.check_records.specs.Records.{due, u16_at, u32_at}
use Rattle.check_levels.specs.declared.case.Case.{Case}

-- a call's answers are these levels
abbrev pub Gives : (ℕ → ℕ → Result Level Refusal → Type 0) → (ℕ → ℕ → Outcome Level) → Type 0
Gives Answers level = (system code : ℕ) (answer : Result Level Refusal) → Answers system code answer → outcome answer ≡ level system code

-- the level from a place on, which has 1000 more than the millivolts, or the number of the refusal where that is not 0
abbrev pub level_due : List ℕ → ℕ → Result Level ℕ
level_due bs i = due (u16_at bs i) (record { millivolts = pos (u16_at bs (i + 2)) -ℤ pos 1000; remainder = u16_at bs (i + 4) })

-- the record of 12 bytes at a place
abbrev pub level_case : List ℕ → ℕ → Case
level_case bs i = record { system = u32_at bs i; code = u16_at bs (i + 4); due = level_due bs (i + 6) }

-- the answer is the one that is due
abbrev pub agrees : Outcome Level → Result Level ℕ → Bool
agrees (accepted l) (Ok d) = int_eq l.millivolts d.millivolts && (l.remainder == d.remainder)
agrees (accepted l) (Err n) = false
agrees (refused k) (Ok d) = false
agrees (refused k) (Err n) = k == n

-- whether record i is met by a call
abbrev pub level_at : (ℕ → ℕ → Outcome Level) → List ℕ → ℕ → Bool
level_at level bs i = let c = level_case bs (12 * i) in agrees (level c.system c.code) c.due
