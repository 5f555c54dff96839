-- The refusals' numbers (document 01, 'What the caller hears').
-- Definitions only.
use Rattle.std.specs.Prelude.{ℕ, Result, Ok, Err}
use Rattle.exact.specs.Outcome.{Outcome, accepted, refused}
use Rattle.systems.specs.declared.refusal.Refusal.{Refusal}
use Rattle.systems.specs.declared.refusal.Refusal.TheVariants.{System, Width, Height, Lights, Output, Code, Signal, BlockEnd, Count, RowNumber, BytesAfter, AlreadyOpen, NotOpen, AllRows, RowsMissing, Length, Target, Timing, Turn, Unlike, NotReading}

abbrev pub refusal : Refusal → ℕ
refusal System = 1
refusal Width = 2
refusal Height = 3
refusal Lights = 4
refusal Output = 5
refusal Code = 6
refusal Signal = 7
refusal BlockEnd = 8
refusal Count = 9
refusal RowNumber = 10
refusal BytesAfter = 11
refusal AlreadyOpen = 21
refusal NotOpen = 22
refusal AllRows = 23
refusal RowsMissing = 24
refusal Length = 31
refusal Target = 32
refusal Timing = 33
refusal Turn = 34
refusal Unlike = 35
refusal NotReading = 36

-- what an answer says: its values, or its refusal's number
abbrev pub outcome : {A : Type 0} → Result A Refusal → Outcome A
outcome (Ok values) = accepted values
outcome (Err r) = refused (refusal r)
