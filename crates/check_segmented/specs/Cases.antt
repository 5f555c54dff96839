-- The files that reference/make_segments.py makes, and whether moving rows agrees with them (request 2026-01).
-- Definitions only.
use Rattle.std.specs.Prelude.{ℕ, ◌+◌, ◌*◌, ◌/◌, Bool, true, false, ◌&&◌, cond, List, eqb, leb, length, take, drop, replicate, Result, Ok, Err}
use Rattle.exact.specs.Outcome.{Outcome, accepted, refused}
use Rattle.segmented.specs.declared.Order.{Order}
use Rattle.segmented.specs.declared.Order.TheVariants.{Segmented, Progressive}
use Rattle.segmented.specs.Segmented.{move_outcome, buffer_after}
use Rattle.check_records.specs.declared.tally.Tally.{Tally}
use Rattle.check_records.specs.Records.{due, u32_at, begin_alike, none, tallied}
use Rattle.check_segmented.specs.declared.lengths.Case.{Case}

-- the answer is the one that is due
abbrev pub agrees : Outcome (Unit {0}) → Result (Unit {0}) ℕ → Bool
agrees (accepted u) (Ok v) = true
agrees (accepted u) (Err n) = false
agrees (refused m) (Ok v) = false
agrees (refused m) (Err n) = eqb m n

-- rows moved into a buffer give the answer that is due, and leave the bytes that are due
unfoldable pub moves : Order → Result (Unit {0}) ℕ → List ℕ → List ℕ → List ℕ → Bool
moves o answer from due lent = agrees (move_outcome (length from) (length lent)) answer && begin_alike (buffer_after o from lent) due (length lent)

-- the same of a buffer of so many bytes, at most 5 a row, that was filled with 171
unfoldable pub moved : Order → Result (Unit {0}) ℕ → List ℕ → List ℕ → ℕ → Bool
moved o answer from due to = cond (leb to 5400) (moves o answer from due (take to (replicate 5400 171))) false

-- lengths: the record of 12 bytes at a place
abbrev pub case_at : List ℕ → ℕ → Case
case_at bs i = record { from = u32_at bs i; to = u32_at bs (i + 4); due = due (u32_at bs (i + 8)) tt }

-- the bytes that are due of a buffer into which rows of zeros are moved, or not
abbrev pub due_byte : Result (Unit {0}) ℕ → ℕ
due_byte (Ok v) = 0
due_byte (Err n) = 171

unfoldable pub lengths_met : Order → Case → Bool
lengths_met o c = cond (leb c.from 5400) (moved o c.due (take c.from (replicate 5400 0)) (replicate 5400 (due_byte c.due)) c.to) false

abbrev pub lengths_at : Order → List ℕ → ℕ → Bool
lengths_at o bs i = lengths_met o (case_at bs (12 * i))

-- rows: the first half of a file is in progressive order, the second has the same rows in segmented order
abbrev pub rows_compared : List ℕ → Tally
rows_compared bs =
    let half = length bs / 2 in
    tallied (tallied none (moved Segmented (Ok tt) (take half bs) (drop half bs) half)) (moved Progressive (Ok tt) (drop half bs) (take half bs) half)
