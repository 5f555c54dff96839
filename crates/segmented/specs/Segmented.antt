-- Segmented-frame order (request 2026-01): the 1080 rows of a progressive picture in rising total line, and back.
-- Definitions only.
use Rattle.std.specs.Prelude.{ℕ, zero, suc, ◌+◌, ◌*◌, ◌-◌, ◌/◌, ◌%◌, Bool, cond, not, ◌&&◌, List, [], ◌++◌, eqb, ltb, length, take, drop}
use Rattle.exact.specs.Outcome.{Outcome, accepted, require}
use Rattle.segmented.specs.declared.Order.{Order}
use Rattle.segmented.specs.declared.Order.TheVariants as order

-- the total line of active line a, 1 to 1080 (BT.709-5, Part 2, rules above Figure 11: odd active lines, 1 to 1079, are on total lines 21 to 560 of the segmented frame interface, even ones, 2 to 1080, on 584 to 1123)
abbrev pub total_line : ℕ → ℕ
total_line a = cond (eqb (a % 2) 1) (21 + (a - 1) / 2) (584 + (a - 2) / 2)

-- the row at a place of the segmented order, both counted from 0: row r is active line r + 1. That total lines rise along it is shown in proofs/Lines.antt
abbrev pub row_at : ℕ → ℕ
row_at p = cond (ltb p 540) (2 * p) (2 * (p - 540) + 1)

-- the place of a row in it
abbrev pub place_of : ℕ → ℕ
place_of r = cond (eqb (r % 2) 0) (r / 2) (540 + r / 2)

-- the row of the first buffer that comes to place k of the second
abbrev pub source : Order → ℕ → ℕ
source order.Segmented k = row_at k
source order.Progressive k = place_of k

-- row r of rows of n bytes
abbrev pub byte_row : ℕ → List ℕ → ℕ → List ℕ
byte_row n bs r = take n (drop (n * r) bs)

-- the first k rows of the second buffer, each from the row that is named
unfoldable pub rows_by : (ℕ → ℕ) → ℕ → List ℕ → ℕ → List ℕ
rows_by from n bs zero = []
rows_by from n bs (suc k) = rows_by from n bs k ++ byte_row n bs (from k)

-- a buffer of 1080 equally long rows in another order
abbrev pub reordered : Order → List ℕ → List ℕ
reordered o bs = rows_by (source o) (length bs / 1080) bs 1080

-- the lengths are alike, not 0, and a multiple of 1080
abbrev pub can_move : ℕ → ℕ → Bool
can_move from to = not (eqb from 0) && eqb (from % 1080) 0 && eqb from to

-- what a call comes to: 31, or nothing more to say
abbrev pub move_outcome : ℕ → ℕ → Outcome (Unit {0})
move_outcome from to = require (can_move from to) 31 (accepted tt)

-- the second buffer after a call
abbrev pub buffer_after : Order → List ℕ → List ℕ → List ℕ
buffer_after o bs out = cond (can_move (length bs) (length out)) (reordered o bs) out
