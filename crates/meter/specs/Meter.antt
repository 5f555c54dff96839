-- Clipping over the 64 latest rows read (request 2026-08). Definitions only.
use Rattle.std.specs.Prelude.{ℕ, ◌+◌, ◌%◌, min, Bool, ◌&&◌, ◌||◌, cond, List, ltb, eqb, sum, take, set, replicate}
use Rattle.exact.specs.Outcome.{Outcome, accepted, refused}
use Rattle.matrix.specs.declared.Clips.{Clips}
use Rattle.block.specs.declared.Header.{Header}
use Rattle.meter.specs.declared.Meter.{Meter}
use Rattle.meter.specs.declared.Figures.{Figures}

-- a meter that holds so many rows, whose counts stand at the front, and the place of the next row's counts
abbrev pub holding : List ℕ → List ℕ → ℕ → ℕ → Meter
holding lows highs place rows = record { lows = lows; highs = highs; low = sum (take rows lows); high = sum (take rows highs); place = place; rows = rows }

-- no row was read
abbrev pub empty : Meter
empty = holding (replicate 64 0) (replicate 64 0) 0 0

-- rows that were entered from place 0 on: the next one goes behind the last or, where there are 64, to any place
abbrev pub in_turn : ℕ → ℕ → Bool
in_turn place rows = ltb place 64 && (eqb rows place || eqb rows 64)

-- the parts of a meter agree with each other
unfoldable pub whole : Meter → Bool
whole m = in_turn m.place m.rows && eqb m.low (sum (take m.rows m.lows)) && eqb m.high (sum (take m.rows m.highs))

-- the meter that a caller kept; where its parts do not agree it holds no row
abbrev pub kept : Meter → Meter
kept m = cond (whole m) m (holding m.lows m.highs 0 0)

-- one row more, at its place; where there were 64 rows, the 65th latest stood there
abbrev pub entered : Meter → Clips → Meter
entered m k = holding (set m.lows m.place k.low) (set m.highs m.place k.high) ((m.place + 1) % 64) (min 64 (m.rows + 1))

-- the meter after a reading: an accepted one enters its row, a refused one nothing
abbrev pub metering : Meter → Outcome Header → Meter
metering m (accepted h) = entered (kept m) h.clips
metering m (refused n) = m

-- how many rows a meter holds, and the sums of their counts
abbrev pub shown : Meter → Figures
shown m = record { rows = m.rows; low = m.low; high = m.high }

abbrev pub figures : Meter → Figures
figures m = shown (kept m)
