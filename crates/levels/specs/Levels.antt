-- Codes as levels in millivolts (request 2026-05).
-- Definitions only.
use Rattle.std.specs.Prelude.{ℕ, ◌*◌, pos, nat_abs, ◌-ℤ◌, ◌*ℤ◌}
use Rattle.std.specs.Int.Signed.{shr_z}
use Rattle.exact.specs.Signed.{Ratio}
use Rattle.exact.specs.Outcome.{Outcome, accepted, ◌and_then◌, require}
use Rattle.systems.specs.declared.System.{System}
use Rattle.systems.specs.Systems.{scale, video_data, within, named}
use Rattle.levels.specs.declared.Gauge.{Gauge}
use Rattle.levels.specs.declared.Level.{Level}

-- A gauge has the code of 0 mV and the codes to 700 mV, at 8 bits: of R', G', B' and Y', and of Cb and Cr
abbrev pub code_gauge : Gauge
code_gauge = record { zero = 16; steps = 219 }

abbrev pub difference_gauge : Gauge
difference_gauge = record { zero = 128; steps = 224 }

-- the level of code d at the scale s, exactly: 700·(d - zero·s)/(steps·s)
abbrev pub level_ratio : Gauge → ℕ → ℕ → Ratio
level_ratio g s d = record { top = pos 700 *ℤ (pos d -ℤ pos (g.zero * s)); bottom = g.steps * s }

-- a ratio in whole millivolts, rounded down also below 0, and what its top is above them, over its bottom
unfoldable pub divided : Ratio → Level
divided q =
    let whole = shr_z q.top q.bottom in
    record { millivolts = whole; remainder = nat_abs (q.top -ℤ whole *ℤ pos q.bottom) }

-- the level of code d in the system that n names, or refusal 1 or 6
abbrev pub level_by : Gauge → ℕ → ℕ → Outcome Level
level_by g n d = named n and_then λ (y : System). require (within (video_data y) d) 6 (accepted (divided (level_ratio g (scale y) d)))

-- of an R', G', B' or Y' code, and of a Cb or Cr word
abbrev pub level_of_code : ℕ → ℕ → Outcome Level
level_of_code = level_by code_gauge

abbrev pub level_of_difference : ℕ → ℕ → Outcome Level
level_of_difference = level_by difference_gauge
