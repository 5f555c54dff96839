-- What is claimed of a call that gives levels (request 2026-05).
-- Definitions only.
use Prim.Native.Nat.{ℕ, ◌<◌}
use mathlib.Core.Path.{◌≡◌}
use mathlib.Core.Bool.{true, false}
use mathlib.Core.Logic.{◌↔◌}
use lib.IntN.{pos, ◌+ℤ◌, ◌*ℤ◌}
use lib.Signed.{◌≤ℤ◌}
use Rattle.exact.specs.Signed.{Ratio}
use Rattle.exact.specs.Outcome.{Outcome, accepted, refused}
use Rattle.systems.specs.declared.System.{System}
use Rattle.systems.specs.Systems.{number, scale, video_data, within, named}
use Rattle.levels.specs.declared.Gauge.{Gauge}
use Rattle.levels.specs.declared.Level.{Level}
use Rattle.levels.specs.Levels.{level_ratio}

-- top = mV·bottom + remainder, with a remainder from 0 to bottom - 1
pub record Solves (q : Ratio) (l : Level) : Type 0 where
  pub sum : q.top ≡ l.millivolts *ℤ pos q.bottom +ℤ pos l.remainder
  pub left : l.remainder < q.bottom

-- the millivolts do not fall, and where they stay the remainder rises
pub record Rises (l m : Level) : Type 0 where
  pub whole : l.millivolts ≤ℤ m.millivolts
  pub rest : l.millivolts ≡ m.millivolts → l.remainder < m.remainder

pub record Claimed (g : Gauge) (call : ℕ → ℕ → Outcome Level) : Type 0 where
  -- of video data it gives the one level that solves the equation
  pub exactly : (y : System) (d : ℕ) → within (video_data y) d ≡ true → (l : Level) → (call (number y) d ≡ accepted l) ↔ Solves (level_ratio g (scale y) d) l
  -- levels rise with codes
  pub rises : (y : System) (c d : ℕ) (l m : Level) → c < d → call (number y) c ≡ accepted l → call (number y) d ≡ accepted m → Rises l m
  -- other codes are refused with 6, and with 1 where no system is named
  pub outside : (y : System) (d : ℕ) → within (video_data y) d ≡ false → call (number y) d ≡ refused 6
  pub unnamed : (n d : ℕ) → named n ≡ refused 1 → call n d ≡ refused 1
