-- Inner definitions: what the lookup needs of a table of boundary luminances and of an index into it. Nothing here has to be believed.
-- Definitions only.
use Rattle.std.specs.Prelude.{List, ℕ, ◌*◌, ◌≤◌, ◌<◌}
use Rattle.systems.specs.declared.System.{System}
use Rattle.systems.specs.Systems.{scale}
use Rattle.curve.specs.Inner.{Quantiser, Ready}
use Rattle.luminance.specs.Luminance.{full_luminance, luminance_code}

-- the quantiser of a system's luminances
abbrev pub quantiser_of : System → Quantiser
quantiser_of y = record { full = full_luminance; first = 16 * scale y; above = 219 * scale y; code = luminance_code y }

-- a table and its index by buckets of w luminances, ready for the lookup of the luminance k
pub record ReadyFor (y : System) (w k : ℕ) (t x : List ℕ) : Type 0 where
  pub some : 0 < w
  pub luminance : k ≤ full_luminance
  pub tables : Ready (quantiser_of y) w t x
