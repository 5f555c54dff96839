-- Inner definitions: what inner functions ask of each other. Nothing here has to be believed.
-- Definitions only.
use Rattle.std.specs.Prelude.{◌^◌, ◌<◌}
use Rattle.constant_luminance.specs.declared.Divisors.{Divisors}

-- divisors that no product of codes overflows with
pub record Sized (v : Divisors) : Type 0 where
  pub low_some : 0 < v.low
  pub low_small : v.low < 2 ^ 16
  pub high_some : 0 < v.high
  pub high_small : v.high < 2 ^ 16
