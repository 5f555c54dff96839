-- Luminance to code (request 2026-11): the curve of 'Light to code' at the scale of luminance. Definitions only.
use Rattle.std.specs.Prelude.{ℕ, ◌*◌}
use Rattle.systems.specs.declared.System.{System}
use Rattle.systems.specs.Systems.{scale, transfer}
use Rattle.curve.specs.Curve.{full_light, code_of}

-- the greatest luminance: a weighted sum of lights has weights in ten-thousandths
abbrev pub full_luminance : ℕ
full_luminance = 10000 * full_light

-- a luminance's code in a system, quantised once from the exact sum
unfoldable pub luminance_code : System → ℕ → ℕ
luminance_code y k = code_of full_luminance (scale y) (transfer y).alpha (transfer y).beta k
