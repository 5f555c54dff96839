-- The codes of a sample's lights are nominal.
-- Assumes nothing.
use mathlib.Core.Path.{◌≡◌}
use Prim.Native.Nat.{ℕ}
use Rattle.systems.specs.declared.Codes.{Codes}
use Rattle.systems.specs.declared.System.{System}
use Rattle.systems.specs.Systems.{scale}
use Rattle.curve.specs.Curve.{code}
use Rattle.curve.proofs.Lights.{code_low, code_high}
use Rattle.matrix.specs.Inner.{NominalCodes}

-- the codes of three lights are nominal
pub lights_nominal : (y : System) (j k l : ℕ) {c : Codes} → c ≡ record { r = code y j; g = code y k; b = code y l } → NominalCodes (scale y) c
lights_nominal y j k l e =
    rw e record { r_low = code_low y j; r_high = code_high y j; g_low = code_low y k; g_high = code_high y k; b_low = code_low y l; b_high = code_high y l }
