-- Inner definition: what the name of a depth stands for. Nothing here has to be believed.
-- Definitions only.
use Rattle.std.specs.Prelude.{ℕ}
use Rattle.systems.specs.declared.Depth.{Depth}
use Rattle.systems.specs.declared.Depth.TheVariants.{Bits8, Bits10, Bits12}

-- the bits of a depth
abbrev pub bits_of : Depth → ℕ
bits_of Bits8 = 8
bits_of Bits10 = 10
bits_of Bits12 = 12
