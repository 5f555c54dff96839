-- The bytes of a picture's blocks fit 32 bits.
-- Assumes nothing.
use Prim.Native.Nat.{ℕ, ◌*◌, ◌≤◌}
use mathlib.Core.Path.{◌≡◌, refl}
use native.Mathlib.Omega.{arith}
use Rattle.std.proofs.lemmas.Bool.Decides.{nat_tests}
use Rattle.std.proofs.lemmas.Nat.{mul-le}
use Rattle.exact.specs.Outcome.{Outcome, accepted, refused}
use Rattle.block.specs.Block.{size}
use Rattle.picture.specs.declared.Size.{Size}
use Rattle.picture.specs.Picture.{sized, total_bytes}

-- so many rows of such a width take no more bytes than a picture of the greatest size
pub total_most : (rows width : ℕ) → rows ≤ 4320 → width ≤ 7680 → rows * size width ≤ 199104480
total_most rows width r w = mul-le rows (size width) 4320 46089 r (omega arith)

-- a size is in its ranges
abbrev pub Bounded : Outcome Size → Type 0
Bounded (accepted s) = (s.width ≤ 7680) × (s.height ≤ 4320)
Bounded (refused n) = Unit {0}

pub sized_bounded : (w h : ℕ) → Bounded (sized w h)
unfolding sized
sized_bounded w h = grind (arith, nat_tests)

-- every total is at most the greatest one
pub total_fits : (w h b : ℕ) → total_bytes w h ≡ accepted b → b ≤ 199104480
unfolding sized
total_fits w h b e = grind (arith, nat_tests, total_most)

pub greatest_total : total_bytes 7680 4320 ≡ accepted 199104480
unfolding sized
greatest_total = refl
