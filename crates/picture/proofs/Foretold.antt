-- Where the book accepts a close, a picture has the bytes that were foretold.
-- Assumes nothing.
use Prim.Native.Nat.{ℕ, ◌*◌}
use mathlib.Core.Path.{◌≡◌}
use native.Mathlib.Omega.{arith}
use Rattle.std.proofs.lemmas.Bool.Decides.{nat_tests}
use Rattle.exact.specs.Outcome as outcome
use Rattle.block.specs.Block.{size}
use Rattle.picture.specs.declared.Opened.{Opened}
use Rattle.picture.specs.declared.Phase.{Phase}
use Rattle.picture.specs.declared.Phase.TheVariants.{Fresh, Open, Closed}
use Rattle.picture.specs.Picture.{sized, total_bytes}
use Rattle.picture.specs.Book.{closes, accepted, sheet, answers}
use Rattle.picture.proofs.Claims.{state_of, Sized, ProperAt}

total_of_sized : (o : Opened) (b : ℕ) → Sized o b → total_bytes o.width o.height ≡ outcome.accepted (o.height * size o.width)
unfolding sized
total_of_sized o b g = grind (arith, nat_tests)

pub close_foretold : (f : Phase) (b : ℕ) → ProperAt f b → answers (state_of f) closes ≡ accepted
    → total_bytes (sheet (state_of f)).width (sheet (state_of f)).height ≡ outcome.accepted b
close_foretold Fresh b g e = cc
close_foretold (Open o) b g e = grind (arith, nat_tests, total_of_sized o b g, g.bytes_of)
close_foretold Closed b g e = cc
