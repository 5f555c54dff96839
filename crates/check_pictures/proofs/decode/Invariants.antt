use Rattle.std.proofs.Common.{◌≡◌, length}
use Rattle.check_pictures.specs.Calls.{lights_to}
use Rattle.check_pictures.proofs.decode.Given as goal

abbrev pub invariant-loop-i : goal.invariant-loop-i
invariant-loop-i l = (l.lights.items ≡ lights_to l.bytes l.i) × (length l.lights.items ≡ l.i)
