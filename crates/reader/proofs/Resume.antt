-- Whatever phase a caller kept, calls can make the reader that it is resumed as; what calls can make is resumed as it was; and calls make
-- no other.
-- Assumes nothing.
use Prim.Native.Nat.{ℕ, ◌+◌, ◌≤◌}
use mathlib.Core.Path.{◌≡◌, refl}
use mathlib.Core.Bool.{true}
use mathlib.Core.List.{List}
use native.Mathlib.Omega.{arith}
use lib.Dec.{eqb}
use Rattle.std.proofs.lemmas.Bool.Decides.{nat_tests}
use Rattle.std.specs.Prelude.{None}
use Rattle.exact.specs.Outcome.{Outcome, accepted, refused}
use Rattle.block.specs.declared.Header.{Header}
use Rattle.block.specs.Read.{header_of}
use Rattle.block.proofs.Reading.{accepted_has_its_length}
use Rattle.picture.specs.Picture.{height_ok}
use Rattle.picture.proofs.Agreement.{split}
use Rattle.picture.proofs.Card.{leads}
use Rattle.reader.specs.declared.Progress.{Progress}
use Rattle.reader.specs.declared.Phase.{Phase}
use Rattle.reader.specs.declared.Phase.TheVariants.{Unopened, Reading, Complete}
use Rattle.reader.specs.declared.Reader.{Reader}
use Rattle.reader.specs.Reader.{at, opening, after, in_turn, taking_from, taking, proper, resumed}
use Rattle.reader.proofs.Card.{next_reader}

abbrev pub ProperAt : Phase → Type 0
ProperAt Unopened = Unit {0}
ProperAt (Reading p) = proper p ≡ true
ProperAt Complete = Unit {0}

abbrev pub Proper : Reader → Type 0
Proper r = ProperAt r.phase

pub resumed_proper : (f : Phase) → ProperAt (resumed f)
resumed_proper Unopened = tt
resumed_proper (Reading p) = grind (arith, nat_tests)
resumed_proper Complete = tt

pub resumed_same : (f : Phase) → ProperAt f → resumed f ≡ f
resumed_same Unopened g = refl
resumed_same (Reading p) g = simp g
resumed_same Complete g = refl

begun_proper : (h : ℕ) → height_ok h ≡ true → proper (record { height = h; next = 0; format = None }) ≡ true
unfolding proper
begun_proper h t = grind (arith, nat_tests)

pub open_proper : (r : Reader) (h : ℕ) → Proper r → Proper (leads r (opening r h))
open_proper r h g = grind (arith, nat_tests, begun_proper h)

-- the next row of a proper reading, of 1 to 7680 samples
after_proper : (p : Progress) (h : Header) → proper p ≡ true → 1 ≤ h.samples → h.samples ≤ 7680 → ProperAt (after p h.system h.samples)
unfolding proper
after_proper p h g low high =
    split (eqb (p.next + 1) p.height) (λ t. simp t tt) (λ t. simp t (grind (arith, nat_tests)))

row_proper : (p : Progress) (bs : List ℕ) (room : ℕ) (o : Outcome Header) → header_of bs room ≡ o → proper p ≡ true → Proper (leads (at (Reading p)) (next_reader (taking_from (Reading p) bs room)))
unfolding in_turn
row_proper p bs room (refused n) e g = rw e g
row_proper p bs room (accepted h) e g =
    let shape = (accepted_has_its_length bs room h e).shape in
    grind (arith, nat_tests, after_proper p h g shape.some shape.most)

pub read_proper : (r : Reader) (bs : List ℕ) (room : ℕ) → Proper r → Proper (leads r (next_reader (taking r bs room)))
read_proper r bs room g = by r.phase g
  where
    by : (f : Phase) → ProperAt f → Proper (leads (at f) (next_reader (taking_from f bs room)))
    by Unopened g = g
    by (Reading p) g = row_proper p bs room (header_of bs room) refl g
    by Complete g = g
