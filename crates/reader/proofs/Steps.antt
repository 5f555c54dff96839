-- One call: the reader's answer and its book's, side by side.
-- Assumes nothing.
use Prim.Native.Nat.{ℕ}
use mathlib.Core.Path.{◌≡◌, refl}
use mathlib.Core.Bool.{true}
use mathlib.Core.List.{List}
use native.Mathlib.Omega.{arith}
use Rattle.std.proofs.lemmas.Bool.Decides.{nat_tests}
use Rattle.std.specs.Prelude.{Option, Some, None}
use Rattle.exact.specs.Outcome.{Outcome, accepted, refused, ◌and_then◌}
use Rattle.systems.specs.declared.System.{System}
use Rattle.systems.specs.Systems.{number}
use Rattle.block.specs.declared.Header.{Header}
use Rattle.block.specs.Read.{header_of}
use Rattle.reader.specs.declared.Format.{Format}
use Rattle.reader.specs.declared.Progress.{Progress}
use Rattle.reader.specs.declared.Phase.{Phase}
use Rattle.reader.specs.declared.Phase.TheVariants.{Unopened, Reading, Complete}
use Rattle.reader.specs.declared.Reader.{Reader}
use Rattle.reader.specs.Reader.{opening, alike, after, in_turn, row_to, taking_from, taking}
use Rattle.reader.specs.Book.{opens, blocks, First, none, first, State, unopened, opened, complete, like, more, makes}
use Rattle.reader.proofs.Card.{next_reader}

-- the book's state at a reader
abbrev pub first_of : Option Format → First
first_of None = none
first_of (Some f) = first (number f.system) f.width

abbrev pub state_of : Phase → State
state_of Unopened = unopened
state_of (Reading p) = opened (record { height = p.height; count = p.next; first = first_of p.format })
state_of Complete = complete

abbrev pub stated : Outcome Reader → Outcome State
stated o = o and_then λ r. accepted (state_of r.phase)

pub open_step : (r : Reader) (h : ℕ) → makes (state_of r.phase) (opens h) ≡ stated (opening r h)
open_step r h = grind (arith, nat_tests)

-- what a format that is alike says
pub same_format : (f : Format) (y : System) (w : ℕ) → alike (Some f) y w ≡ true → (number y ≡ number f.system) × (w ≡ f.width)
same_format f y w e = grind (arith, nat_tests)

abbrev sheet : ℕ → ℕ → Option Format → Progress
sheet h n f = record { height = h; next = n; format = f }

more_step : (f : Option Format) (height n : ℕ) (h : Header) → alike f h.system h.samples ≡ true
    → more (record { height = height; count = n; first = first_of f }) h ≡ state_of (after (sheet height n f) h.system h.samples)
more_step None height n h e = grind (arith, nat_tests)
more_step (Some f) height n h e = grind (arith, nat_tests, same_format f h.system h.samples e)

like_step : (f : Option Format) (h : Header) → like (first_of f) h ≡ alike f h.system h.samples
like_step None h = refl
like_step (Some f) h = refl

row_step : (p : Progress) (o : Outcome Header) (bs : List ℕ) (room : ℕ) → header_of bs room ≡ o → makes (state_of (Reading p)) (blocks bs room) ≡ stated (next_reader (header_of bs room and_then λ h. row_to p h))
unfolding in_turn
row_step p (refused n) bs room e = rw e
row_step p (accepted h) bs room e = grind (arith, nat_tests, like_step p.format h, more_step p.format p.height p.next h)

pub read_step : (r : Reader) (bs : List ℕ) (room : ℕ) → makes (state_of r.phase) (blocks bs room) ≡ stated (next_reader (taking r bs room))
read_step r bs room = by r.phase
  where
    by : (f : Phase) → makes (state_of f) (blocks bs room) ≡ stated (next_reader (taking_from f bs room))
    by Unopened = refl
    by (Reading p) = row_step p (header_of bs room) bs room refl
    by Complete = refl
