-- The calls of the lists that reference/make_readers.py makes, what each is given, and whether it gives what is due.
-- Definitions only.
use Rattle.std.specs.Prelude.{Option, Some, None, ℕ, ◌+◌, Bool, true, false, ◌&&◌, cond, List, eqb, leb, length, take, drop, replicate}
use Rattle.exact.specs.Outcome.{Outcome, accepted, refused}
use Rattle.block.specs.Read as block
use Rattle.reader.specs.declared.Phase.{Phase}
use Rattle.reader.specs.declared.Phase.TheVariants as phase
use Rattle.reader.specs.declared.Reader.{Reader}
use Rattle.reader.specs.declared.Taken.{Taken}
use Rattle.reader.specs.Reader.{at, opening, taking, slice_after}
use Rattle.check_records.specs.declared.tally.Tally.{Tally}
use Rattle.check_records.specs.Records.{u16_at, u32_at, same_to, none, tallied, Compared}
use Rattle.check_answers.specs.declared.part.Part.{Part}
use Rattle.check_answers.specs.Answers.{due_at, seen, same_due}
use Rattle.check_readers.specs.declared.left.Left.{Left}
use Rattle.check_readers.specs.declared.left.Left.TheVariants.{Unopened, Reading, Complete}
use Rattle.check_readers.specs.declared.call.Given.{Given}
use Rattle.check_readers.specs.declared.call.Given.TheVariants as given
use Rattle.check_readers.specs.declared.call.Call.{Call}
use Rattle.check_readers.specs.declared.list.Play.{Play}

-- a phase and a next row number of the data: no reader is left at any others than these, since the row is 0 where it is not reading
abbrev pub left_of : ℕ → ℕ → Option Left
left_of phase next =
    cond (eqb phase 0) (cond (eqb next 0) (Some Unopened) None)
    (cond (eqb phase 1) (Some (Reading next))
    (cond (eqb phase 2) (cond (eqb next 0) (Some Complete) None) None))

abbrev pub left_by : Phase → Left
left_by phase.Unopened = Unopened
left_by (phase.Reading p) = Reading p.next
left_by phase.Complete = Complete

abbrev pub same_left : Left → Left → Bool
same_left Unopened Unopened = true
same_left (Reading a) (Reading b) = eqb a b
same_left Complete Complete = true
same_left _ _ = false

-- what a call is given, from its kind on: the kind 0 is an opening, any other reads a block
abbrev pub given_at : List ℕ → ℕ → Given
given_at bs i =
    cond (eqb (u16_at bs i) 0) (given.Height (u32_at bs (i + 2)))
    (given.Block (record { start = u32_at bs (i + 6); length = u16_at bs (i + 10); places = u16_at bs (i + 12) }))

-- the record of 32 bytes at a place
abbrev pub call_at : List ℕ → ℕ → Call
call_at bs i = record {
  begins = eqb (u16_at bs i) 1;
  given = given_at bs (i + 2);
  answer = u16_at bs (i + 16);
  due = due_at bs (i + 18);
  left = left_of (u16_at bs (i + 28)) (u16_at bs (i + 30));
}

-- whether a call gave what it has to give, and the reader after it
pub record Made : Type 0 where
  pub met : Bool
  pub reader : Reader

abbrev pub make : Bool → Reader → Made
make met r = record { met = met; reader = r }

-- the reader that a call is made with: a new one where a list begins, else the one that the call before left
abbrev pub reader_for : Call → Reader → Reader
reader_for c r = cond c.begins (at phase.Unopened) r

-- a reader is left as the record says
abbrev pub is_left_by : Option Left → Left → Bool
is_left_by None a = false
is_left_by (Some due) a = same_left due a

abbrev pub is_left : Call → Phase → Bool
is_left c p = is_left_by c.left (left_by p)

-- an opening is judged by its refusal, 0 where it is accepted; a refused reader stays
abbrev pub opened_as : Call → Reader → Outcome Reader → Made
opened_as c r (accepted after) = make (eqb 0 c.answer) after
opened_as c r (refused n) = make (eqb n c.answer) r

abbrev pub opened : Call → ℕ → Reader → Made
opened c height r = opened_as c r (opening r height)

-- a block is judged by its header where the number is 0, or by its refusal; a refused reader stays
abbrev pub taken_as : Call → Reader → Outcome Taken → Made
taken_as c r (accepted t) = make (eqb c.answer 0 && same_due (seen t.header) c.due) t.reader
taken_as c r (refused n) = make (eqb n c.answer) r

-- the slice that is due: as reading without a reader leaves it where the number is 0, else as it was
abbrev pub slice_due : Call → List ℕ → List ℕ → List ℕ
slice_due c bs slice = cond (eqb c.answer 0) (block.slice_after bs slice) slice

-- two slices of one length that hold the same
abbrev pub same_slice : List ℕ → List ℕ → Bool
same_slice a b = eqb (length a) (length b) && same_to a b (length a)

-- a block is read with a reader into a slice, which has to be left as the other one is due to be
unfoldable pub read_into : Call → Reader → List ℕ → List ℕ → List ℕ → Made
read_into c r bs slice other =
    let taken = taken_as c r (taking r bs (length slice)) in
    make (taken.met && same_slice (slice_after r bs slice) (slice_due c bs other)) taken.reader

-- both slices hold in each of their places, which are fewer than 65536, a code that no system has
abbrev pub lent : ℕ → List ℕ
lent places = take places (replicate 65536 40000)

abbrev pub read_of : Call → ℕ → Reader → List ℕ → Made
read_of c places r bs = read_into c r bs (lent places) (lent places)

-- the block is a part of the blocks; where that is not there the call differs, and leaves the reader
abbrev pub read : Call → Part → Reader → List ℕ → Made
read c b r blocks =
    cond (leb (b.start + b.length) (length blocks))
    (read_of c b.places r (take b.length (drop b.start blocks)))
    (make false r)

abbrev pub answered_with : Call → Given → Reader → List ℕ → Made
answered_with c (given.Height height) r blocks = opened c height r
answered_with c (given.Block b) r blocks = read c b r blocks

abbrev pub answered : Call → Reader → List ℕ → Made
answered c r blocks = answered_with c c.given r blocks

-- a call is met by its answer and by the reader that it leaves
abbrev pub made : Call → Reader → List ℕ → Made
made c r blocks =
    let x = answered c (reader_for c r) blocks in
    make (x.met && is_left c x.reader.phase) x.reader

-- what calls leave, the reader and their tally: before the first of them, and after one more, which counts where the answer in question is due
abbrev pub begun : Play
begun = record { reader = at phase.Unopened; tally = none }

unfoldable pub after_call : Call → List ℕ → ℕ → Play → Play
after_call c blocks answer p =
    let x = made c p.reader blocks in
    record { reader = x.reader; tally = cond (eqb c.answer answer) (tallied p.tally x.met) p.tally }

-- the tally of all calls
abbrev pub CallsCompared : List ℕ → List ℕ → ℕ → Tally → Type 0
CallsCompared bs blocks answer t = Compared (λ _. 32) (λ at. after_call (call_at bs at) blocks answer) begun (λ (p : Play). p.tally) (length bs) t
