-- The card of this crate. What a call does is what the called function's own contract says (its generated `Post`), so nothing is restated here.
-- Definitions only.
use Prim.Native.Nat.{ℕ}
use mathlib.Core.Bool.{Bool, true, false}
use mathlib.Core.List.{List}
use contract.Lifetimes.{Lfts}
use denote.Ref.{Bor}
use denote.MutBor.{MutBor}
use Rattle.std.specs.Prelude.{Result}
use Rattle.exact.specs.Outcome.{Outcome, accepted, ◌and_then◌}
use Rattle.systems.specs.declared.refusal.Refusal.{Refusal}
use Rattle.systems.specs.Refusals.{outcome}
use Rattle.block.proofs.Told.{Row, told, Blocks}
use Rattle.picture.proofs.Card.{leads}
use Rattle.reader.specs.declared.Phase.{Phase}
use Rattle.reader.specs.declared.Phase.TheVariants.{Unopened, Reading, Complete}
use Rattle.reader.specs.declared.Reader.{Reader}
use Rattle.reader.specs.declared.Taken.{Taken}
use Rattle.reader.specs.Reader.{heard_of}
use Rattle.reader.specs.Book.{heard}
use Rattle.reader.proofs.Reader.new.Reads as new-call
use Rattle.reader.proofs.Reader.open.Reads as open-call
use Rattle.reader.proofs.Reader.read.Reads as read-call
use Rattle.reader.proofs.Reader.phase.Reads as phase-call
use Rattle.reader.proofs.Calls.{Card}

-- the reader that an accepted block leads to
abbrev pub next_reader : Outcome Taken → Outcome Reader
next_reader o = o and_then λ t. accepted t.reader

abbrev pub is_complete : Phase → Bool
is_complete Unopened = false
is_complete (Reading p) = false
is_complete Complete = true

-- the next call is given what the call returned, or after a refusal what it was given itself
pub data Opens (r : Reader) (h : ℕ) : Outcome (Unit {0}) → Reader → Type 0 where
  by_open : (a : Result Reader Refusal) (r' : Reader) (h' : ℕ) → open-call.Post tt (r, (h, tt)) a (r', (h', tt)) → Opens r h (heard (outcome a)) (leads r (outcome a))

-- κs are the lifetimes of the two references, whatever they are
pub data Reads (r : Reader) : List ℕ → List ℕ → Outcome Row → List ℕ → Reader → Type 0 where
  by_read : (κs : Lfts 2) (bytes : Bor (List ℕ)) (slice : MutBor (List ℕ)) (bytes' : Bor (List ℕ)) (slice' : MutBor (List ℕ)) (a : Result Taken Refusal) (r' : Reader) → read-call.Post κs (r, (bytes, (slice, tt))) a (r', (bytes', (slice', tt)))
      → Reads r bytes.now slice.now (told (heard_of (outcome a))) slice'.now (leads r (next_reader (outcome a)))

pub data Completes (r : Reader) : Bool → Type 0 where
  by_phase : (f : Phase) (r' : Reader) → phase-call.Post tt (r, tt) f (r', tt) → Completes r (is_complete f)

abbrev pub card : Card
card = record {
  Reader = Reader;
  New = λ r. new-call.Post tt tt r tt;
  Open = Opens;
  Read = Reads;
  Block = Blocks;
  Complete = Completes;
}
