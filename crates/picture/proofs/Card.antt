-- The card of this crate. What a call does is what the called function's own contract says (its generated `Post`), so nothing is restated here.
-- Definitions only.
use Prim.Native.Nat.{ℕ}
use mathlib.Core.List.{List}
use contract.Lifetimes.{Lfts}
use denote.Ref.{Bor}
use denote.MutBor.{MutBor}
use Rattle.std.specs.Prelude.{Result}
use Rattle.exact.specs.Outcome as outcome
use Rattle.exact.specs.Outcome.{Outcome}
use Rattle.systems.specs.Systems.{number}
use Rattle.systems.specs.declared.refusal.Refusal.{Refusal}
use Rattle.systems.specs.Refusals.{outcome}
use Rattle.block.specs.declared.Header.{Header}
use Rattle.block.proofs.read_block.Reads as read-call
use Rattle.picture.specs.declared.Picture.{Picture}
use Rattle.picture.specs.Book.{Answer, accepted, refused}
use Rattle.picture.proofs.Picture.new.Reads as new-call
use Rattle.picture.proofs.Picture.open.Reads as open-call
use Rattle.picture.proofs.Picture.row.Reads as row-call
use Rattle.picture.proofs.Picture.close.Reads as close-call
use Rattle.picture.proofs.total_bytes.Reads as total-call
use Rattle.picture.proofs.Calls.{Label, Card}

-- what the caller hears of a call
abbrev pub answer_of : {A : Type 0} → Outcome A → Answer
answer_of (outcome.accepted a) = accepted
answer_of (outcome.refused n) = refused n

-- what the next call is given: what the call returned, or after a refusal what it was given itself
abbrev pub leads : {A : Type 0} → A → Outcome A → A
leads a (outcome.accepted b) = b
leads a (outcome.refused n) = a

-- what a reading tells
abbrev pub label_of : Outcome Header → Outcome Label
label_of (outcome.accepted h) = outcome.accepted (record { system = number h.system; samples = h.samples; row = h.row })
label_of (outcome.refused n) = outcome.refused n

pub data Opens (p : Picture) (n w h : ℕ) : Answer → Picture → Type 0 where
  by_open : (r : Result Picture Refusal) (p' : Picture) (n' w' h' : ℕ) → open-call.Post tt (p, (n, (w, (h, tt)))) r (p', (n', (w', (h', tt))))
      → Opens p n w h (answer_of (outcome r)) (leads p (outcome r))

-- κs are the lifetimes of the two references, whatever they are
pub data Rows (p : Picture) : List ℕ → List ℕ → Answer → List ℕ → Picture → Type 0 where
  by_row : (κs : Lfts 2) (lights : Bor (List ℕ)) (out : MutBor (List ℕ)) (lights' : Bor (List ℕ)) (out' : MutBor (List ℕ)) (r : Result Picture Refusal) (p' : Picture) → row-call.Post κs (p, (lights, (out, tt))) r (p', (lights', (out', tt)))
      → Rows p lights.now out.now (answer_of (outcome r)) out'.now (leads p (outcome r))

pub data Closes (p : Picture) : Answer → Picture → Type 0 where
  by_close : (r : Result Picture Refusal) (p' : Picture) → close-call.Post tt (p, tt) r (p', tt) → Closes p (answer_of (outcome r)) (leads p (outcome r))

pub data Reads : List ℕ → List ℕ → Outcome Label → List ℕ → Type 0 where
  by_read_block : (κs : Lfts 2) (bytes : Bor (List ℕ)) (slice : MutBor (List ℕ)) (bytes' : Bor (List ℕ)) (slice' : MutBor (List ℕ)) (r : Result Header Refusal) → read-call.Post κs (bytes, (slice, tt)) r (bytes', (slice', tt))
      → Reads bytes.now slice.now (label_of (outcome r)) slice'.now

pub data Totals (w h : ℕ) : Outcome ℕ → Type 0 where
  by_total_bytes : (r : Result ℕ Refusal) (w' h' : ℕ) → total-call.Post tt (w, (h, tt)) r (w', (h', tt)) → Totals w h (outcome r)

abbrev pub card : Card
card = record {
  Picture = Picture;
  bytes = λ p. p.bytes;
  New = λ p. new-call.Post tt tt p tt;
  Open = Opens;
  Row = Rows;
  Close = Closes;
  Read = Reads;
  Total = Totals;
}
