-- What is claimed of picture readers, of the exported functions: they do what the definitions say, of the reader that a stored one is taken for.
-- Assumes nothing.
use Prim.Native.Nat.{ℕ}
use mathlib.Core.Path.{◌≡◌, refl, sym, ap, ◌∙◌}
use mathlib.Core.Bool.{false, ◌&&◌}
use mathlib.Core.List.{List, map}
use lib.Dec.{eqb}
use lib.ListN.{length}
use borrow.Author.Tests.{eqb-true}
use Rattle.std.specs.Prelude.{Option, Some, None}
use Rattle.exact.specs.Outcome.{Outcome, accepted, refused}
use Rattle.exact.proofs.Lending.{lend, lend_mut, lifetimes}
use Rattle.systems.specs.declared.System.{System}
use Rattle.systems.specs.declared.System.TheVariants.{Bt709Bits8, Bt709Bits10, Bt2020Bits10, Bt2020Bits12}
use Rattle.systems.specs.Systems.{number, named}
use Rattle.systems.proofs.Answerable.{Answerable, values, refusing, never_0}
use Rattle.systems.proofs.Scales.{named_number}
use Rattle.block.proofs.Told.{Row, told}
use Rattle.picture.proofs.Agreement.{split}
use Rattle.picture.proofs.Card.{leads}
use Rattle.reader.specs.declared.Format.{Format}
use Rattle.reader.specs.declared.Progress.{Progress}
use Rattle.reader.specs.declared.Phase.{Phase}
use Rattle.reader.specs.declared.Phase.TheVariants.{Unopened, Reading, Complete}
use Rattle.reader.specs.declared.Reader.{Reader}
use Rattle.reader.specs.declared.Taken.{Taken}
use Rattle.reader.specs.Reader.{at, opening, taking, heard_of, slice_after, proper, resumed}
use Rattle.reader.specs.Book.{heard, answers_from}
use Rattle.reader.proofs.Calls.{Made, Ran}
use Rattle.reader.proofs.Card.{next_reader, is_complete}
use Rattle.reader.proofs.Claims.{call, answer, Claimed, Together}
use Rattle.reader.proofs.Lists as lists
use Rattle.reader.proofs.Lists.{Follows, Faithful, claimed, opening_answerable, taking_answerable}
use Rattle.reader.proofs.Resume.{Proper, resumed_proper, resumed_same, open_proper, read_proper}
use Rattle.reader.proofs.Return.{together}
use Rattle.reader.proofs.Steps.{state_of}
use Rattle.ferghulta.specs.declared.stored_reader.StoredReader.{StoredReader}
use Rattle.ferghulta.specs.declared.reader_calls.ReaderAnswer.{ReaderAnswer}
use Rattle.ferghulta.specs.declared.reader_calls.NextAnswer.{NextAnswer}
use Rattle.ferghulta.specs.StoredReader.{stored_with, stored_phase, stored_reader, reading_in, reading_of, reader_phase, reader_of, reader_answer, next_answer}
use Rattle.ferghulta.proofs.Card.{outcome_by, row_by, ReaderOpens, by_open_reader, NextReads, by_read_next, card, reader_card}
use Rattle.ferghulta.proofs.Exported as exported
use Rattle.ferghulta.proofs.Histories.{answering}
use Rattle.ferghulta.proofs.Metered.{tells, blocks_so}

-- ---- a reader that is stored in numbers and taken up again is the same reader

number_not_0 : (y : System) → eqb (number y) 0 ≡ false
number_not_0 Bt709Bits8 = refl
number_not_0 Bt709Bits10 = refl
number_not_0 Bt2020Bits10 = refl
number_not_0 Bt2020Bits12 = refl

reading_returns : (f : Option Format) (h n : ℕ) → reader_phase (stored_with f (record { height = h; next = n; format = f })) ≡ Reading (record { height = h; next = n; format = f })
reading_returns None h n = refl
reading_returns (Some f) h n = simp (number_not_0 f.system, named_number f.system)

phase_returns : (f : Phase) → reader_phase (stored_phase f) ≡ f
phase_returns Unopened = refl
phase_returns (Reading p) = reading_returns p.format p.height p.next
phase_returns Complete = refl

stored_returns : (r : Reader) → Proper r → reader_of (stored_reader r) ≡ r
stored_returns r g = ap (λ (f : Phase). at (resumed f)) (phase_returns r.phase) ∙ ap at (resumed_same r.phase g)

-- ---- what the phase's number says

reading_not_complete : (k : StoredReader) → is_complete (resumed (reading_of k)) ≡ false
reading_not_complete k = split (eqb k.system 0 && eqb k.width 0) (λ t. simp t (progress _)) (λ t. simp t (by (named k.system)))
  where
    progress : (p : Progress) → is_complete (resumed (Reading p)) ≡ false
    progress p = split (proper p) (λ e. simp e) (λ e. simp e)

    by : (o : Outcome System) → is_complete (resumed (reading_in k o)) ≡ false
    by (accepted y) = progress (record { height = k.height; next = k.next; format = Some (record { system = y; width = k.width }) })
    by (refused n) = refl

complete_told : (k : StoredReader) → eqb k.phase 2 ≡ is_complete (reader_of k).phase
complete_told k =
    split (eqb k.phase 1)
    (λ t. simp (eqb-true k.phase 1 t) (sym (reading_not_complete k)))
    (λ t. split (eqb k.phase 2) (λ u. simp (t, u)) (λ u. simp (t, u)))

-- ---- the calls

opened_so : (k : StoredReader) {o : Outcome Reader} {a : ReaderAnswer} → Answerable o → Proper (leads (reader_of k) o) → a ≡ reader_answer k o
    → (outcome_by a.refusal ≡ heard o) × (reader_of a.reader ≡ leads (reader_of k) o)
opened_so k (values r) g e = (ap (λ (x : ReaderAnswer). outcome_by x.refusal) e, ap (λ (x : ReaderAnswer). reader_of x.reader) e ∙ stored_returns r g)
opened_so k (refusing r) g e =
    (rw e (simp (never_0 r)), ap (λ (x : ReaderAnswer). reader_of x.reader) e)

opens_so : {k k' : StoredReader} {h : ℕ} {o : Outcome (Unit {0})} → ReaderOpens k h o k' → (o ≡ heard (opening (reader_of k) h)) × (reader_of k' ≡ leads (reader_of k) (opening (reader_of k) h))
opens_so {k} {h = h} (by_open_reader a _ _ post) = opened_so k (opening_answerable (reader_of k) h) (open_proper (reader_of k) h (resumed_proper (reader_phase k))) post

-- the reader that a block leads to
read_so : (k : StoredReader) {o : Outcome Taken} {a : NextAnswer} → Answerable o → Proper (leads (reader_of k) (next_reader o)) → a ≡ next_answer k o
    → (row_by a.block ≡ told (heard_of o)) × (reader_of a.reader ≡ leads (reader_of k) (next_reader o))
read_so k (values t) g e = (tells (values t.header) (ap (λ (x : NextAnswer). x.block) e), ap (λ (x : NextAnswer). reader_of x.reader) e ∙ stored_returns t.reader g)
read_so k (refusing r) g e = (tells (refusing r) (ap (λ (x : NextAnswer). x.block) e), ap (λ (x : NextAnswer). reader_of x.reader) e)

reads_so : {k k' : StoredReader} {bytes slice left : List ℕ} {o : Outcome Row} → NextReads k bytes slice o left k' → Follows (reader_of k) bytes slice o left (reader_of k')
reads_so {k} (by_read_next _ bytes slice _ _ a _ post) =
    let room = length slice.now in
    let s = read_so k (taking_answerable (reader_of k).phase bytes.now room) (read_proper (reader_of k) bytes.now room (resumed_proper (reader_phase k))) post.0 in
    record { answer = s.0; slice_left = post.1; next = s.1 }

-- ---- a refused call gives back the eight bytes that it was given

open_given : {k k' : StoredReader} {h : ℕ} {o : Outcome (Unit {0})} → ReaderOpens k h o k' → (n : ℕ) → refused n ≡ o → k' ≡ k
open_given {k} {h = h} (by_open_reader a _ _ post) n e = by (opening_answerable (reader_of k) h) post
  where
    by : {o : Outcome Reader} → Answerable o → a ≡ reader_answer k o → a.reader ≡ k
    by (values r) s = let z : refused n ≡ accepted tt = e ∙ ap (λ (x : ReaderAnswer). outcome_by x.refusal) s in cc
    by (refusing r) s = ap (λ (x : ReaderAnswer). x.reader) s

read_given : {k k' : StoredReader} {bytes slice left : List ℕ} {o : Outcome Row} → NextReads k bytes slice o left k' → (n : ℕ) → refused n ≡ o → k' ≡ k
read_given {k} (by_read_next _ bytes slice _ _ a _ post) n e = by (taking_answerable (reader_of k).phase bytes.now (length slice.now)) post.0
  where
    by : {o : Outcome Taken} → Answerable o → a ≡ next_answer k o → a.reader ≡ k
    by (values t) s = let z : refused n ≡ told (accepted t.header) = e ∙ ap (λ (x : NextAnswer). row_by x.block) s in cc
    by (refusing r) s = ap (λ (x : NextAnswer). x.reader) s

pub faithful : Faithful reader_card
faithful = record {
  reader = reader_of;
  news = λ made. ap reader_of made;
  opens = opens_so;
  reads = reads_so;
  blocks = blocks_so;
  completes = λ {k} told. told ∙ complete_told k;
  open_stays = λ {k} {k'} {h} {n} one. open_given one n refl;
  read_stays = λ {k} {k'} {bytes} {slice} {left} {n} one. read_given one n refl;
  begins = (stored_reader (at Unopened), refl);
  opening = λ k h. (_, _, by_open_reader (reader_answer k (opening (reader_of k) h)) k h refl);
  reading = λ k bytes slice.
      let a = next_answer k (taking (reader_of k) bytes (length slice)) in
      (_, _, _, by_read_next lifetimes (lend bytes) (lend_mut slice) (lend bytes) (lend_mut (slice_after (reader_of k) bytes slice)) a k (refl, refl));
  completing = λ k. (_, refl);
}

pub in_turn_lem : Claimed reader_card
in_turn_lem = claimed faithful

-- from any eight bytes, as the book has it from the reader that they are taken for
pub from_any : {k l : StoredReader} {ms : List Made} → Ran reader_card k ms l → map answer ms ≡ answers_from (state_of (reader_of k).phase) (map call ms)
unfolding faithful
from_any ran = lists.from_any faithful ran

pub returned : Together card reader_card
returned = together exported.faithful answering faithful
