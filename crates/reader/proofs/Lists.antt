-- The claim on every list of openings and blocks, of any card that does what the definitions say, and so of this crate's.
-- Assumes nothing.
use Prim.Native.Nat.{ℕ}
use mathlib.Core.Path.{◌≡◌, refl, sym, ap, ◌∙◌}
use mathlib.Core.Bool.{Bool}
use mathlib.Core.List.{List, [], ◌∷◌, map}
use native.Mathlib.Omega.{arith}
use lib.Dec.{eqb}
use lib.ListN.{length}
use borrow.Author.Tests.{eqb-true}
use Rattle.std.specs.Prelude.{None}
use Rattle.exact.specs.Outcome.{Outcome, accepted, refused, ◌and_then◌}
use Rattle.exact.proofs.Lending.{lend, lend_mut, lifetimes}
use Rattle.systems.specs.declared.refusal.Refusal.TheVariants as refusal
use Rattle.systems.proofs.Ranges.{in_range_lem}
use Rattle.systems.proofs.Answerable.{Answerable, values, refusing, tested, followed, answer_for}
use Rattle.block.specs.declared.Header.{Header}
use Rattle.block.specs.Read as block-reading
use Rattle.block.specs.Read.{header_of}
use Rattle.block.proofs.Answerable.{reading_answerable}
use Rattle.block.proofs.Told.{Row, told, blocks_so}
use Rattle.picture.specs.Picture.{height_ok}
use Rattle.picture.proofs.Agreement.{split}
use Rattle.picture.proofs.Card.{leads}
use Rattle.reader.specs.declared.Progress.{Progress}
use Rattle.reader.specs.declared.Phase.{Phase}
use Rattle.reader.specs.declared.Phase.TheVariants.{Unopened, Reading, Complete}
use Rattle.reader.specs.declared.Reader.{Reader}
use Rattle.reader.specs.declared.Taken.{Taken}
use Rattle.reader.specs.Reader as defined
use Rattle.reader.specs.Reader.{at, alike, in_turn, row_to, taking_from, taking, heard_of, slice_after}
use Rattle.reader.specs.Book.{Call, opens, blocks, makes, next, heard, answers_from}
use Rattle.reader.proofs.Calls.{Card, Made, opening, block, Ran, ends, after_open, after_block}
use Rattle.reader.proofs.Card.{next_reader, is_complete, Opens, by_open, Reads, by_read, Completes, by_phase, card}
use Rattle.reader.proofs.Claims.{call, answer, Since, since, with_call, since_from, Given, height, bytes_and_slice, Happens, Claimed}
use Rattle.reader.proofs.Rows.{Under, Tracks, not_opened, reading, row_tracks, tracks_holds}
use Rattle.reader.proofs.Steps.{state_of, stated, open_step, read_step}

-- ---- a card that does what the definitions say

-- a block call on r came to this
pub record Follows (r : Reader) (bytes slice : List ℕ) (o : Outcome Row) (left : List ℕ) (r' : Reader) : Type 0 where
  pub answer : o ≡ told (heard_of (taking r bytes (length slice)))
  pub slice_left : left ≡ slice_after r bytes slice
  pub next : r' ≡ leads r (next_reader (taking r bytes (length slice)))

pub record Faithful (card : Card) : Type 0 where
  -- the reader that a caller's stands for
  pub reader : card.Reader → Reader
  pub news : {k : card.Reader} → card.New k → reader k ≡ at Unopened
  pub opens : {k k' : card.Reader} {h : ℕ} {o : Outcome (Unit {0})} → card.Open k h o k' → (o ≡ heard (defined.opening (reader k) h)) × (reader k' ≡ leads (reader k) (defined.opening (reader k) h))
  pub reads : {k k' : card.Reader} {bytes slice left : List ℕ} {o : Outcome Row} → card.Read k bytes slice o left k' → Follows (reader k) bytes slice o left (reader k')
  pub blocks : {bytes slice left : List ℕ} {o : Outcome Row} → card.Block bytes slice o left → (o ≡ told (header_of bytes (length slice))) × (left ≡ block-reading.slice_after bytes slice)
  pub completes : {k : card.Reader} {t : Bool} → card.Complete k t → t ≡ is_complete (reader k).phase
  -- a refused call gives back what it was given
  pub open_stays : {k k' : card.Reader} {h n : ℕ} → card.Open k h (refused n) k' → k' ≡ k
  pub read_stays : {k k' : card.Reader} {bytes slice left : List ℕ} {n : ℕ} → card.Read k bytes slice (refused n) left k' → k' ≡ k
  -- each call comes to something
  pub begins : (k : card.Reader) × card.New k
  pub opening : (k : card.Reader) (h : ℕ) → (o : Outcome (Unit {0})) × (k' : card.Reader) × card.Open k h o k'
  pub reading : (k : card.Reader) (bytes slice : List ℕ) → (o : Outcome Row) × (left : List ℕ) × (k' : card.Reader) × card.Read k bytes slice o left k'
  pub completing : (k : card.Reader) → (t : Bool) × card.Complete k t

-- ---- what is heard of a call, by what it comes to

heard_stated : (o : Outcome Reader) → heard (stated o) ≡ heard o
heard_stated (accepted r) = refl
heard_stated (refused n) = refl

next_stated : (r : Reader) (o : Outcome Reader) → next (state_of r.phase) (stated o) ≡ state_of (leads r o).phase
next_stated r (accepted q) = refl
next_stated r (refused n) = refl

heard_told : (o : Outcome Taken) → heard (told (heard_of o)) ≡ heard (next_reader o)
heard_told (accepted t) = refl
heard_told (refused n) = refl

-- an accepted block gives what reading gives, a refused one leaves the slice
accepted_told : (o : Outcome Header) (f : Header → Outcome Reader) (w : Row) → told (heard_of (o and_then λ h. f h and_then λ r. accepted (record { header = h; reader = r }))) ≡ accepted w
    → heard_of (o and_then λ h. f h and_then λ r. accepted (record { header = h; reader = r })) ≡ o
accepted_told (accepted h) f w e = by (f h) refl
  where
    by : (k : Outcome Reader) → f h ≡ k → heard_of (f h and_then λ r. accepted (record { header = h; reader = r })) ≡ accepted h
    by (accepted r) s = rw s
    by (refused n) s = let z : told (refused n) ≡ accepted w = rw s at e in cc
accepted_told (refused n) f w e = refl

accepted_reads : (f : Phase) (bs : List ℕ) (room : ℕ) (w : Row) → accepted w ≡ told (heard_of (taking_from f bs room)) → heard_of (taking_from f bs room) ≡ header_of bs room
accepted_reads Unopened bs room w e = cc
accepted_reads (Reading p) bs room w e = accepted_told (header_of bs room) (λ h. in_turn p h.system h.row h.samples) w (sym e)
accepted_reads Complete bs room w e = cc

refused_slice : (o : Outcome Header) (n : ℕ) (bs slice : List ℕ) → refused n ≡ told o → block-reading.slice_by o bs slice ≡ slice
refused_slice (accepted h) n bs slice e = cc
refused_slice (refused k) n bs slice e = refl

-- ---- the rows since the last accepted opening

open_tracks : (r : Reader) (h : ℕ) {s : Since} → Tracks r.phase s → Tracks (leads r (defined.opening r h)).phase (with_call s (opening h (heard (defined.opening r h))))
open_tracks r h g =
    split (height_ok h)
    (λ t.
    let low = (in_range_lem (record { low = 1; high = 4320 }) h t).0 in
    simp t (reading {p = record { height = h; next = 0; format = None }} (record { count = refl; below = omega arith; rows = refl })))
    (λ t. simp t g)

-- where a block call leads, with what was heard of it
abbrev Led : Phase → List ℕ → List ℕ → List ℕ → Since → Type 0
Led f bs slice left s = Tracks (leads (at f) (next_reader (taking_from f bs (length slice)))).phase (with_call s (block bs slice (told (heard_of (taking_from f bs (length slice)))) left))

row_led : {p : Progress} {ws : List Row} → Under p ws → (bs slice left : List ℕ) (o : Outcome Header) → header_of bs (length slice) ≡ o → Led (Reading p) bs slice left (since p.height ws)
unfolding in_turn
row_led u bs slice left (refused n) e = rw e (reading u)
row_led {p} {ws} u bs slice left (accepted h) e =
    split (eqb h.row p.next)
    (λ t. split (alike p.format h.system h.samples)
    (λ a. simp (e, t, a) (row_tracks p h ws u (eqb-true _ _ t) a))
    (λ a. simp (e, t, a) (reading u)))
    (λ t. simp (e, t) (reading u))

block_tracks : (f : Phase) (bs slice left : List ℕ) {s : Since} → Tracks f s → Led f bs slice left s
block_tracks Unopened bs slice left g = g
block_tracks (Reading p) bs slice left (reading u) = row_led u bs slice left (header_of bs (length slice)) refl
block_tracks Complete bs slice left g = g

-- ---- a list of calls

-- a call on r that comes to o, then those that follow it
then : (c : Call) (cs : List Call) {a : Outcome (Unit {0})} {later : List (Outcome (Unit {0}))} (r : Reader) (o : Outcome Reader) → makes (state_of r.phase) c ≡ stated o → a ≡ heard o
    → later ≡ answers_from (state_of (leads r o).phase) cs → a ∷ later ≡ answers_from (state_of r.phase) (c ∷ cs)
unfolding answers_from
then c cs r o made said rest = rw (made, next_stated r o, heard_stated o) cc

module _ {card : Card} (does : Faithful card) where
  -- from any reader the answers are those of the book from that reader's state
  pub from_any : {k l : card.Reader} {ms : List Made} → Ran card k ms l → map answer ms ≡ answers_from (state_of (does.reader k).phase) (map call ms)
  unfolding answers_from
  from_any ends = refl
  from_any {k} (after_open {h = h} {ms = ms} one rest) =
      let f = does.opens one in
      then (opens h) (map call ms) (does.reader k) (defined.opening (does.reader k) h) (open_step (does.reader k) h) f.0 (from_any rest ∙ ap (λ (r : Reader). answers_from (state_of r.phase) (map call ms)) f.1)
  from_any {k} (after_block {bytes = bytes} {slice = slice} {ms = ms} one rest) =
      let f = does.reads one in
      let o = taking (does.reader k) bytes (length slice) in
      then (blocks bytes (length slice)) (map call ms) (does.reader k) (next_reader o) (read_step (does.reader k) bytes (length slice)) (ap heard f.answer ∙ heard_told o)
      (from_any rest ∙ ap (λ (r : Reader). answers_from (state_of r.phase) (map call ms)) f.next)

  run : {k l : card.Reader} {ms : List Made} {s : Since} → Tracks (does.reader k).phase s → Ran card k ms l → Tracks (does.reader l).phase (since_from s ms)
  unfolding since_from
  run g ends = g
  run {k} g (after_open {h = h} one rest) =
      let f = does.opens one in
      run (rw (f.0, f.1) (open_tracks (does.reader k) h g)) rest
  run {k} g (after_block {bytes = bytes} {slice = slice} {left = left} one rest) =
      let f = does.reads one in
      run (rw (f.answer, f.next) (block_tracks (does.reader k).phase bytes slice left g)) rest

  runs : (gs : List Given) (k : card.Reader) → Happens card k gs
  runs [] k = record { ms = []; last = k; ran = ends; same = refl }
  runs (height h ∷ gs) k =
      let a = does.opening k h in
      let rest = runs gs a.1 in
      record { ms = opening h a.0 ∷ rest.ms; last = rest.last; ran = after_open a.2 rest.ran; same = ap (λ (s : List Given). height h ∷ s) rest.same }
  runs (bytes_and_slice bytes slice ∷ gs) k =
      let a = does.reading k bytes slice in
      let rest = runs gs a.2 in
      record {
        ms = block bytes slice a.0 a.1 ∷ rest.ms;
        last = rest.last;
        ran = after_block a.3 rest.ran;
        same = ap (λ (s : List Given). bytes_and_slice bytes slice ∷ s) rest.same;
      }

  pub claimed : Claimed card
  claimed = record {
    answers = λ made ran. rw (does.news made) at (from_any ran);
    rows = λ made ran shown. rw (does.completes shown) (tracks_holds (run (rw (does.news made) not_opened) ran));
    reads = λ {r} {r'} {bytes} {slice} {left} {left'} {w} one other.
        let f = does.reads one in
        let b = does.blocks other in
        let same = accepted_reads (does.reader r).phase bytes (length slice) w f.answer in
        (b.0 ∙ ap told (sym same) ∙ sym f.answer, f.slice_left ∙ ap (λ (o : Outcome Header). block-reading.slice_by o bytes slice) same ∙ sym b.1);
    refuses_opening = does.open_stays;
    refuses_block = λ {r} {r'} {bytes} {slice} {left} {n} one.
        let f = does.reads one in
        (does.read_stays one, f.slice_left ∙ refused_slice (heard_of (taking (does.reader r) bytes (length slice))) n bytes slice f.answer);
    begins = does.begins;
    happens = λ k gs. runs gs k;
    tells = does.completing;
  }

-- ---- this crate's card

opens_so : {r r' : Reader} {h : ℕ} {o : Outcome (Unit {0})} → Opens r h o r' → (o ≡ heard (defined.opening r h)) × (r' ≡ leads r (defined.opening r h))
opens_so (by_open a _ _ post) = rw (← post) (refl, refl)

reads_so : {r r' : Reader} {bytes slice left : List ℕ} {o : Outcome Row} → Reads r bytes slice o left r' → Follows r bytes slice o left r'
reads_so (by_read _ _ _ _ _ a _ post) = record { answer = rw post.0; slice_left = post.1; next = rw post.0 }

completes_so : {r : Reader} {t : Bool} → Completes r t → t ≡ is_complete r.phase
completes_so (by_phase f _ post) = ap is_complete post

-- a refused call
open_refused : (r : Reader) (o : Outcome Reader) (n : ℕ) → refused n ≡ heard o → leads r o ≡ r
open_refused r (accepted q) n e = cc
open_refused r (refused m) n e = refl

read_refused : (r : Reader) (o : Outcome Taken) (n : ℕ) → refused n ≡ told (heard_of o) → leads r (next_reader o) ≡ r
read_refused r (accepted t) n e = cc
read_refused r (refused m) n e = refl

pub opening_answerable : (r : Reader) (h : ℕ) → Answerable (defined.opening r h)
opening_answerable r h = tested (height_ok h) refusal.Height (values _)

in_turn_answerable : (p : Progress) (h : Header) → Answerable (row_to p h)
unfolding in_turn
in_turn_answerable p h =
    followed (tested (eqb h.row p.next) refusal.Turn (tested (alike p.format h.system h.samples) refusal.Unlike (values _))) (λ r. values _)

pub taking_answerable : (f : Phase) (bs : List ℕ) (room : ℕ) → Answerable (taking_from f bs room)
taking_answerable Unopened bs room = refusing refusal.NotReading
taking_answerable (Reading p) bs room = followed (reading_answerable bs room) (in_turn_answerable p)
taking_answerable Complete bs room = refusing refusal.NotReading

pub faithful : Faithful card
faithful = record {
  reader = λ r. r;
  news = λ made. made;
  opens = opens_so;
  reads = reads_so;
  blocks = blocks_so;
  completes = completes_so;
  open_stays = λ {k} {k'} {h} {n} one. let f = opens_so one in f.1 ∙ open_refused k (defined.opening k h) n f.0;
  read_stays = λ {k} {k'} {bytes} {slice} {left} {n} one. let f = reads_so one in f.next ∙ read_refused k (taking k bytes (length slice)) n f.answer;
  begins = (at Unopened, refl);
  opening = λ k h. let a = answer_for (opening_answerable k h) in (_, _, by_open a.0 k h a.1);
  reading = λ k bytes slice.
      let a = answer_for (taking_answerable k.phase bytes (length slice)) in
      (_, _, _, by_read lifetimes (lend bytes) (lend_mut slice) (lend bytes) (lend_mut (slice_after k bytes slice)) a.0 k (a.1, refl));
  completing = λ k. (_, by_phase k.phase k refl);
}

pub in_turn_lem : Claimed card
in_turn_lem = claimed faithful
