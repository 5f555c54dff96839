-- Writer and reader together: the blocks of a picture that was opened, sent and closed, given in order, are read back within one code.
-- Assumes nothing.
use Prim.Native.Nat.{ℕ, ◌+◌, ◌*◌, ◌≤◌, ◌<◌}
use mathlib.Core.Path.{◌≡◌, refl, sym, ap, subst, ◌∙◌}
use mathlib.Core.Bool.{true}
use mathlib.Core.List.{List, ◌∷◌, map}
use native.Mathlib.Omega.{arith}
use lib.Dec.{eqb}
use lib.ListN.{length, take, get_or}
use borrow.Author.Tests.{eqb-true, eqb-false, eq-eqb}
use Rattle.std.proofs.lemmas.Bool.Decides.{nat_tests}
use Rattle.std.specs.Prelude.{Option, Some, None}
use Rattle.exact.specs.Outcome.{Outcome, accepted, refused}
use Rattle.systems.specs.declared.System.{System}
use Rattle.systems.specs.Systems.{number}
use Rattle.systems.proofs.Ranges.{in_range_lem}
use Rattle.block.specs.declared.Header.{Header}
use Rattle.block.specs.Read as block-reading
use Rattle.block.specs.Read.{header_of}
use Rattle.block.proofs.Told.{told}
use Rattle.picture.specs.Picture.{height_ok}
use Rattle.picture.specs.Book.{Entry}
use Rattle.picture.proofs.Agreement.{split}
use Rattle.picture.proofs.Calls as writer
use Rattle.picture.proofs.Calls.{Label, Lent}
use Rattle.picture.proofs.Card as picture
use Rattle.picture.proofs.Card.{leads, label_of}
use Rattle.picture.proofs.Claims.{ReadCode, ReadsBack, Blocks, none, one}
use Rattle.picture.proofs.Demand as demand
use Rattle.picture.proofs.Faithful as writing
use Rattle.picture.proofs.Histories.{Answering, answering}
use Rattle.reader.specs.declared.Format.{Format}
use Rattle.reader.specs.declared.Progress.{Progress}
use Rattle.reader.specs.declared.Phase.{Phase}
use Rattle.reader.specs.declared.Phase.TheVariants.{Reading, Complete}
use Rattle.reader.specs.declared.Reader.{Reader}
use Rattle.reader.specs.Reader.{at, alike, after, in_turn, taking_from, heard_of, slice_after}
use Rattle.reader.specs.Reader as defined
use Rattle.reader.specs.Book.{heard}
use Rattle.reader.proofs.Calls.{Card, Made, Ran, ends, after_open, after_block}
use Rattle.reader.proofs.Card.{next_reader, is_complete, card}
use Rattle.reader.proofs.Claims.{Given, bytes_and_slice, given, GivenInOrder, none, next, ReadRow, ReadRows, Together}
use Rattle.reader.proofs.Lists.{Faithful, faithful}
use Rattle.reader.proofs.Rows.{row_of}
use Rattle.reader.proofs.Sent.{Entered, sent_whole, sent_with}

-- ---- one block

-- what reading gives of the block of an entry
record ReadsAs (e : Entry) (bytes slice : List ℕ) : Type 0 where
  header : Header
  accepts : header_of bytes (length slice) ≡ accepted header
  system : number header.system ≡ e.system
  samples : header.samples ≡ e.width
  row : header.row ≡ e.row
  in_system : System
  numbered : number in_system ≡ e.system
  codes : (j : ℕ) → j < 3 * e.width → ReadCode in_system (get_or e.lights j 0) (get_or (block-reading.slice_after bytes slice) j 0)

labelled : (o : Outcome Header) (l : Label) → label_of o ≡ accepted l → (h : Header) × (o ≡ accepted h) × (number h.system ≡ l.system) × (h.samples ≡ l.samples) × (h.row ≡ l.row)
labelled (accepted h) l e = (h, refl, cc, cc, cc)
labelled (refused n) l e = cc

reads_as : {card : writer.Card} {bytes : List ℕ} {e : Entry} → writing.Faithful card → Answering card → ReadsBack card bytes e → (slice : List ℕ) → 3 * e.width ≤ length slice → ReadsAs e bytes slice
reads_as {card} {bytes} {e} does calls back slice long =
    let a = calls.reads bytes slice in
    let f = does.reads a.2 in
    let read = back.reads long a.2 in
    let l = labelled (header_of bytes (length slice)) _ (sym f.0 ∙ read.answer) in
    record {
      header = l.0;
      accepts = l.1;
      system = l.2;
      samples = l.3;
      row = l.4;
      in_system = back.system;
      numbered = back.numbered;
      codes = rw f.1 at read.codes;
    }

-- the first block that is given in order is the first one that was left
first_given : (w : ℕ) {l : Lent} {bytes slice : List ℕ} {ls : List Lent} {gs : List Given} → GivenInOrder w (l ∷ ls) (bytes_and_slice bytes slice ∷ gs)
    → (bytes ≡ take (9 + 6 * w) l.after) × (3 * w ≤ length slice) × GivenInOrder w ls gs
first_given w (next long later) = (refl, long, later)

-- ---- the reader on its way: i rows were accepted, of the system n and width w

module _ (n w h : ℕ) where
  abbrev Fits : Option Format → Type 0
  Fits None = Unit {0}
  Fits (Some f) = (number f.system ≡ n) × (f.width ≡ w)

  data At : ℕ → Phase → Type 0 where
    under : {i : ℕ} {p : Progress} → p.height ≡ h → p.next ≡ i → i < h → Fits p.format → At i (Reading p)
    whole : {i : ℕ} → i ≡ h → At i Complete

  fits_alike : (f : Option Format) (y : System) (v : ℕ) → Fits f → number y ≡ n → v ≡ w → alike f y v ≡ true
  fits_alike None y v g a b = refl
  fits_alike (Some f) y v g a b = grind (arith, nat_tests)

  -- the next block leads on
  record Led (f : Phase) (bytes slice : List ℕ) (hd : Header) (i : ℕ) : Type 0 where
    takes : heard_of (taking_from f bytes (length slice)) ≡ accepted hd
    leads_to : At i (leads (at f) (next_reader (taking_from f bytes (length slice)))).phase

  leads_on : {i : ℕ} {f : Phase} {bytes slice : List ℕ} {hd : Header} → At i f → i < h → header_of bytes (length slice) ≡ accepted hd → number hd.system ≡ n → hd.samples ≡ w → hd.row ≡ i
      → Led f bytes slice hd (i + 1)
  unfolding in_turn
  leads_on {i} {hd = hd} (under {p = p} tall at_row l g) more e a b row =
      let t = eq-eqb hd.row p.next (row ∙ sym at_row) in
      let u = fits_alike p.format hd.system hd.samples g a b in
      split (eqb (p.next + 1) p.height)
      (λ c.
      let last : p.next + 1 ≡ p.height = eqb-true _ _ c in
      let all : i + 1 ≡ h = omega arith in
      record { takes = simp (e, t, u); leads_to = simp (e, t, u, c) (whole all) })
      (λ c.
      let on = eqb-false (p.next + 1) p.height c in
      let here : p.next + 1 ≡ i + 1 = omega arith in
      let below : i + 1 < h = omega arith in
      record {
        takes = simp (e, t, u);
        leads_to = simp (e, t, u, c) (under {p = record { height = p.height; next = p.next + 1; format = Some (record { system = hd.system; width = hd.samples }) }} tall here below (a, b));
      })
  leads_on (whole last) more e a b row = absurd (omega arith)

  ends_complete : {i : ℕ} {f : Phase} → At i f → i ≡ h → is_complete f ≡ true
  ends_complete (under tall at_row l g) e = absurd (omega arith)
  ends_complete (whole last) e = refl

  module _ {writes : writer.Card} {reads : Card} (does : writing.Faithful writes) (calls : Answering writes) (takes : Faithful reads) where
    rows_return : {i : ℕ} {k q : reads.Reader} {ls : List Lent} {es : List Entry} {ms : List Made} → At i (takes.reader k).phase → i + length es ≡ h → Ran reads k ms q
        → Blocks writes ls es → Entered n w i es → GivenInOrder w ls (map given ms) → ReadRows es ms × (is_complete (takes.reader q).phase ≡ true)
    unfolding Entered
    rows_return g count ends none entered none = (none, ends_complete g (omega arith))
    rows_return {i} {k} g count (after_block {slice = slice} {left = left} {o = o} call run) (one {l = l} {e = e} back stays rest) entered shown =
        let first = first_given w shown in
        let bytes = take (9 + 6 * w) l.after in
        let own = subst (λ (v : ℕ). ReadsBack writes (take (9 + 6 * v) l.after) e) entered.1 back in
        let as_row = reads_as does calls own slice (rw entered.1 first.1) in
        let follows = takes.reads (rw first.0 at call) in
        let led = leads_on {f = (takes.reader k).phase} {bytes = bytes} {slice = slice} g (omega arith) as_row.accepts (as_row.system ∙ entered.0) (as_row.samples ∙ entered.1) (as_row.row ∙ entered.2) in
        let same : left ≡ block-reading.slice_after bytes slice = follows.slice_left ∙ ap (λ (k : Outcome Header). block-reading.slice_by k bytes slice) (led.takes ∙ sym as_row.accepts) in
        let row : ReadRow e o left = record {
          row = row_of as_row.header;
          heard = follows.answer ∙ ap told led.takes;
          system = as_row.system;
          row_number = as_row.row;
          samples = as_row.samples;
          in_system = as_row.in_system;
          numbered = as_row.numbered;
          codes = rw same as_row.codes;
        } in
        let others = rows_return {i = i + 1} (rw follows.next led.leads_to) (omega arith) run rest entered.3 first.2 in
        (next row others.0, others.1)
    rows_return g count ends (one back stays rest) entered shown = elim shown [ ]
    rows_return g count (after_open call run) sent entered shown = elim shown [ ]
    rows_return g count (after_block call run) none entered shown = elim shown [ ]

-- ---- any two cards that do what the definitions say

-- an opening with a height that a picture can have
begun : (r : Reader) (h : ℕ) → height_ok h ≡ true → (heard (defined.opening r h) ≡ accepted tt) × (leads r (defined.opening r h) ≡ at (Reading (record { height = h; next = 0; format = None })))
begun r h t = grind (arith, nat_tests)

pub together : {writes : writer.Card} {reads : Card} → writing.Faithful writes → Answering writes → Faithful reads → Together writes reads
together does calls takes = record {
  returns = λ {n} {w} {h} {cs} {ls} {k} {k'} sent opens ran in_order shown.
      let all = sent_whole does sent in
      let low = in_range_lem (record { low = 1; high = 4320 }) h all.tall in
      let f = takes.opens opens in
      let from = begun (takes.reader k) h all.tall in
      let starts : At n w h 0 (takes.reader k').phase = rw (f.1 ∙ from.1) (under {p = record { height = h; next = 0; format = None }} refl refl (omega arith) tt) in
      let read = rows_return n w h does calls takes starts (omega (arith, all.count)) ran all.blocks all.entered in_order in
      record { opened = f.0 ∙ from.0; all = all.count; rows = read.0; complete = takes.completes shown ∙ read.1 };
  sends = sent_with does calls;
}

pub returned : Together picture.card card
returned = together demand.faithful answering faithful
