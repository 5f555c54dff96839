-- A block's turn, asked before it is read, and then its reading come to what the call comes to.
-- Assumes nothing.
use Prim.Native.Nat.{ℕ, ◌*◌}
use mathlib.Core.Path.{◌≡◌, refl, sym, ap, ◌∙◌}
use mathlib.Core.Bool.{Bool, true, false}
use mathlib.Core.List.{List}
use lib.Dec.{leb}
use lib.ListN.{length}
use Rattle.exact.specs.Outcome.{Outcome, accepted, refused, ◌and_then◌, require}
use Rattle.block.specs.declared.Header.{Header}
use Rattle.block.specs.declared.Judged.{Judged}
use Rattle.block.specs.Read as block
use Rattle.block.specs.Read.{walk, words_ok, judge, header, header_of}
use Rattle.reader.specs.declared.Progress.{Progress}
use Rattle.reader.specs.declared.Phase.{Phase}
use Rattle.reader.specs.declared.Phase.TheVariants.{Unopened, Reading, Complete}
use Rattle.reader.specs.declared.Reader.{Reader}
use Rattle.reader.specs.declared.Taken.{Taken}
use Rattle.reader.specs.Reader.{in_turn, row_to, taking_from, taking, heard_of, slice_after}
use Rattle.reader.specs.Inner.{turn_by, turn_from, turn_at, turn_of}

-- what reading makes of a walked block: its header, or a refusal (one grind over all the tests stops at its limit of case splits)
data ReadsAs (b : Judged) (bs : List ℕ) : Outcome Header → Type 0 where
  as_row : ReadsAs b bs (accepted (header b bs))
  refused_by : (n : ℕ) → ReadsAs b bs (refused n)

-- a reading that is accepted gives the header, with the reader that the turn gave
abbrev pub with_reader : Outcome Header → Reader → Outcome Taken
with_reader o r = o and_then λ h. accepted (record { header = h; reader = r })

module _ (bs : List ℕ) (room : ℕ) where
  module _ (b : Judged) where
    by_room : (t : Bool) → ReadsAs b bs (require t 5 (accepted (header b bs)))
    by_room true = as_row
    by_room false = refused_by 5

    by_words : (t : Bool) → ReadsAs b bs (require t 6 (accepted b) and_then λ a. require (leb (3 * a.samples) room) 5 (accepted (header a bs)))
    by_words true = by_room (leb (3 * b.samples) room)
    by_words false = refused_by 6

    reads_as : walk bs ≡ accepted b → ReadsAs b bs (header_of bs room)
    unfolding header_of judge
    reads_as e = rw e (by_words (words_ok b bs))

  walk_refused : (n : ℕ) → walk bs ≡ refused n → header_of bs room ≡ refused n
  unfolding header_of judge
  walk_refused n e = rw e

  module _ (p : Progress) where
    by_reading : {b : Judged} {o : Outcome Header} → ReadsAs b bs o → (k : Outcome Reader) → in_turn p b.system b.row b.samples ≡ k
        → (o and_then λ h. row_to p h) ≡ (turn_by k o and_then with_reader o)
    by_reading as_row (accepted r) e = rw e
    by_reading as_row (refused n) e = rw e
    by_reading (refused_by m) (accepted r) e = refl
    by_reading (refused_by m) (refused n) e = refl

    from_progress : (header_of bs room and_then λ h. row_to p h) ≡ (turn_from p bs room and_then with_reader (header_of bs room))
    unfolding turn_from
    from_progress = by (walk bs) refl
      where
        by : (o : Outcome Judged) → walk bs ≡ o → (header_of bs room and_then λ h. row_to p h) ≡ (turn_from p bs room and_then with_reader (header_of bs room))
        by (accepted b) e = rw e (by_reading (reads_as b e) (in_turn p b.system b.row b.samples) refl)
        by (refused n) e = rw (e, walk_refused n e)

  pub turn_then_reading : (f : Phase) → taking_from f bs room ≡ (turn_at f bs room and_then with_reader (header_of bs room))
  turn_then_reading Unopened = refl
  turn_then_reading (Reading p) = from_progress p
  turn_then_reading Complete = refl

heard_with : (o : Outcome Header) (r : Reader) → heard_of (with_reader o r) ≡ o
heard_with (accepted h) r = refl
heard_with (refused n) r = refl

module _ (r : Reader) (bs slice : List ℕ) where
  -- the next row is for reading to accept or refuse
  pub next_row : {q : Reader} → turn_of r bs (length slice) ≡ accepted q
      → (taking r bs (length slice) ≡ with_reader (header_of bs (length slice)) q) × (block.slice_after bs slice ≡ slice_after r bs slice)
  next_row {q} e =
      let o = header_of bs (length slice) in
      let same = turn_then_reading bs (length slice) r.phase ∙ ap (λ (k : Outcome Reader). k and_then with_reader o) e in
      (same, ap (λ (k : Outcome Header). block.slice_by k bs slice) (sym (ap heard_of same ∙ heard_with o q)))

  -- what its turn refuses is refused, and nothing is written
  pub no_turn : {n : ℕ} → turn_of r bs (length slice) ≡ refused n → (taking r bs (length slice) ≡ refused n) × (slice ≡ slice_after r bs slice)
  no_turn e =
      let same = turn_then_reading bs (length slice) r.phase ∙ ap (λ (k : Outcome Reader). k and_then with_reader (header_of bs (length slice))) e in
      (same, ap (λ (k : Outcome Taken). block.slice_by (heard_of k) bs slice) (sym same))

  -- and where it accepts
  pub row_read : {q : Reader} {h : Header} {left : List ℕ} → accepted q ≡ turn_of r bs (length slice) → accepted h ≡ header_of bs (length slice) → left ≡ block.slice_after bs slice
      → (accepted (record { header = h; reader = q }) ≡ taking r bs (length slice)) × (left ≡ slice_after r bs slice)
  row_read {q} e f g =
      let turned = next_row (sym e) in
      (sym (turned.0 ∙ ap (λ (o : Outcome Header). with_reader o q) (sym f)), g ∙ turned.1)
