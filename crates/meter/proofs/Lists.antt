-- The claim on every list of reads, of any card that does what the definitions say, and so of this crate's.
-- Assumes nothing.
use Prim.Native.Nat.{ℕ}
use mathlib.Core.Path.{◌≡◌, refl, sym, ap, ◌∙◌}
use mathlib.Core.Bool.{Bool, true, false}
use mathlib.Core.List.{List, [], ◌∷◌, ◌++◌, append-nil, append_assoc}
use native.Mathlib.Omega.{arith}
use lib.ListN.{length, length-set}
use Rattle.exact.specs.Outcome.{Outcome, accepted, refused}
use Rattle.exact.proofs.Lending.{lend, lend_mut, lifetimes}
use Rattle.matrix.specs.declared.Clips.{Clips}
use Rattle.block.specs.declared.Header.{Header}
use Rattle.block.specs.Read.{header_of, slice_by, slice_after}
use Rattle.block.proofs.Answerable.{read_for}
use Rattle.block.proofs.Told.{Row, told, blocks_so}
use Rattle.meter.specs.declared.Meter.{Meter}
use Rattle.meter.specs.declared.Figures.{Figures}
use Rattle.std.specs.Prelude.{sum}
use Rattle.meter.specs.Meter.{empty, whole, kept, entered, metering, shown, figures}
use Rattle.meter.proofs.Calls.{Card, Read, Ran, ends, after}
use Rattle.meter.proofs.Card.{Reads, by_read, Shows, by_figures, card}
use Rattle.meter.proofs.Claims.{entry, entries, lows, highs, latest, over, Arrays, held, held_lows, held_highs, Given, given, Claimed}
use Rattle.meter.proofs.Turns.{Whole, whole_parts, parts_whole, kept_whole, InTurn, in_turn_lem, turn_test, next_turn, at_most_64}
use Rattle.meter.proofs.Windows.{latest_few, held_length, held_total, held_next}

-- ---- a meter, and the history of which it holds the latest

record Holds (m : Meter) (ls hs : List ℕ) : Type 0 where
  parts : Whole m
  arrays : Arrays m
  lows : held m.lows m.place m.rows ≡ latest ls
  highs : held m.highs m.place m.rows ≡ latest hs

turn_of_lem : {m : Meter} → Whole m → InTurn m.place m.rows
turn_of_lem w = in_turn_lem _ _ w.turn

module _ {m : Meter} {ls hs : List ℕ} (g : Holds m ls hs) where
  enters : (k : Clips) → Holds (entered m k) (ls ++ k.low ∷ []) (hs ++ k.high ∷ [])
  enters k =
      let t = turn_of_lem g.parts in
      record {
        parts = record { turn = turn_test (next_turn t); low = refl; high = refl };
        arrays = record { lows = length-set m.lows _ _ ∙ g.arrays.lows; highs = length-set m.highs _ _ ∙ g.arrays.highs };
        lows = held_next m.lows g.arrays.lows t k.low ls g.lows;
        highs = held_next m.highs g.arrays.highs t k.high hs g.highs;
      }

  shows_sums : shown m ≡ over ls hs
  shows_sums =
      let t = turn_of_lem g.parts in
      let rows = sym (held_length m.lows g.arrays.lows t) ∙ ap length g.lows in
      let low = g.parts.low ∙ sym (held_total m.lows g.arrays.lows t) ∙ ap sum g.lows in
      let high = g.parts.high ∙ sym (held_total m.highs g.arrays.highs t) ∙ ap sum g.highs in
      cc

-- whatever was kept holds the rows that it holds
kept_holds : (m : Meter) → Arrays (kept m) → Holds (kept m) (held_lows m) (held_highs m)
kept_holds m a =
    let w = whole_parts (kept m) (kept_whole m) in
    let t = turn_of_lem w in
    record {
      parts = w;
      arrays = a;
      lows = sym (latest_few (held_lows m) (omega (arith, at_most_64 t, held_length (kept m).lows a.lows t)));
      highs = sym (latest_few (held_highs m) (omega (arith, at_most_64 t, held_length (kept m).highs a.highs t)));
    }

kept_arrays : (m : Meter) → Arrays m → Arrays (kept m)
kept_arrays m a = by (whole m) refl
  where
    by : (t : Bool) → whole m ≡ t → Arrays (kept m)
    by true e = rw e a
    by false e = rw e record { lows = a.lows; highs = a.highs }

whole_kept : {m : Meter} → Whole m → kept m ≡ m
whole_kept {m} w = rw (parts_whole m w)

empty_holds : Holds (kept empty) [] []
unfolding whole
empty_holds = record {
  parts = record { turn = refl; low = refl; high = refl };
  arrays = record { lows = refl; highs = refl };
  lows = refl;
  highs = refl;
}

-- ---- a card that does what the definitions say

-- a read came to this
pub record Follows (m : Meter) (bytes slice : List ℕ) (o : Outcome Row) (left : List ℕ) (m' : Meter) : Type 0 where
  pub answer : o ≡ told (header_of bytes (length slice))
  pub slice_left : left ≡ slice_after bytes slice
  pub meter : m' ≡ metering m (header_of bytes (length slice))

pub record Faithful (card : Card) : Type 0 where
  pub empties : {m : Meter} → card.Empty m → m ≡ empty
  pub reads : {m m' : Meter} {bytes slice left : List ℕ} {o : Outcome Row} → card.Read m bytes slice o left m' → Follows m bytes slice o left m'
  pub blocks : {bytes slice left : List ℕ} {o : Outcome Row} → card.Block bytes slice o left → (o ≡ told (header_of bytes (length slice))) × (left ≡ slice_after bytes slice)
  pub shows : {m : Meter} {f : Figures} → card.Shows m f → f ≡ figures m
  -- each call comes to something
  pub begins : card.Empty empty
  pub reading : (m : Meter) (bytes slice : List ℕ) → (o : Outcome Row) × (left : List ℕ) × (m' : Meter) × card.Read m bytes slice o left m'
  pub showing : (m : Meter) → (f : Figures) × card.Shows m f

-- a reading enters its row, or nothing
one : (o : Outcome Header) (m : Meter) {m' : Meter} {ls hs : List ℕ} → Holds (kept m) ls hs → m' ≡ metering m o
    → Holds (kept m') (ls ++ entry (λ w. w.low) (told o)) (hs ++ entry (λ w. w.high) (told o))
one (accepted h) m g e = let after = enters g h.clips in rw (e, whole_kept after.parts) after
one (refused n) m {ls = ls} {hs = hs} g e = rw (e, append-nil ls, append-nil hs) g

refused_told : (o : Outcome Header) (n : ℕ) (m : Meter) (bytes slice : List ℕ) → refused n ≡ told o → (metering m o ≡ m) × (slice_by o bytes slice ≡ slice)
refused_told (accepted h) n m bytes slice e = let z : ◌≡◌ {A = ℕ} 0 1 = cc in absurd (omega arith)
refused_told (refused k) n m bytes slice e = (refl, refl)

module _ {card : Card} (does : Faithful card) where
  run : {m q : Meter} {rs : List Read} {ls hs : List ℕ} → Holds (kept m) ls hs → Ran card m rs q → Holds (kept q) (ls ++ lows rs) (hs ++ highs rs)
  unfolding entries
  run {ls = ls} {hs = hs} g ends = rw (append-nil ls, append-nil hs) g
  run {m = m} {ls = ls} {hs = hs} g (after {r = r} {rs = rs} call rest) =
      let f = does.reads call in
      let o = header_of r.bytes (length r.slice) in
      rw (f.answer, ← append_assoc ls (entry (λ w. w.low) (told o)) (lows rs), ← append_assoc hs (entry (λ w. w.high) (told o)) (highs rs))
      (run (one o m g f.meter) rest)

  runs : (gs : List Given) (m : Meter) → (rs : List Read) × (q : Meter) × Ran card m rs q × (given rs ≡ gs)
  runs [] m = ([], m, ends, refl)
  runs (g ∷ gs) m =
      let a = does.reading m g.bytes g.slice in
      let k = runs gs a.2 in
      let r : Read = record { bytes = g.bytes; slice = g.slice; heard = a.0; left = a.1 } in
      (r ∷ k.0, k.1, after a.3 k.2, ap (λ (s : List Given). g ∷ s) k.3)

  pub claimed : Claimed card
  claimed = record {
    sums = λ made ran shown. does.shows shown ∙ shows_sums (run {ls = []} {hs = []} (rw (does.empties made) empty_holds) ran);
    from_any = λ {m} a ran shown. does.shows shown ∙ shows_sums (run (kept_holds m (kept_arrays m a)) ran);
    reads = λ call other.
        let f = does.reads call in
        let b = does.blocks other in
        (f.answer ∙ sym b.0, f.slice_left ∙ sym b.1);
    refuses = λ {m} {m'} {bytes} {slice} {left} {n} call.
        let f = does.reads call in
        let same = refused_told (header_of bytes (length slice)) n m bytes slice f.answer in
        (f.meter ∙ same.0, f.slice_left ∙ same.1);
    happens = λ gs.
        let k = runs gs empty in
        let f = does.showing k.1 in
        record { start = empty; made = does.begins; rs = k.0; last = k.1; ran = k.2; same = k.3; figures = f.0; shown = f.1 };
  }

-- ---- this crate's card

reads_so : {m m' : Meter} {bytes slice left : List ℕ} {o : Outcome Row} → Reads m bytes slice o left m' → Follows m bytes slice o left m'
reads_so (by_read _ _ _ _ _ r _ post) = record { answer = ap told post.0; slice_left = post.1.0; meter = post.1.1 }

shows_so : {m : Meter} {f : Figures} → Shows m f → f ≡ figures m
shows_so (by_figures _ post) = post

faithful : Faithful card
faithful = record {
  empties = λ made. made;
  reads = reads_so;
  blocks = blocks_so;
  shows = shows_so;
  begins = refl;
  reading = λ m bytes slice.
      let a = read_for bytes (length slice) in
      let after : Meter = metering m (header_of bytes (length slice)) in
      (_, _, _, by_read lifetimes (lend bytes) (lend_mut slice) (lend bytes) (lend_mut (slice_after bytes slice)) (record { read = a.0; meter = after }) m (a.1, (refl, refl)));
  showing = λ m. (_, by_figures m refl);
}

pub metered : Claimed card
unfolding faithful
metered = claimed faithful
