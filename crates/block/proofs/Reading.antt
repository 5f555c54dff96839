-- What the caller hears and the slice that is left, by what was judged of the block.
-- Assumes nothing.
use mathlib.Core.Path.{◌≡◌, refl, sym, ap, ◌∙◌}
use mathlib.Core.Bool.{true}
use mathlib.Core.List.{List, ◌++◌}
use Prim.Native.Nat.{ℕ, ◌*◌, ◌≤◌}
use native.Mathlib.Omega.{arith}
use lib.Dec.{leb}
use lib.ListN.{length, drop}
use lib.Seq.{drop_at}
use borrow.Author.Tests.{le-leb, leb-true}
use Rattle.exact.specs.Outcome.{Outcome, accepted, refused}
use Rattle.exact.proofs.Outcome.{accepted_first, required}
use Rattle.matrix.proofs.Tested.{twelve_bits}
use Rattle.block.specs.declared.Header.{Header}
use Rattle.block.specs.declared.Judged.{Judged}
use Rattle.block.specs.Read.{walk, words_ok, judge, row_of, codes_to, header, header_of, slice_by, slice_after}
use Rattle.block.specs.Inner.{Decodable}
use Rattle.block.proofs.Walking.{Sectioned, walk_accepted}
use Rattle.block.proofs.Ranges.{within_at}
use Rattle.block.proofs.Decoding.{length_codes, length_kept}

-- a judged block has its samples, no byte more, and words of video data
pub record Sound (bs : List ℕ) (b : Judged) : Type 0 where
  pub shape : Sectioned bs b.samples
  pub row : b.row ≤ 4319
  pub words : words_ok b bs ≡ true

pub judged_sound : (bs : List ℕ) (b : Judged) → judge bs ≡ accepted b → Sound bs b
unfolding judge
judged_sound bs b e =
    let walked = accepted_first (walk bs) _ b e in
    let a = walked.0 in
    let tested = required (words_ok a bs) 6 a b walked.2 in
    let shape = walk_accepted bs a walked.1 in
    rw (← tested.1) record { shape = shape.0; row = shape.1; words = tested.0 }

module _ (bs : List ℕ) (room : ℕ) where
  -- what judging refuses is refused whatever the room is
  pub judge_refused : (n : ℕ) → judge bs ≡ refused n → header_of bs room ≡ refused n
  unfolding header_of
  judge_refused n e = rw e

  module _ (b : Judged) (e : judge bs ≡ accepted b) where
    pub row_accepted : 3 * b.samples ≤ room → header_of bs room ≡ accepted (header b bs)
    unfolding header_of
    row_accepted h = rw (e, le-leb (3 * b.samples) room h)

    pub decodable : 3 * b.samples ≤ room → Decodable bs b.samples room
    decodable h =
        let sound = judged_sound bs b e in
        record {
          long = omega (arith, sound.shape.size);
          narrow = sound.shape.most;
          words = λ i l. twelve_bits b.system _ (within_at _ _ _ i sound.words l);
          fits = h;
        }

    pub decodable_by_test : leb (3 * b.samples) room ≡ true → Decodable bs b.samples room
    decodable_by_test h = decodable (leb-true (3 * b.samples) room h)

module _ (bs slice : List ℕ) where
  pub slice_stays : (n : ℕ) → header_of bs (length slice) ≡ refused n → slice ≡ slice_after bs slice
  slice_stays n e = ap (λ (o : Outcome Header). slice_by o bs slice) (sym e)

  pub codes_in_front : (h : Header) → header_of bs (length slice) ≡ accepted h
      → codes_to (row_of h.system bs h.samples) h.samples ++ drop (3 * h.samples) slice ≡ slice_after bs slice
  codes_in_front h e = ap (λ (o : Outcome Header). slice_by o bs slice) (sym e)

-- the bounds of an accepted block: it has no byte more than its samples take
pub record InBounds (bs : List ℕ) (room : ℕ) (h : Header) : Type 0 where
  pub shape : Sectioned bs h.samples
  pub row : h.row ≤ 4319
  pub fits : 3 * h.samples ≤ room

pub accepted_has_its_length : (bs : List ℕ) (room : ℕ) (h : Header) → header_of bs room ≡ accepted h → InBounds bs room h
unfolding header_of
accepted_has_its_length bs room h e =
    let judged = accepted_first (judge bs) _ h e in
    let b = judged.0 in
    let ends = required (leb (3 * b.samples) room) 5 (header b bs) h judged.2 in
    let sound = judged_sound bs b judged.1 in
    rw (← ends.1) record { shape = sound.shape; row = sound.row; fits = leb-true (3 * b.samples) room ends.0 }

-- reading neither grows the slice nor shortens it
pub slice_keeps_its_length : (bs slice : List ℕ) → length (slice_after bs slice) ≡ length slice
slice_keeps_its_length bs slice = go (header_of bs (length slice)) refl
  where
    go : (o : Outcome Header) → header_of bs (length slice) ≡ o → length (slice_by o bs slice) ≡ length slice
    go (accepted h) e = length_kept (row_of h.system bs h.samples) h.samples slice (accepted_has_its_length bs (length slice) h e).fits
    go (refused n) e = refl

-- the words beyond the codes stay
pub words_beyond_stay : (bs slice : List ℕ) (h : Header) → header_of bs (length slice) ≡ accepted h → drop (3 * h.samples) (slice_after bs slice) ≡ drop (3 * h.samples) slice
words_beyond_stay bs slice h e =
    let row = row_of h.system bs h.samples in
    ap (drop (3 * h.samples)) (sym (codes_in_front bs slice h e))
    ∙ drop_at (codes_to row h.samples) (drop (3 * h.samples) slice) (3 * h.samples) (length_codes row h.samples)
