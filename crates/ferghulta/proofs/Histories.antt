-- Every exported call comes to something, so that the claim on lists of them speaks of every list.
-- Assumes nothing.
use mathlib.Core.Path.{refl}
use lib.ListN.{length}
use Rattle.exact.proofs.Lending.{lend, lend_mut, lifetimes}
use Rattle.block.specs.Read.{header_of, slice_after}
use Rattle.picture.specs.declared.Phase.TheVariants.{Fresh}
use Rattle.picture.specs.Picture.{at, total_bytes, opening, rowing, buffer_after, closing}
use Rattle.picture.proofs.Histories.{Answering}
use Rattle.ferghulta.specs.Answers.{block_answer}
use Rattle.ferghulta.specs.Stored.{stored, picture_of, picture_answer, total_answer}
use Rattle.ferghulta.proofs.Card.{by_open, by_row, by_close, by_read_block, by_total_bytes, card}

pub answering : Answering card
answering = record {
  news = (stored (at Fresh 0), refl);
  opens = λ k n w h. (_, _, by_open (picture_answer k (opening (picture_of k) n w h)) k n w h refl);
  rows = λ k lights out.
      let a = picture_answer k (rowing (picture_of k) lights (length out)) in
      (_, _, _, by_row lifetimes (lend lights) (lend_mut out) (lend lights) (lend_mut (buffer_after (picture_of k) lights out)) a k (refl, refl));
  closes = λ k. (_, _, by_close (picture_answer k (closing (picture_of k))) k refl);
  reads = λ bytes slice.
      let a = block_answer (header_of bytes (length slice)) in
      (_, _, by_read_block lifetimes (lend bytes) (lend_mut slice) (lend bytes) (lend_mut (slice_after bytes slice)) a (refl, refl));
  totals = λ w h. (_, by_total_bytes (total_answer (total_bytes w h)) w h refl);
}
