-- What is claimed of metered reads, of the exported functions.
-- Assumes nothing.
use Prim.Native.Nat.{ℕ}
use mathlib.Core.Path.{◌≡◌, refl, ap}
use mathlib.Core.List.{List}
use lib.ListN.{length}
use Rattle.exact.specs.Outcome.{Outcome}
use Rattle.exact.proofs.Lending.{lend, lend_mut, lifetimes}
use Rattle.systems.proofs.Answerable.{Answerable, values, refusing, never_0}
use Rattle.block.specs.declared.Header.{Header}
use Rattle.block.specs.Read.{header_of, slice_after}
use Rattle.block.proofs.Answerable.{reading_answerable}
use Rattle.block.proofs.Told.{Row, told}
use Rattle.meter.specs.declared.Figures.{Figures}
use Rattle.meter.specs.declared.Meter.{Meter}
use Rattle.meter.specs.Meter.{figures}
use Rattle.meter.proofs.Claims.{Claimed}
use Rattle.meter.proofs.Lists.{Follows, claimed}
use Rattle.ferghulta.specs.declared.calls.BlockAnswer.{BlockAnswer}
use Rattle.ferghulta.specs.declared.meter_calls.MeteredAnswer.{MeteredAnswer}
use Rattle.ferghulta.specs.Answers.{block_answer, metered_answer}
use Rattle.ferghulta.proofs.Card.{row_by, MeteredReads, by_read_metered, BlockReads, by_read, Shows, by_figures, meter_card}

pub tells : {o : Outcome Header} {a : BlockAnswer} → Answerable o → a ≡ block_answer o → row_by a ≡ told o
tells (values h) e = ap row_by e
tells (refusing r) e = rw e (simp (never_0 r))

reads_so : {m m' : Meter} {bytes slice left : List ℕ} {o : Outcome Row} → MeteredReads m bytes slice o left m' → Follows m bytes slice o left m'
reads_so (by_read_metered _ bytes slice _ _ a _ post) = record {
  answer = tells (reading_answerable bytes.now (length slice.now)) (ap (λ (x : MeteredAnswer). x.block) post.0);
  slice_left = post.1;
  meter = ap (λ (x : MeteredAnswer). x.meter) post.0;
}

pub blocks_so : {bytes slice left : List ℕ} {o : Outcome Row} → BlockReads bytes slice o left → (o ≡ told (header_of bytes (length slice))) × (left ≡ slice_after bytes slice)
blocks_so (by_read _ bytes slice _ _ a post) = (tells (reading_answerable bytes.now (length slice.now)) post.0, post.1)

shows_so : {m : Meter} {f : Figures} → Shows m f → f ≡ figures m
shows_so (by_figures _ post) = post

pub metered : Claimed meter_card
metered = claimed (record {
  empties = λ made. made;
  reads = reads_so;
  blocks = blocks_so;
  shows = shows_so;
  begins = refl;
  reading = λ m bytes slice.
      (_, _, _, by_read_metered lifetimes (lend bytes) (lend_mut slice) (lend bytes) (lend_mut (slice_after bytes slice)) (metered_answer m (header_of bytes (length slice))) m (refl, refl));
  showing = λ m. (_, by_figures m refl);
})
