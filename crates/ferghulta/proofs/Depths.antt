-- What is claimed of changing depths, of the exported functions.
-- Assumes nothing.
use Prim.Native.Nat.{ℕ}
use mathlib.Core.Path.{◌≡◌, refl, ap}
use mathlib.Core.List.{List}
use lib.ListN.{length}
use Rattle.exact.specs.Outcome.{Outcome}
use Rattle.exact.proofs.Lending.{lend, lend_mut, lifetimes}
use Rattle.systems.proofs.Answerable.{Answerable, values, refusing, never_0}
use Rattle.block.specs.declared.Header.{Header}
use Rattle.block.specs.Read.{header_of, slice_after}
use Rattle.block.proofs.Answerable.{reading_answerable}
use Rattle.depth.specs.Depth.{changing, buffer_after, heard}
use Rattle.depth.proofs.Claims.{Label, Claimed}
use Rattle.depth.proofs.Card.{label_of}
use Rattle.depth.proofs.Faithful.{claimed}
use Rattle.depth.proofs.Theorem.{changing_answerable}
use Rattle.ferghulta.specs.declared.calls.BlockAnswer.{BlockAnswer}
use Rattle.ferghulta.specs.Answers.{refusal_answer, block_answer}
use Rattle.ferghulta.proofs.Card.{outcome_by, depth_label_by, Changes, by_change_depth, LabelReads, by_read_label, depth_card}

tells : {o : Outcome (List ℕ)} {n : ℕ} → Answerable o → n ≡ refusal_answer (heard o) → outcome_by n ≡ heard o
tells (values p) e = ap outcome_by e
tells (refusing r) e = rw e (simp (never_0 r))

changes_so : {t : ℕ} {bs out left : List ℕ} {a : Outcome (Unit {0})} → Changes t bs out a left → (a ≡ heard (changing t bs (length out))) × (left ≡ buffer_after t bs out)
changes_so {t} (by_change_depth _ bs out _ _ _ _ post) = (tells (changing_answerable t bs.now (length out.now)) post.0, post.1)

labels : {o : Outcome Header} {a : BlockAnswer} → Answerable o → a ≡ block_answer o → depth_label_by a ≡ label_of o
labels (values h) e = ap depth_label_by e
labels (refusing r) e = rw e (simp (never_0 r))

reads_so : {bs slice : List ℕ} {r : Outcome Label} → LabelReads bs slice r → r ≡ label_of (header_of bs (length slice))
reads_so (by_read_label _ bs slice _ _ _ post) = labels (reading_answerable bs.now (length slice.now)) post.0

pub changed : Claimed depth_card
changed = claimed (record {
  changes = changes_so;
  reads = reads_so;
  happens = λ t bs out.
      (_, _, by_change_depth lifetimes (lend bs) (lend_mut out) (lend bs) (lend_mut (buffer_after t bs out)) t (refusal_answer (heard (changing t bs (length out)))) (refl, refl));
  reading = λ bs slice.
      (_, by_read_label lifetimes (lend bs) (lend_mut slice) (lend bs) (lend_mut (slice_after bs slice)) (block_answer (header_of bs (length slice))) (refl, refl));
})
