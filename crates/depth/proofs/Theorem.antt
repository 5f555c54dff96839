-- The calls' own statements and the claim of them, in one; and the request's figures.
-- Assumes nothing.
use Prim.Native.Nat.{ℕ}
use mathlib.Core.Path.{◌≡◌, refl, ap}
use mathlib.Core.List.{List, [], ◌∷◌}
use lib.Dec.{leb}
use lib.ListN.{length}
use Rattle.exact.specs.Outcome.{Outcome, accepted, refused}
use Rattle.exact.specs.Whole.{INT}
use Rattle.exact.proofs.Lending.{lend, lend_mut, lifetimes}
use Rattle.systems.specs.declared.System.{System}
use Rattle.systems.specs.declared.refusal.Refusal.TheVariants as refusal
use Rattle.systems.proofs.Answerable.{Answerable, values, refusing, tested, followed, named_answerable}
use Rattle.block.specs.Block.{fields, section, block, size, tabulate}
use Rattle.block.specs.Read.{sections, walk, within_to, judge, header_of, slice_after}
use Rattle.block.proofs.Answerable.{judge_answerable, read_for}
use Rattle.block.proofs.read_block.Statement as read-statement
use Rattle.block.proofs.read_block.Met as read-met
use Rattle.depth.specs.Depth.{other_depth, no_timing_to, row_in, block_in, judge_for, changing, buffer_after, heard}
use Rattle.depth.proofs.change_depth.Statement as change-statement
use Rattle.depth.proofs.change_depth.Met as change-met
use Rattle.depth.proofs.Claims.{Label, Claimed}
use Rattle.depth.proofs.Card.{label_of, Changes, by_change_depth, Reads, by_read_block, card}
use Rattle.depth.proofs.Faithful.{Faithful, claimed}
use Rattle.std.specs.Prelude.{Result, Ok, Err}
use Rattle.systems.specs.declared.refusal.Refusal.{Refusal}
use Rattle.systems.specs.Refusals.{outcome}

-- ---- every call comes to something

judge_for_answerable : (z : System) (bs : List ℕ) → Answerable (judge_for z bs)
unfolding judge_for
judge_for_answerable z bs =
    followed (judge_answerable bs) (λ b.
    tested (other_depth b.system z) refusal.Target
    (tested (no_timing_to z (row_in z b bs) b.samples) refusal.Timing (values b)))

pub changing_answerable : (t : ℕ) (bs : List ℕ) (room : ℕ) → Answerable (changing t bs room)
unfolding changing
changing_answerable t bs room =
    followed (named_answerable t) (λ z.
    followed (judge_for_answerable z bs) (λ b.
    tested (leb (size b.samples) room) refusal.Output (values (block_in z b bs))))

-- an answer that says what is heard of an outcome
heard_for : {o : Outcome (List ℕ)} → Answerable o → (r : Result (Unit {0}) Refusal) × (outcome r ≡ heard o)
heard_for (values p) = (Ok tt, refl)
heard_for (refusing r) = (Err r, refl)

follows : {t : ℕ} {bs out left : List ℕ} {a : Outcome (Unit {0})} → Changes t bs out a left → (a ≡ heard (changing t bs (length out))) × (left ≡ buffer_after t bs out)
follows (by_change_depth _ _ _ _ _ _ _ post) = post

reads_so : {bs slice : List ℕ} {r : Outcome Label} → Reads bs slice r → r ≡ label_of (header_of bs (length slice))
reads_so (by_read_block _ _ _ _ _ _ post) = ap label_of post.0

faithful : Faithful card
faithful = record {
  changes = follows;
  reads = reads_so;
  happens = λ t bs out.
      let r = heard_for (changing_answerable t bs (length out)) in
      (_, _, by_change_depth lifetimes (lend bs) (lend_mut out) (lend bs) (lend_mut (buffer_after t bs out)) t r.0 (r.1, refl));
  reading = λ bs slice.
      let r = read_for bs (length slice) in
      (_, by_read_block lifetimes (lend bs) (lend_mut slice) (lend bs) (lend_mut (slice_after bs slice)) r.0 (r.1, refl));
}

-- each `Post` of the card is that of a contract which the routine meets
pub record Theorem : Type 3 where
  pub changes : {M : Type 1} → change-statement.statement M
  pub reads : {M : Type 1} → read-statement.statement M
  pub claims : Claimed card

pub theorem : Theorem
theorem = record { changes = change-met.met; reads = read-met.met; claims = claimed faithful }

-- ---- the request's figures, and those of the other Recommendation

-- a block of one sample, of which Y' is w and Cb and Cr are m
abbrev one : ℕ → ℕ → ℕ → List ℕ
one n w m = block n 0 (w ∷ []) (m ∷ []) (m ∷ [])

record Figures : Type 0 where
  becomes_254 : changing 1 (one 2 1017 512) 15 ≡ accepted (one 1 254 128)
  rejected_1018 : changing 1 (one 2 1018 512) 15 ≡ refused 33
  becomes_1019 : changing 3 (one 4 4077 2048) 15 ≡ accepted (one 3 1019 512)
  rejected_4078 : changing 3 (one 4 4078 2048) 15 ≡ refused 33

figures : Figures
unfolding changing judge_for judge walk sections within_to no_timing_to block_in block section fields tabulate INT
figures = record { becomes_254 = refl; rejected_1018 = refl; becomes_1019 = refl; rejected_4078 = refl }
