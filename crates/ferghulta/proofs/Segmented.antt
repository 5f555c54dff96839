-- What is claimed of moving rows, of the exported functions.
-- Assumes nothing.
use Prim.Native.Nat.{ℕ}
use mathlib.Core.Path.{◌≡◌, refl, ap}
use mathlib.Core.List.{List}
use lib.ListN.{length}
use Rattle.exact.specs.Outcome.{Outcome}
use Rattle.exact.proofs.Lending.{lend, lend_mut, lifetimes}
use Rattle.systems.proofs.Answerable.{Answerable, values, refusing, never_0}
use Rattle.segmented.specs.declared.Order.{Order}
use Rattle.segmented.specs.declared.Order.TheVariants.{Segmented, Progressive}
use Rattle.segmented.specs.Segmented.{move_outcome, buffer_after}
use Rattle.segmented.proofs.Claims.{Claimed}
use Rattle.segmented.proofs.Moving.{move_answerable, claimed}
use Rattle.ferghulta.specs.Answers.{refusal_answer}
use Rattle.ferghulta.proofs.Card.{outcome_by, Moves, by_to_segmented, by_to_progressive}

tells : {a : Outcome (Unit {0})} {n : ℕ} → Answerable a → n ≡ refusal_answer a → outcome_by n ≡ a
tells (values u) e = ap outcome_by e
tells (refusing r) e = rw e (simp (never_0 r))

follows : {o : Order} {bs out left : List ℕ} {a : Outcome (Unit {0})} → Moves o bs out a left → (a ≡ move_outcome (length bs) (length out)) × (left ≡ buffer_after o bs out)
follows (by_to_segmented _ bs out _ _ _ post) = (tells (move_answerable (length bs.now) (length out.now)) post.0, post.1)
follows (by_to_progressive _ bs out _ _ _ post) = (tells (move_answerable (length bs.now) (length out.now)) post.0, post.1)

happens : (o : Order) (bs out : List ℕ) → (a : Outcome (Unit {0})) × (left : List ℕ) × Moves o bs out a left
happens Segmented bs out = (_, _, by_to_segmented lifetimes (lend bs) (lend_mut out) (lend bs) (lend_mut (buffer_after Segmented bs out)) (refusal_answer (move_outcome (length bs) (length out))) (refl, refl))
happens Progressive bs out = (_, _, by_to_progressive lifetimes (lend bs) (lend_mut out) (lend bs) (lend_mut (buffer_after Progressive bs out)) (refusal_answer (move_outcome (length bs) (length out))) (refl, refl))

pub moving : Claimed Moves
moving = claimed (record { follows = follows; happens = happens })
