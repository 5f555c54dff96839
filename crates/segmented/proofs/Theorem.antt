-- The calls' own statements, and the claim of them, in one.
-- Assumes nothing.
use Prim.Native.Nat.{ℕ}
use mathlib.Core.Path.{◌≡◌, refl}
use mathlib.Core.List.{List}
use lib.ListN.{length}
use Rattle.exact.specs.Outcome.{Outcome}
use Rattle.exact.proofs.Lending.{lend, lend_mut, lifetimes}
use Rattle.systems.proofs.Answerable.{answer_for}
use Rattle.segmented.specs.declared.Order.{Order}
use Rattle.segmented.specs.declared.Order.TheVariants.{Segmented, Progressive}
use Rattle.segmented.specs.Segmented.{move_outcome, buffer_after}
use Rattle.segmented.proofs.to_segmented.Statement as to-segmented-statement
use Rattle.segmented.proofs.to_segmented.Met as to-segmented-met
use Rattle.segmented.proofs.to_progressive.Statement as to-progressive-statement
use Rattle.segmented.proofs.to_progressive.Met as to-progressive-met
use Rattle.segmented.proofs.Claims.{Claimed}
use Rattle.segmented.proofs.Card.{Moves, by_to_segmented, by_to_progressive}
use Rattle.segmented.proofs.Moving.{move_answerable, claimed}
use Rattle.std.specs.Prelude.{Result}
use Rattle.systems.specs.declared.refusal.Refusal.{Refusal}
use Rattle.systems.specs.Refusals.{outcome}

follows : {o : Order} {bs out left : List ℕ} {a : Outcome (Unit {0})} → Moves o bs out a left → (a ≡ move_outcome (length bs) (length out)) × (left ≡ buffer_after o bs out)
follows (by_to_segmented _ _ _ _ _ _ post) = post
follows (by_to_progressive _ _ _ _ _ _ post) = post

happens : (o : Order) (bs out : List ℕ) → (a : Outcome (Unit {0})) × (left : List ℕ) × Moves o bs out a left
happens o bs out = go o (answer_for (move_answerable (length bs) (length out)))
  where
    go : (o : Order) → (r : Result (Unit {0}) Refusal) × (outcome r ≡ move_outcome (length bs) (length out)) → (a : Outcome (Unit {0})) × (left : List ℕ) × Moves o bs out a left
    go Segmented (r, e) = (_, _, by_to_segmented lifetimes (lend bs) (lend_mut out) (lend bs) (lend_mut (buffer_after Segmented bs out)) r (e, refl))
    go Progressive (r, e) = (_, _, by_to_progressive lifetimes (lend bs) (lend_mut out) (lend bs) (lend_mut (buffer_after Progressive bs out)) r (e, refl))

pub record Theorem : Type 2 where
  pub segments : {M : Type 1} → to-segmented-statement.statement M
  pub restores : {M : Type 1} → to-progressive-statement.statement M
  pub claims : Claimed Moves

pub theorem : Theorem
theorem = record { segments = to-segmented-met.met; restores = to-progressive-met.met; claims = claimed (record { follows = follows; happens = happens }) }
