-- The card of this crate. What a call does is what the called function's own contract says (its generated `Post`), so nothing is restated here.
-- Definitions only.
use Prim.Native.Nat.{ℕ}
use mathlib.Core.List.{List}
use contract.Lifetimes.{Lfts}
use denote.Ref.{Bor}
use denote.MutBor.{MutBor}
use Rattle.exact.specs.Outcome.{Outcome, accepted, refused}
use Rattle.systems.specs.Systems.{number}
use Rattle.block.specs.declared.Header.{Header}
use Rattle.block.proofs.read_block.Reads as read-call
use Rattle.depth.proofs.change_depth.Reads as change-call
use Rattle.depth.proofs.Claims.{Label, Card}
use Rattle.std.specs.Prelude.{Result}
use Rattle.systems.specs.declared.refusal.Refusal.{Refusal}
use Rattle.systems.specs.Refusals.{outcome}

-- what a reading tells
abbrev pub label_of : Outcome Header → Outcome Label
label_of (accepted h) = accepted (record { system = number h.system; row = h.row; samples = h.samples })
label_of (refused n) = refused n

-- κs are the lifetimes of the two references, whatever they are
pub data Changes (t : ℕ) : List ℕ → List ℕ → Outcome (Unit {0}) → List ℕ → Type 0 where
  by_change_depth : (κs : Lfts 2) (bytes : Bor (List ℕ)) (out : MutBor (List ℕ)) (bytes' : Bor (List ℕ)) (out' : MutBor (List ℕ)) (t' : ℕ) (r : Result (Unit {0}) Refusal) → change-call.Post κs (t, (bytes, (out, tt))) r (t', (bytes', (out', tt)))
      → Changes t bytes.now out.now (outcome r) out'.now

pub data Reads : List ℕ → List ℕ → Outcome Label → Type 0 where
  by_read_block : (κs : Lfts 2) (bytes : Bor (List ℕ)) (slice : MutBor (List ℕ)) (bytes' : Bor (List ℕ)) (slice' : MutBor (List ℕ)) (r : Result Header Refusal) → read-call.Post κs (bytes, (slice, tt)) r (bytes', (slice', tt))
      → Reads bytes.now slice.now (label_of (outcome r))

abbrev pub card : Card
card = record { Change = Changes; Read = Reads }
