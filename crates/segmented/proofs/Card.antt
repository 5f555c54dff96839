-- The calls of this crate. What a call does is what the called function's own contract says (its generated `Post`), so nothing is restated here.
-- Definitions only.
use Prim.Native.Nat.{ℕ}
use mathlib.Core.List.{List}
use contract.Lifetimes.{Lfts}
use denote.Ref.{Bor}
use denote.MutBor.{MutBor}
use Rattle.exact.specs.Outcome.{Outcome}
use Rattle.segmented.specs.declared.Order.{Order}
use Rattle.segmented.specs.declared.Order.TheVariants.{Segmented, Progressive}
use Rattle.segmented.proofs.to_segmented.Reads as to-segmented
use Rattle.segmented.proofs.to_progressive.Reads as to-progressive
use Rattle.std.specs.Prelude.{Result}
use Rattle.systems.specs.declared.refusal.Refusal.{Refusal}
use Rattle.systems.specs.Refusals.{outcome}

-- κs are the lifetimes of the two references, whatever they are
pub data Moves : Order → List ℕ → List ℕ → Outcome (Unit {0}) → List ℕ → Type 0 where
  by_to_segmented : (κs : Lfts 2) (bs : Bor (List ℕ)) (out : MutBor (List ℕ)) (bs' : Bor (List ℕ)) (out' : MutBor (List ℕ)) (r : Result (Unit {0}) Refusal) → to-segmented.Post κs (bs, (out, tt)) r (bs', (out', tt)) → Moves Segmented bs.now out.now (outcome r) out'.now
  by_to_progressive : (κs : Lfts 2) (bs : Bor (List ℕ)) (out : MutBor (List ℕ)) (bs' : Bor (List ℕ)) (out' : MutBor (List ℕ)) (r : Result (Unit {0}) Refusal) → to-progressive.Post κs (bs, (out, tt)) r (bs', (out', tt)) → Moves Progressive bs.now out.now (outcome r) out'.now
