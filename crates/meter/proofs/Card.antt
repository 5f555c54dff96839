-- The card of this crate. What a call does is what the called function's own contract says (its generated `Post`), so nothing is restated here.
-- Definitions only.
use Prim.Native.Nat.{ℕ}
use mathlib.Core.List.{List}
use contract.Lifetimes.{Lfts}
use denote.Ref.{Bor}
use denote.MutBor.{MutBor}
use Rattle.exact.specs.Outcome.{Outcome}
use Rattle.block.proofs.Told.{Row, told, Blocks}
use Rattle.meter.specs.declared.Meter.{Meter}
use Rattle.meter.specs.declared.MeteredRead.{MeteredRead}
use Rattle.meter.specs.declared.Figures.{Figures}
use Rattle.meter.proofs.Meter.new.Reads as new-call
use Rattle.meter.proofs.Meter.read.Reads as read-call
use Rattle.meter.proofs.Meter.figures.Reads as figures-call
use Rattle.meter.proofs.Calls.{Card}
use Rattle.systems.specs.Refusals.{outcome}

-- κs are the lifetimes of the two references, whatever they are
pub data Reads (m : Meter) : List ℕ → List ℕ → Outcome Row → List ℕ → Meter → Type 0 where
  by_read : (κs : Lfts 2) (bytes : Bor (List ℕ)) (slice : MutBor (List ℕ)) (bytes' : Bor (List ℕ)) (slice' : MutBor (List ℕ)) (r : MeteredRead) (m' : Meter) → read-call.Post κs (m, (bytes, (slice, tt))) r (m', (bytes', (slice', tt)))
      → Reads m bytes.now slice.now (told (outcome r.read)) slice'.now r.meter

pub data Shows (m : Meter) (f : Figures) : Type 0 where
  by_figures : (m' : Meter) → figures-call.Post tt (m, tt) f (m', tt) → Shows m f

abbrev pub card : Card
card = record {
  Empty = λ m. new-call.Post tt tt m tt;
  Read = Reads;
  Block = Blocks;
  Shows = Shows;
}
