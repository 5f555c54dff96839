-- The calls' own statements and the claim on lists of them, in one.
-- Assumes nothing.
use Rattle.block.proofs.read_block.Statement as block-statement
use Rattle.block.proofs.read_block.Met as block-met
use Rattle.meter.proofs.Meter.new.Statement as new-statement
use Rattle.meter.proofs.Meter.new.Met as new-met
use Rattle.meter.proofs.Meter.read.Statement as read-statement
use Rattle.meter.proofs.Meter.read.Met as read-met
use Rattle.meter.proofs.Meter.figures.Statement as figures-statement
use Rattle.meter.proofs.Meter.figures.Met as figures-met
use Rattle.meter.proofs.Card.{card}
use Rattle.meter.proofs.Claims.{Claimed}
use Rattle.meter.proofs.Lists.{metered}

-- each `Post` of the card is that of a contract which the routine meets
pub record Theorem : Type 3 where
  pub new : {M : Type 1} → new-statement.statement M
  pub reads : {M : Type 1} → read-statement.statement M
  pub blocks : {M : Type 1} → block-statement.statement M
  pub figures : {M : Type 1} → figures-statement.statement M
  -- request 2026-08
  pub lists : Claimed card

pub theorem : Theorem
theorem = record {
  new = new-met.met;
  reads = read-met.met;
  blocks = block-met.met;
  figures = figures-met.met;
  lists = metered;
}
