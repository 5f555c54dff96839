-- The calls' own statements, the claim on lists of them, and the claim on writer and reader together, in one.
-- Assumes nothing.
use Rattle.block.proofs.read_block.Statement as block-statement
use Rattle.block.proofs.read_block.Met as block-met
use Rattle.picture.proofs.Card as picture
use Rattle.picture.proofs.Theorem as writing
use Rattle.reader.proofs.Reader.new.Statement as new-statement
use Rattle.reader.proofs.Reader.new.Met as new-met
use Rattle.reader.proofs.Reader.open.Statement as open-statement
use Rattle.reader.proofs.Reader.open.Met as open-met
use Rattle.reader.proofs.Reader.read.Statement as read-statement
use Rattle.reader.proofs.Reader.read.Met as read-met
use Rattle.reader.proofs.Reader.phase.Statement as phase-statement
use Rattle.reader.proofs.Reader.phase.Met as phase-met
use Rattle.reader.proofs.Card.{card}
use Rattle.reader.proofs.Claims.{Claimed, Together}
use Rattle.reader.proofs.Lists.{in_turn_lem}
use Rattle.reader.proofs.Return.{returned}

-- each `Post` of the card is that of a contract which the routine meets
pub record Theorem : Type 3 where
  pub new : {M : Type 1} → new-statement.statement M
  pub opens : {M : Type 1} → open-statement.statement M
  pub reads : {M : Type 1} → read-statement.statement M
  pub phases : {M : Type 1} → phase-statement.statement M
  pub blocks : {M : Type 1} → block-statement.statement M
  -- request 2026-10
  pub lists : Claimed card
  -- the picture's calls meet theirs
  pub writes : writing.Theorem
  pub together : Together picture.card card

pub theorem : Theorem
theorem = record {
  new = new-met.met;
  opens = open-met.met;
  reads = read-met.met;
  phases = phase-met.met;
  blocks = block-met.met;
  lists = in_turn_lem;
  writes = writing.theorem;
  together = returned;
}
