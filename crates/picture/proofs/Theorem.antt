-- The calls' own statements and the claim on lists of them, in one.
-- Assumes nothing.
use Prim.Native.Nat.{ℕ, ◌≤◌}
use mathlib.Core.Path.{◌≡◌}
use mathlib.Core.List.{List}
use Rattle.exact.specs.Outcome as outcome
use Rattle.picture.specs.declared.Picture.{Picture}
use Rattle.picture.specs.Picture.{total_bytes}
use Rattle.picture.specs.Book.{Call, State, fresh, Answer, accepts, answers}
use Rattle.picture.proofs.Picture.new.Statement as new-statement
use Rattle.picture.proofs.Picture.new.Met as new-met
use Rattle.picture.proofs.Picture.open.Statement as open-statement
use Rattle.picture.proofs.Picture.open.Met as open-met
use Rattle.picture.proofs.Picture.row.Statement as row-statement
use Rattle.picture.proofs.Picture.row.Met as row-met
use Rattle.picture.proofs.Picture.close.Statement as close-statement
use Rattle.picture.proofs.Picture.close.Met as close-met
use Rattle.picture.proofs.total_bytes.Statement as total-statement
use Rattle.picture.proofs.total_bytes.Met as total-met
use Rattle.block.proofs.read_block.Statement as read-statement
use Rattle.block.proofs.read_block.Met as read-met
use Rattle.picture.proofs.Agreement.{Agree, accepts_unless_a_condition_holds}
use Rattle.picture.proofs.Calls.{Lent, History}
use Rattle.picture.proofs.Card.{card}
use Rattle.picture.proofs.Claims.{state_of, Demanded, Counted, SumSince}
use Rattle.picture.proofs.Demand.{demand_3, bytes_counted}
use Rattle.picture.proofs.Histories.{Lends, Happens, Answering, answering, every_list_happens}
use Rattle.picture.proofs.Sums.{sum_since}
use Rattle.picture.proofs.Totals.{total_fits}

-- each `Post` of the card is that of a contract which the routine meets
pub record Theorem : Type 3 where
  pub new : {M : Type 1} → new-statement.statement M
  pub opens : {M : Type 1} → open-statement.statement M
  pub rows : {M : Type 1} → row-statement.statement M
  pub closes : {M : Type 1} → close-statement.statement M
  pub reads : {M : Type 1} → read-statement.statement M
  -- demand 3
  pub lists : {cs : List Call} {ans : List Answer} {ls : List Lent} {q : Picture} → History card cs ans ls q → Demanded card fresh cs ans ls (state_of q.phase)
  -- request 2026-06
  pub totals : {M : Type 1} → total-statement.statement M
  pub fits : (w h b : ℕ) → total_bytes w h ≡ outcome.accepted b → b ≤ 199104480
  pub bytes : {cs : List Call} {ans : List Answer} {ls : List Lent} {q : Picture} → History card cs ans ls q → Counted card 0 fresh cs q
  pub sums : SumSince
  -- both speak of every list of calls, whatever the lent buffers hold, and of every reading and every size
  pub happens : {cs : List Call} {bs : List (List ℕ)} → Lends cs bs → Happens card cs bs
  pub calls : Answering card
  -- the row book accepts a call exactly where none of its tables' conditions holds
  pub book : (st : State) (c : Call) → Agree (accepts st c) (answers st c)

pub theorem : Theorem
theorem = record {
  new = new-met.met;
  opens = open-met.met;
  rows = row-met.met;
  closes = close-met.met;
  reads = read-met.met;
  lists = demand_3;
  totals = total-met.met;
  fits = total_fits;
  bytes = bytes_counted;
  sums = sum_since;
  happens = every_list_happens answering;
  calls = answering;
  book = accepts_unless_a_condition_holds;
}
