-- The exported calls' own statements and the claims on lists of them, on metered reads, on picture readers, on changing depths, on constant
-- luminance and on moving rows, in one.
-- Assumes nothing.
use Prim.Native.Nat.{ℕ}
use mathlib.Core.Path.{◌≡◌}
use mathlib.Core.List.{List, map}
use Rattle.picture.specs.Book.{Call, Answer, fresh}
use Rattle.picture.proofs.Calls.{Lent, Ran, History}
use Rattle.picture.proofs.Claims.{Demanded, Counted}
use Rattle.picture.proofs.Histories.{Lends, Happens, Answering, every_list_happens}
use Rattle.constant_luminance.proofs.Claims as constant
use Rattle.depth.proofs.Claims as depth
use Rattle.meter.proofs.Claims as meter
use Rattle.reader.specs.Book.{answers_from}
use Rattle.reader.proofs.Calls as reader-calls
use Rattle.reader.proofs.Claims as reader
use Rattle.reader.proofs.Steps as reader-steps
use Rattle.segmented.proofs.Claims.{Claimed}
use Rattle.ferghulta.specs.declared.stored_picture.StoredPicture.{StoredPicture}
use Rattle.ferghulta.specs.declared.stored_reader.StoredReader.{StoredReader}
use Rattle.ferghulta.specs.StoredReader.{reader_of}
use Rattle.ferghulta.proofs.picture_calls.ferghulta_new.Statement as new-statement
use Rattle.ferghulta.proofs.picture_calls.ferghulta_new.Met as new-met
use Rattle.ferghulta.proofs.picture_calls.ferghulta_open.Statement as open-statement
use Rattle.ferghulta.proofs.picture_calls.ferghulta_open.Met as open-met
use Rattle.ferghulta.proofs.picture_calls.ferghulta_row.Statement as row-statement
use Rattle.ferghulta.proofs.picture_calls.ferghulta_row.Met as row-met
use Rattle.ferghulta.proofs.picture_calls.ferghulta_close.Statement as close-statement
use Rattle.ferghulta.proofs.picture_calls.ferghulta_close.Met as close-met
use Rattle.ferghulta.proofs.picture_calls.ferghulta_total_bytes.Statement as total-statement
use Rattle.ferghulta.proofs.picture_calls.ferghulta_total_bytes.Met as total-met
use Rattle.ferghulta.proofs.calls.ferghulta_read_block.Statement as read-statement
use Rattle.ferghulta.proofs.calls.ferghulta_read_block.Met as read-met
use Rattle.ferghulta.proofs.meter_calls.ferghulta_read_metered.Statement as read-metered-statement
use Rattle.ferghulta.proofs.meter_calls.ferghulta_read_metered.Met as read-metered-met
use Rattle.ferghulta.proofs.meter_calls.ferghulta_meter_figures.Statement as figures-statement
use Rattle.ferghulta.proofs.meter_calls.ferghulta_meter_figures.Met as figures-met
use Rattle.ferghulta.proofs.reader_calls.ferghulta_new_reader.Statement as new-reader-statement
use Rattle.ferghulta.proofs.reader_calls.ferghulta_new_reader.Met as new-reader-met
use Rattle.ferghulta.proofs.reader_calls.ferghulta_open_reader.Statement as open-reader-statement
use Rattle.ferghulta.proofs.reader_calls.ferghulta_open_reader.Met as open-reader-met
use Rattle.ferghulta.proofs.reader_calls.ferghulta_read_next.Statement as read-next-statement
use Rattle.ferghulta.proofs.reader_calls.ferghulta_read_next.Met as read-next-met
use Rattle.ferghulta.proofs.depth_calls.ferghulta_change_depth.Statement as change-depth-statement
use Rattle.ferghulta.proofs.depth_calls.ferghulta_change_depth.Met as change-depth-met
use Rattle.ferghulta.proofs.constant_calls.ferghulta_constant_words_of_lights.Statement as constant-words-statement
use Rattle.ferghulta.proofs.constant_calls.ferghulta_constant_words_of_lights.Met as constant-words-met
use Rattle.ferghulta.proofs.constant_calls.ferghulta_constant_codes_of_words.Statement as constant-codes-statement
use Rattle.ferghulta.proofs.constant_calls.ferghulta_constant_codes_of_words.Met as constant-codes-met
use Rattle.ferghulta.proofs.segmented_calls.ferghulta_to_segmented.Statement as to-segmented-statement
use Rattle.ferghulta.proofs.segmented_calls.ferghulta_to_segmented.Met as to-segmented-met
use Rattle.ferghulta.proofs.segmented_calls.ferghulta_to_progressive.Statement as to-progressive-statement
use Rattle.ferghulta.proofs.segmented_calls.ferghulta_to_progressive.Met as to-progressive-met
use Rattle.ferghulta.proofs.Card.{card, meter_card, Moves, depth_card, reader_card, constant_card}
use Rattle.ferghulta.proofs.Exported.{state_at, demand_3, from_any, bytes_counted, bytes_from_any}
use Rattle.ferghulta.proofs.Histories.{answering}
use Rattle.ferghulta.proofs.Metered.{metered}
use Rattle.ferghulta.proofs.Segmented.{moving}
use Rattle.ferghulta.proofs.Depths.{changed}
use Rattle.ferghulta.proofs.Constants.{constant_luminance, Refused1, others_refuse}
use Rattle.ferghulta.proofs.Readers as readers

-- each `Post` of the card is that of a contract which the routine meets
pub record Theorem : Type 3 where
  pub new : {M : Type 1} → new-statement.statement M
  pub opens : {M : Type 1} → open-statement.statement M
  pub rows : {M : Type 1} → row-statement.statement M
  pub closes : {M : Type 1} → close-statement.statement M
  pub reads : {M : Type 1} → read-statement.statement M
  -- demand 3, from a new picture and from any twelve bytes
  pub lists : {cs : List Call} {ans : List Answer} {ls : List Lent} {l : StoredPicture} → History card cs ans ls l → Demanded card fresh cs ans ls (state_at l)
  pub any : {k l : StoredPicture} {cs : List Call} {ans : List Answer} {ls : List Lent} → Ran card k cs ans ls l → Demanded card (state_at k) cs ans ls (state_at l)
  -- request 2026-06, from both
  pub totals : {M : Type 1} → total-statement.statement M
  pub bytes : {cs : List Call} {ans : List Answer} {ls : List Lent} {l : StoredPicture} → History card cs ans ls l → Counted card 0 fresh cs l
  pub any_bytes : {k l : StoredPicture} {cs : List Call} {ans : List Answer} {ls : List Lent} → Ran card k cs ans ls l → Counted card k.bytes (state_at k) cs l
  -- they speak of every list of calls, whatever the lent buffers hold, and of every reading and every size
  pub happens : {cs : List Call} {bs : List (List ℕ)} → Lends cs bs → Happens card cs bs
  pub calls : Answering card
  -- request 2026-08, from a meter that is all zero and from any
  pub reads_metered : {M : Type 1} → read-metered-statement.statement M
  pub figures : {M : Type 1} → figures-statement.statement M
  pub meters : meter.Claimed meter_card
  -- request 2026-01
  pub segments : {M : Type 1} → to-segmented-statement.statement M
  pub restores : {M : Type 1} → to-progressive-statement.statement M
  pub moves : Claimed Moves
  -- request 2026-09
  pub changes : {M : Type 1} → change-depth-statement.statement M
  pub depths : depth.Claimed depth_card
  -- request 2026-10, from a new reader and from any eight bytes, and together with the picture's calls
  pub new_reader : {M : Type 1} → new-reader-statement.statement M
  pub opens_reader : {M : Type 1} → open-reader-statement.statement M
  pub reads_next : {M : Type 1} → read-next-statement.statement M
  pub readers : reader.Claimed reader_card
  pub any_reader : {k l : StoredReader} {ms : List reader-calls.Made} → reader-calls.Ran reader_card k ms l
      → map reader.answer ms ≡ answers_from (reader-steps.state_of (reader_of k).phase) (map reader.call ms)
  pub together : reader.Together card reader_card
  -- request 2026-11, and that every other call refuses 5 and 6
  pub constant_words : {M : Type 1} → constant-words-statement.statement M
  pub constant_codes : {M : Type 1} → constant-codes-statement.statement M
  pub constants : constant.Claimed constant_card
  pub others : Refused1 5 × Refused1 6

pub theorem : Theorem
theorem = record {
  new = new-met.met;
  opens = open-met.met;
  rows = row-met.met;
  closes = close-met.met;
  reads = read-met.met;
  lists = demand_3;
  any = from_any;
  totals = total-met.met;
  bytes = bytes_counted;
  any_bytes = bytes_from_any;
  happens = every_list_happens answering;
  calls = answering;
  reads_metered = read-metered-met.met;
  figures = figures-met.met;
  meters = metered;
  segments = to-segmented-met.met;
  restores = to-progressive-met.met;
  moves = moving;
  changes = change-depth-met.met;
  depths = changed;
  new_reader = new-reader-met.met;
  opens_reader = open-reader-met.met;
  reads_next = read-next-met.met;
  readers = readers.in_turn_lem;
  any_reader = readers.from_any;
  together = readers.returned;
  constant_words = constant-words-met.met;
  constant_codes = constant-codes-met.met;
  constants = constant_luminance;
  others = others_refuse;
}
