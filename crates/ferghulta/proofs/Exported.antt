-- Demand 3 through the C interface: the exported calls do what the definitions say, of the picture that a stored one is taken for.
-- Assumes nothing.
use Prim.Native.Nat.{ℕ}
use mathlib.Core.Path.{◌≡◌, refl, ap, ◌∙◌}
use mathlib.Core.List.{List}
use lib.ListN.{length}
use Rattle.exact.specs.Outcome.{Outcome}
use Rattle.systems.proofs.Answerable.{Answerable, values, refusing, never_0}
use Rattle.block.specs.declared.Header.{Header}
use Rattle.block.specs.Read.{header_of, slice_after}
use Rattle.block.proofs.Answerable.{reading_answerable}
use Rattle.picture.specs.declared.Phase.{Phase}
use Rattle.picture.specs.Picture.{at, around, total_bytes, opening, with_block, rowing, buffer_after, closing}
use Rattle.picture.specs.Book.{Call, State, fresh, Answer}
use Rattle.picture.proofs.Calls.{Label, Lent, Ran, History}
use Rattle.picture.proofs.Card.{leads, label_of}
use Rattle.picture.proofs.Claims.{state_of, Proper, Demanded, Counted}
use Rattle.picture.proofs.Steps.{open_step, row_step, close_step}
use Rattle.picture.proofs.Faithful.{Follows, Faithful}
use Rattle.picture.proofs.Demand.{run, from_fresh, counted}
use Rattle.picture.proofs.Answerable.{open_answerable, row_answerable, close_answerable, total_answerable}
use Rattle.ferghulta.specs.declared.calls.BlockAnswer.{BlockAnswer}
use Rattle.ferghulta.specs.declared.stored_picture.StoredPicture.{StoredPicture}
use Rattle.ferghulta.specs.declared.picture_calls.PictureAnswer.{PictureAnswer}
use Rattle.ferghulta.specs.declared.picture_calls.TotalAnswer.{TotalAnswer}
use Rattle.ferghulta.specs.Answers.{block_answer}
use Rattle.ferghulta.specs.Stored.{picture_of, picture_answer, total_answer}
use Rattle.ferghulta.proofs.Card.{answer_by, label_by, total_by, Opens, by_open, Rows, by_row, Closes, by_close, Reads, by_read_block, Totals, by_total_bytes, card}
use Rattle.ferghulta.proofs.Stored.{stored_returns, taken_proper}

-- a call on k whose outcome on the phase is o, and on the bytes b
follows : (k : StoredPicture) {o : Outcome Phase} (b : ℕ) {a : PictureAnswer} → Answerable o → Proper (leads (picture_of k) (around o b)) → a ≡ picture_answer k (around o b)
    → Follows (picture_of k) (around o b) (answer_by a) (picture_of a.picture)
follows k b (values f) g e = record { same = ap answer_by e; next = ap (λ (x : PictureAnswer). picture_of x.picture) e ∙ stored_returns (at f b) g }
follows k b (refusing r) g e = record { same = rw e (simp (never_0 r)); next = ap (λ (x : PictureAnswer). picture_of x.picture) e }

opens_so : {k k' : StoredPicture} {n w h : ℕ} {answer : Answer} → Opens k n w h answer k' → Follows (picture_of k) (opening (picture_of k) n w h) answer (picture_of k')
opens_so {k} {n = n} {w = w} {h = h} (by_open a _ _ _ _ post) =
    follows k 0 (open_answerable (picture_of k).phase n w h) ((open_step (picture_of k) n w h).stays (taken_proper k)) post

rows_so : {k k' : StoredPicture} {lights out out' : List ℕ} {answer : Answer} → Rows k lights out answer out' k'
    → Follows (picture_of k) (rowing (picture_of k) lights (length out)) answer (picture_of k') × (out' ≡ buffer_after (picture_of k) lights out)
rows_so {k} (by_row _ lights out _ _ a _ post) =
    let room = length out.now in
    (follows k (with_block (picture_of k).phase k.bytes) (row_answerable (picture_of k).phase lights.now room) ((row_step (picture_of k) lights.now room).stays (taken_proper k)) post.0, post.1)

closes_so : {k k' : StoredPicture} {answer : Answer} → Closes k answer k' → Follows (picture_of k) (closing (picture_of k)) answer (picture_of k')
closes_so {k} (by_close a _ post) =
    follows k k.bytes (close_answerable (picture_of k).phase) ((close_step (picture_of k)).stays (taken_proper k)) post

tells : {o : Outcome Header} {a : BlockAnswer} → Answerable o → a ≡ block_answer o → label_by a ≡ label_of o
tells (values h) e = ap label_by e
tells (refusing r) e = rw e (simp (never_0 r))

reads_so : {bytes slice left : List ℕ} {r : Outcome Label} → Reads bytes slice r left → (r ≡ label_of (header_of bytes (length slice))) × (left ≡ slice_after bytes slice)
reads_so (by_read_block _ bytes slice _ _ a post) = (tells (reading_answerable bytes.now (length slice.now)) post.0, post.1)

foretells : {o : Outcome ℕ} {a : TotalAnswer} → Answerable o → a ≡ total_answer o → total_by a ≡ o
foretells (values b) e = ap total_by e
foretells (refusing r) e = rw e (simp (never_0 r))

totals_so : {w h : ℕ} {r : Outcome ℕ} → Totals w h r → r ≡ total_bytes w h
totals_so {w} {h} (by_total_bytes a _ _ post) = foretells (total_answerable w h) post

pub faithful : Faithful card
faithful = record {
  picture = picture_of;
  bytes = λ k. refl;
  news = λ made. ap picture_of made;
  opens = opens_so;
  rows = rows_so;
  closes = closes_so;
  reads = reads_so;
  totals = totals_so;
}

-- the book's state at a stored picture
abbrev pub state_at : StoredPicture → State
state_at k = state_of (picture_of k).phase

-- Demand 3, of the exported functions
pub demand_3 : {cs : List Call} {ans : List Answer} {ls : List Lent} {l : StoredPicture} → History card cs ans ls l → Demanded card fresh cs ans ls (state_at l)
unfolding faithful
demand_3 s = (from_fresh faithful s).demanded

-- and whatever twelve bytes a caller begins with
pub from_any : {k l : StoredPicture} {cs : List Call} {ans : List Answer} {ls : List Lent} → Ran card k cs ans ls l → Demanded card (state_at k) cs ans ls (state_at l)
unfolding faithful
from_any {k} r = (run faithful (taken_proper k) r).demanded

-- Request 2026-06, from a new picture
pub bytes_counted : {cs : List Call} {ans : List Answer} {ls : List Lent} {l : StoredPicture} → History card cs ans ls l → Counted card 0 fresh cs l
unfolding faithful
bytes_counted s = counted faithful (from_fresh faithful s)

-- and from any twelve bytes: of a picture that is not open, whatever its bytes are, they stay until it is opened
pub bytes_from_any : {k l : StoredPicture} {cs : List Call} {ans : List Answer} {ls : List Lent} → Ran card k cs ans ls l → Counted card k.bytes (state_at k) cs l
unfolding faithful
bytes_from_any {k} r = counted faithful (run faithful (taken_proper k) r)
