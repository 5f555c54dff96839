-- What request 2026-10 says of every list of openings and blocks, and of a picture that was written and is read back. What was read is
-- told by what was heard alone, and by nothing inside a reader.
-- Definitions only.
use Prim.Native.Nat.{ℕ, ◌+◌, ◌*◌, ◌≤◌, ◌<◌}
use mathlib.Core.Path.{◌≡◌}
use mathlib.Core.Bool.{Bool, true, false}
use mathlib.Core.List.{List, [], ◌∷◌, ◌++◌, map}
use lib.Dec.{eqb}
use lib.ListN.{length, take, get_or}
use Rattle.exact.specs.Outcome.{Outcome, accepted, refused}
use Rattle.systems.specs.declared.System.{System}
use Rattle.systems.specs.Systems.{number}
use Rattle.block.proofs.Told.{Row}
use Rattle.picture.specs.Book as picture
use Rattle.picture.specs.Book.{Entry, accepts, entries_from}
use Rattle.picture.proofs.Calls as writer
use Rattle.picture.proofs.Calls.{Lent, History}
use Rattle.picture.proofs.Claims.{ReadCode, accepted_rows, state_from, NoOpening}
use Rattle.picture.proofs.Histories.{Lends, before}
use Rattle.reader.specs.Book.{Call, opens, blocks, unopened, heard, answers_from}
use Rattle.reader.proofs.Calls.{Card, Made, opening, block, Ran}

-- ---- every list of calls

-- a call's arguments, and what was heard of it
abbrev pub call : Made → Call
call (opening h o) = opens h
call (block bytes slice o left) = blocks bytes (length slice)

abbrev pub answer : Made → Outcome (Unit {0})
answer (opening h o) = o
answer (block bytes slice o left) = heard o

-- what was heard since the last accepted opening: its height, and the rows that accepted blocks gave
pub data Since : Type 0 where
  never : Since
  since : ℕ → List Row → Since

abbrev pub with_row : Since → Row → Since
with_row never w = never
with_row (since h ws) w = since h (ws ++ w ∷ [])

abbrev pub with_call : Since → Made → Since
with_call s (opening h (accepted u)) = since h []
with_call s (opening h (refused n)) = s
with_call s (block bytes slice (accepted w) left) = with_row s w
with_call s (block bytes slice (refused n) left) = s

unfoldable pub since_from : Since → List Made → Since
since_from s [] = s
since_from s (m ∷ ms) = since_from (with_call s m) ms

-- rows of the system n and width w, numbered i and so on
unfoldable pub Numbered : ℕ → ℕ → ℕ → List Row → Type 0
Numbered n w i [] = Unit {0}
Numbered n w i (r ∷ rs) = (r.row ≡ i) × (r.system ≡ n) × (r.samples ≡ w) × Numbered n w (i + 1) rs

-- numbered 0, 1, 2 .., of one system and width
pub record InOrder (ws : List Row) : Type 0 where
  pub system : ℕ
  pub width : ℕ
  pub rows : Numbered system width 0 ws

-- the rows since an opening with the height h, where t says whether the reader is complete: there are h of them exactly when it is
pub record Rows (h : ℕ) (ws : List Row) (t : Bool) : Type 0 where
  pub in_order : InOrder ws
  pub at_most : length ws ≤ h
  pub complete : t ≡ eqb (length ws) h

-- before any accepted opening it is not
abbrev pub Holds : Since → Bool → Type 0
Holds never t = t ≡ false
Holds (since h ws) t = Rows h ws t

-- what a call is given beside the reader
pub data Given : Type 0 where
  height : ℕ → Given
  bytes_and_slice : List ℕ → List ℕ → Given

abbrev pub given : Made → Given
given (opening h o) = height h
given (block bytes slice o left) = bytes_and_slice bytes slice

-- calls from the reader r that were given these
pub record Happens (card : Card) (r : card.Reader) (gs : List Given) : Type 0 where
  pub ms : List Made
  pub last : card.Reader
  pub ran : Ran card r ms last
  pub same : map given ms ≡ gs

pub record Claimed (card : Card) : Type 0 where
  -- for every list of calls from a new reader, refused ones included: the calls that the book accepts were accepted, and the others refused with its numbers
  pub answers : {r q : card.Reader} {ms : List Made} → card.New r → Ran card r ms q → map answer ms ≡ answers_from unopened (map call ms)
  -- since the last accepted opening the accepted blocks are in order, and there are height of them exactly when the reader is complete
  pub rows : {r q : card.Reader} {ms : List Made} {t : Bool} → card.New r → Ran card r ms q → card.Complete q t → Holds (since_from never ms) t
  -- an accepted block gives what block reading gives
  pub reads : {r r' : card.Reader} {bytes slice left left' : List ℕ} {w : Row} {o : Outcome Row} → card.Read r bytes slice (accepted w) left r' → card.Block bytes slice o left'
      → (o ≡ accepted w) × (left ≡ left')
  -- a refused call changes neither the reader nor the slice
  pub refuses_opening : {r r' : card.Reader} {h n : ℕ} → card.Open r h (refused n) r' → r' ≡ r
  pub refuses_block : {r r' : card.Reader} {bytes slice left : List ℕ} {n : ℕ} → card.Read r bytes slice (refused n) left r' → (r' ≡ r) × (left ≡ slice)
  -- there is a new reader, every list of calls is made so from every reader, and each tells whether it is complete
  pub begins : (r : card.Reader) × card.New r
  pub happens : (r : card.Reader) (gs : List Given) → Happens card r gs
  pub tells : (r : card.Reader) → (t : Bool) × card.Complete r t

-- ---- writer and reader together

-- a picture's row book before its first row
abbrev pub begins : ℕ → ℕ → ℕ → picture.State
begins n w h = picture.opened (record { system = n; width = w; height = h; count = 0 })

-- after any calls from a fresh picture, one was opened with these, the calls cs were made without another accepted open, and a close was accepted;
-- ls are the buffers lent to the rows among cs
pub record Sent (card : writer.Card) (n w h : ℕ) (cs : List picture.Call) (ls : List Lent) : Type 0 where
  pub former : List picture.Call
  pub former_answers : List picture.Answer
  pub former_buffers : List Lent
  pub begun : card.Picture
  pub history : History card former former_answers former_buffers begun
  pub empty : card.Picture
  pub opens : card.Open begun n w h picture.accepted empty
  pub answers : List picture.Answer
  pub full : card.Picture
  pub ran : writer.Ran card empty cs answers ls full
  pub alone : NoOpening (begins n w h) cs
  pub closed : card.Picture
  pub closes : card.Close full picture.accepted closed

-- the entries that the row book has of such calls
abbrev pub entries_of : ℕ → ℕ → ℕ → List picture.Call → List Entry
entries_of n w h cs = entries_from (begins n w h) cs

-- so it comes where the row book accepts the open after the former calls, no other among cs, and the close after them, whatever the buffers hold
pub record Sends (former : List picture.Call) (n w h : ℕ) (cs : List picture.Call) : Type 0 where
  pub opens : accepts (state_from picture.fresh former) (picture.opens n w h) ≡ true
  pub alone : NoOpening (begins n w h) cs
  pub closes : accepts (state_from (begins n w h) cs) picture.closes ≡ true

pub record SentWith (card : writer.Card) (n w h : ℕ) (cs : List picture.Call) (bs : List (List ℕ)) : Type 0 where
  pub ls : List Lent
  pub sent : Sent card n w h cs ls
  pub lent : before ls ≡ bs

-- the blocks of width w that rows left, in order, each with a slice of at least 3·width words
pub data GivenInOrder (w : ℕ) : List Lent → List Given → Type 0 where
  none : GivenInOrder w [] []
  next : {l : Lent} {slice : List ℕ} {ls : List Lent} {gs : List Given} → 3 * w ≤ length slice → GivenInOrder w ls gs
      → GivenInOrder w (l ∷ ls) (bytes_and_slice (take (9 + 6 * w) l.after) slice ∷ gs)

-- the block of an entry was accepted with what the entry has, and the code read at place j is within one code of that of the light at place j, with demand 3's spans
pub record ReadRow (e : Entry) (o : Outcome Row) (left : List ℕ) : Type 0 where
  pub row : Row
  pub heard : o ≡ accepted row
  pub system : row.system ≡ e.system
  pub row_number : row.row ≡ e.row
  pub samples : row.samples ≡ e.width
  -- the entry's system
  pub in_system : System
  pub numbered : number in_system ≡ e.system
  pub codes : (j : ℕ) → j < 3 * e.width → ReadCode in_system (get_or e.lights j 0) (get_or left j 0)

pub data ReadRows : List Entry → List Made → Type 0 where
  none : ReadRows [] []
  next : {e : Entry} {bytes slice left : List ℕ} {o : Outcome Row} {es : List Entry} {ms : List Made} → ReadRow e o left → ReadRows es ms → ReadRows (e ∷ es) (block bytes slice o left ∷ ms)

pub record Returned (h : ℕ) (es : List Entry) (o : Outcome (Unit {0})) (ms : List Made) (t : Bool) : Type 0 where
  -- the reader was opened
  pub opened : o ≡ accepted tt
  -- there are as many entries as rows in the picture, all their blocks were accepted, and every R', G' and B' is within one code
  pub all : length es ≡ h
  pub rows : ReadRows es ms
  -- the reader is complete
  pub complete : t ≡ true

-- the blocks of any picture that was opened, sent and closed, given in order to any reader that is opened with its height
pub record Together (writes : writer.Card) (reads : Card) : Type 0 where
  pub returns : {n w h : ℕ} {cs : List picture.Call} {ls : List Lent} {k k' q : reads.Reader} {o : Outcome (Unit {0})} {ms : List Made} {t : Bool}
      → Sent writes n w h cs ls → reads.Open k h o k' → Ran reads k' ms q → GivenInOrder w (accepted_rows ls) (map given ms) → reads.Complete q t → Returned h (entries_of n w h cs) o ms t
  -- there is such a picture for every list of calls that the book has as one, and Claimed.happens reads its blocks so
  pub sends : {former : List picture.Call} {n w h : ℕ} {cs : List picture.Call} {bs bs' : List (List ℕ)} → Sends former n w h cs → Lends former bs → Lends cs bs' → SentWith writes n w h cs bs'
