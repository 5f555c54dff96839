-- What demand 3 says of a list of calls, in document 01's words ('Picture', 'Light to code', 'Triples') and request 2026-03's, and
-- what request 2026-06 says of the bytes that a picture carries.
-- Definitions only.
use Prim.Native.Nat.{ℕ, ◌+◌, ◌*◌, ◌-◌, ◌≤◌, ◌<◌, min, max}
use mathlib.Core.Path.{◌≡◌}
use mathlib.Core.Bool.{Bool, true, false}
use mathlib.Core.List.{List, [], ◌∷◌, ◌++◌}
use lib.IntN.{pos}
use lib.ListN.{length, take, drop, get_or}
use Rattle.exact.specs.Outcome as outcome
use Rattle.exact.specs.Outcome.{Outcome}
use Rattle.exact.specs.Signed.{Ratio}
use Rattle.exact.proofs.Nearest.{Near}
use Rattle.systems.specs.declared.Codes.{Codes}
use Rattle.systems.specs.declared.System.{System}
use Rattle.systems.specs.Systems.{number, matrix, scale, timing}
use Rattle.curve.specs.Curve.{code, least_light, greatest_light}
use Rattle.matrix.specs.declared.Words.{Words}
use Rattle.matrix.specs.Triples.{luma, cb_of, cr_of}
use Rattle.block.specs.Read.{sample_at}
use Rattle.picture.specs.declared.Opened.{Opened}
use Rattle.picture.specs.declared.Phase.{Phase}
use Rattle.picture.specs.declared.Phase.TheVariants.{Fresh, Open, Closed}
use Rattle.picture.specs.declared.Picture.{Picture}
use Rattle.picture.specs.Book.{Call, opens, rows, closes, State, fresh, opened, closed, Entry, Answer, accepted, refused, accepts, sheet, next, answers_from, entries_from, sum_from}
use Rattle.picture.proofs.Calls.{Label, Card, Lent}

abbrev pub WithinOne : ℕ → ℕ → Type 0
WithinOne a b = (a ≤ b + 1) × (b ≤ a + 1)

-- the code below and the code above; where it would leave 16s to 235s, the end code itself
abbrev pub below : System → ℕ → ℕ
below y d = max (16 * scale y) (d - 1)

abbrev pub above : System → ℕ → ℕ
above y d = min (235 * scale y) (d + 1)

-- a code beyond nominal counts as the nominal end
abbrev pub as_nominal : System → ℕ → ℕ
as_nominal y d = max (16 * scale y) (min (235 * scale y) d)

-- the code d was read for the light k
pub record ReadCode (y : System) (k d : ℕ) : Type 0 where
  -- it is within one code of the light's exact quantised value
  pub near : WithinOne d (code y k)
  -- the light lies between the least light of the code below and the greatest light of the code above, both included
  pub from : least_light y (below y (as_nominal y d)) ≤ k
  pub to : k ≤ greatest_light y (above y (as_nominal y d))

-- the word v is stored for the exact rational q
pub record StoredWord (y : System) (q : Ratio) (v : ℕ) : Type 0 where
  -- within half a code of it
  pub near : Near (pos v) q
  pub no_timing_lem : timing y v ≡ false

-- the codes of sample i's lights, R, G and B
abbrev pub codes_of : System → List ℕ → ℕ → Codes
codes_of y lights i = record { r = code y (get_or lights (3 * i) 0); g = code y (get_or lights (3 * i + 1) 0); b = code y (get_or lights (3 * i + 2) 0) }

-- the words that are stored for a sample of the codes c
pub record StoredSample (y : System) (c : Codes) (v : Words) : Type 0 where
  pub luma_word : StoredWord y (luma (matrix y) c) v.y
  pub cb_word : StoredWord y (cb_of (matrix y) (scale y) c) v.cb
  pub cr_word : StoredWord y (cr_of (matrix y) (scale y) c) v.cr

-- a reading of the entry's block was answered with r, and left these words in the slice
pub record Read (e : Entry) (y : System) (r : Outcome Label) (slice : List ℕ) : Type 0 where
  -- it is accepted, with its entry's system, width and row number
  pub answer : r ≡ outcome.accepted (record { system = e.system; samples = e.width; row = e.row })
  -- the code at place j is that of the light at place j
  pub codes : (j : ℕ) → j < 3 * e.width → ReadCode y (get_or e.lights j 0) (get_or slice j 0)

-- the bytes are the block of an entry
pub record ReadsBack (card : Card) (bytes : List ℕ) (e : Entry) : Type 0 where
  -- the entry's system
  pub system : System
  pub numbered : number system ≡ e.system
  -- it is whole
  pub size : length bytes ≡ 9 + 6 * e.width
  -- every stored word is within half a code of its exact rational for the codes of its sample's lights, and none is a timing code
  pub words : (i : ℕ) → i < e.width → StoredSample system (codes_of system e.lights i) (sample_at bytes e.width i)
  -- every reading that is lent these bytes and a slice of at least 3·width words
  pub reads : {slice left : List ℕ} {r : Outcome Label} → 3 * e.width ≤ length slice → card.Read bytes slice r left → Read e system r left

-- the buffers of accepted rows, and as many entries
pub data Blocks (card : Card) : List Lent → List Entry → Type 0 where
  none : Blocks card [] []
  -- the first 9 + 6·width bytes that a call left are its entry's block, and later bytes stay
  one : {l : Lent} {e : Entry} {ls : List Lent} {es : List Entry}
      → ReadsBack card (take (9 + 6 * e.width) l.after) e → drop (9 + 6 * e.width) l.after ≡ drop (9 + 6 * e.width) l.before
      → Blocks card ls es → Blocks card (l ∷ ls) (e ∷ es)

-- the buffers of the accepted rows
abbrev pub if_accepted : Answer → Lent → List Lent
if_accepted accepted l = l ∷ []
if_accepted (refused n) l = []

unfoldable pub accepted_rows : List Lent → List Lent
accepted_rows [] = []
accepted_rows (l ∷ ls) = if_accepted l.answer l ++ accepted_rows ls

-- the refused rows left their buffers as they were
unfoldable pub Unchanged : List Lent → Type 0
Unchanged [] = Unit {0}
Unchanged (l ∷ ls) = ((n : ℕ) → l.answer ≡ refused n → l.after ≡ l.before) × Unchanged ls

-- the book's state at a picture
abbrev pub state_of : Phase → State
state_of Fresh = fresh
state_of (Open o) = opened (record { system = number o.system; width = o.width; height = o.height; count = o.rows })
state_of Closed = closed

-- the book's state after a list of calls
unfoldable pub state_from : State → List Call → State
state_from st [] = st
state_from st (c ∷ cs) = state_from (next st c) cs

-- from the book's state st: what a list of calls on a card comes to, where the last call left its picture at the state last
pub record Demanded (card : Card) (st : State) (cs : List Call) (ans : List Answer) (ls : List Lent) (last : State) : Type 0 where
  -- exactly the calls that the row book accepts were accepted, and the rest were refused with its numbers
  pub answer : ans ≡ answers_from st cs
  -- a refused call changed neither the picture, which is where the book is, nor a buffer
  pub state : last ≡ state_from st cs
  pub unchanged : Unchanged ls
  -- the blocks of the accepted rows, in order, are those of the book's entries
  pub blocks : Blocks card (accepted_rows ls) (entries_from st cs)

-- from the book's state st, with b bytes: what the picture q carries, which the last of a list of calls left
pub record Counted (card : Card) (b : ℕ) (st : State) (cs : List Call) (q : card.Picture) : Type 0 where
  -- the summed lengths of the blocks accepted since the last accepted open
  pub summed : card.bytes q ≡ sum_from b st cs
  -- and where a close is accepted then, the total that is foretold for the picture's width and height
  pub foretold : {q' : card.Picture} {r : Outcome ℕ} → card.Close q accepted q'
      → card.Total (sheet (state_from st cs)).width (sheet (state_from st cs)).height r → r ≡ outcome.accepted (card.bytes q')

-- the lengths of the blocks of entries, summed
unfoldable pub lengths : List Entry → ℕ
lengths [] = 0
lengths (e ∷ es) = 9 + 6 * e.width + lengths es

-- the call is an open that is accepted
abbrev pub is_opening : State → Call → Bool
is_opening st (opens n w h) = accepts st (opens n w h)
is_opening st (rows lights room) = false
is_opening st closes = false

-- no open among the calls is accepted
unfoldable pub NoOpening : State → List Call → Type 0
NoOpening st [] = Unit {0}
NoOpening st (c ∷ cs) = (is_opening st c ≡ false) × NoOpening (next st c) cs

-- after the calls before, c is an open that is accepted, and none among the calls cs that follow it is
abbrev pub IsLast : State → List Call → Call → List Call → Type 0
IsLast st before c cs = (is_opening (state_from st before) c ≡ true) × NoOpening (next (state_from st before) c) cs

-- where the last accepted open of a list stands
pub data LastOpening (st : State) : List Call → Type 0 where
  nowhere : (cs : List Call) → NoOpening st cs → LastOpening st cs
  at_call : (before : List Call) (c : Call) (cs : List Call) → IsLast st before c cs → LastOpening st (before ++ c ∷ cs)

-- the book's sum is what the request calls it
pub record SumSince : Type 0 where
  -- 0 before any accepted open
  pub before_any : (cs : List Call) → NoOpening fresh cs → sum_from 0 fresh cs ≡ 0
  -- after the last one, the lengths of the blocks of the entries since
  pub since_last : (b : ℕ) (st : State) (before : List Call) (c : Call) (cs : List Call) → IsLast st before c cs
      → sum_from b st (before ++ c ∷ cs) ≡ lengths (entries_from (next (state_from st before) c) cs)
  -- every list is one of the two
  pub either : (st : State) (cs : List Call) → LastOpening st cs

-- a width of 1 to 7680, a height of 1 to 4320, no more rows than the height, and the bytes of so many blocks
pub record Sized (o : Opened) (b : ℕ) : Type 0 where
  pub width_from : 1 ≤ o.width
  pub width_to : o.width ≤ 7680
  pub height_from : 1 ≤ o.height
  pub height_to : o.height ≤ 4320
  pub rows_to : o.rows ≤ o.height
  pub bytes_of : o.rows * (9 + 6 * o.width) ≡ b

abbrev pub ProperAt : Phase → ℕ → Type 0
ProperAt Fresh b = Unit {0}
ProperAt (Open o) b = Sized o b
ProperAt Closed b = Unit {0}

abbrev pub Proper : Picture → Type 0
Proper p = ProperAt p.phase p.bytes
