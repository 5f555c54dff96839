-- The calls of the lists that reference/make_pictures.py makes, what each is given, and whether its answer is the row book's.
-- Definitions only.
use Rattle.std.specs.Prelude.{Option, Some, None, ℕ, zero, suc, ◌+◌, ◌*◌, ◌-◌, ◌/◌, Bool, true, false, ◌&&◌, cond, List, [], ◌∷◌, ◌++◌, eqb, leb, ltb, length, take, drop, replicate}
use Rattle.std.specs.List.{enumerate_from, list_all}
use Rattle.exact.specs.Outcome.{Outcome, accepted, refused}
use Rattle.systems.specs.Systems.{number}
use Rattle.block.specs.declared.Header.{Header}
use Rattle.block.specs.Read.{header_of, slice_after}
use Rattle.picture.specs.declared.Phase.{Phase}
use Rattle.picture.specs.declared.Phase.TheVariants as phase
use Rattle.picture.specs.declared.Picture.{Picture}
use Rattle.picture.specs.Picture.{at, opening, rowing, buffer_after, closing}
use Rattle.check_records.specs.declared.tally.Tally.{Tally}
use Rattle.check_records.specs.Records.{u16_at, u32_at, begin_alike, none, tallied, Compared}
use Rattle.check_answers.specs.Answers.{number_of}
use Rattle.check_pictures.specs.declared.kind.Kind.{Kind}
use Rattle.check_pictures.specs.declared.kind.Kind.TheVariants.{New, Open, Row, Close}
use Rattle.check_pictures.specs.declared.given.Part.{Part}
use Rattle.check_pictures.specs.declared.given.Given.{Given}
use Rattle.check_pictures.specs.declared.given.Given.TheVariants as given
use Rattle.check_pictures.specs.declared.list.Counted.{Counted}
use Rattle.check_pictures.specs.declared.list.Play.{Play}
use Rattle.check_pictures.specs.declared.call.Call.{Call}

-- what a call is given, by the kind's number and three numbers of the data; none where it is no kind's
abbrev pub given_of : ℕ → ℕ → ℕ → ℕ → Option Given
given_of n first second third =
    cond (eqb n 0) (Some given.New)
    (cond (eqb n 1) (Some (given.Open first second third))
    (cond (eqb n 2) (Some (given.Row (record { first = first; count = second; room = third })))
    (cond (eqb n 3) (Some given.Close) None)))

-- of the call at a place
abbrev pub given_at : List ℕ → ℕ → Option Given
given_at bs i = given_of (u16_at bs i) (u32_at bs (i + 18)) (u32_at bs (i + 22)) (u32_at bs (i + 26))

abbrev pub kind_of : Given → Kind
kind_of given.New = New
kind_of (given.Open system width height) = Open
kind_of (given.Row part) = Row
kind_of given.Close = Close

abbrev pub same_kind : Kind → Kind → Bool
same_kind New New = true
same_kind Open Open = true
same_kind Row Row = true
same_kind Close Close = true
same_kind _ _ = false

abbrev pub is_kind : Option Given → Kind → Bool
is_kind None kind = false
is_kind (Some g) kind = same_kind (kind_of g) kind

-- the numbers of the call at a place
abbrev pub call_at : List ℕ → ℕ → Call
call_at bs i = record {
  given = given_at bs i;
  answer = u16_at bs (i + 2);
  rows = u16_at bs (i + 4);
  system = u16_at bs (i + 6);
  samples = u16_at bs (i + 8);
  bytes = u32_at bs (i + 10);
  clips = record { low = u16_at bs (i + 14); high = u16_at bs (i + 16) };
}

-- a call of this kind in which the answer of this number is due
abbrev pub is_of : Call → Counted → Bool
is_of c counted = is_kind c.given counted.kind && eqb c.answer counted.answer

-- the bytes of the block that is due, 0 where none is
abbrev pub block_length : Call → ℕ
block_length c = cond (eqb c.samples 0) 0 (9 + 6 * c.samples)

-- the length of the buffer that a row is lent
abbrev pub room_by : Option Given → ℕ
room_by (Some (given.Row part)) = part.room
room_by _ = 0

abbrev pub room : Call → ℕ
room c = room_by c.given

-- a row's own part of the lights
abbrev pub lights_of : Part → List ℕ → List ℕ
lights_of part lights = take part.count (drop part.first lights)

-- its lights and its buffer are there
abbrev pub is_there : Part → List ℕ → List ℕ → Bool
is_there part lights lent = leb (part.first + part.count) (length lights) && leb part.room (length lent)

-- a row's answer, and the buffer after it; where its lights or buffer are not there it is refused with 7, as no picture answers
abbrev pub row_answer : Part → Picture → List ℕ → List ℕ → Outcome Picture
row_answer part p lights lent = cond (is_there part lights lent) (rowing p (lights_of part lights) part.room) (refused 7)

abbrev pub row_buffer : Part → Picture → List ℕ → List ℕ → List ℕ
row_buffer part p lights lent =
    cond (is_there part lights lent) (buffer_after p (lights_of part lights) (take part.room lent) ++ drop part.room lent) lent

-- a call's answer and the buffer after it, by its kind; one that is no open, row or close begins a list with a fresh picture
abbrev pub answer_by : Option Given → Picture → List ℕ → List ℕ → Outcome Picture
answer_by (Some (given.Open system width height)) p lights lent = opening p system width height
answer_by (Some (given.Row part)) p lights lent = row_answer part p lights lent
answer_by (Some given.Close) p lights lent = closing p
answer_by _ p lights lent = accepted (at phase.Fresh 0)

abbrev pub call_answer : Call → Picture → List ℕ → List ℕ → Outcome Picture
call_answer c p lights lent = answer_by c.given p lights lent

abbrev pub buffer_by : Option Given → Picture → List ℕ → List ℕ → List ℕ
buffer_by (Some (given.Row part)) p lights lent = row_buffer part p lights lent
buffer_by _ p lights lent = lent

abbrev pub buffer_of : Call → Picture → List ℕ → List ℕ → List ℕ
buffer_of c p lights lent = buffer_by c.given p lights lent

-- the rows accepted of an open picture
abbrev pub rows_of : Phase → ℕ
rows_of phase.Fresh = 0
rows_of (phase.Open o) = o.rows
rows_of phase.Closed = 0

-- a header is that of the row that the call was, the last of the rows accepted
abbrev pub same_header : Header → Call → Bool
same_header h c = eqb (number h.system) c.system && eqb (h.row + 1) c.rows && eqb h.samples c.samples && eqb h.clips.low c.clips.low && eqb h.clips.high c.clips.high

-- a block reads as this row
abbrev pub read_as : Outcome Header → Call → Bool
read_as (accepted h) c = same_header h c
read_as (refused n) c = false

-- each code is the one that is due at its place, and within one of its light's: a place has the light's code, then that one
abbrev pub near : ℕ → ℕ → Bool
near a b = leb a (b + 1) && leb b (a + 1)

abbrev pub is_due : ℕ → List ℕ → ℕ → Bool
is_due code due i = cond (ltb i (length due / 4)) (eqb code (u16_at due (4 * i + 2)) && near code (u16_at due (4 * i))) false

abbrev pub are_due : List ℕ → List ℕ → Bool
are_due codes due = list_all (λ x. is_due x.1 due x.0) (enumerate_from 0 codes)

-- the lights of a file, 2 bytes each: the first n
unfoldable pub lights_to : List ℕ → ℕ → List ℕ
lights_to bs zero = []
lights_to bs (suc n) = lights_to bs n ++ u16_at bs (2 * n) ∷ []

-- where a block is due, the one at the buffer's front reads as the call's row, into a slice with no place to spare, with the codes that are due
abbrev pub read_into : Call → List ℕ → List ℕ → List ℕ → Bool
read_into c block slice due = read_as (header_of block (length slice)) c && are_due (slice_after block slice) due

abbrev pub read_met : Call → List ℕ → List ℕ → Bool
read_met c lent due =
    cond (eqb (block_length c) 0) true
    (cond (leb (block_length c) (length lent))
    (cond (leb (3 * c.samples) 23040) (read_into c (take (block_length c) lent) (take (3 * c.samples) (replicate 23040 0)) due) false) false)

-- the picture after an answer: one that is refused stays
abbrev pub after : Outcome Picture → Picture → Picture
after (accepted q) p = q
after (refused n) p = p

-- what the buffer has to hold once a block is due: the block at its front, where it has room for it
abbrev pub expected : List ℕ → List ℕ → List ℕ
expected block due = cond (leb (length block) (length due)) (block ++ drop (length block) due) due

-- the answer's number, and the rows accepted and the bytes of the picture after it are the book's
abbrev pub answered : Call → ℕ → Picture → Bool
answered c n p = eqb n c.answer && eqb (rows_of p.phase) c.rows && eqb p.bytes c.bytes

-- a call is met: in its answer and the picture after it, in the buffer as far as it was lent, and in the reading of its block
unfoldable pub met : Call → ℕ → Picture → List ℕ → List ℕ → List ℕ → Bool
met c n p lent due codes = answered c n p && begin_alike lent due (room c) && read_met c lent codes

-- what calls leave: the picture, the lent buffer, what that buffer has to hold, and the tally; before the first of them a fresh picture
abbrev pub play : Picture → List ℕ → List ℕ → Tally → Play
play p lent due t = record { picture = p; lent = lent; due = due; tally = t }

abbrev pub begun : Play
begun = play (at phase.Fresh 0) (replicate 46100 171) (replicate 46100 171) none

-- after a call, with the bytes behind its numbers: it counts where its kind and answer are the ones in question
unfoldable pub after_call : Call → List ℕ → List ℕ → Counted → Play → Play
after_call c bs lights counted s =
    let answer = call_answer c s.picture lights s.lent in
    let p = after answer s.picture in
    let lent = buffer_of c s.picture lights s.lent in
    let due = expected (take (block_length c) bs) s.due in
    play p lent due (cond (is_of c counted) (tallied s.tally (met c (number_of answer) p lent due (drop (block_length c) bs))) s.tally)

-- the bytes of a call: its numbers, the block that is due, and the codes that are due
abbrev pub size_of : Call → ℕ
size_of c = 30 + block_length c + 12 * c.samples

-- the bytes of the call at a place
abbrev pub size_at : List ℕ → ℕ → ℕ
size_at bs at = size_of (call_at bs at)

-- after the call at a place
abbrev pub play_after : List ℕ → List ℕ → Counted → ℕ → Play → Play
play_after bs lights counted at s = after_call (call_at bs at) (take (size_at bs at - 30) (drop (at + 30) bs)) lights counted s

-- the tally of all calls, from a state on
abbrev pub CallsCompared : List ℕ → List ℕ → Counted → Play → Tally → Type 0
CallsCompared bs lights counted s t = Compared (size_at bs) (play_after bs lights counted) s (λ (x : Play). x.tally) (length bs) t
