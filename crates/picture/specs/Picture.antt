-- The picture's calls (document 01, 'Picture' and 'What the caller hears'): state is tested first, then input in the order of the numbers.
-- Definitions only.
use Rattle.std.specs.Prelude.{ℕ, ◌+◌, ◌*◌, min, Bool, ◌&&◌, cond, List, ◌++◌, leb, ltb, eqb, length, drop}
use Rattle.exact.specs.Outcome.{Outcome, accepted, refused, ◌and_then◌, require}
use Rattle.systems.specs.declared.System.{System}
use Rattle.systems.specs.Systems.{named}
use Rattle.block.specs.Block.{size}
use Rattle.block.specs.Read.{width_ok}
use Rattle.row.specs.Row.{row_block}
use Rattle.picture.specs.declared.Opened.{Opened}
use Rattle.picture.specs.declared.Phase.{Phase}
use Rattle.picture.specs.declared.Phase.TheVariants.{Fresh, Open, Closed}
use Rattle.picture.specs.declared.Picture.{Picture}
use Rattle.picture.specs.declared.Size.{Size}

-- the picture at a phase, with the bytes written so far (request 2026-06)
abbrev pub at : Phase → ℕ → Picture
at f b = record { phase = f; bytes = b }

-- a call's outcome on the picture, by its outcome on the phase and the bytes after it
abbrev pub around : Outcome Phase → ℕ → Outcome Picture
around o b = o and_then λ f. accepted (at f b)

-- a height of 1 to 4320; a width is as in a block, 1 to 7680
abbrev pub height_ok : ℕ → Bool
height_ok h = leb 1 h && leb h 4320

-- a picture's size
unfoldable pub sized : ℕ → ℕ → Outcome Size
sized w h = require (width_ok w) 2 (require (height_ok h) 3 (accepted (record { width = w; height = h })))

-- the bytes that a picture of this size takes (request 2026-06)
abbrev pub total_bytes : ℕ → ℕ → Outcome ℕ
total_bytes w h = sized w h and_then λ s. accepted (s.height * size s.width)

-- an open picture that calls can make
unfoldable pub proper : Opened → ℕ → Bool
proper o b = ((width_ok o.width && height_ok o.height) && leb o.rows o.height) && eqb (o.rows * size o.width) b

-- a phase that a caller kept with these bytes: any other open one is taken as fresh
abbrev pub resumed : Phase → ℕ → Phase
resumed Fresh b = Fresh
resumed (Open o) b = cond (proper o b) (Open o) Fresh
resumed Closed b = Closed

-- open with these, no row accepted
abbrev pub begun : System → Size → Opened
begun y s = record { system = y; width = s.width; height = s.height; rows = 0 }

-- open in a known system
abbrev pub begin_in : System → ℕ → ℕ → Outcome Phase
begin_in y w h = sized w h and_then λ s. accepted (Open (begun y s))

unfoldable pub begin : ℕ → ℕ → ℕ → Outcome Phase
begin n w h = named n and_then λ y. begin_in y w h

-- open: allowed when fresh or closed
abbrev pub open_from : Phase → ℕ → ℕ → ℕ → Outcome Phase
open_from Fresh n w h = begin n w h
open_from (Open o) n w h = refused 21
open_from Closed n w h = begin n w h

abbrev pub opening : Picture → ℕ → ℕ → ℕ → Outcome Picture
opening p n w h = around (open_from p.phase n w h) 0

-- one row more
abbrev pub more : Opened → Opened
more o = record { system = o.system; width = o.width; height = o.height; rows = o.rows + 1 }

-- a row of lights to an open picture, with so many bytes of room
unfoldable pub row_open : Opened → List ℕ → ℕ → Outcome Phase
row_open o lights room =
    require (ltb o.rows o.height) 23
    (require (eqb (length lights) (3 * o.width)) 4
    (require (leb (size o.width) room) 5
    (accepted (Open (more o)))))

abbrev pub row_from : Phase → List ℕ → ℕ → Outcome Phase
row_from Fresh lights room = refused 22
row_from (Open o) lights room = row_open o lights room
row_from Closed lights room = refused 22

-- the bytes with a row's block more; that a u32 holds the sum is a theorem, and one that it did not hold would stay at the greatest
abbrev pub with_block : Phase → ℕ → ℕ
with_block Fresh b = b
with_block (Open o) b = min 4294967295 (b + size o.width)
with_block Closed b = b

abbrev pub rowing : Picture → List ℕ → ℕ → Outcome Picture
rowing p lights room = around (row_from p.phase lights room) (with_block p.phase p.bytes)

-- the buffer as a row leaves it: the block at the front where it is accepted, and later bytes as they were
abbrev pub buffer_by : Outcome Phase → Opened → List ℕ → List ℕ → List ℕ
buffer_by (accepted f) o lights out = row_block o.system o.rows o.width lights ++ drop (size o.width) out
buffer_by (refused n) o lights out = out

abbrev pub buffer_from : Phase → List ℕ → List ℕ → List ℕ
buffer_from Fresh lights out = out
buffer_from (Open o) lights out = buffer_by (row_open o lights (length out)) o lights out
buffer_from Closed lights out = out

abbrev pub buffer_after : Picture → List ℕ → List ℕ → List ℕ
buffer_after p lights out = buffer_from p.phase lights out

-- close: needs every row
abbrev pub close_from : Phase → Outcome Phase
close_from Fresh = refused 22
close_from (Open o) = require (eqb o.rows o.height) 24 (accepted Closed)
close_from Closed = refused 22

abbrev pub closing : Picture → Outcome Picture
closing p = around (close_from p.phase) p.bytes
