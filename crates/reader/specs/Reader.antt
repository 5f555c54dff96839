-- Picture reading (request 2026-10): what the caller hears, the reader that the next call is given, and the slice that it lent.
-- Definitions only.
use Rattle.std.specs.Prelude.{Option, Some, None, ℕ, ◌+◌, Bool, true, ◌&&◌, cond, List, leb, ltb, eqb, length}
use Rattle.exact.specs.Outcome.{Outcome, accepted, refused, ◌and_then◌, require}
use Rattle.systems.specs.declared.System.{System}
use Rattle.systems.specs.Systems.{number}
use Rattle.block.specs.declared.Header.{Header}
use Rattle.block.specs.Read as block
use Rattle.block.specs.Read.{width_ok, header_of}
use Rattle.picture.specs.Picture.{height_ok}
use Rattle.reader.specs.declared.Format.{Format}
use Rattle.reader.specs.declared.Progress.{Progress}
use Rattle.reader.specs.declared.Phase.{Phase}
use Rattle.reader.specs.declared.Phase.TheVariants.{Unopened, Reading, Complete}
use Rattle.reader.specs.declared.Reader.{Reader}
use Rattle.reader.specs.declared.Taken.{Taken}

-- the reader at a phase
abbrev pub at : Phase → Reader
at f = record { phase = f }

-- opening, in any phase: it starts at row 0, and the first block is to give the format
abbrev pub opening : Reader → ℕ → Outcome Reader
opening r h = require (height_ok h) 3 (accepted (at (Reading (record { height = h; next = 0; format = None }))))

-- a system and count like those of the first block, if there was one
abbrev pub alike : Option Format → System → ℕ → Bool
alike None y w = true
alike (Some f) y w = eqb (number y) (number f.system) && eqb w f.width

-- after the next row, of this system and width: complete after height rows
abbrev pub after : Progress → System → ℕ → Phase
after p y w = cond (eqb (p.next + 1) p.height) Complete (Reading (record { height = p.height; next = p.next + 1; format = Some (record { system = y; width = w }) }))

-- a row of this system, number and width: 34 where it is not the next one, then 35
unfoldable pub in_turn : Progress → System → ℕ → ℕ → Outcome Reader
in_turn p y row w = require (eqb row p.next) 34 (require (alike p.format y w) 35 (accepted (at (after p y w))))

-- a block that reading accepts with a header
abbrev pub row_to : Progress → Header → Outcome Taken
row_to p h = in_turn p h.system h.row h.samples and_then λ r. accepted (record { header = h; reader = r })

-- a block, with so many words of room: 36, then what reading refuses, then 34 and 35
abbrev pub taking_from : Phase → List ℕ → ℕ → Outcome Taken
taking_from Unopened bs room = refused 36
taking_from (Reading p) bs room = header_of bs room and_then λ h. row_to p h
taking_from Complete bs room = refused 36

abbrev pub taking : Reader → List ℕ → ℕ → Outcome Taken
taking r bs room = taking_from r.phase bs room

-- what is heard of it
abbrev pub heard_of : Outcome Taken → Outcome Header
heard_of o = o and_then λ t. accepted t.header

-- the slice after a block: as reading leaves it where the block is accepted, else as it was
abbrev pub slice_after : Reader → List ℕ → List ℕ → List ℕ
slice_after r bs slice = block.slice_by (heard_of (taking r bs (length slice))) bs slice

-- a format goes with so many rows: none before the first
abbrev pub known : Option Format → ℕ → Bool
known None n = eqb n 0
known (Some f) n = leb 1 n && width_ok f.width

-- a reading that calls can make
unfoldable pub proper : Progress → Bool
proper p = (height_ok p.height && ltb p.next p.height) && known p.format p.next

-- a phase that a caller kept: any other one is taken as not opened
abbrev pub resumed : Phase → Phase
resumed Unopened = Unopened
resumed (Reading p) = cond (proper p) (Reading p) Unopened
resumed Complete = Complete
