-- Inner definitions: a block's turn, which is asked before its words are read. Nothing here has to be believed.
-- Definitions only.
use Rattle.std.specs.Prelude.{ℕ, List}
use Rattle.exact.specs.Outcome.{Outcome, accepted, refused, ◌and_then◌}
use Rattle.block.specs.declared.Header.{Header}
use Rattle.block.specs.Read.{walk, header_of}
use Rattle.reader.specs.declared.Progress.{Progress}
use Rattle.reader.specs.declared.Phase.{Phase}
use Rattle.reader.specs.declared.Phase.TheVariants.{Unopened, Reading, Complete}
use Rattle.reader.specs.declared.Reader.{Reader}
use Rattle.reader.specs.Reader.{in_turn}

-- a block that its turn refuses with n: what reading refuses comes first
abbrev pub before_turn : Outcome Header → ℕ → Outcome Reader
before_turn o n = o and_then λ h. refused n

-- a walked block by its turn and its reading: of the next row, words and room are left to reading
abbrev pub turn_by : Outcome Reader → Outcome Header → Outcome Reader
turn_by (accepted r) o = accepted r
turn_by (refused n) o = before_turn o n

unfoldable pub turn_from : Progress → List ℕ → ℕ → Outcome Reader
turn_from p bs room = walk bs and_then λ b. turn_by (in_turn p b.system b.row b.samples) (header_of bs room)

abbrev pub turn_at : Phase → List ℕ → ℕ → Outcome Reader
turn_at Unopened bs room = refused 36
turn_at (Reading p) bs room = turn_from p bs room
turn_at Complete bs room = refused 36

abbrev pub turn_of : Reader → List ℕ → ℕ → Outcome Reader
turn_of r bs room = turn_at r.phase bs room
