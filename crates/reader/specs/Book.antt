-- The reader's book (request 2026-10): which calls a picture reader accepts, and with what numbers it refuses the others, kept from the
-- calls' arguments alone. It cites nothing of the reader; what block reading says of the bytes is `header_of`.
-- Definitions only.
use Rattle.std.specs.Prelude.{ℕ, ◌+◌, Bool, true, ◌&&◌, cond, List, [], ◌∷◌, eqb}
use Rattle.exact.specs.Outcome.{Outcome, accepted, refused, ◌and_then◌, require}
use Rattle.systems.specs.Systems.{number}
use Rattle.block.specs.declared.Header.{Header}
use Rattle.block.specs.Read.{header_of}
use Rattle.picture.specs.Book.{among}

-- a call with its arguments: a height; a block's bytes and the length of the lent slice
pub data Call : Type 0 where
  opens : ℕ → Call
  blocks : List ℕ → ℕ → Call

-- the first block accepted since the opening: its system and count
pub data First : Type 0 where
  none : First
  first : ℕ → ℕ → First

-- opened with a height, and how many blocks were accepted since
pub record Sheet : Type 0 where
  pub height : ℕ
  pub count : ℕ
  pub first : First

pub data State : Type 0 where
  unopened : State
  opened : Sheet → State
  complete : State

abbrev pub like : First → Header → Bool
like none h = true
like (first n w) h = eqb (number h.system) n && eqb h.samples w

abbrev pub first_with : First → Header → First
first_with none h = first (number h.system) h.samples
first_with (first n w) h = first n w

-- one block more; after height blocks it is complete
abbrev pub more : Sheet → Header → State
more s h = cond (eqb (s.count + 1) s.height) complete (opened (record { height = s.height; count = s.count + 1; first = first_with s.first h }))

-- what a call comes to: the next state, or a refusal's number. 36 is tested first, 34 and then 35 after block reading's checks
abbrev pub makes : State → Call → Outcome State
makes st (opens h) = require (among 1 4320 h) 3 (accepted (opened (record { height = h; count = 0; first = none })))
makes unopened (blocks bs room) = refused 36
makes (opened s) (blocks bs room) =
    header_of bs room and_then λ h.
    require (eqb h.row s.count) 34
    (require (like s.first h) 35
    (accepted (more s h)))
makes complete (blocks bs room) = refused 36

-- a refused call leaves the state
abbrev pub next : State → Outcome State → State
next st (accepted st') = st'
next st (refused n) = st

-- what is heard of a call: that it was accepted, or the number
abbrev pub heard : {A : Type 0} → Outcome A → Outcome (Unit {0})
heard o = o and_then λ _. accepted tt

unfoldable pub answers_from : State → List Call → List (Outcome (Unit {0}))
answers_from st [] = []
answers_from st (c ∷ cs) = heard (makes st c) ∷ answers_from (next st (makes st c)) cs
