-- The row book of document 01, 'Picture': which rows demand 3 means, kept from the calls' arguments alone. It cites nothing of the card.
-- Definitions only.
use Rattle.std.specs.Prelude.{ℕ, ◌+◌, ◌*◌, List, [], ◌∷◌, ◌++◌, Bool, true, false, not, ◌&&◌, length, ltb, leb, eqb}

-- a call with its arguments: system, width and height; the lights and the length of the lent buffer; none
pub data Call : Type 0 where
  opens : ℕ → ℕ → ℕ → Call
  rows : List ℕ → ℕ → Call
  closes : Call

-- open with system, width, height and a count
pub record Sheet : Type 0 where
  pub system : ℕ
  pub width : ℕ
  pub height : ℕ
  pub count : ℕ

pub data State : Type 0 where
  fresh : State
  opened : Sheet → State
  closed : State

pub record Entry : Type 0 where
  pub system : ℕ
  pub width : ℕ
  pub row : ℕ
  pub lights : List ℕ

pub data Answer : Type 0 where
  accepted : Answer
  refused : ℕ → Answer

abbrev pub among : ℕ → ℕ → ℕ → Bool
among low high x = leb low x && leb x high

-- a system, width and height in their ranges
abbrev pub in_ranges : ℕ → ℕ → ℕ → Bool
in_ranges n w h = among 1 4 n && (among 1 7680 w && among 1 4320 h)

-- which calls the book accepts
abbrev pub accepts : State → Call → Bool
accepts fresh (opens n w h) = in_ranges n w h
accepts (opened s) (opens n w h) = false
accepts closed (opens n w h) = in_ranges n w h
accepts fresh (rows lights room) = false
accepts (opened s) (rows lights room) = ltb s.count s.height && (eqb (length lights) (3 * s.width) && leb (9 + 6 * s.width) room)
accepts closed (rows lights room) = false
accepts fresh closes = false
accepts (opened s) closes = eqb s.count s.height
accepts closed closes = false

-- a refusal's number, and whether its condition holds
pub record Condition : Type 0 where
  pub number : ℕ
  pub holds : Bool

abbrev pub is_open : State → Bool
is_open fresh = false
is_open (opened s) = true
is_open closed = false

-- the sheet of a state; where it is not open, no condition that reads it comes first
abbrev pub sheet : State → Sheet
sheet fresh = record { system = 0; width = 0; height = 0; count = 0 }
sheet (opened s) = s
sheet closed = record { system = 0; width = 0; height = 0; count = 0 }

-- the refusal tables, in their order: state first, then input by the numbers
abbrev pub conditions : State → Call → List Condition
conditions st (opens n w h) =
    record { number = 21; holds = is_open st } ∷ record { number = 1; holds = not (among 1 4 n) }
    ∷ record { number = 2; holds = not (among 1 7680 w) } ∷ record { number = 3; holds = not (among 1 4320 h) } ∷ []
conditions st (rows lights room) =
    record { number = 22; holds = not (is_open st) } ∷ record { number = 23; holds = leb (sheet st).height (sheet st).count }
    ∷ record { number = 4; holds = not (eqb (length lights) (3 * (sheet st).width)) } ∷ record { number = 5; holds = ltb room (9 + 6 * (sheet st).width) } ∷ []
conditions st closes =
    record { number = 22; holds = not (is_open st) } ∷ record { number = 24; holds = not (eqb (sheet st).count (sheet st).height) } ∷ []

-- one of two, by a test
abbrev pub choose : {A : Type 0} → Bool → A → A → A
choose true a b = a
choose false a b = b

-- the answer where conditions are tested in order: the number of the first that holds, or accepted where none does
abbrev pub judged : List Condition → Answer
judged [] = accepted
judged (c ∷ cs) = choose c.holds (refused c.number) (judged cs)

-- what an accepted call makes of the book, and the entry that it makes
abbrev pub moves : State → Call → State
moves st (opens n w h) = opened (record { system = n; width = w; height = h; count = 0 })
moves st (rows lights room) = opened (record { system = (sheet st).system; width = (sheet st).width; height = (sheet st).height; count = (sheet st).count + 1 })
moves st closes = closed

abbrev pub enters : State → Call → List Entry
enters st (opens n w h) = []
enters st (rows lights room) = record { system = (sheet st).system; width = (sheet st).width; row = (sheet st).count; lights = lights } ∷ []
enters st closes = []

-- the book over a list of calls: a call that is not accepted changes nothing
abbrev pub next : State → Call → State
next st c = choose (accepts st c) (moves st c) st

abbrev pub answers : State → Call → Answer
answers st c = judged (conditions st c)

unfoldable pub answers_from : State → List Call → List Answer
answers_from st [] = []
answers_from st (c ∷ cs) = answers st c ∷ answers_from (next st c) cs

unfoldable pub entries_from : State → List Call → List Entry
entries_from st [] = []
entries_from st (c ∷ cs) = choose (accepts st c) (enters st c) [] ++ entries_from (next st c) cs

-- request 2026-06: the summed lengths of the blocks accepted since the last accepted open, which were b before the call
abbrev pub sums : ℕ → State → Call → ℕ
sums b st (opens n w h) = 0
sums b st (rows lights room) = b + (9 + 6 * (sheet st).width)
sums b st closes = b

abbrev pub next_sum : ℕ → State → Call → ℕ
next_sum b st c = choose (accepts st c) (sums b st c) b

unfoldable pub sum_from : ℕ → State → List Call → ℕ
sum_from b st [] = b
sum_from b st (c ∷ cs) = sum_from (next_sum b st c) (next st c) cs
