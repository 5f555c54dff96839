-- What a card's calls do, and runs of them on one picture.
-- Definitions only.
use Prim.Native.Nat.{ℕ, ◌≤◌}
use mathlib.Core.List.{List, [], ◌∷◌}
use lib.ListN.{length, get_or}
use Rattle.exact.specs.Outcome.{Outcome}
use Rattle.curve.specs.Curve.{full_light}
use Rattle.picture.specs.Book.{Call, opens, rows, closes, Answer}

-- what a reading tells of a block: its system's number, its count and its row number
pub record Label : Type 0 where
  pub system : ℕ
  pub samples : ℕ
  pub row : ℕ

-- a card, by what its calls do: each stands between what it was given and what came of it
pub record Card : Type 1 where
  -- a picture as the caller holds it
  pub Picture : Type 0
  -- the bytes written that it carries (request 2026-06)
  pub bytes : Picture → ℕ
  -- a new one
  pub New : Picture → Type 0
  -- a picture, system, width and height; the answer, and the picture that the next call is given
  pub Open : Picture → ℕ → ℕ → ℕ → Answer → Picture → Type 0
  -- a picture, lights and a lent buffer; the answer, the buffer as it was left, and the next picture
  pub Row : Picture → List ℕ → List ℕ → Answer → List ℕ → Picture → Type 0
  -- a picture; the answer, and the next picture
  pub Close : Picture → Answer → Picture → Type 0
  -- a block's bytes and a lent slice; the answer, and the slice as it was left
  pub Read : List ℕ → List ℕ → Outcome Label → List ℕ → Type 0
  -- a width and a height; the total that is foretold
  pub Total : ℕ → ℕ → Outcome ℕ → Type 0

-- a buffer that was lent to a row: the answer to the call, and its bytes before and after
pub record Lent : Type 0 where
  pub answer : Answer
  pub before : List ℕ
  pub after : List ℕ

-- the lights of a slice of 16-bit words
abbrev pub Lights : List ℕ → Type 0
Lights lights = (j : ℕ) → get_or lights j 0 ≤ full_light

-- from the picture p the calls cs were made, each on the picture that the one before it gave, and the last gave q; ans are the answers, and ls the buffers lent to the rows
pub data Ran (card : Card) : card.Picture → List Call → List Answer → List Lent → card.Picture → Type 0 where
  ends : {p : card.Picture} → Ran card p [] [] [] p
  after_open : {p p' q : card.Picture} {n w h : ℕ} {answer : Answer} {cs : List Call} {ans : List Answer} {ls : List Lent}
      → card.Open p n w h answer p' → Ran card p' cs ans ls q → Ran card p (opens n w h ∷ cs) (answer ∷ ans) ls q
  after_row : {p p' q : card.Picture} {lights out out' : List ℕ} {answer : Answer} {cs : List Call} {ans : List Answer} {ls : List Lent}
      → Lights lights → card.Row p lights out answer out' p' → Ran card p' cs ans ls q
      → Ran card p (rows lights (length out) ∷ cs) (answer ∷ ans) (record { answer = answer; before = out; after = out' } ∷ ls) q
  after_close : {p p' q : card.Picture} {answer : Answer} {cs : List Call} {ans : List Answer} {ls : List Lent}
      → card.Close p answer p' → Ran card p' cs ans ls q → Ran card p (closes ∷ cs) (answer ∷ ans) ls q

-- from a fresh picture
pub record History (card : Card) (cs : List Call) (ans : List Answer) (ls : List Lent) (q : card.Picture) : Type 0 where
  pub start : card.Picture
  pub made : card.New start
  pub ran : Ran card start cs ans ls q
