-- One call: the picture's answer and the row book's, side by side.
-- Assumes nothing.
use Prim.Native.Nat.{ℕ, ◌+◌, ◌*◌, ◌<◌, min}
use mathlib.Core.Path.{◌≡◌, refl}
use mathlib.Core.Bool.{Bool, true, false, not, ◌&&◌}
use mathlib.Core.List.{List}
use native.Mathlib.Nat.{add-mul, one-mul}
use native.Mathlib.Omega.{arith}
use lib.Dec.{eqb}
use borrow.Author.Tests.{eqb-true, eqb-false}
use Rattle.std.proofs.lemmas.Bool.Decides.{nat_tests}
use Rattle.exact.specs.Outcome as outcome
use Rattle.exact.specs.Outcome.{Outcome, ◌and_then◌}
use Rattle.systems.specs.declared.System.{System}
use Rattle.systems.specs.declared.System.TheVariants.{Bt709Bits8, Bt709Bits10, Bt2020Bits10, Bt2020Bits12}
use Rattle.systems.specs.Systems.{number, named}
use Rattle.systems.proofs.Scales.{unnamed}
use Rattle.block.specs.Block.{size}
use Rattle.picture.specs.declared.Opened.{Opened}
use Rattle.picture.specs.declared.Phase.{Phase}
use Rattle.picture.specs.declared.Phase.TheVariants.{Fresh, Open, Closed}
use Rattle.picture.specs.declared.Picture.{Picture}
use Rattle.picture.specs.Picture.{at, around, sized, begin_in, begin, opening, row_open, rowing, closing}
use Rattle.picture.specs.Book.{Call, opens, rows, closes, opened, Answer, accepted, refused, among, choose, answers, next, next_sum}
use Rattle.picture.proofs.Agreement.{split}
use Rattle.picture.proofs.Card.{answer_of, leads}
use Rattle.picture.proofs.Claims.{state_of, Sized, Proper}
use Rattle.picture.proofs.Totals.{total_most}

-- the answer to the call c is the book's, and it leads to where the book's next state is, with the book's sum, a picture that calls can reach
pub record InStep (p : Picture) (c : Call) (answer : Answer) (p' : Picture) : Type 0 where
  pub same : answer ≡ answers (state_of p.phase) c
  pub leads_on : state_of p'.phase ≡ next (state_of p.phase) c
  pub sums_on : Proper p → p'.bytes ≡ next_sum p.bytes (state_of p.phase) c
  pub stays : Proper p → Proper p'

-- so it is where the call comes to o
abbrev pub StepsTo : Picture → Call → Outcome Picture → Type 0
StepsTo p c o = InStep p c (answer_of o) (leads p o)

-- ---- open

-- a number names a system exactly where it is 1 to 4
pub data Names (n : ℕ) : Outcome System → Bool → Type 0 where
  names : (y : System) → number y ≡ n → Names n (outcome.accepted y) true
  nothing : Names n (outcome.refused 1) false

none_of_four : (n : ℕ) → (n ≡ 1 → ⊥) → (n ≡ 2 → ⊥) → (n ≡ 3 → ⊥) → (n ≡ 4 → ⊥) → among 1 4 n ≡ false
none_of_four n a b c d = grind (arith, nat_tests)

pub named_in_range : (n : ℕ) → Names n (named n) (among 1 4 n)
named_in_range n =
    split (eqb n 1) (λ a. rw (eqb-true n 1 a) (names Bt709Bits8 refl)) (λ a.
    split (eqb n 2) (λ b. rw (eqb-true n 2 b) (names Bt709Bits10 refl)) (λ b.
    split (eqb n 3) (λ c. rw (eqb-true n 3 c) (names Bt2020Bits10 refl)) (λ c.
    split (eqb n 4) (λ d. rw (eqb-true n 4 d) (names Bt2020Bits12 refl)) (λ d.
    rw (unnamed n (eqb-false n 1 a) (eqb-false n 2 b) (eqb-false n 3 c) (eqb-false n 4 d), none_of_four n (eqb-false n 1 a) (eqb-false n 2 b) (eqb-false n 3 c) (eqb-false n 4 d)) nothing))))

-- an open of p in the system that was found
abbrev pub begin_as : Picture → Outcome System → ℕ → ℕ → Outcome Picture
begin_as p k w h = around (k and_then λ y. begin_in y w h) 0

-- an open where none is open, and the book's lines for it; t says whether n is 1 to 4
record Begins (p : Picture) (n w h : ℕ) (k : Outcome System) (t : Bool) : Type 0 where
  same : answer_of (begin_as p k w h) ≡ choose (not t) (refused 1) (choose (not (among 1 7680 w)) (refused 2) (choose (not (among 1 4320 h)) (refused 3) accepted))
  leads_on : state_of (leads p (begin_as p k w h)).phase
      ≡ choose (t && (among 1 7680 w && among 1 4320 h)) (opened (record { system = n; width = w; height = h; count = 0 })) (state_of p.phase)
  sums_on : (leads p (begin_as p k w h)).bytes ≡ choose (t && (among 1 7680 w && among 1 4320 h)) 0 p.bytes
  stays : Proper p → Proper (leads p (begin_as p k w h))

begins : (p : Picture) (n w h : ℕ) {k : Outcome System} {t : Bool} → Names n k t → Begins p n w h k t
unfolding sized
begins p n w h nothing = record { same = refl; leads_on = refl; sums_on = refl; stays = λ g. g }
begins p n w h (names y e) =
    record { same = grind (arith, nat_tests); leads_on = grind (arith, nat_tests, e); sums_on = grind (arith, nat_tests); stays = λ g. grind (arith, nat_tests) }

open_at : (f : Phase) (b n w h : ℕ) → StepsTo (at f b) (opens n w h) (opening (at f b) n w h)
unfolding begin
open_at Fresh b n w h = let s = begins (at Fresh b) n w h (named_in_range n) in record { same = s.same; leads_on = s.leads_on; sums_on = λ g. s.sums_on; stays = s.stays }
open_at (Open o) b n w h = record { same = refl; leads_on = refl; sums_on = λ g. refl; stays = λ g. g }
open_at Closed b n w h = let s = begins (at Closed b) n w h (named_in_range n) in record { same = s.same; leads_on = s.leads_on; sums_on = λ g. s.sums_on; stays = s.stays }

pub open_step : (p : Picture) (n w h : ℕ) → StepsTo p (opens n w h) (opening p n w h)
open_step p n w h = open_at p.phase p.bytes n w h

-- ---- row

-- the bytes of a picture that has another row to come, with that row's block
one_more : (o : Opened) (b : ℕ) → Sized o b → (o.rows + 1) * size o.width ≡ b + size o.width
one_more o b g = omega (arith, g.bytes_of, add-mul o.rows 1 (size o.width), one-mul (size o.width))

-- they fit 32 bits
more_fit : (o : Opened) (b : ℕ) → Sized o b → o.rows < o.height → min 4294967295 (b + size o.width) ≡ b + size o.width
more_fit o b g l = omega (arith, total_most (o.rows + 1) o.width (omega (arith, g.height_to)) g.width_to, one_more o b g)

row_at : (f : Phase) (n : ℕ) (lights : List ℕ) (room : ℕ) → StepsTo (at f n) (rows lights room) (rowing (at f n) lights room)
unfolding row_open
row_at Fresh n lights room = record { same = refl; leads_on = refl; sums_on = λ g. refl; stays = λ g. g }
row_at (Open o) n lights room = record {
  same = grind (arith, nat_tests);
  leads_on = grind (arith, nat_tests);
  sums_on = λ g. grind (arith, nat_tests, more_fit o n g);
  stays = λ g. grind (arith, nat_tests, one_more o n g, more_fit o n g);
}
row_at Closed n lights room = record { same = refl; leads_on = refl; sums_on = λ g. refl; stays = λ g. g }

pub row_step : (p : Picture) (lights : List ℕ) (room : ℕ) → StepsTo p (rows lights room) (rowing p lights room)
row_step p lights room = row_at p.phase p.bytes lights room

-- ---- close

close_at : (f : Phase) (n : ℕ) → StepsTo (at f n) closes (closing (at f n))
close_at Fresh n = record { same = refl; leads_on = refl; sums_on = λ g. refl; stays = λ g. g }
close_at (Open o) n =
    record { same = grind (arith, nat_tests); leads_on = grind (arith, nat_tests); sums_on = λ g. grind (arith, nat_tests); stays = λ g. grind (arith, nat_tests) }
close_at Closed n = record { same = refl; leads_on = refl; sums_on = λ g. refl; stays = λ g. g }

pub close_step : (p : Picture) → StepsTo p closes (closing p)
close_step p = close_at p.phase p.bytes
