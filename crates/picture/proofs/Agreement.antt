-- The row book accepts a call exactly where none of its refusal tables' conditions holds.
-- Assumes nothing.
use Prim.Native.Nat.{ℕ, suc, ◌+◌, ◌*◌}
use mathlib.Core.Path.{◌≡◌, refl}
use mathlib.Core.Bool.{Bool, true, false, not, ◌&&◌}
use native.Mathlib.Omega.{arith}
use lib.Dec.{ltb, leb, eqb}
use lib.ListN.{length}
use Rattle.std.proofs.lemmas.Bool.Decides.{nat_tests}
use Rattle.picture.specs.Book.{Call, opens, rows, closes, State, fresh, opened, closed, Answer, accepted, refused, among, accepts, choose, answers}

-- by the two values of a test (std's cases_Bool gives a sum, which each proof would then take apart)
pub split : {P : Type 0} (b : Bool) → (b ≡ true → P) → (b ≡ false → P) → P
split true f g = f refl
split false f g = g refl

at_least_is_not_below : (a b : ℕ) → leb b a ≡ not (ltb a b)
at_least_is_not_below a b = grind (arith, nat_tests)

below_is_not_at_least : (a b : ℕ) → ltb a b ≡ not (leb b a)
below_is_not_at_least a b = grind (arith, nat_tests)

-- whether the book accepts a call, and what its tables say of it: both accept, or both refuse, with a number that is not 0
pub data Agree : Bool → Answer → Type 0 where
  both_accept : Agree true accepted
  both_refuse : (n : ℕ) → Agree false (refused (suc n))

three_tests : (a b c : Bool) (l m n : ℕ) → Agree (a && (b && c)) (choose (not a) (refused (suc l)) (choose (not b) (refused (suc m)) (choose (not c) (refused (suc n)) accepted)))
three_tests false b c l m n = both_refuse l
three_tests true false c l m n = both_refuse m
three_tests true true false l m n = both_refuse n
three_tests true true true l m n = both_accept

one_test : (a : Bool) (n : ℕ) → Agree a (choose (not a) (refused (suc n)) accepted)
one_test false n = both_refuse n
one_test true n = both_accept

pub accepts_unless_a_condition_holds : (st : State) (c : Call) → Agree (accepts st c) (answers st c)
accepts_unless_a_condition_holds fresh (opens n w h) = three_tests (among 1 4 n) (among 1 7680 w) (among 1 4320 h) 0 1 2
accepts_unless_a_condition_holds (opened s) (opens n w h) = both_refuse 20
accepts_unless_a_condition_holds closed (opens n w h) = three_tests (among 1 4 n) (among 1 7680 w) (among 1 4320 h) 0 1 2
accepts_unless_a_condition_holds fresh (rows lights room) = both_refuse 21
accepts_unless_a_condition_holds (opened s) (rows lights room) =
    rw (at_least_is_not_below s.count s.height, below_is_not_at_least room (9 + 6 * s.width))
    (three_tests (ltb s.count s.height) (eqb (length lights) (3 * s.width)) (leb (9 + 6 * s.width) room) 22 3 4)
accepts_unless_a_condition_holds closed (rows lights room) = both_refuse 21
accepts_unless_a_condition_holds fresh closes = both_refuse 21
accepts_unless_a_condition_holds (opened s) closes = one_test (eqb s.count s.height) 23
accepts_unless_a_condition_holds closed closes = both_refuse 21
