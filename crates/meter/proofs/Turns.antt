-- Rows that were entered in turn, from place 0 on: what one more of them makes of the sum.
-- Assumes nothing.
use mathlib.Core.Path.{◌≡◌, refl, ◌∙◌}
use mathlib.Core.Bool.{Bool, true, false, ◌&&◌, ◌||◌, false≢true}
use mathlib.Core.Logic.{◌⊎◌, inl, inr, ⊎_elim}
use mathlib.Core.List.{List}
use Prim.Native.Nat.{ℕ, ◌+◌, ◌%◌, ◌*◌, ◌≤◌, ◌<◌, min}
use native.Mathlib.Nat.{eq-or-lt_of_le}
use native.Mathlib.Numerals.{add-one}
use native.Mathlib.Omega.{arith}
use lib.Dec.{ltb, eqb}
use lib.ListN.{length, get_or, take, set, length-set}
use lib.Seq.{take_all, take-suc-set}
use borrow.Author.Tests.{ltb-true, eqb-true, lt-ltb, eq-eqb, ne_eqb}
use Rattle.exact.proofs.Boolean.{each_of_three}
use Rattle.meter.specs.declared.Meter.{Meter}
use mir.Syntax.{w16}
use mir.Val.{Fits}
use Rattle.std.specs.Prelude.{sum}
use Rattle.std.proofs.Common.{length-take}
use Rattle.std.proofs.lemmas.List.Elements.{All-from_get_or, All-take}
use Rattle.std.proofs.lemmas.List.Sums.{sum_by_push, sum_by-set, sum_by-le}
use Rattle.meter.specs.Meter.{in_turn, whole, kept}

pub record InTurn (place rows : ℕ) : Type 0 where
  pub below : place < 64
  pub held : (rows ≡ place) ⊎ (rows ≡ 64)

either : (a b c : Bool) → (a && (b || c)) ≡ true → (a ≡ true) × ((b ≡ true) ⊎ (c ≡ true))
either true true c h = (refl, inl refl)
either true false true h = (refl, inr refl)
either true false false h = absurd (false≢true h)
either false b c h = absurd (false≢true h)

pub in_turn_lem : (place rows : ℕ) → in_turn place rows ≡ true → InTurn place rows
in_turn_lem place rows e =
    let k = either (ltb place 64) (eqb rows place) (eqb rows 64) e in
    record { below = ltb-true place 64 k.0; held = ⊎_elim (λ s. inl (eqb-true rows place s)) (λ s. inr (eqb-true rows 64 s)) k.1 }

pub at_most_64 : {place rows : ℕ} → InTurn place rows → rows ≤ 64
at_most_64 t = ⊎_elim (λ e. omega (arith, t.below)) (λ e. omega arith) t.held

pub fewer : {place rows : ℕ} → InTurn place rows → rows < 64 → rows ≡ place
fewer t h = ⊎_elim (λ e. e) (λ e. absurd (omega arith)) t.held

pub all : {place rows : ℕ} → InTurn place rows → 64 ≤ rows → rows ≡ 64
all t h = ⊎_elim (λ e. absurd (omega (arith, t.below))) (λ e. e) t.held

pub turn_test : {place rows : ℕ} → InTurn place rows → in_turn place rows ≡ true
turn_test {place} {rows} t =
    let below = lt-ltb place 64 t.below in
    ⊎_elim (λ e. simp (below, eq-eqb rows place e)) (λ e. simp (below, ne_eqb rows place (λ s. omega (arith, t.below)), eq-eqb rows 64 e)) t.held

pub next_turn : {place rows : ℕ} → InTurn place rows → InTurn ((place + 1) % 64) (min 64 (rows + 1))
next_turn {place} {rows} t = record {
  below = omega arith;
  held = ⊎_elim (λ e.
      ⊎_elim (λ last. inr (omega (arith, t.below))) (λ lt. inl (omega arith)) (eq-or-lt_of_le {n = place + 1} {m = 64} (omega (arith, t.below))))
      (λ e. inr (omega arith)) t.held;
}

-- ---- the sum, and the sum after one row more

module _ (counts : List ℕ) (place rows : ℕ) (turn : in_turn place rows ≡ true) where
  -- of 16-bit counts
  pub sum_fits : ((i : ℕ) → Fits w16 (get_or counts i 0)) → sum (take rows counts) ≤ 64 * 65535
  sum_fits each =
      let Most : ℕ → Type 0 = λ n. n ≤ 65535 in
      let most = All-take Most rows counts (All-from_get_or Most counts 0 (λ i h. omega (arith, each i))) in
      let few = at_most_64 (in_turn_lem place rows turn) in
      omega (arith, length-take rows counts, sum_by-le (λ n. n) 65535 (take rows counts) most)

  module _ (count : ℕ) (long : length counts ≡ 64) where
    pub sum_grows : rows < 64 → sum (take (min 64 (rows + 1)) (set counts place count)) ≡ sum (take rows counts) + count
    sum_grows h =
        let t = in_turn_lem place rows turn in
        let e : min 64 (rows + 1) ≡ place + 1 = omega (arith, fewer t h) in
        rw (e, add-one place, take-suc-set counts place count (omega (arith, t.below)), fewer t h) (sum_by_push (λ n. n) (take place counts) count)

    pub sum_moves : 64 ≤ rows → sum (take (min 64 (rows + 1)) (set counts place count)) + get_or counts place 0 ≡ sum (take rows counts) + count
    sum_moves h =
        let t = in_turn_lem place rows turn in
        let e : min 64 (rows + 1) ≡ 64 = omega arith in
        let long' : length (set counts place count) ≡ 64 = length-set counts place count ∙ long in
        rw (e, all t h, take_all 64 counts (omega arith), take_all 64 (set counts place count) (omega arith))
        (sum_by-set (λ n. n) counts place count 0 (omega (arith, t.below)))

-- ---- a meter whose parts agree

pub record Whole (m : Meter) : Type 0 where
  pub turn : in_turn m.place m.rows ≡ true
  pub low : m.low ≡ sum (take m.rows m.lows)
  pub high : m.high ≡ sum (take m.rows m.highs)

pub whole_parts : (m : Meter) → whole m ≡ true → Whole m
unfolding whole
whole_parts m e =
    let k = each_of_three _ _ _ e in
    record { turn = k.0; low = eqb-true _ _ k.1; high = eqb-true _ _ k.2 }

pub place_below : (m : Meter) → whole m ≡ true → m.place < 64
place_below m e = (in_turn_lem _ _ (whole_parts m e).turn).below

pub rows_most : (m : Meter) → whole m ≡ true → m.rows ≤ 64
rows_most m e = at_most_64 (in_turn_lem _ _ (whole_parts m e).turn)

pub whole_turn : (m : Meter) → whole m ≡ true → in_turn m.place m.rows ≡ true
whole_turn m e = (whole_parts m e).turn

pub whole_low : (m : Meter) → whole m ≡ true → m.low ≡ sum (take m.rows m.lows)
whole_low m e = (whole_parts m e).low

pub whole_high : (m : Meter) → whole m ≡ true → m.high ≡ sum (take m.rows m.highs)
whole_high m e = (whole_parts m e).high

pub parts_whole : (m : Meter) → Whole m → whole m ≡ true
unfolding whole
parts_whole m w = simp (w.turn, eq-eqb _ _ w.low, eq-eqb _ _ w.high)

pub kept_whole : (m : Meter) → whole (kept m) ≡ true
unfolding whole
kept_whole m = by (whole m) refl
  where
    by : (t : Bool) → whole m ≡ t → whole (kept m) ≡ true
    by true e = rw e e
    by false e = rw e refl
