-- The counts that an array holds, the oldest first, and the latest of a history: one row more does the same to both.
-- Assumes nothing.
use mathlib.Core.Path.{◌≡◌, sym, ap, ◌∙◌}
use mathlib.Core.Logic.{⊎_elim}
use mathlib.Core.List.{List, [], ◌∷◌, ◌++◌, append-nil, append_assoc}
use Prim.Native.Nat.{ℕ, suc, ◌+◌, ◌-◌, ◌%◌, ◌≤◌, min}
use native.Mathlib.Nat.{eq-or-lt_of_le}
use native.Mathlib.Numerals.{add-one}
use native.Mathlib.Omega.{arith}
use lib.ListN.{length, get_or, take, drop, set, length-append, length-drop, length-set, take-append-drop}
use lib.Seq.{take_all, drop-length, drop-cons, drop-drop, drop-append-le, drop-set-lt, take-suc-set, length-take-le}
use Rattle.std.specs.Prelude.{sum}
use Rattle.std.proofs.lemmas.List.Sums.{sum_by-append}
use Rattle.meter.proofs.Claims.{latest, held}
use Rattle.meter.proofs.Turns.{InTurn}

pub latest_few : (h : List ℕ) → length h ≤ 64 → latest h ≡ h
latest_few h few = let e : length h - 64 ≡ 0 = omega arith in rw e

-- the latest of a history are all that the next ones need
latest_next : (h : List ℕ) (x : ℕ) → latest (latest h ++ x ∷ []) ≡ latest (h ++ x ∷ [])
latest_next h x =
    let d = length h - 64 in
    let m = length (drop d (h ++ x ∷ [])) - 64 in
    let long = length-append h (x ∷ []) in
    let e : d + m ≡ length (h ++ x ∷ []) - 64 = omega (arith, length-drop d (h ++ x ∷ [])) in
    ap latest (sym (drop-append-le d h (x ∷ []) (omega arith))) ∙ drop-drop m d (h ++ x ∷ []) ∙ ap (λ (k : ℕ). drop k (h ++ x ∷ [])) e

-- ---- the counts that an array holds

module _ (l : List ℕ) (long : length l ≡ 64) (q : ℕ) (h : q ≤ 64) where
  -- of rows that were entered from place 0 on, with the next one behind them or, after 64, at place 0
  held_filling : held l (q % 64) q ≡ take q l
  held_filling = ⊎_elim (λ e. rw e (append-nil (take 64 l))) (λ lt.
      let e : q % 64 ≡ q = omega arith in
      let none : drop q (take q l) ≡ [] = ap (λ (k : ℕ). drop k (take q l)) (sym (length-take-le q l (omega arith))) ∙ drop-length (take q l) in
      rw (e, none)) (eq-or-lt_of_le h)

  -- of 64 rows
  held_full : held l (q % 64) 64 ≡ drop q l ++ take q l
  held_full = ⊎_elim (λ e.
      let first : q % 64 ≡ 0 = omega arith in
      let none : drop q l ≡ [] = ap (λ (k : ℕ). drop k l) (e ∙ sym long) ∙ drop-length l in
      rw (first, none) (append-nil (take 64 l) ∙ take_all 64 l (omega arith) ∙ sym (take_all q l (omega arith)))) (λ lt.
      let e : q % 64 ≡ q = omega arith in
      rw (e, take_all 64 l (omega arith))) (eq-or-lt_of_le h)

module _ (l : List ℕ) (long : length l ≡ 64) {place rows : ℕ} (t : InTurn place rows) where
  same_place : place % 64 ≡ place
  same_place = omega (arith, t.below)

  -- as rows and place go together: fewer than 64 rows, or 64
  filling : rows ≡ place → held l place rows ≡ take place l
  filling e = rw e (rw same_place at (held_filling l long place (omega (arith, t.below))))

  full : rows ≡ 64 → held l place rows ≡ drop place l ++ take place l
  full e = rw e (rw same_place at (held_full l long place (omega (arith, t.below))))

  front : length (take place l) ≡ place
  front = length-take-le place l (omega (arith, t.below))

  pub held_length : length (held l place rows) ≡ rows
  held_length = ⊎_elim (λ e. ap length (filling e) ∙ front ∙ sym e) (λ e.
      ap length (full e) ∙ omega (arith, t.below, front, length-append (drop place l) (take place l), length-drop place l)) t.held

  pub held_total : sum (held l place rows) ≡ sum (take rows l)
  held_total = ⊎_elim (λ e. ap sum (filling e) ∙ ap (λ (n : ℕ). sum (take n l)) (sym e)) (λ e.
      let all = ap sum (take_all rows l (omega arith)) in
      let parted = ap sum (take-append-drop place l) in
      ap sum (full e) ∙ omega (arith, sum_by-append (λ n. n) (drop place l) (take place l), sum_by-append (λ n. n) (take place l) (drop place l))) t.held

  module _ (x : ℕ) where
    abbrev entered_at : List ℕ
    entered_at = set l place x

    long_after : length entered_at ≡ 64
    long_after = length-set l place x ∙ long

    written : take (place + 1) entered_at ≡ take place l ++ x ∷ []
    written = rw (add-one place) (take-suc-set l place x (omega (arith, t.below)))

    next_filling : rows ≡ place → held entered_at ((place + 1) % 64) (min 64 (rows + 1)) ≡ latest (held l place rows ++ x ∷ [])
    next_filling e =
        let n : min 64 (rows + 1) ≡ place + 1 = omega (arith, t.below) in
        let few = latest_few (take place l ++ x ∷ []) (omega (arith, t.below, front, length-append (take place l) (x ∷ []))) in
        ap (λ (k : ℕ). held entered_at ((place + 1) % 64) k) n
        ∙ held_filling entered_at long_after (place + 1) (omega (arith, t.below))
        ∙ written
        ∙ sym few
        ∙ ap (λ (s : List ℕ). latest (s ++ x ∷ [])) (sym (filling e))

    next_full : rows ≡ 64 → held entered_at ((place + 1) % 64) (min 64 (rows + 1)) ≡ latest (held l place rows ++ x ∷ [])
    next_full e =
        let n : min 64 (rows + 1) ≡ 64 = omega arith in
        let later = drop (suc place) l in
        let rest = (later ++ take place l) ++ x ∷ [] in
        let one_goes : length (get_or l place 0 ∷ rest) - 64 ≡ 1 = omega (arith, t.below, front, length-drop (suc place) l, length-append later (take place l), length-append (later ++ take place l) (x ∷ [])) in
        let kept_behind : drop (place + 1) entered_at ≡ later = rw (add-one place) (drop-set-lt (suc place) l place x (omega arith)) in
        ap (λ (k : ℕ). held entered_at ((place + 1) % 64) k) n
        ∙ held_full entered_at long_after (place + 1) (omega (arith, t.below))
        ∙ rw (kept_behind, written) (sym (append_assoc later (take place l) (x ∷ [])))
        ∙ ap (λ (k : ℕ). drop k (get_or l place 0 ∷ rest)) (sym one_goes)
        ∙ ap (λ (s : List ℕ). latest ((s ++ take place l) ++ x ∷ [])) (sym (drop-cons l place 0 (omega (arith, t.below))))
        ∙ ap (λ (s : List ℕ). latest (s ++ x ∷ [])) (sym (full e))

    -- what is held stays the latest of a history
    pub held_next : (h : List ℕ) → held l place rows ≡ latest h → held entered_at ((place + 1) % 64) (min 64 (rows + 1)) ≡ latest (h ++ x ∷ [])
    held_next h e = ⊎_elim next_filling next_full t.held ∙ ap (λ (s : List ℕ). latest (s ++ x ∷ [])) e ∙ latest_next h x
