-- Whoever does what the definitions say has the claim.
-- Assumes nothing.
use Prim.Native.Nat.{ℕ, ◌*◌, ◌/◌, ◌<◌}
use mathlib.Core.Path.{◌≡◌, refl, sym, ap, ◌∙◌}
use mathlib.Core.Bool.{Bool, true, false}
use mathlib.Core.List.{List}
use native.Mathlib.Omega.{arith}
use lib.ListN.{length}
use Rattle.exact.specs.Outcome.{Outcome, accepted, refused, require}
use Rattle.systems.specs.declared.refusal.Refusal.TheVariants as refusal
use Rattle.systems.proofs.Answerable.{Answerable, values, tested}
use Rattle.segmented.specs.declared.Order.{Order}
use Rattle.segmented.specs.Segmented.{source, byte_row, rows_by, reordered, can_move, move_outcome, buffer_after}
use Rattle.segmented.proofs.Claims.{Calls, other, Rows, Once, Arranged, Claimed}
use Rattle.segmented.proofs.Lines.{total_lines_rise, source_below, there_and_back, back_and_there}
use Rattle.segmented.proofs.Rows.{row_of_rows, undone}
use Rattle.segmented.proofs.Lengths.{movable, can_move_lem, length_reordered}

pub move_answerable : (from to : ℕ) → Answerable (move_outcome from to)
move_answerable from to = tested (can_move from to) refusal.Length (values tt)

-- calls that do what the definitions say, and that always come to something
pub record Faithful (Call : Calls) : Type 0 where
  pub follows : {o : Order} {bs out left : List ℕ} {answer : Outcome (Unit {0})} → Call o bs out answer left → (answer ≡ move_outcome (length bs) (length out)) × (left ≡ buffer_after o bs out)
  pub happens : (o : Order) (bs out : List ℕ) → (answer : Outcome (Unit {0})) × (left : List ℕ) × Call o bs out answer left

accepted_by : (t : Bool) → accepted tt ≡ require {A = Unit {0}} t 31 (accepted tt) → t ≡ true
accepted_by true e = refl
accepted_by false e = let z : ◌≡◌ {A = ℕ} 0 1 = cc in absurd (omega arith)

refused_by : (t : Bool) (n : ℕ) → refused n ≡ require {A = Unit {0}} t 31 (accepted tt) → (t ≡ false) × (n ≡ 31)
refused_by true n e = let z : ◌≡◌ {A = ℕ} 0 1 = cc in absurd (omega arith)
refused_by false n e = (refl, cc)

once : (o : Order) (r : ℕ) → r < 1080 → Once o r
once o r h = record {
  place = source (other o) r;
  within = source_below (other o) r h;
  there = back_and_there o r h;
  only = λ k l e. sym (there_and_back o k l) ∙ ap (source (other o)) e;
}

module _ (o : Order) (n : ℕ) (bs : List ℕ) (long : length bs ≡ n * 1080) where
  arranged : Arranged o bs (reordered o bs)
  arranged = record {
    long = length_reordered o n bs long;
    rows = λ k h. ap (λ (l : ℕ). byte_row (l / 1080) (reordered o bs) k) (length_reordered o n bs long)
        ∙ row_of_rows (source o) (length bs / 1080) bs (omega arith) (source_below o) 1080 k (omega arith) h;
    once = once o;
  }

  reordered_undone : reordered (other o) (reordered o bs) ≡ bs
  reordered_undone =
      ap (λ (l : ℕ). rows_by (source (other o)) (l / 1080) (reordered o bs) 1080) (length_reordered o n bs long)
      ∙ undone (source o) (length bs / 1080) bs (omega arith) (source_below o) (source (other o)) (source_below (other o)) (back_and_there o)

module _ {Call : Calls} (f : Faithful Call) where
  fit : {o : Order} {bs out left : List ℕ} → Call o bs out (accepted tt) left → Rows (length bs / 1080) bs out
  fit {bs = bs} {out = out} c = movable bs out (accepted_by _ (f.follows c).0)

  moved : {o : Order} {bs out left : List ℕ} → Call o bs out (accepted tt) left → left ≡ reordered o bs
  moved {bs = bs} {out = out} c =
      let yes : can_move (length bs) (length out) ≡ true = accepted_by _ (f.follows c).0 in
      (f.follows c).1 ∙ simp yes

  refused_so : {o : Order} {bs out left : List ℕ} {n : ℕ} → Call o bs out (refused n) left → (n ≡ 31) × (left ≡ out)
  refused_so {bs = bs} {out = out} {n = n} c =
      let no_move : (can_move (length bs) (length out) ≡ false) × (n ≡ 31) = refused_by _ n (f.follows c).0 in
      (no_move.1, (f.follows c).1 ∙ simp no_move.0)

  undone_so : {o : Order} {bs mid mid' out out' : List ℕ} → Call o bs mid (accepted tt) mid' → Call (other o) mid' out (accepted tt) out' → out' ≡ bs
  undone_so {o} c d = moved d ∙ rw (moved c) (reordered_undone o _ _ (fit c).first)

  pub claimed : Claimed Call
  claimed = record {
    rises = λ p q h _. total_lines_rise p q h;
    arranges = λ c. rw (moved c) (arranged _ _ _ (fit c).first);
    undoes = undone_so;
    accepts = λ n r c. (f.follows c).0 ∙ simp (can_move_lem r);
    only = fit;
    refuses = refused_so;
    happens = f.happens;
  }
