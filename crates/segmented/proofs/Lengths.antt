-- The lengths that a call accepts are those of two buffers of 1080 rows.
-- Assumes nothing.
use Prim.Native.Nat.{ℕ, ◌*◌, ◌/◌, ◌%◌}
use mathlib.Core.Path.{◌≡◌, refl, sym, ◌∙◌}
use mathlib.Core.Bool.{Bool, true, false, cond, not}
use mathlib.Core.List.{List}
use native.Mathlib.Omega.{arith}
use lib.ListN.{length}
use lib.Dec.{eqb}
use borrow.Author.Tests.{eqb-true, eqb-false, eq-eqb, ne_eqb, not-true}
use Rattle.exact.proofs.Boolean.{each_of_three}
use Rattle.segmented.specs.declared.Order.{Order}
use Rattle.segmented.specs.Segmented.{source, reordered, can_move, buffer_after}
use Rattle.segmented.proofs.Claims.{Rows}
use Rattle.segmented.proofs.Lines.{source_below}
use Rattle.segmented.proofs.Rows.{length_rows}

pub movable : (bs out : List ℕ) → can_move (length bs) (length out) ≡ true → Rows (length bs / 1080) bs out
movable bs out h =
    let each = each_of_three (not (eqb (length bs) 0)) (eqb (length bs % 1080) 0) (eqb (length bs) (length out)) h in
    let some = eqb-false (length bs) 0 (not-true _ each.0) in
    let whole = eqb-true (length bs % 1080) 0 each.1 in
    let alike = eqb-true (length bs) (length out) each.2 in
    record { some = omega arith; first = omega arith; second = omega arith }

pub can_move_lem : {n : ℕ} {bs out : List ℕ} → Rows n bs out → can_move (length bs) (length out) ≡ true
can_move_lem {n} {bs} {out} r = simp (ne_eqb (length bs) 0 (λ e. omega arith), eq-eqb (length bs % 1080) 0 (omega arith), eq-eqb (length bs) (length out) (omega arith))

pub length_reordered : (o : Order) (n : ℕ) (bs : List ℕ) → length bs ≡ n * 1080 → length (reordered o bs) ≡ length bs
length_reordered o n bs h = length_rows (source o) (length bs / 1080) bs (omega arith) (source_below o) 1080 (omega arith) ∙ omega arith

-- a call leaves the second buffer as long as it was
pub length_after : (o : Order) (bs out : List ℕ) → length (buffer_after o bs out) ≡ length out
length_after o bs out = go (can_move (length bs) (length out)) refl
  where
    go : (t : Bool) → can_move (length bs) (length out) ≡ t → length (cond t (reordered o bs) out) ≡ length out
    go true e = let m = movable bs out e in length_reordered o _ bs m.first ∙ m.first ∙ sym m.second
    go false e = refl
