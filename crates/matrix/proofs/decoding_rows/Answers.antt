use mathlib.Core.Path.{refl}
use mathlib.Core.Logic.{inl, inr}
use lib.Dec.{lit<, lit≤}
use Rattle.matrix.specs.Inner.{decoding_rows}
use Rattle.matrix.proofs.Weights.{row_of}
use Rattle.matrix.proofs.decoding_rows.Goals as goal

pub fixed-green_cb-requires : goal.fixed-green_cb-requires
fixed-green_cb-requires c = elim (row_of c.args.x c.weights-w.result c.weights-w.ensures) [
  | inl e ↦ rw e.1 (record { lt = tt }, record { lt = tt }, lit≤ tt, lit≤ tt)
  | inr e ↦ rw e.1 (record { lt = tt }, record { lt = tt }, lit≤ tt, lit≤ tt)
]

pub overflow_mul-cr-3 : goal.overflow_mul-cr-3
overflow_mul-cr-3 c = elim (row_of c.args.x c.weights-w.result c.weights-w.ensures) [
  | inl e ↦ rw e.1 record { sfits = lit< tt }
  | inr e ↦ rw e.1 record { sfits = lit< tt }
]

pub fixed-green_cr-requires : goal.fixed-green_cr-requires
fixed-green_cr-requires c = elim (row_of c.args.x c.weights-w.result c.weights-w.ensures) [
  | inl e ↦ rw e.1 (record { lt = tt }, record { lt = tt }, lit≤ tt, lit≤ tt)
  | inr e ↦ rw e.1 (record { lt = tt }, record { lt = tt }, lit≤ tt, lit≤ tt)
]

pub fixed-requires : goal.fixed-requires
fixed-requires c = elim (row_of c.args.x c.weights-w.result c.weights-w.ensures) [
  | inl e ↦ rw e.1 (record { lt = tt }, record { lt = tt }, lit≤ tt, lit≤ tt)
  | inr e ↦ rw e.1 (record { lt = tt }, record { lt = tt }, lit≤ tt, lit≤ tt)
]

pub fixed-requires-2 : goal.fixed-requires-2
fixed-requires-2 c = elim (row_of c.args.x c.weights-w.result c.weights-w.ensures) [
  | inl e ↦ rw e.1 (record { lt = tt }, record { lt = tt }, lit≤ tt, lit≤ tt)
  | inr e ↦ rw e.1 (record { lt = tt }, record { lt = tt }, lit≤ tt, lit≤ tt)
]

pub returns : goal.returns
unfolding decoding_rows
returns c = elim (row_of c.args.x c.weights-w.result c.weights-w.ensures) [
  | inl e ↦ rw (c.fixed-green_cb.ensures, c.fixed-green_cr.ensures, c.fixed.ensures, c.fixed-2.ensures, e.0, e.1) refl
  | inr e ↦ rw (c.fixed-green_cb.ensures, c.fixed-green_cr.ensures, c.fixed.ensures, c.fixed-2.ensures, e.0, e.1) refl
]

pub overflow_sub-result : goal.overflow_sub-result
overflow_sub-result c = elim (row_of c.args.x c.weights-w.result c.weights-w.ensures) [
  | inl e ↦ rw (c.fixed-green_cb.ensures, e.1) record { sfits = lit< tt }
  | inr e ↦ rw (c.fixed-green_cb.ensures, e.1) record { sfits = lit< tt }
]

pub overflow_sub-result-2 : goal.overflow_sub-result-2
overflow_sub-result-2 c = elim (row_of c.args.x c.weights-w.result c.weights-w.ensures) [
  | inl e ↦ rw (c.fixed-green_cr.ensures, e.1) record { sfits = lit< tt }
  | inr e ↦ rw (c.fixed-green_cr.ensures, e.1) record { sfits = lit< tt }
]
