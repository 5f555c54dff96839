use Rattle.std.proofs.Common.{sym, arith}
use Rattle.segmented.proofs.Lines.{source_below}
use Rattle.segmented.proofs.Rows.{row_fits}
use Rattle.segmented.proofs.Loop.{none_yet, one_more, all_come}
use Rattle.segmented.proofs.move_rows.Goals as goal

pub loop-k-init : goal.loop-k-init
loop-k-init c = none_yet _ _ _ _

pub move_row-requires : goal.move_row-requires
move_row-requires c =
    let n = c.args.bytes in
    let k = c.loop-k.k in
    let here = row_fits n k 1080 (omega arith) in
    let there = row_fits n c.source.result 1080 (rw c.source.ensures (source_below c.args.order k (omega arith))) in
    (omega (arith, c.requires.0, there), omega (arith, c.requires.1, c.loop-k.auto.to, here))

pub loop-k-preserved : goal.loop-k-preserved
loop-k-preserved c = one_more _ _ _ _ c.requires.0 (omega arith) c.loop-k.invariant (rw (sym c.source.ensures) c.move_row.ensures)

pub returns : goal.returns
returns c = all_come _ _ _ _ c.requires.1 (omega arith) c.loop-k.invariant
