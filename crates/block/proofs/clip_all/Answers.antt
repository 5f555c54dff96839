use Rattle.std.proofs.Common.{◌<◌, length, arith}
use Rattle.block.proofs.Clipping.{none_yet, one_more}
use Rattle.block.proofs.clip_all.Goals as goal

pub loop-i-init : goal.loop-i-init
loop-i-init c = none_yet _ _

pub loop-i-preserved : goal.loop-i-preserved
loop-i-preserved c =
    let l = c.loop-i in
    let slice = c.args.codes.now in
    let h : l.i < length slice = omega arith in
    one_more c.args.range slice l.i l.clips l.codes l.invariant h _ _ _ c.beyond.ensures c.plus-clips.ensures c.clip.ensures
