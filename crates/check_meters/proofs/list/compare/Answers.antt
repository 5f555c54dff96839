use Rattle.std.proofs.Common.{◌≡◌, ◌+◌, ◌-◌, ◌*◌, ◌%◌, length, refl, arith}
use Rattle.check_records.proofs.Behind.{none_yet, one_more, all_counted}
use Rattle.check_meters.specs.declared.list.Play.{Play}
use Rattle.check_meters.proofs.list.compare.Goals as goal

pub loop-i-init : goal.loop-i-init
loop-i-init c = rw c.new.ensures (none_yet _ _ _ _)

pub loop-i-preserved : goal.loop-i-preserved
loop-i-preserved c =
    let next : 32 * (c.loop-i.i + 1) ≡ 32 * c.loop-i.i + 32 = omega arith in
    rw next (one_more c.loop-i.invariant 32 (omega arith) refl (rw c.at.ensures at c.with-play.ensures))

pub returns : goal.returns
returns c =
    let reads = c.args.reads.now in
    let left : length reads % 32 ≡ length reads - 32 * c.loop-i.i = omega arith in
    all_counted c.loop-i.invariant (λ (p : Play). p.tally) (omega arith) (rw left at c.ended.ensures)
