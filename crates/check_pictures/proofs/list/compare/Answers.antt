use Rattle.std.proofs.Common.{◌≡◌, ◌+◌, ◌-◌, ◌≤◌, length, ap, ◌∙◌, arith}
use Rattle.check_records.proofs.Behind.{none_yet, one_more, all_counted}
use Rattle.check_pictures.specs.declared.list.Play.{Play}
use Rattle.check_pictures.specs.Calls.{size_of, size_at}
use Rattle.check_pictures.proofs.list.compare.Goals as goal

pub loop-at-init : goal.loop-at-init
loop-at-init c = rw c.new.ensures (none_yet _ _ _ _)

-- the call at the loop's place is counted
pub loop-at-preserved : goal.loop-at-preserved
loop-at-preserved c =
    let bytes = c.args.calls.now in
    let at = c.loop-at.at in
    let there = c.in-Some.ensures in
    let sized : c.size-size.result ≡ size_at bytes at = c.size-size.ensures.0 ∙ ap size_of there.0 in
    let whole : at + c.size-size.result ≤ length bytes = omega (arith, sized, there.1) in
    let behind : (at + c.size-size.result) - (at + 30) ≡ size_at bytes at - 30 = omega (arith, sized) in
    one_more c.loop-at.invariant _ whole sized (rw (behind, there.0) at c.make.ensures)

pub returns : goal.returns
returns c = all_counted c.loop-at.invariant (λ (x : Play). x.tally) c.in_default.ensures c.ended.ensures
