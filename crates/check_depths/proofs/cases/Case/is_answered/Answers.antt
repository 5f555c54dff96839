use Rattle.std.proofs.Common.{le-leb}
use Rattle.std.proofs.lemmas.List.FromFn.{length-map-range_with_len}
use borrow.Author.Tests.{lt-leb}
use Rattle.check_depths.specs.Cases.{answered}
use Rattle.check_depths.proofs.cases.Case.is_answered.Goals as goal

pub returns-then-new-room : goal.returns-then-new-room
unfolding answered
returns-then-new-room c = simp (lt-leb _ _ c.if-new-room.true)

pub returns : goal.returns
unfolding answered
returns c =
    let change = c.change_depth-answer.ensures in
    rw (c.number_of.ensures, change.result_value, c.begin_alike.ensures, change.out_after, c.copy_from_slice.ensures.after, c.fill-2.ensures, c.fill.ensures, ← c.requires, length-map-range_with_len, le-leb _ _ c.if-new-room.false)
