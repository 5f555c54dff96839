use Rattle.std.proofs.lemmas.List.FromFn.{length-map-range_with_len}
use Rattle.check_blocks.specs.Cases.{answered}
use Rattle.check_blocks.proofs.cases.Case.is_answered.Goals as goal

pub returns : goal.returns
unfolding answered
returns c =
    let read = c.read_block-answer.ensures in
    rw (c.agrees.ensures, c.begins_with.ensures, read.result_value, read.codes_after, c.fill.ensures, length-map-range_with_len)
