use Rattle.std.proofs.Common.{length, refl, eq-eqb}
use Rattle.block.proofs.Reading.{slice_keeps_its_length}
use Rattle.check_answers.proofs.Slices.{slices_same}
use Rattle.check_meters.specs.Reads.{made_into}
use Rattle.check_meters.proofs.read.Read.made_into.Goals as goal

pub returns-clause-met : goal.returns-clause-met
unfolding made_into
returns-clause-met c =
    let read = c.read-metered.ensures in
    let block = c.args.block.now in
    let lent = c.args.lent.now in
    rw (c.is_met.ensures, read.read_value, read.meter_value, c.eq.ensures, read.codes_after, c.read_block.ensures.codes_after, slices_same, slice_keeps_its_length block lent, slice_keeps_its_length block c.args.other.now, ← c.requires, eq-eqb (length lent) _ refl)

pub returns-clause-meter_after : goal.returns-clause-meter_after
unfolding made_into
returns-clause-meter_after c = c.read-metered.ensures.meter_value
