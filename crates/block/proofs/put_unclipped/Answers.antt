use mathlib.Core.Path.{ap, ◌∙◌}
use Rattle.std.proofs.Common.{arith}
use Rattle.systems.specs.Systems.{scale}
use Rattle.systems.proofs.Scales.{scale_range}
use Rattle.matrix.specs.Inner.{unclipped_at}
use Rattle.matrix.proofs.DecodingRows.{unclipped_small}
use Rattle.block.specs.Read.{sample_at}
use Rattle.block.specs.Inner.{biased_triple, biased_row}
use Rattle.block.proofs.Decoding.{none_yet, one_more, so_far_long}
use Rattle.block.proofs.put_unclipped.Goals as goal

pub loop-i-init : goal.loop-i-init
loop-i-init c = none_yet _ _ _

pub put_triple-requires : goal.put_triple-requires
put_triple-requires c =
    let a = c.args in
    let small = unclipped_small _ _ (scale_range a.system).1 (c.requires.words _ c.loop-i-test.true) a.matrix in
    let room = so_far_long _ _ _ _ _ c.requires.fits c.loop-i.invariant in
    (omega arith, omega arith, rw (c.unclipped_by.ensures, c.words_at-words.ensures) record { r = small.0; g = small.1; b = small.2 })

pub loop-i-preserved : goal.loop-i-preserved
loop-i-preserved c =
    let a = c.args in
    let l = c.loop-i in
    let here = c.unclipped_by.ensures ∙ ap (unclipped_at a.matrix (scale a.system)) c.words_at-words.ensures in
    one_more (biased_row a.matrix (scale a.system) (sample_at a.bytes.now a.samples)) a.samples l.i a.codes.now l.codes _ _ c.requires.fits c.loop-i-test.true l.invariant (ap biased_triple here) c.put_triple.ensures
