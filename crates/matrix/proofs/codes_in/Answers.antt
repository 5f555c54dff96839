use native.Mathlib.Omega.{arith}
use mathlib.Core.Path.{◌≡◌}
use mir.Syntax.{w64}
use mir.Val.{to_z, of_z}
use Rattle.exact.proofs.Machine.{reads_back}
use Rattle.systems.specs.Systems.{matrix, scale}
use Rattle.systems.proofs.Scales.{scale_range}
use Rattle.matrix.specs.Triples.{codes_at}
use Rattle.matrix.specs.Inner.{unclipped_at}
use Rattle.matrix.proofs.DecodingRows.{unclipped_small}
use Rattle.matrix.proofs.codes_in.Goals as goal

pub returns : goal.returns
unfolding codes_at unclipped_at
returns c =
    let y = c.args.y in
    let v = c.unclipped_in-v.result in
    let small = unclipped_small (scale y) c.args.w (scale_range y).1 c.requires (matrix y) in
    let e = c.unclipped_in-v.ensures in
    let r : to_z w64 (of_z w64 v.r) ≡ v.r = rw e (reads_back _ (omega (arith, small.0))) in
    let g : to_z w64 (of_z w64 v.g) ≡ v.g = rw e (reads_back _ (omega (arith, small.1))) in
    let b : to_z w64 (of_z w64 v.b) ≡ v.b = rw e (reads_back _ (omega (arith, small.2))) in
    rw (c.plus-2.ensures, c.plus.ensures, c.beyond-3.ensures.0, c.beyond-2.ensures.0, c.beyond.ensures.0, c.clip.ensures, c.clip-2.ensures, c.clip-3.ensures, r, g, b, e)
