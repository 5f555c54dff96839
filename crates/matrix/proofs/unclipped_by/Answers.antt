use mir.Syntax.{w64}
use mir.ValLaws.{to_z-of_z}
use borrow.Author.Rules.{sfits_of}
use Rattle.systems.specs.Systems.{scale}
use Rattle.systems.proofs.Scales.{scale_range}
use Rattle.matrix.proofs.DecodingRows.{rows_small, rows_give}
use Rattle.matrix.proofs.unclipped_by.Goals as goal

pub primary-requires : goal.primary-requires
primary-requires c =
    let y = c.args.y in
    rw (c.decoding_rows-m.ensures, c.decoding_column-t.ensures) (rows_small (scale y) c.args.w (scale_range y).1 c.requires c.args.x).0

pub primary-requires-2 : goal.primary-requires-2
primary-requires-2 c =
    let y = c.args.y in
    rw (c.decoding_rows-m.ensures, c.decoding_column-t.ensures) (rows_small (scale y) c.args.w (scale_range y).1 c.requires c.args.x).1

pub primary-requires-3 : goal.primary-requires-3
primary-requires-3 c =
    let y = c.args.y in
    rw (c.decoding_rows-m.ensures, c.decoding_column-t.ensures) (rows_small (scale y) c.args.w (scale_range y).1 c.requires c.args.x).2

pub returns : goal.returns
returns c =
    let y = c.args.y in
    rw (
      to_z-of_z w64 c.primary.result (sfits_of c.primary.type_inv),
      to_z-of_z w64 c.primary-2.result (sfits_of c.primary-2.type_inv),
      to_z-of_z w64 c.primary-3.result (sfits_of c.primary-3.type_inv),
      c.primary.ensures,
      c.primary-2.ensures,
      c.primary-3.ensures,
      c.decoding_rows-m.ensures,
      c.decoding_column-t.ensures,
    )
    (rows_give c.args.x (scale y) c.args.w (scale_range y).1 c.requires)
