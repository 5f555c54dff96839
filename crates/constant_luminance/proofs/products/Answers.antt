use mir.ValLaws.{to_z-of_z}
use Rattle.std.proofs.Common.{arith}
use Rattle.std.proofs.lemmas.Int.{ints}
use Rattle.constant_luminance.proofs.Sizes.{product_small}
use Rattle.constant_luminance.proofs.products.Goals as goal

pub overflow_add-result : goal.overflow_add-result
overflow_add-result c =
    let ax = product_small c.args.a c.args.x c.requires.0 c.requires.1 in
    let by = product_small c.args.b c.args.y c.requires.2 c.requires.3 in
    grind (arith, ints, to_z-of_z)

pub returns : goal.returns
returns c =
    let ax = product_small c.args.a c.args.x c.requires.0 c.requires.1 in
    let by = product_small c.args.b c.args.y c.requires.2 c.requires.3 in
    grind (arith, ints, to_z-of_z)
