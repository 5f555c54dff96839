use mathlib.Core.Path.{◌≡◌, ◌∙◌}
use mathlib.Core.List.{List}
use Prim.Native.Nat.{◌/◌, ◌+◌, ◌^◌, ◌<◌}
use native.Mathlib.Omega.{arith}
use lib.IntN.{ℤ, pos, nat_abs, ◌+ℤ◌}
use mir.Syntax.{w64}
use mir.Val.{to_z, of_z}
use mir.ValLaws.{to_z-of_z}
use borrow.Author.Rules.{sfits_of}
use Rattle.exact.proofs.Machine.{nat_abs_add, fits_i64, reads_back, shifted_reads_back}
use Rattle.matrix.specs.Inner.{Small, dotted, unit, reach}
use Rattle.matrix.proofs.Products.{dotted_small}
use Rattle.matrix.proofs.primary.Goals as goal

-- with a half and the error bound
abbrev sum : ℤ → ℤ
sum z = z +ℤ pos (unit / 2 + (reach + reach))

small : (row triple : List ℤ) → Small row triple → nat_abs (sum (dotted row triple)) < 2 ^ 63
small row triple h = omega (arith, nat_abs_add (dotted row triple) (pos (unit / 2 + (reach + reach))), dotted_small row triple h)

pub overflow_add-code-2 : goal.overflow_add-code-2
overflow_add-code-2 c =
    let z = dotted c.args.row c.args.triple in
    let dot_read : to_z w64 (of_z w64 c.dot.result) ≡ z = to_z-of_z w64 c.dot.result (sfits_of c.dot.type_inv) ∙ c.dot.ensures in
    rw dot_read (fits_i64 (sum z) (small _ _ c.requires))

pub returns : goal.returns
returns c =
    let z = dotted c.args.row c.args.triple in
    let dot_read : to_z w64 (of_z w64 c.dot.result) ≡ z = to_z-of_z w64 c.dot.result (sfits_of c.dot.type_inv) ∙ c.dot.ensures in
    rw (dot_read, reads_back (sum z) (small _ _ c.requires)) (shifted_reads_back (sum z) unit (small _ _ c.requires))
