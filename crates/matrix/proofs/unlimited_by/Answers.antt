use mathlib.Core.Path.{◌≡◌, refl, sym, ap, ◌∙◌}
use mathlib.Core.List.{List, [], ◌∷◌}
use mathlib.Core.Logic.{inl, inr}
use Prim.Native.Nat.{◌*◌, ◌≤◌}
use native.Mathlib.Omega.{arith}
use lib.Dec.{lit<}
use lib.IntN.{ℤ, pos, nat_abs}
use lib.ListN.{get_or}
use mir.Syntax.{w64}
use mir.Val.{SFits, to_z, of_z}
use mir.ValLaws.{to_z-of_z, to_z_pos}
use borrow.Author.Rules.{sfits_of}
use Rattle.exact.specs.Signed.{rounded}
use Rattle.exact.specs.Whole.{INT}
use Rattle.exact.proofs.Machine.{is_positive}
use Rattle.exact.proofs.Rounding.{rounded_whole}
use Rattle.systems.specs.declared.Codes.{Codes}
use Rattle.systems.specs.declared.Matrix.{Matrix}
use Rattle.systems.specs.declared.Weights.{Weights}
use Rattle.systems.specs.Systems.{scale, kr, kg, kb}
use Rattle.systems.proofs.Scales.{scale_range}
use Rattle.matrix.specs.declared.WideCodes.{WideCodes}
use Rattle.matrix.specs.Inner.{Small, TwelveBitCodes, narrow, dotted, encoding_rows, colour_difference}
use Rattle.matrix.specs.Triples.{weighted, luma, cb_of, cr_of}
use Rattle.matrix.proofs.EncodingRows.{column, above, rows_give, rows_small, luma_small, above_small, difference_is}
use Rattle.matrix.proofs.Weights.{row_of, weights_between}
use Rattle.matrix.proofs.unlimited_by.Goals as goal

module _ (x : Matrix) (c : WideCodes) (h : TwelveBitCodes (narrow c)) where
  abbrev codes : Codes
  codes = narrow c

  abbrev multiplied : List ℤ
  multiplied = to_z w64 codes.r ∷ to_z w64 codes.g ∷ to_z w64 codes.b ∷ []

  column_read : multiplied ≡ column codes
  column_read = λ i. to_z_pos w64 codes.r (omega (arith, h)) i ∷ to_z_pos w64 codes.g (omega (arith, h)) i ∷ to_z_pos w64 codes.b (omega (arith, h)) i ∷ []

  weighted_small : weighted x codes ≤ 10000 * 4095
  weighted_small = luma_small codes h x

  -- ---- what the rows come to
  module _ (rows : List (List ℤ)) (is : rows ≡ encoding_rows x) where
    small : Small (get_or rows 0 []) multiplied × Small (get_or rows 1 []) multiplied × Small (get_or rows 2 []) multiplied
    small = rw (is, column_read) (rows_small codes h x)

    luma_read : (d : ℤ) → SFits w64 d → d ≡ dotted (get_or rows 0 []) multiplied → to_z w64 (of_z w64 d) ≡ pos (weighted x codes)
    luma_read d f e = to_z-of_z w64 d f ∙ e ∙ (λ i. dotted (get_or (is i) 0 []) (column_read i)) ∙ (rows_give x codes).0

    blue_read : (d : ℤ) → SFits w64 d → d ≡ dotted (get_or rows 1 []) multiplied → to_z w64 (of_z w64 d) ≡ above x codes codes.b
    blue_read d f e = to_z-of_z w64 d f ∙ e ∙ (λ i. dotted (get_or (is i) 1 []) (column_read i)) ∙ (rows_give x codes).1

    red_read : (d : ℤ) → SFits w64 d → d ≡ dotted (get_or rows 2 []) multiplied → to_z w64 (of_z w64 d) ≡ above x codes codes.r
    red_read d f e = to_z-of_z w64 d f ∙ e ∙ (λ i. dotted (get_or (is i) 2 []) (column_read i)) ∙ (rows_give x codes).2

weights_read : (x : Matrix) (w : Weights) → (w.kr ≡ pos (kr x)) × (w.kg ≡ pos (kg x)) × (w.kb ≡ pos (kb x)) →
    (to_z w64 (of_z w64 w.kb) ≡ pos (kb x)) × (to_z w64 (of_z w64 w.kr) ≡ pos (kr x))
weights_read x w e = elim (row_of x w e) [
  | inl e ↦ rw (e.0, e.1) (refl, refl)
  | inr e ↦ rw (e.0, e.1) (refl, refl)
]

pub dot-requires : goal.dot-requires
dot-requires c = (small c.args.x c.args.c c.requires c.encoding_rows-m.result c.encoding_rows-m.ensures).0

pub dot-requires-2 : goal.dot-requires-2
dot-requires-2 c = (small c.args.x c.args.c c.requires c.encoding_rows-m.result c.encoding_rows-m.ensures).1

pub dot-requires-3 : goal.dot-requires-3
dot-requires-3 c = (small c.args.x c.args.c c.requires c.encoding_rows-m.result c.encoding_rows-m.ensures).2

pub overflow_cast-dot : goal.overflow_cast-dot
overflow_cast-dot c =
    let e = luma_read c.args.x c.args.c c.requires c.encoding_rows-m.result c.encoding_rows-m.ensures c.dot.result (sfits_of c.dot.type_inv) c.dot.ensures in
    rw e (tt, record { fits = omega (arith, weighted_small c.args.x c.args.c c.requires) })

pub int_of-requires : goal.int_of-requires
int_of-requires c =
    let e = luma_read c.args.x c.args.c c.requires c.encoding_rows-m.result c.encoding_rows-m.ensures c.dot.result (sfits_of c.dot.type_inv) c.dot.ensures in
    rw e (lit< tt, refl, omega (arith, weighted_small c.args.x c.args.c c.requires))

pub colour_difference-requires : goal.colour_difference-requires
colour_difference-requires c =
    let x = c.args.x in
    let k = weights_between x in
    let e = blue_read x c.args.c c.requires c.encoding_rows-m.result c.encoding_rows-m.ensures c.dot-2.result (sfits_of c.dot-2.type_inv) c.dot-2.ensures in
    rw ((weights_read x c.weights-w.result c.weights-w.ensures).0, e, c.middle-middle.ensures)
    (is_positive _ (omega (arith, k.0.0)), k.0.0, k.0.1, omega (arith, scale_range c.args.y), above_small (narrow c.args.c) c.requires x _ c.requires.b_high)

pub colour_difference-requires-2 : goal.colour_difference-requires-2
colour_difference-requires-2 c =
    let x = c.args.x in
    let k = weights_between x in
    let e = red_read x c.args.c c.requires c.encoding_rows-m.result c.encoding_rows-m.ensures c.dot-3.result (sfits_of c.dot-3.type_inv) c.dot-3.ensures in
    rw ((weights_read x c.weights-w.result c.weights-w.ensures).1, e, c.middle-middle.ensures)
    (is_positive _ (omega (arith, k.1.0)), k.1.0, k.1.1, omega (arith, scale_range c.args.y), above_small (narrow c.args.c) c.requires x _ c.requires.r_high)

pub returns : goal.returns
unfolding INT
returns c =
    let x = c.args.x in
    let s = narrow c.args.c in
    let m = 128 * scale c.args.y in
    let w = weighted x s in
    let weights = weights_read x c.weights-w.result c.weights-w.ensures in
    let above_luma = luma_read x c.args.c c.requires c.encoding_rows-m.result c.encoding_rows-m.ensures c.dot.result (sfits_of c.dot.type_inv) c.dot.ensures in
    let above_blue = blue_read x c.args.c c.requires c.encoding_rows-m.result c.encoding_rows-m.ensures c.dot-2.result (sfits_of c.dot-2.type_inv) c.dot-2.ensures in
    let above_red = red_read x c.args.c c.requires c.encoding_rows-m.result c.encoding_rows-m.ensures c.dot-3.result (sfits_of c.dot-3.type_inv) c.dot-3.ensures in
    let y_is : c.int_of.result ≡ INT w 10000 = c.int_of.ensures ∙ ap (λ (z : ℤ). INT (nat_abs z) 10000) above_luma in
    let y_read : to_z w64 c.int_of.result ≡ rounded (luma x s) =
    ap (to_z w64) y_is ∙ to_z_pos w64 (INT w 10000) (omega (arith, weighted_small x c.args.c c.requires)) ∙ sym (rounded_whole w 10000) in
    let cb_read : to_z w64 (of_z w64 c.colour_difference.result) ≡ rounded (cb_of x (scale c.args.y) s) =
    to_z-of_z w64 c.colour_difference.result (sfits_of c.colour_difference.type_inv) ∙ c.colour_difference.ensures
    ∙ (λ i. rounded (colour_difference (above_blue i) (nat_abs (weights.0 i)) (c.middle-middle.ensures i)))
    ∙ difference_is x s m (kb x) s.b in
    let cr_read : to_z w64 (of_z w64 c.colour_difference-2.result) ≡ rounded (cr_of x (scale c.args.y) s) =
    to_z-of_z w64 c.colour_difference-2.result (sfits_of c.colour_difference-2.type_inv) ∙ c.colour_difference-2.ensures
    ∙ (λ i. rounded (colour_difference (above_red i) (nat_abs (weights.1 i)) (c.middle-middle.ensures i)))
    ∙ difference_is x s m (kr x) s.r in
    rw (y_read, cb_read, cr_read)
