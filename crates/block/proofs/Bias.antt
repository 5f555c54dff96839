-- Components that wait biased in a slice are clipped and counted as they would be without the bias.
-- Assumes nothing.
use mathlib.Core.Path.{◌≡◌, refl, ap, ◌∙◌}
use Prim.Native.Nat.{ℕ, suc, ◌-◌, ◌^◌, ◌≤◌}
use native.Mathlib.Omega.{arith}
use Rattle.std.proofs.lemmas.Int.{ints}
use lib.IntN.{ℤ, pos, negsuc, nat_abs}
use Rattle.exact.proofs.Difference.{sub_pos, sub_neg}
use Rattle.systems.specs.declared.Codes.{Codes}
use Rattle.systems.specs.declared.Matrix.{Matrix}
use Rattle.systems.specs.declared.Range.{Range}
use Rattle.matrix.specs.declared.Clipped.{Clipped}
use Rattle.matrix.specs.declared.Words.{Words}
use Rattle.matrix.specs.Triples.{natural, ◌plus◌, clipped, beyond, codes_at}
use Rattle.matrix.specs.Inner.{TwelveBitWords, unclipped_at}
use Rattle.matrix.proofs.DecodingRows.{unclipped_small}
use Rattle.block.specs.Inner.{biased, unbiased, biased_triple}

unbiased_biased : (z : ℤ) → nat_abs z ≤ 2 ^ 14 → unbiased (biased z) ≡ z
unbiased_biased (pos a) h = omega (arith, ints)
unbiased_biased (negsuc a) h =
    let q : 16384 - suc (16384 - suc a) ≡ a = omega arith in
    ap (λ (z : ℤ). unbiased (natural z)) (sub_pos 16384 (suc a) (omega arith)) ∙ sub_neg (16384 - suc a) 16384 (omega arith) ∙ ap negsuc q

-- ---- of a sample's words
-- a biased triple clipped to a range, and its clips
abbrev pub from_biased : Range → Codes → Clipped
from_biased n v = record {
  codes = record { r = clipped n (unbiased v.r); g = clipped n (unbiased v.g); b = clipped n (unbiased v.b) };
  clips = beyond n (unbiased v.r) plus beyond n (unbiased v.g) plus beyond n (unbiased v.b);
}

pub codes_from_biased : (x : Matrix) (s : ℕ) (n : Range) (w : Words) → s ≤ 16 → TwelveBitWords w → from_biased n (biased_triple (unclipped_at x s w)) ≡ codes_at x s n w
unfolding unclipped_at codes_at
codes_from_biased x s n w S t =
    let v = unclipped_at x s w in
    let p = unclipped_small s w S t x in
    rw (unbiased_biased v.r p.0, unbiased_biased v.g p.1, unbiased_biased v.b p.2) refl
