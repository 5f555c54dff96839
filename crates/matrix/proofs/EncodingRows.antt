-- The rows of an encoding matrix, by (R, G, B), make document 01's fractions; and an i64 holds what they come to.
-- Assumes nothing.
use mathlib.Core.Path.{◌≡◌, refl, sym, ap, ◌∙◌}
use mathlib.Core.List.{List, [], ◌∷◌}
use Prim.Native.Nat.{ℕ, ◌+◌, ◌*◌, ◌-◌, ◌^◌, ◌≤◌, ◌<◌}
use native.Mathlib.Omega.{arith}
use lib.Dec.{lit≤}
use lib.IntN.{ℤ, pos, nat_abs, sub_ℕ, ◌+ℤ◌, ◌-ℤ◌, ◌*ℤ◌}
use lib.ListN.{get_or}
use Rattle.exact.specs.Signed.{rounded}
use Rattle.exact.proofs.Difference.{pos_sub, pos_less, sub_add, sub_minus, sub_mul, sub_eq, sub_size}
use Rattle.systems.specs.declared.Codes.{Codes}
use Rattle.systems.specs.declared.Matrix.{Matrix}
use Rattle.systems.specs.declared.Matrix.TheVariants.{Bt709, Bt2020}
use Rattle.systems.specs.Systems.{kr, kg, kb}
use Rattle.matrix.specs.Triples.{weighted, difference, encoded_at}
use Rattle.matrix.specs.Inner.{NominalCodes, TwelveBitCodes, WordSized, Small, dotted, encoding_rows, colour_difference}
use Rattle.matrix.proofs.Nominal.{words_of}

-- what the rows multiply
abbrev pub column : Codes → List ℤ
column c = pos c.r ∷ pos c.g ∷ pos c.b ∷ []

abbrev pub row : Matrix → ℕ → List ℤ
row x k = get_or (encoding_rows x) k []

-- 10000 times Y' - v
abbrev pub above : Matrix → Codes → ℕ → ℤ
above x c v = pos (weighted x c) -ℤ pos (10000 * v)

-- ---- value
by_less : (k v : ℕ) → (pos k -ℤ pos 10000) *ℤ pos v ≡ sub_ℕ (k * v) (10000 * v)
by_less k v = ap (λ (z : ℤ). z *ℤ pos v) (pos_less k 10000) ∙ sub_mul k 10000 v

pub rows_give : (x : Matrix) (c : Codes) →
    (dotted (row x 0) (column c) ≡ pos (weighted x c)) × (dotted (row x 1) (column c) ≡ above x c c.b) × (dotted (row x 2) (column c) ≡ above x c c.r)
unfolding encoding_rows
rows_give x c =
    let r = kr x * c.r in
    let g = kg x * c.g in
    let b = kb x * c.b in
    let blue : r + g + b + 10000 * c.b ≡ weighted x c + (0 + 10000 * c.b) = omega arith in
    let red : r + g + b + 10000 * c.r ≡ weighted x c + (10000 * c.r + 0 + 0) = omega arith in (
      refl,
      (λ i. pos_sub (r + g) i +ℤ by_less (kb x) c.b i) ∙ sub_add (r + g) 0 b (10000 * c.b) ∙ sub_eq (r + g + b) (0 + 10000 * c.b) (weighted x c) (10000 * c.b) blue ∙ sym (pos_less (weighted x c) (10000 * c.b)),
      (λ i. ((λ j. by_less (kr x) c.r j +ℤ pos_sub g j) ∙ sub_add r (10000 * c.r) g 0) i +ℤ pos_sub b i) ∙ sub_add (r + g) (10000 * c.r + 0) b 0
          ∙ sub_eq (r + g + b) (10000 * c.r + 0 + 0) (weighted x c) (10000 * c.r) red ∙ sym (pos_less (weighted x c) (10000 * c.r)),
    )

-- Cb or Cr of what Y' is above the colour is document 01's fraction
pub difference_is : (x : Matrix) (c : Codes) (m k v : ℕ) → rounded (colour_difference (above x c v) k m) ≡ rounded (difference x m k v c)
difference_is x c m k v =
    let w = weighted x c in
    let d = 10000 * v in
    let b = 438 * (10000 - k) in
    let t = m * b in
    let e : t + d * 224 + (w * 224 + 0) ≡ d * 224 + t + (0 + w * 224) = omega arith in
    let top : pos t -ℤ (pos w -ℤ pos d) *ℤ pos 224 ≡ (pos d -ℤ pos w) *ℤ pos 224 +ℤ pos t =
    (λ i. pos_sub t i -ℤ (ap (λ (z : ℤ). z *ℤ pos 224) (pos_less w d) ∙ sub_mul w d 224) i) ∙ sub_minus t 0 (w * 224) (d * 224) ∙ sub_eq (t + d * 224) (0 + w * 224) (d * 224 + t) (w * 224 + 0) e
    ∙ sym ((λ i. (ap (λ (z : ℤ). z *ℤ pos 224) (pos_less d w) ∙ sub_mul d w 224) i +ℤ pos_sub t i) ∙ sub_add (d * 224) (w * 224) t 0) in
    ap (λ (z : ℤ). rounded record { top = z; bottom = b }) top

-- ---- size
module _ (c : Codes) (n : TwelveBitCodes c) where
  small : (a b d : ℤ) → nat_abs a ≤ 10000 → nat_abs b ≤ 10000 → nat_abs d ≤ 10000 → Small (a ∷ b ∷ d ∷ []) (column c)
  small a b d h k l = record { first = omega arith; others = omega arith; triple_0 = omega (arith, n); triple_1 = omega (arith, n); triple_2 = omega (arith, n) }

  pub rows_small : (x : Matrix) → Small (row x 0) (column c) × Small (row x 1) (column c) × Small (row x 2) (column c)
  unfolding encoding_rows
  rows_small Bt709 = (small _ _ _ (lit≤ tt) (lit≤ tt) (lit≤ tt), small _ _ _ (lit≤ tt) (lit≤ tt) (lit≤ tt), small _ _ _ (lit≤ tt) (lit≤ tt) (lit≤ tt))
  rows_small Bt2020 = (small _ _ _ (lit≤ tt) (lit≤ tt) (lit≤ tt), small _ _ _ (lit≤ tt) (lit≤ tt) (lit≤ tt), small _ _ _ (lit≤ tt) (lit≤ tt) (lit≤ tt))

  pub luma_small : (x : Matrix) → weighted x c ≤ 10000 * 4095
  luma_small Bt709 = omega (arith, n)
  luma_small Bt2020 = omega (arith, n)

  pub above_small : (x : Matrix) (v : ℕ) → v < 2 ^ 12 → nat_abs (above x c v) ≤ 2 ^ 26
  above_small x v h = rw (pos_less (weighted x c) (10000 * v)) (sub_size (weighted x c) (10000 * v) (2 ^ 26) (omega (arith, luma_small x)) (omega arith))

-- the words of nominal codes
pub word_sized : (x : Matrix) (s : ℕ) (c : Codes) → s ≤ 16 → NominalCodes s c → WordSized (encoded_at x s c)
word_sized x s c S n =
    let v = words_of x s c n in
    record {
      y = v.y.value;
      cb = v.cb.value;
      cr = v.cr.value;
      is = λ i. record { y = v.y.is i; cb = v.cb.is i; cr = v.cr.is i };
      y_high = omega (arith, v.y.at_most);
      cb_high = omega (arith, v.cb.at_most);
      cr_high = omega (arith, v.cr.at_most);
    }
