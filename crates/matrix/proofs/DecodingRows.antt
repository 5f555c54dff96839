-- The rows of a decoding matrix, by (Y', cb, cr), give document 01's R, G and B when they are rounded; and an i64 holds what they come to.
-- Assumes nothing.
use mathlib.Core.Path.{◌≡◌, refl, ap, ◌∙◌}
use mathlib.Core.List.{List, [], ◌∷◌}
use Prim.Native.Nat.{ℕ, ◌+◌, ◌*◌, ◌-◌, ◌%◌, ◌^◌, ◌≤◌, ◌<◌}
use native.Mathlib.Omega.{arith}
use lib.Dec.{lit≤, lit<}
use lib.IntN.{ℤ, pos, nat_abs, sub_ℕ, ◌+ℤ◌, ◌-ℤ◌, ◌*ℤ◌, zero-*ℤ, +ℤ_idr, *ℤ_comm}
use lib.ListN.{get_or}
use Rattle.exact.proofs.Difference.{pos_less, pos_sub, sub_add, sub_minus, sub_eq, negated, sub_size}
use Rattle.exact.proofs.Nearest.{Rounds}
use Rattle.systems.specs.declared.Matrix.{Matrix}
use Rattle.systems.specs.declared.Matrix.TheVariants.{Bt709, Bt2020}
use Rattle.systems.specs.Systems.{kr, kg, kb}
use Rattle.exact.specs.Signed.{rounded}
use Rattle.matrix.specs.declared.Words.{Words}
use Rattle.matrix.specs.Triples.{primary, signed, red_of, green_of, blue_of}
use Rattle.matrix.specs.Inner.{TwelveBitWords, Small, dotted, unit, fixed, reach, decoding_rows, decoding_column, from_fixed, unclipped_at}
use Rattle.matrix.proofs.Fractions.{signed_by, primary_rounds, green_rounds}
use Rattle.matrix.proofs.FixedPoint.{rounds_as_exact}

abbrev pub row : Matrix → ℕ → List ℤ
row x k = get_or (decoding_rows x) k []

green_divisor : (x : Matrix) → 0 < 224 * 10000 * kg x
green_divisor Bt709 = lit< tt
green_divisor Bt2020 = lit< tt

green_facts : (x : Matrix) → let d = 224 * 10000 * kg x in (d % 2 ≡ 0) × (2 * (reach * d + reach * d) < unit)
green_facts Bt709 = (refl, lit< tt)
green_facts Bt2020 = (refl, lit< tt)

module _ (x : Matrix) (s : ℕ) (w : Words) (S : s ≤ 16) (n : TwelveBitWords w) where
  abbrev m : ℕ
  m = 128 * s

  -- ---- size
  difference_small : (v : ℕ) → v < 2 ^ 12 → nat_abs (signed s v) ≤ 2 ^ 12
  difference_small v h = rw (pos_less v m) (sub_size v m (2 ^ 12) (omega arith) (omega arith))

  small : (b r : ℤ) → nat_abs b + nat_abs r ≤ 2 ^ 50 → Small (pos unit ∷ b ∷ r ∷ []) (decoding_column s w)
  small b r h = record { first = lit≤ tt; others = h; triple_0 = omega (arith, n.y_high); triple_1 = difference_small w.cb n.cb_high; triple_2 = difference_small w.cr n.cr_high }

  -- ---- value
  -- R or B: Y' and one colour difference
  one : (v k : ℕ) → v < 2 ^ 12 → let a = 219 * 2 * (10000 - k) in (z : ℤ) → z ≡ pos (unit * w.y) +ℤ signed s v *ℤ pos (fixed a (224 * 10000))
      → from_fixed z ≡ rounded (primary w.y (signed s v) k)
  one v k h z is =
      let d : ℕ = 2240000 in
      let a = 438 * (10000 - k) in
      let e = fixed a d in
      let p = unit * w.y in
      let sum : z ≡ sub_ℕ (p + v * e + 0 * 0) (m * e + 0 * 0) =
      is ∙ (λ i. pos_sub p i +ℤ signed_by s v e i) ∙ sub_add p 0 (v * e) (m * e) ∙ sub_eq (p + v * e) (0 + m * e) (p + v * e + 0 * 0) (m * e + 0 * 0) (omega arith) in
      ap from_fixed sum ∙ rounds_as_exact d reach reach (lit< tt) refl (lit< tt) w.y v m a 0 0 0 (omega arith) (omega arith) (omega arith) (omega arith) _ _ _ (primary_rounds w.y v s k) (omega arith) (omega arith)

  red : from_fixed (dotted (row x 0) (decoding_column s w)) ≡ rounded (red_of x s w)
  unfolding decoding_rows
  red =
      let c = signed s w.cr in
      let e = fixed (438 * (10000 - kr x)) 2240000 in
      let p = unit * w.y in
      one w.cr (kr x) n.cr_high (dotted (row x 0) (decoding_column s w))
      ((λ i. pos p +ℤ zero-*ℤ (signed s w.cb) i +ℤ *ℤ_comm (pos e) c i) ∙ ap (λ (z : ℤ). z +ℤ c *ℤ pos e) (+ℤ_idr (pos p)))

  blue : from_fixed (dotted (row x 2) (decoding_column s w)) ≡ rounded (blue_of x s w)
  unfolding decoding_rows
  blue =
      let c = signed s w.cb in
      let e = fixed (438 * (10000 - kb x)) 2240000 in
      let p = unit * w.y in
      one w.cb (kb x) n.cb_high (dotted (row x 2) (decoding_column s w))
      ((λ i. pos p +ℤ *ℤ_comm (pos e) c i +ℤ zero-*ℤ (signed s w.cr) i) ∙ +ℤ_idr (pos p +ℤ c *ℤ pos e))

  green : from_fixed (dotted (row x 1) (decoding_column s w)) ≡ rounded (green_of x s w)
  unfolding decoding_rows
  green =
      let d = 2240000 * kg x in
      let b = 438 * kb x * (10000 - kb x) in
      let r = 438 * kr x * (10000 - kr x) in
      let p = unit * w.y in
      let eb = fixed b d in
      let er = fixed r d in
      let vb = w.cb in
      let vr = w.cr in
      let sum : dotted (row x 1) (decoding_column s w) ≡ sub_ℕ (p + m * eb + m * er) (vb * eb + vr * er) =
      (λ i. pos p +ℤ negated eb (signed s vb) i +ℤ negated er (signed s vr) i)
      ∙ (λ i. ((λ j. pos_sub p j -ℤ signed_by s vb eb j) ∙ sub_minus p 0 (vb * eb) (m * eb)) i -ℤ signed_by s vr er i)
      ∙ sub_minus (p + m * eb) (0 + vb * eb) (vr * er) (m * er)
      ∙ sub_eq (p + m * eb + m * er) (0 + vb * eb + vr * er) (p + m * eb + m * er) (vb * eb + vr * er) (omega arith) in
      ap from_fixed sum ∙ rounds_as_exact d reach reach (green_divisor x) (green_facts x).0 (green_facts x).1 w.y m vb b m vr r (omega (arith, n.cb_high)) (omega (arith, n.cb_high)) (omega (arith, n.cr_high)) (omega (arith, n.cr_high)) _ _ _ (green_rounds x s w (green_divisor x)) (omega arith) (omega arith)

  pub rows_give : record { r = from_fixed (dotted (row x 0) (decoding_column s w)); g = from_fixed (dotted (row x 1) (decoding_column s w)); b = from_fixed (dotted (row x 2) (decoding_column s w)) } ≡ unclipped_at x s w
  unfolding unclipped_at
  rows_give = λ i. record { r = red i; g = green i; b = blue i }

module _ (s : ℕ) (w : Words) (S : s ≤ 16) (n : TwelveBitWords w) where
  pub rows_small : (x : Matrix) → Small (row x 0) (decoding_column s w) × Small (row x 1) (decoding_column s w) × Small (row x 2) (decoding_column s w)
  unfolding decoding_rows
  rows_small Bt709 = (small Bt709 s w S n _ _ (lit≤ tt), small Bt709 s w S n _ _ (lit≤ tt), small Bt709 s w S n _ _ (lit≤ tt))
  rows_small Bt2020 = (small Bt2020 s w S n _ _ (lit≤ tt), small Bt2020 s w S n _ _ (lit≤ tt), small Bt2020 s w S n _ _ (lit≤ tt))

  -- no component is further from 0 than 2^14
  abbrev Within : {p q d : ℕ} {v : ℤ} → Rounds p q d v → Type 0
  Within r = (r.up ≤ r.down + 2 ^ 14) × (r.down ≤ r.up + 2 ^ 14)

  within_all : (x : Matrix) → Within (primary_rounds w.y w.cr s (kr x)) × Within (green_rounds x s w (green_divisor x)) × Within (primary_rounds w.y w.cb s (kb x))
  within_all Bt709 =
      let r = primary_rounds w.y w.cr s (kr Bt709) in
      let g = green_rounds Bt709 s w (green_divisor Bt709) in
      let b = primary_rounds w.y w.cb s (kb Bt709) in
      ((omega arith, omega arith), (omega arith, omega arith), (omega arith, omega arith))
  within_all Bt2020 =
      let r = primary_rounds w.y w.cr s (kr Bt2020) in
      let g = green_rounds Bt2020 s w (green_divisor Bt2020) in
      let b = primary_rounds w.y w.cb s (kb Bt2020) in
      ((omega arith, omega arith), (omega arith, omega arith), (omega arith, omega arith))

  at_most : {p q d : ℕ} {v : ℤ} (r : Rounds p q d v) → Within r → nat_abs v ≤ 2 ^ 14
  at_most r h = rw r.is (sub_size r.up r.down (2 ^ 14) h.0 h.1)

  pub unclipped_small : (x : Matrix) → let v = unclipped_at x s w in (nat_abs v.r ≤ 2 ^ 14) × (nat_abs v.g ≤ 2 ^ 14) × (nat_abs v.b ≤ 2 ^ 14)
  unfolding unclipped_at
  unclipped_small x =
      let h = within_all x in
      (at_most (primary_rounds w.y w.cr s (kr x)) h.0, at_most (green_rounds x s w (green_divisor x)) h.1, at_most (primary_rounds w.y w.cb s (kb x)) h.2)
