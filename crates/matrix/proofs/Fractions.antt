-- Document 01's fractions with their numerators as differences of naturals, so that what INT makes of them is a matter of naturals.
-- Assumes nothing.
use mathlib.Core.Path.{◌≡◌, sym, ap, ◌∙◌, subst}
use Prim.Native.Nat.{ℕ, ◌+◌, ◌*◌, ◌-◌, ◌<◌}
use lib.Dec.{lit<}
use lib.IntN.{ℤ, pos, sub_ℕ, ◌+ℤ◌, ◌-ℤ◌, ◌*ℤ◌}
use Rattle.exact.specs.Signed.{rounded}
use Rattle.exact.proofs.Difference.{pos_sub, pos_less, sub_add, sub_minus, sub_mul}
use Rattle.exact.proofs.Nearest.{Rounds, rounds}
use Rattle.systems.specs.declared.Codes.{Codes}
use Rattle.systems.specs.declared.Matrix.{Matrix}
use Rattle.systems.specs.Systems.{kr, kg, kb}
use Rattle.matrix.specs.declared.Words.{Words}
use Rattle.matrix.specs.Triples.{weighted, luma, difference, primary, signed, green_of}

pub rounds_top : (t : ℤ) (p n d : ℕ) → t ≡ sub_ℕ p n → 0 < d → Rounds p n d (rounded record { top = t; bottom = d })
rounds_top t p n d e D = subst (λ (z : ℤ). Rounds p n d (rounded record { top = z; bottom = d })) (sym e) (rounds p n d D)

pub luma_rounds : (x : Matrix) (c : Codes) → Rounds (weighted x c) 0 10000 (rounded (luma x c))
luma_rounds x c = rounds_top (pos (weighted x c)) (weighted x c) 0 10000 (pos_sub (weighted x c)) (lit< tt)

pub difference_rounds : (x : Matrix) (m k v : ℕ) (c : Codes) →
    let d = 219 * 2 * (10000 - k) in
    0 < d → Rounds (10000 * v * 224 + m * d) (weighted x c * 224 + 0) d (rounded (difference x m k v c))
difference_rounds x m k v c D =
    let d = 438 * (10000 - k) in
    let n = weighted x c in
    rounds_top (difference x m k v c).top (10000 * v * 224 + m * d) (n * 224 + 0) d
    ((λ i. (ap (λ (z : ℤ). z *ℤ pos 224) (pos_less (10000 * v) n) ∙ sub_mul (10000 * v) n 224) i +ℤ pos_sub (m * d) i) ∙ sub_add (10000 * v * 224) (n * 224) (m * d) 0) D

pub signed_by : (s w k : ℕ) → signed s w *ℤ pos k ≡ sub_ℕ (w * k) (128 * s * k)
signed_by s w k = ap (λ (z : ℤ). z *ℤ pos k) (pos_less w (128 * s)) ∙ sub_mul w (128 * s) k

pub primary_rounds : (y w s k : ℕ) →
    let e = 219 * 2 * (10000 - k) in
    Rounds (224 * 10000 * y + w * e) (0 + 128 * s * e) (224 * 10000) (rounded (primary y (signed s w) k))
primary_rounds y w s k =
    let e = 438 * (10000 - k) in
    let p = 2240000 * y in
    rounds_top (primary y (signed s w) k).top (p + w * e) (0 + 128 * s * e) 2240000
    ((λ i. pos_sub p i +ℤ signed_by s w e i) ∙ sub_add p 0 (w * e) (128 * s * e)) (lit< tt)

pub green_rounds : (x : Matrix) (s : ℕ) (w : Words) → 0 < 224 * 10000 * kg x →
    let r = 219 * 2 * kr x * (10000 - kr x) in
    let b = 219 * 2 * kb x * (10000 - kb x) in
    Rounds (224 * 10000 * kg x * w.y + 128 * s * r + 128 * s * b) (0 + w.cr * r + w.cb * b) (224 * 10000 * kg x) (rounded (green_of x s w))
green_rounds x s w D =
    let r = 438 * kr x * (10000 - kr x) in
    let b = 438 * kb x * (10000 - kb x) in
    let p = 2240000 * kg x * w.y in
    let m = 128 * s in
    rounds_top (green_of x s w).top (p + m * r + m * b) (0 + w.cr * r + w.cb * b) (2240000 * kg x)
    ((λ i. ((λ j. pos_sub p j -ℤ signed_by s w.cr r j) ∙ sub_minus p 0 (w.cr * r) (m * r)) i -ℤ signed_by s w.cb b i)
    ∙ sub_minus (p + m * r) (0 + w.cr * r) (w.cb * b) (m * b)) D
