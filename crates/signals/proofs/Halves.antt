-- A code by way of whole half steps above black: no sum of fractions is needed.
-- Assumes nothing.
use Rattle.std.proofs.Common.{◌≡◌, ℕ, ◌+◌, ◌*◌, ◌/◌, ◌<◌, sym, ap, ◌∙◌, mul_assoc, mul_comm, add-mul, add_comm, mul-pos, mul_left_comm, arith, lit<}
use native.Mathlib.Nat.{div-div-eq-div-mul, add-div_right, add-mul-div_right}
use Rattle.exact.specs.Whole.{INT}

-- the fraction a/c stands for E'
pub code_from_halves : (s a c : ℕ) → 0 < c → INT ((219 * a + 16 * c) * s) c ≡ 16 * s + (a * (438 * s) / c + 1) / 2
unfolding INT
code_from_halves s a c C =
    let h = a * (438 * s) in
    let rounded : (h + c) / (2 * c) ≡ (h / c + 1) / 2 =
    ap (λ (x : ℕ). (h + c) / x) (mul_comm 2 c) ∙ sym (div-div-eq-div-mul (h + c) c 2) ∙ ap (λ (x : ℕ). x / 2) (add-div_right h C) in
    ap (λ (x : ℕ). x / (2 * c)) regroup ∙ add-mul-div_right (h + c) (16 * s) (mul-pos (lit< tt) C) ∙ ap (λ (x : ℕ). x + 16 * s) rounded ∙ add_comm ((h / c + 1) / 2) (16 * s)
  where
    regroup : 2 * ((219 * a + 16 * c) * s) + c ≡ (a * (438 * s) + c) + 16 * s * (2 * c)
    regroup =
        let p : (219 * a + 16 * c) * s ≡ 219 * (a * s) + 16 * (c * s) = add-mul (219 * a) (16 * c) s ∙ simp mul_assoc in
        let q : a * (438 * s) ≡ 438 * (a * s) = mul_left_comm a 438 s in
        let r : 16 * s * (2 * c) ≡ 16 * (2 * (c * s)) = simp (mul_assoc, mul_comm, mul_left_comm) in
        omega arith
