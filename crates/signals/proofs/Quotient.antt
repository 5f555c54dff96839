-- The quotient of two whole numbers that binary32 holds is their fraction, rounded once.
-- Assumes nothing.
use Rattle.std.proofs.Common.{◌≡◌, ℕ, ◌*◌, ◌^◌, ◌<◌, ◌≤◌, true, false, eqb, pos, sym, ◌∙◌, true≢false, mul_assoc, mul_comm, mul-pos, mul-one, mul_left_comm, arith, ne_eqb}
use lib.Ieee.{Float, nan, inf, fin, binary32, up, down, round, div, of_int}
use lib.Ieee.Back.{round_whole}
use lib.Ieee.Exact.{HasValue}
use lib.Ieee.Fits.{down_pos}
use lib.Ieee.Positive.{first_pos}
use lib.Ieee.Scale.{round_same}

quotient : (x y : Float) (n k : ℕ) → 0 < k → HasValue x false n 1 → HasValue y false k 1 → div binary32 x y ≡ round binary32 false n k
unfolding div
quotient nan y n k K hx hy = absurd hx
quotient (inf s) y n k K hx hy = absurd hx
quotient (fin s m e) nan n k K hx hy = absurd hy
quotient (fin s m e) (inf t) n k K hx hy = absurd hy
quotient (fin true m e) (fin t b d) n k K hx hy = absurd (true≢false hx.0)
quotient (fin false m e) (fin true b d) n k K hx hy = absurd (true≢false hy.0)
quotient (fin false m e) (fin false b d) n k K hx hy =
    let p : m * up e ≡ n * down e = sym (mul-one (m * up e)) ∙ hx.1 in
    let q : b * up d ≡ k * down d = sym (mul-one (b * up d)) ∙ hy.1 in
    let B : 0 < b * up d = rw q (mul-pos K (down_pos d)) in
    let nonzero : eqb b 0 ≡ false = ne_eqb b 0 (λ (z : b ≡ 0). omega (arith, first_pos b (up d) B)) in
    let same : m * up e * down d * k ≡ n * (b * up d * down e) = rw (p, q) (simp (mul_assoc, mul_comm, mul_left_comm)) in
    rw nonzero (round_same binary32 false (m * up e * down d) (b * up d * down e) n k (mul-pos B (down_pos e)) K same)

pub quotient_rounds_once : (n k : ℕ) → n ≤ 2 ^ 24 → k ≤ 2 ^ 24 → 0 < k → div binary32 (of_int binary32 (pos n)) (of_int binary32 (pos k)) ≡ round binary32 false n k
unfolding of_int
quotient_rounds_once n k N K P = quotient (round binary32 false n 1) (round binary32 false k 1) n k P (round_whole binary32 false n N) (round_whole binary32 false k K)
