-- Quantising what the way back gives returns the codes.
-- In units of binary32's least value the signal is `grid`, less than one unit of the last place kept off n/k; that place is worth at most
-- 2^126 units, since n/k is at most 1, and 219s of those are far from half a step.
-- Assumes nothing.
use Rattle.std.proofs.Common.{◌≡◌, ℕ, zero, suc, ◌+◌, ◌-◌, ◌*◌, ◌/◌, ◌%◌, ◌^◌, ◌<◌, ◌≤◌, true, false, T, pos, sym, ap, ◌∙◌, subst, zero-le, le_of_eq, lt_of_le_of_lt, mul-le-mul_right, mul_assoc, suc-mul, mul_comm, div-lt_iff_lt-mul, add-mul, mul-le-mul, mul-lt-mul_of_pos_right, mul-pos, one-mul, le-div_iff_mul-le, zero-mul, mul-one, mul_right_comm, div-mul-le_self, mul_left_comm, arith, lit<, pow_pos, pow_mono}
use Prim.Native.Nat.{compare}
use native.Mathlib.Nat.{lt-div-mul-add}
use lib.Ieee.{Float, nan, inf, fin, binary32, round, size, le}
use lib.Ieee.Digits.{size-le}
use lib.Ieee.Fits.{nearest-le, and_i}
use lib.Ieee.Nearest.{closest, nearest-ge, div_same}
use lib.Ieee.Order.{round_mono}
use lib.Ieee.Positive.{num, den, den_pos, value→cross}
use lib.Ieee.Scale.{grid, finite, round_same, round_val, round_under}
use Rattle.exact.specs.Outcome.{accepted, require}
use Rattle.exact.proofs.Boolean.{is_true}
use Rattle.exact.proofs.Outcome.{accepted_first, required}
use Rattle.systems.specs.declared.System.{System}
use Rattle.systems.specs.declared.Codes.{Codes}
use Rattle.systems.specs.Systems.{scale, nominal, named, all_within}
use Rattle.systems.proofs.Ranges.{Nominal, all_in_range}
use Rattle.systems.proofs.Scales.{scale_range}
use Rattle.signals.specs.declared.Signals.{Signals}
use Rattle.signals.specs.Signals.{in_unit, component, signal_codes, nearest, signals_at, code_signals}
use Rattle.signals.proofs.Unit.{tests_are_the_unit}
use Rattle.signals.proofs.Halves.{code_from_halves}

-- A is within u of N
record Near (N A u : ℕ) : Type 0 where
  not_over : A ≤ N + u
  not_under : N ≤ A + u

-- N/u to the nearest whole number is off by less than one
closest_near : (N u : ℕ) → 0 < u → Near N (closest N u * u) u
closest_near N u U =
    let q = N / u in
    let r = closest N u in
    let a : q * u ≤ r * u = mul-le-mul_right u (nearest-ge q (compare (N % u * 2) u)) in
    let b : r * u ≤ suc q * u = mul-le-mul_right u (nearest-le q (compare (N % u * 2) u)) in
    let b' : suc q * u ≡ q * u + u = suc-mul q u in
    let l : q * u ≤ N = div-mul-le_self N u in
    let h : N < q * u + u = lt-div-mul-add U in
    record { not_over = omega arith; not_under = omega arith }

-- `omega` stops at numbers of more than 38 digits, so the steps of arithmetic stand for any number
wider : (N A u v : ℕ) → u ≤ v → Near N A u → Near N A v
wider N A u v h w = record { not_over = omega (arith, w.not_over); not_under = omega (arith, w.not_under) }

places_dropped : (z : ℕ) → z ≤ 150 → z - 24 ≤ 126
places_dropped z h = omega arith

grid_near : (n k : ℕ) → 0 < k → n ≤ k → k ≤ 3504 → Near (n * 2 ^ 149) (grid binary32 n k * k) (3504 * 2 ^ 126)
grid_near n k K h b =
    let N = n * 2 ^ 149 in
    let j = size (N / k) - 24 in
    let u = k * 2 ^ j in
    let few : N / k < 2 ^ 150 = (div-lt_iff_lt-mul K).1 (lt_of_le_of_lt (mul-le-mul_right (2 ^ 149) h) (lt_of_le_of_lt (le_of_eq (mul_comm k (2 ^ 149))) (mul-lt-mul_of_pos_right (lit< tt) K))) in
    let J : j ≤ 126 = places_dropped (size (N / k)) (size-le (N / k) 150 few) in
    let e : closest N u * u ≡ grid binary32 n k * k = ap (λ (x : ℕ). closest N u * x) (mul_comm k (2 ^ j)) ∙ sym (mul_assoc (closest N u) (2 ^ j) k) in
    subst (λ (x : ℕ). Near N x (3504 * 2 ^ 126)) e (wider N (closest N u * u) u (3504 * 2 ^ 126) (mul-le-mul b (pow_mono J)) (closest_near N u (mul-pos K (pow_pos j))))

-- a number less than a quarter of M off nM is n steps of M, to the nearest
module _ (M u : ℕ) (P : 0 < M) (quarter : u * 4 < M) where
  odd_halves : (n : ℕ) → (2 * n + 1) * M ≡ 2 * (n * M) + M
  odd_halves n = add-mul (2 * n) 1 M ∙ (simp (mul_assoc, one-mul))

  halves_under : (n A : ℕ) → Near (n * M) A u → A * 2 / M < 2 * n + 1
  halves_under n A w = (div-lt_iff_lt-mul P).1 (omega (arith, w.not_over, odd_halves n))

  halves_over : (n A : ℕ) → Near (n * M) A u → 2 * n ≤ A * 2 / M + 1
  halves_over zero A w = zero-le
  halves_over (suc n) A w =
      let l : 2 * n + 1 ≤ A * 2 / M = (le-div_iff_mul-le P).1 (omega (arith, w.not_under, odd_halves n, suc-mul n M)) in
      omega arith

  near_rounds : (n A : ℕ) → Near (n * M) A u → (A * 2 / M + 1) / 2 ≡ n
  near_rounds n A w = omega (arith, halves_under n A w, halves_over n A w)

-- ---- one component
nearest_in_unit : (n k : ℕ) → 0 < k → n ≤ k → T (in_unit (round binary32 false n k))
unfolding round
nearest_in_unit n k K h =
    let x = round binary32 false n k in
    subst T (tests_are_the_unit x)
    (and_i (le (fin false 0 (pos 0)) x) (le x (fin false 1 (pos 0)))
    (round_mono binary32 0 1 n k (lit< tt) K (rw zero-mul zero-le))
    (round_mono binary32 n k 1 1 K (lit< tt) (rw (mul-one, one-mul) h)))

unit_finite : (x : Float) → T (in_unit x) → T (finite x)
unit_finite nan t = t
unit_finite (inf s) t = t
unit_finite (fin s m e) t = tt

steps_return : (s n : ℕ) → 0 < s → s ≤ 16 → n ≤ 219 * s → component s (round binary32 false n (219 * s)) ≡ 16 * s + n
steps_return s n S b h =
    let k = 219 * s in
    let K : 0 < k = omega arith in
    let x = round binary32 false n k in
    let g = grid binary32 n k in
    let v : num x * 2 ^ 149 ≡ g * den x = value→cross x g (2 ^ 149) (round_val binary32 n k (round_under binary32 n k (unit_finite x (nearest_in_unit n k K h)))) in
    let two : 438 * s ≡ k * 2 = omega arith in
    let halves : num x * (438 * s) / den x ≡ g * k * 2 / 2 ^ 149 =
    div_same (num x * (438 * s)) (den x) (g * k * 2) (2 ^ 149) (den_pos x) (pow_pos 149) (rw two (same_product (num x) (2 ^ 149) g (den x) k v)) in
    code_from_halves s (num x) (den x) (den_pos x) ∙ ap (λ (z : ℕ). 16 * s + (z + 1) / 2) halves
    ∙ ap (λ (z : ℕ). 16 * s + z) (near_rounds (2 ^ 149) (3504 * 2 ^ 126) (pow_pos 149) (lit< tt) n (g * k) (grid_near n k K h (omega arith)))
  where
    same_product : (a M g c k : ℕ) → a * M ≡ g * c → a * (k * 2) * M ≡ g * k * 2 * c
    same_product a M g c k e = mul_right_comm a (k * 2) M ∙ ap (λ (z : ℕ). z * (k * 2)) e ∙ simp (mul_assoc, mul_comm, mul_left_comm)

pub code_returns : (s d : ℕ) → 0 < s → s ≤ 16 → 16 * s ≤ d → d ≤ 235 * s → T (in_unit (nearest s d)) × (component s (nearest s d) ≡ d)
code_returns s d S b l u =
    let h : d - 16 * s ≤ 219 * s = omega arith in
    let e : 16 * s + (d - 16 * s) ≡ d = omega arith in
    (nearest_in_unit (d - 16 * s) (219 * s) (omega arith) h, steps_return s (d - 16 * s) S b h ∙ e)

pub black_is_positive_zero : (s : ℕ) → 0 < s → nearest s (16 * s) ≡ fin false 0 (pos 0)
unfolding round
black_is_positive_zero s S =
    let none : 16 * s - 16 * s ≡ 0 = omega arith in
    ap (λ (n : ℕ). round binary32 false n (219 * s)) none ∙ round_same binary32 false 0 (219 * s) 0 1 (omega arith) (lit< tt) (sym (zero-mul (219 * s)))

-- ---- a triple
nominal_returns : (y : System) (d : ℕ) → Nominal y d → (in_unit (nearest (scale y) d) ≡ true) × (component (scale y) (nearest (scale y) d) ≡ d)
nominal_returns y d h =
    let s = scale_range y in
    let t = code_returns (scale y) d s.0 s.1 h.0 h.1 in
    (is_true (in_unit (nearest (scale y) d)) t.0, t.1)

triple_returns : (n : ℕ) (y : System) (d : Codes) → named n ≡ accepted y → all_within (nominal y) d ≡ true → signal_codes n (signals_at (scale y) d) ≡ accepted d
triple_returns n y d k h =
    let each = all_in_range (nominal y) d h in
    let r = nominal_returns y d.r each.0 in
    let g = nominal_returns y d.g each.1 in
    let b = nominal_returns y d.b each.2 in
    simp (k, r.0, g.0, b.0, r.1, g.1, b.1)

pub codes_return : (n : ℕ) (d : Codes) (e : Signals) → code_signals n d ≡ accepted e → signal_codes n e ≡ accepted d
codes_return n d e h =
    let p = accepted_first (named n) (λ (y : System). require (all_within (nominal y) d) 6 (accepted (signals_at (scale y) d))) e h in
    let y = p.0 in
    let q = required (all_within (nominal y) d) 6 (signals_at (scale y) d) e p.2 in
    subst (λ (x : Signals). signal_codes n x ≡ accepted d) q.1 (triple_returns n y d p.1 q.0)
