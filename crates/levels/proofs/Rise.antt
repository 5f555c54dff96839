-- Levels rise with codes, by every gauge and at every scale.
-- Assumes nothing.
use mathlib.Core.Path.{◌≡◌, sym, ap, ◌∙◌}
use mathlib.Core.Logic.{inl, inr}
use Prim.Native.Nat.{ℕ, ◌+◌, ◌*◌, ◌≤◌, ◌<◌}
use native.Mathlib.Nat.{mul-le-mul_right}
use native.Mathlib.Omega.{arith}
use lib.IntN.{ℤ, pos, sub_ℕ, ◌+ℤ◌, ◌-ℤ◌, ◌*ℤ◌, *ℤ_comm, +ℤ_invr}
use Rattle.exact.proofs.Order.{below_or_not}
use Rattle.exact.proofs.Difference.{pos_less, sub_minus, sub_mul, sub_is, sub_le}
use Rattle.levels.specs.declared.Gauge.{Gauge}
use Rattle.levels.specs.declared.Level.{Level}
use Rattle.levels.specs.Levels.{level_ratio}
use Rattle.levels.proofs.Claims.{Solves, Rises}
use Rattle.levels.proofs.Solution.{difference, sum_is}

-- the sums across of equal differences are equal
across : (a b c d : ℕ) → sub_ℕ a b ≡ sub_ℕ c d → a + d ≡ c + b
across a b c d e = omega (arith, sub_is (a + d) (b + c) 0 (sym (sub_minus a b c d) ∙ ap (λ (z : ℤ). z -ℤ sub_ℕ c d) e ∙ +ℤ_invr (sub_ℕ c d)))

-- the equation of a level with u - v whole millivolts, in naturals
in_naturals : (g : Gauge) (s d u v : ℕ) (l : Level) → l.millivolts ≡ sub_ℕ u v → Solves (level_ratio g s d) l
    → d * 700 + v * (g.steps * s) ≡ u * (g.steps * s) + l.remainder + g.zero * s * 700
in_naturals g s d u v l e p =
    let k = g.steps * s in
    let z = g.zero * s in
    let top = *ℤ_comm (pos 700) (pos d -ℤ pos z) ∙ ap (λ (x : ℤ). x *ℤ pos 700) (pos_less d z) ∙ sub_mul d z 700 in
    let sum = ap (λ (x : ℤ). x *ℤ pos k +ℤ pos l.remainder) e ∙ sum_is u v k l.remainder in
    across (d * 700) (z * 700) (u * k + l.remainder) (v * k) (sym top ∙ p.sum ∙ sum)

-- whole millivolts x - y of the greater code d are not below u - v of c: the remainder t is less than a millivolt
not_fallen : (k z c d u v x y r t : ℕ) → c < d → t < k → c * 700 + v * k ≡ u * k + r + z → d * 700 + y * k ≡ x * k + t + z → u + y ≤ x + v
not_fallen k z c d u v x y r t h l p q = elim (below_or_not (x + v) (u + y)) [
  | inl m ↦ let f : (x + v + 1) * k ≤ (u + y) * k = mul-le-mul_right k (omega arith) in absurd (omega arith)
  | inr m ↦ m
]

pub rise : (g : Gauge) (s c d : ℕ) (l m : Level) → c < d → Solves (level_ratio g s c) l → Solves (level_ratio g s d) m → Rises l m
rise g s c d l m h p q =
    let a = difference l.millivolts in
    let b = difference m.millivolts in
    let first = in_naturals g s c a.up a.down l a.is p in
    let second = in_naturals g s d b.up b.down m b.is q in
    record {
      whole = rw (a.is, b.is) (sub_le a.up a.down b.up b.down (not_fallen (g.steps * s) (g.zero * s * 700) c d _ _ _ _ _ _ h q.left first second));
      rest = λ (e : l.millivolts ≡ m.millivolts). omega (arith, h, first, in_naturals g s d a.up a.down m (sym e ∙ a.is) q);
    }
