-- Each nominal code has a light: antt seeks one for each code of each depth, and tests it by the curve's rule.
-- Assumes nothing.
use mathlib.Core.Path.{◌≡◌, refl, subst}
use mathlib.Core.Bool.{Bool, true, false, not, ◌&&◌}
use mathlib.Core.Logic.{◌⊎◌, inl, inr}
use Prim.Native.Nat.{ℕ, zero, suc, ◌+◌, ◌*◌, ◌^◌, ◌≤◌, ◌<◌}
use native.Mathlib.Nat.{le_refl, le_of_suc-le-suc}
use native.Mathlib.Omega.{arith}
use lib.Dec.{T, leb, leb→le}
use lib.Ieee.Fits.{and_l, and_r}
use Rattle.exact.specs.Whole.{INT}
use Rattle.exact.proofs.Boolean.{all_three}
use Rattle.exact.proofs.Order.{below_or_not}
use Rattle.systems.specs.declared.System.{System}
use Rattle.systems.specs.declared.System.TheVariants.{Bt709Bits8, Bt709Bits10, Bt2020Bits10, Bt2020Bits12}
use Rattle.systems.specs.Systems.{scale}
use Rattle.curve.specs.Curve.{dark, linear, reaches, code_of, code, full_light}
use Rattle.curve.proofs.Curve.{on_line_at, at_least}
use Rattle.curve.proofs.Tests.{unreached}
use Rattle.curve.proofs.Lights.{reached, rule, code_high, codes_rise}

-- a light of the code 16s + d, sought bit by bit past the greatest that does not reach it
abbrev seek : (ℕ → ℕ → Bool) → ℕ → ℕ → ℕ → ℕ
seek f d zero k = suc k
seek f d (suc n) k = elim (f (k + 2 ^ n) d) [ true ↦ seek f d n k | false ↦ seek f d n (k + 2 ^ n) ]

-- the light k reaches 16s + d, and no more
unfoldable exact : (ℕ → ℕ → Bool) → ℕ → ℕ → Bool
exact f d k = leb k full_light && (f k d && not (f k (suc d)))

-- so it is for each d from 1 to n
unfoldable hits : (ℕ → ℕ → Bool) → ℕ → Bool
hits f zero = true
hits f (suc n) = exact f (suc n) (seek f (suc n) 16 0) && hits f n

hits_at : (f : ℕ → ℕ → Bool) (n : ℕ) → T (hits f n) → (d : ℕ) → 0 < d → d ≤ n → T (exact f d (seek f d 16 0))
unfolding hits
hits_at f zero t d p h = absurd (omega arith)
hits_at f (suc n) t d p h = go (below_or_not d (suc n)) (hits_at f n (and_r (exact f (suc n) (seek f (suc n) 16 0)) (hits f n) t) d p)
  where
    go : (d < suc n) ⊎ (suc n ≤ d) → (d ≤ n → T (exact f d (seek f d 16 0))) → T (exact f d (seek f d 16 0))
    go (inl l) below = below (le_of_suc-le-suc l)
    go (inr l) below = subst (λ (m : ℕ). T (exact f m (seek f m 16 0))) same (and_l (exact f (suc n) (seek f (suc n) 16 0)) (hits f n) t)
      where
        same : suc n ≡ d
        same = omega arith

eight : T (hits (at_least full_light 1 10990 180) 219)
unfolding hits exact at_least dark on_line_at reaches
eight = tt

ten : T (hits (at_least full_light 4 10990 180) 876)
unfolding hits exact at_least dark on_line_at reaches
ten = tt

twelve : T (hits (at_least full_light 16 10993 181) 3504)
unfolding hits exact at_least dark on_line_at reaches
twelve = tt

all_hit : (y : System) → T (hits (reached y) (219 * scale y))
all_hit Bt709Bits8 = eight
all_hit Bt709Bits10 = ten
all_hit Bt2020Bits10 = ten
all_hit Bt2020Bits12 = twelve

-- a light of a code
pub record Lit (y : System) (d : ℕ) : Type 0 where
  pub light : ℕ
  pub small : light ≤ full_light
  pub has : code y light ≡ d

-- light 0 has the first nominal code
pub first_light : (y : System) → code y 0 ≡ 16 * scale y
unfolding code code_of dark linear INT
first_light Bt709Bits8 = refl
first_light Bt709Bits10 = refl
first_light Bt2020Bits10 = refl
first_light Bt2020Bits12 = refl

-- a light that passes the test of a code has the code
module _ (y : System) (n k : ℕ) (room : suc n ≤ 219 * scale y) (t : T (exact (reached y) (suc n) k)) where
  tests : T (leb k full_light) × T (reached y k (suc n)) × T (not (reached y k (suc (suc n))))
  unfolding exact
  tests = all_three (leb k full_light) (reached y k (suc n)) (not (reached y k (suc (suc n)))) t

  past : (suc n < 219 * scale y) ⊎ (219 * scale y ≤ suc n) → code y k < 16 * scale y + suc (suc n)
  past (inl l) = unreached (rule y) k (suc (suc n)) (omega arith) l tests.2
  past (inr l) = omega (arith, code_high y k)

  lit_by_test : Lit y (16 * scale y + suc n)
  lit_by_test = record {
    light = k;
    small = leb→le k full_light tests.0;
    has = omega (arith, ((rule y).tests k (suc n) (omega arith) room).1 tests.1, past (below_or_not (suc n) (219 * scale y)));
  }

pub every_code_lit : (y : System) (n : ℕ) → n ≤ 219 * scale y → Lit y (16 * scale y + n)
every_code_lit y zero h = record { light = 0; small = omega arith; has = omega (arith, first_light y) }
every_code_lit y (suc n) h = lit_by_test y n (seek (reached y) (suc n) 16 0) h (hits_at (reached y) (219 * scale y) (all_hit y) (suc n) (omega arith) h)

-- light 65535 has the last nominal code
pub last_light : (y : System) → code y full_light ≡ 235 * scale y
last_light y =
    let l = every_code_lit y (219 * scale y) (le_refl _) in
    omega (arith, l.has, codes_rise y l.light full_light l.small, code_high y full_light)
