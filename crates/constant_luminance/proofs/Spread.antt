-- How far Y'c comes from B' and R' in every triple of light. For each B, Y'c is highest above B' where R and G are 65535, and lowest
-- below it where both are 0; so it is for R.
-- Assumes nothing.
use mathlib.Core.List.{List, [], ◌∷◌}
use Prim.Native.Nat.{ℕ, ◌+◌, ◌*◌, ◌-◌, ◌≤◌}
use native.Mathlib.Omega.{arith}
use lib.Dec.{T}
use Rattle.systems.specs.declared.System.{System}
use Rattle.curve.specs.Curve.{code, dark, reaches}
use Rattle.curve.proofs.Curve.{on_line_at, at_least}
use Rattle.luminance.specs.Luminance.{luminance_code}
use Rattle.luminance.proofs.Luminances.{rule, of_light}
use Rattle.constant_luminance.specs.declared.ConstantSystem.{ConstantSystem}
use Rattle.constant_luminance.specs.declared.ConstantSystem.TheVariants.{Bits10, Bits12}
use Rattle.constant_luminance.specs.declared.Lights.{Lights}
use Rattle.constant_luminance.specs.ConstantLuminance.{base, luma_of}
use Rattle.constant_luminance.proofs.Claims.{Lit}
use Rattle.constant_luminance.proofs.Stairs.{Stair, climbs, climbed}

-- how far Y'c may be above a colour's code, and below it
pub record Reach : Type 0 where
  pub over : ℕ
  pub under : ℕ

pub record Apart (reach : Reach) (luma d : ℕ) : Type 0 where
  pub over : luma ≤ d + reach.over
  pub under : d ≤ luma + reach.under

-- of the light x, whose weight is w, and the rest of the luminance
module _ (y : System) (w : ℕ) (reach : Reach) (up down : List Stair)
    (climbs-up : T (climbs y w ((10000 - w) * 65535) 10000 reach.over 0 up)) (climbs-down : T (climbs y 10000 0 w reach.under 0 down)) where
  apart : (x rest k : ℕ) → x ≤ 65535 → rest ≤ (10000 - w) * 65535 → w * x + rest ≤ k → k ≤ w * x + rest → Apart reach (luminance_code y k) (code y x)
  apart x rest k h l from to = record {
    over = omega (arith, (rule y).rises k (w * x + (10000 - w) * 65535) (omega arith), climbed y w ((10000 - w) * 65535) 10000 reach.over up 0 climbs-up x (omega arith) h, of_light y x);
    under = omega (arith, of_light y x, (rule y).rises (10000 * x) (10000 * x + 0) (omega arith), climbed y 10000 0 w reach.under down 0 climbs-down x (omega arith) h, (rule y).rises (w * x) k (omega arith));
  }

abbrev pub blue_reach : ConstantSystem → Reach
blue_reach Bits10 = record { over = 850; under = 693 }
blue_reach Bits12 = record { over = 3399; under = 2772 }

abbrev pub red_reach : ConstantSystem → Reach
red_reach Bits10 = record { over = 753; under = 435 }
red_reach Bits12 = record { over = 3010; under = 1741 }

abbrev stair : ℕ → ℕ → Stair
stair d n = record { code = d; next = n }

abbrev blue_up : ConstantSystem → List Stair
blue_up Bits10 = stair 0 1537 ∷ stair 91 65536 ∷ []
blue_up Bits12 = stair 0 12 ∷ stair 3 1862 ∷ stair 428 65536 ∷ []

abbrev blue_down : ConstantSystem → List Stair
blue_down Bits10 = stair 0 41080 ∷ stair 132 58140 ∷ stair 169 63511 ∷ stair 179 65007 ∷ stair 182 65460 ∷ stair 183 65536 ∷ []
blue_down Bits12 = stair 0 41042 ∷ stair 527 58054 ∷ stair 675 63418 ∷ stair 717 64989 ∷ stair 728 65403 ∷ stair 731 65517 ∷ stair 732 65536 ∷ []

abbrev red_up : ConstantSystem → List Stair
red_up Bits10 = stair 0 428 ∷ stair 26 13345 ∷ stair 384 65536 ∷ []
red_up Bits12 = stair 0 18 ∷ stair 4 505 ∷ stair 122 15198 ∷ stair 1648 65536 ∷ []

abbrev red_down : ConstantSystem → List Stair
red_down Bits10 =
    stair 0 16833 ∷ stair 199 34494 ∷ stair 308 47160 ∷ stair 368 55070 ∷ stair 401 59710 ∷ stair 419 62327 ∷ stair 429 63809 ∷ stair 435 64706
    ∷ stair 438 65158 ∷ stair 439 65309 ∷ stair 440 65460 ∷ stair 441 65536 ∷ []
red_down Bits12 =
    stair 0 16833 ∷ stair 797 34514 ∷ stair 1234 47212 ∷ stair 1473 55090 ∷ stair 1604 59693 ∷ stair 1676 62310 ∷ stair 1715 63753 ∷ stair 1737 64575
    ∷ stair 1749 65026 ∷ stair 1755 65252 ∷ stair 1759 65403 ∷ stair 1761 65479 ∷ stair 1762 65517 ∷ stair 1763 65536 ∷ []

pub blue_apart : (y : ConstantSystem) (l : Lights) → Lit l → Apart (blue_reach y) (luma_of (base y) l) (code (base y) l.b)
unfolding climbs at_least dark on_line_at reaches
blue_apart Bits10 l h = apart (base Bits10) 593 (blue_reach Bits10) (blue_up Bits10) (blue_down Bits10) tt tt l.b (2627 * l.r + 6780 * l.g) _ h.b (omega arith) (omega arith) (omega arith)
blue_apart Bits12 l h = apart (base Bits12) 593 (blue_reach Bits12) (blue_up Bits12) (blue_down Bits12) tt tt l.b (2627 * l.r + 6780 * l.g) _ h.b (omega arith) (omega arith) (omega arith)

pub red_apart : (y : ConstantSystem) (l : Lights) → Lit l → Apart (red_reach y) (luma_of (base y) l) (code (base y) l.r)
unfolding climbs at_least dark on_line_at reaches
red_apart Bits10 l h = apart (base Bits10) 2627 (red_reach Bits10) (red_up Bits10) (red_down Bits10) tt tt l.r (6780 * l.g + 593 * l.b) _ h.r (omega arith) (omega arith) (omega arith)
red_apart Bits12 l h = apart (base Bits12) 2627 (red_reach Bits12) (red_up Bits12) (red_down Bits12) tt tt l.r (6780 * l.g + 593 * l.b) _ h.r (omega arith) (omega arith) (omega arith)
