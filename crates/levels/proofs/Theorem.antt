-- What is claimed of both calls, shown of the definitions; and the figures of the request.
-- Assumes nothing.
use Prim.Native.Nat.{ℕ, ◌*◌, ◌<◌}
use mathlib.Core.Path.{◌≡◌, refl, ap, subst}
use mathlib.Core.Bool.{true, false}
use native.Mathlib.Nat.{mul-pos}
use native.Mathlib.Omega.{arith}
use lib.IntN.{ℤ, pos, negsuc}
use Rattle.exact.specs.Outcome.{Outcome, accepted, refused}
use Rattle.exact.proofs.Outcome.{required}
use Rattle.systems.specs.declared.System.{System}
use Rattle.systems.specs.declared.System.TheVariants.{Bt709Bits8, Bt709Bits10, Bt2020Bits10, Bt2020Bits12}
use Rattle.systems.specs.Systems.{number, scale, video_data, within, named}
use Rattle.systems.proofs.Scales.{named_number, scale_range}
use Rattle.levels.specs.declared.Gauge.{Gauge}
use Rattle.levels.specs.declared.Level.{Level}
use Rattle.levels.specs.Levels.{code_gauge, difference_gauge, level_ratio, divided, level_by, level_of_code, level_of_difference}
use Rattle.levels.proofs.Claims.{Solves, Claimed}
use Rattle.levels.proofs.Solution.{only, solves}
use Rattle.levels.proofs.Rise.{rise}

module _ (g : Gauge) (some : 0 < g.steps) where
  -- what an accepted call gives solves the equation
  gives : (y : System) (d : ℕ) (l : Level) → level_by g (number y) d ≡ accepted l → Solves (level_ratio g (scale y) d) l
  gives y d l e =
      let q = level_ratio g (scale y) d in
      subst (Solves q) (required _ 6 (divided q) l (rw (named_number y) at e)).1 (solves q (mul-pos some (scale_range y).0))

  claimed : Claimed g (level_by g)
  claimed = record {
    exactly = λ (y : System) (d : ℕ) (w : within (video_data y) d ≡ true) (l : Level). (gives y d l, λ (s : Solves (level_ratio g (scale y) d) l). rw (named_number y, w) (ap accepted (only (level_ratio g (scale y) d) l s)));
    rises = λ (y : System) (c d : ℕ) (l m : Level) (h : c < d) (e : level_by g (number y) c ≡ accepted l) (f : level_by g (number y) d ≡ accepted m). rise g (scale y) c d l m h (gives y c l e) (gives y d m f);
    outside = λ (y : System) (d : ℕ) (w : within (video_data y) d ≡ false). rw (named_number y, w);
    unnamed = λ (n d : ℕ) (e : named n ≡ refused 1). rw (e);
  }

pub codes : Claimed code_gauge level_of_code
codes = claimed code_gauge (omega arith)

pub differences : Claimed difference_gauge level_of_difference
differences = claimed difference_gauge (omega arith)

-- the request's figures, in every system
abbrev level : ℤ → ℕ → Outcome Level
level millivolts remainder = accepted (record { millivolts = millivolts; remainder = remainder })

record Figures (y : System) : Type 0 where
  black : level_of_code (number y) (16 * scale y) ≡ level (pos 0) 0
  white : level_of_code (number y) (235 * scale y) ≡ level (pos 700) 0
  lowest : level_of_difference (number y) (16 * scale y) ≡ level (negsuc 349) 0
  middle : level_of_difference (number y) (128 * scale y) ≡ level (pos 0) 0
  highest : level_of_difference (number y) (240 * scale y) ≡ level (pos 350) 0

figures : (y : System) → Figures y
unfolding divided
figures Bt709Bits8 = record { black = refl; white = refl; lowest = refl; middle = refl; highest = refl }
figures Bt709Bits10 = record { black = refl; white = refl; lowest = refl; middle = refl; highest = refl }
figures Bt2020Bits10 = record { black = refl; white = refl; lowest = refl; middle = refl; highest = refl }
figures Bt2020Bits12 = record { black = refl; white = refl; lowest = refl; middle = refl; highest = refl }

-- -48 mV and 12/219
first_of_video_data : level_of_code 1 1 ≡ level (negsuc 47) 12
unfolding divided
first_of_video_data = refl
