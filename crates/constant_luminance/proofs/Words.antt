-- The words of every triple of light are nominal as INT leaves them.
-- Assumes nothing.
use mathlib.Core.Path.{◌≡◌}
use lib.Dec.{lit<, lit≤}
use Rattle.systems.specs.Systems.{scale}
use Rattle.curve.specs.Curve.{code}
use Rattle.matrix.specs.Triples.{natural}
use Rattle.constant_luminance.specs.declared.ConstantSystem.{ConstantSystem}
use Rattle.constant_luminance.specs.declared.ConstantSystem.TheVariants.{Bits10, Bits12}
use Rattle.constant_luminance.specs.declared.Lights.{Lights}
use Rattle.constant_luminance.specs.ConstantLuminance.{base, blue, red, luma_of, words_at}
use Rattle.constant_luminance.proofs.Claims.{Lit}
use Rattle.constant_luminance.proofs.Spread.{blue_reach, red_reach, blue_apart, red_apart}
use Rattle.constant_luminance.proofs.Differences.{Holds, Differs, differs}

blue_holds : (y : ConstantSystem) → Holds blue (scale (base y)) (blue_reach y)
blue_holds Bits10 = record { low_some = lit< tt; high_some = lit< tt; low_small = lit≤ tt; high_small = lit≤ tt; over = lit≤ tt; under = lit< tt }
blue_holds Bits12 = record { low_some = lit< tt; high_some = lit< tt; low_small = lit≤ tt; high_small = lit≤ tt; over = lit≤ tt; under = lit< tt }

red_holds : (y : ConstantSystem) → Holds red (scale (base y)) (red_reach y)
red_holds Bits10 = record { low_some = lit< tt; high_some = lit< tt; low_small = lit≤ tt; high_small = lit≤ tt; over = lit≤ tt; under = lit< tt }
red_holds Bits12 = record { low_some = lit< tt; high_some = lit< tt; low_small = lit≤ tt; high_small = lit≤ tt; over = lit≤ tt; under = lit< tt }

module _ (y : ConstantSystem) (l : Lights) (h : Lit l) where
  pub cb_of_lem : Differs blue (scale (base y)) (code (base y) l.b) (luma_of (base y) l)
  cb_of_lem = differs blue (scale (base y)) (code (base y) l.b) (luma_of (base y) l) (blue_reach y) (blue_holds y) (blue_apart y l h)

  pub cr_of_lem : Differs red (scale (base y)) (code (base y) l.r) (luma_of (base y) l)
  cr_of_lem = differs red (scale (base y)) (code (base y) l.r) (luma_of (base y) l) (red_reach y) (red_holds y) (red_apart y l h)

  pub words_are : words_at (base y) l ≡ record { y = luma_of (base y) l; cb = cb_of_lem.value; cr = cr_of_lem.value }
  unfolding words_at
  words_are = λ i. record { y = luma_of (base y) l; cb = natural (cb_of_lem.is i); cr = natural (cr_of_lem.is i) }
