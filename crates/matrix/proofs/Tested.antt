-- What the tests of a call show of its codes and words.
-- Assumes nothing.
use mathlib.Core.Path.{◌≡◌}
use mathlib.Core.Bool.{true}
use native.Mathlib.Omega.{arith}
use Rattle.exact.proofs.Boolean.{each_of_three}
use Rattle.systems.specs.declared.Codes.{Codes}
use Rattle.systems.specs.declared.Range.{Range}
use Rattle.systems.specs.declared.System.{System}
use Rattle.systems.specs.Systems.{video_data, all_within}
use Rattle.systems.proofs.Scales.{scale_range}
use Rattle.systems.proofs.Ranges.{in_range_lem, all_in_range}
use Rattle.matrix.specs.declared.Words.{Words}
use Rattle.matrix.specs.Triples.{words_within}
use Rattle.matrix.specs.Inner.{CodesIn, TwelveBitWords}

pub codes_in_lem : (n : Range) (c : Codes) → all_within n c ≡ true → CodesIn n c
codes_in_lem n c e =
    let t = all_in_range n c e in
    record { r_low = t.0.0; r_high = t.0.1; g_low = t.1.0; g_high = t.1.1; b_low = t.2.0; b_high = t.2.1 }

pub twelve_bits : (y : System) (w : Words) → words_within (video_data y) w ≡ true → TwelveBitWords w
twelve_bits y w e =
    let t = each_of_three _ _ _ e in
    let luma = in_range_lem (video_data y) w.y t.0 in
    let cb = in_range_lem (video_data y) w.cb t.1 in
    let cr = in_range_lem (video_data y) w.cr t.2 in
    let s = scale_range y in
    record { y_high = omega arith; cb_high = omega arith; cr_high = omega arith }
