-- Clips low and high (request 2026-07): each component counts once at most, and the sum is the former total.
-- Assumes nothing.
use mathlib.Core.Path.{◌≡◌, refl, sym}
use mathlib.Core.Bool.{Bool, true, false}
use Prim.Native.Nat.{ℕ, ◌+◌, ◌≤◌}
use native.Mathlib.Omega.{arith}
use lib.IntN.{ℤ, pos}
use lib.Signed.{lt_z}
use Rattle.exact.specs.Signed.{rounded}
use Rattle.exact.specs.Outcome.{Outcome, accepted, refused}
use Rattle.exact.proofs.Boolean.{is_false}
use Rattle.systems.specs.declared.Range.{Range}
use Rattle.systems.specs.declared.System.{System}
use Rattle.systems.specs.Systems.{matrix, scale, video_data, named}
use Rattle.systems.proofs.Scales.{scale_range}
use Rattle.matrix.specs.declared.Words.{Words}
use Rattle.matrix.specs.Triples.{red_of, green_of, blue_of, beyond, words_within, codes_at, codes_of_words}
use Rattle.matrix.proofs.Claims.{Alike, formerly_beyond, former_total, formerly_decoded, ComponentClips, TripleClips, Split}
use Rattle.matrix.proofs.Clipping.{not_both, beyond_by}

-- a component, by a range that is in order
module _ (n : Range) (v : ℤ) (o : n.low ≤ n.high) where
  component_clips : ComponentClips n v (beyond n v)
  component_clips = record {
    below = λ l. sym (beyond_by n v true false l (is_false _ (not_both n v o l)));
    above = λ h. sym (beyond_by n v false true (is_false _ (λ l. not_both n v o l h)) h);
    other = λ l h. sym (beyond_by n v false false l h);
  }

  component_sum : ((beyond n v).low + (beyond n v).high ≡ formerly_beyond n v) × (formerly_beyond n v ≤ 1)
  component_sum = let k = by_tests (lt_z v (pos n.low)) (lt_z (pos n.high) v) refl refl in (omega (arith, k.0), k.1)
    where
      by_tests : (l h : Bool) → lt_z v (pos n.low) ≡ l → lt_z (pos n.high) v ≡ h →
          let k : ℕ = elim l [ true ↦ 1 | false ↦ elim h [ true ↦ 1 | false ↦ 0 ] ] in
          (elim l [ true ↦ 1 | false ↦ 0 ] + elim h [ true ↦ 1 | false ↦ 0 ] ≡ k) × (k ≤ 1)
      by_tests true true p q = absurd (not_both n v o p q)
      by_tests true false p q = (refl, omega arith)
      by_tests false true p q = (refl, omega arith)
      by_tests false false p q = (refl, omega arith)

in_order : (y : System) → (video_data y).low ≤ (video_data y).high
in_order y = omega (arith, (scale_range y).0)

module _ (y : System) (w : Words) where
  pub triple_clips : TripleClips y w (codes_at (matrix y) (scale y) (video_data y) w).clips
  unfolding codes_at
  triple_clips = record {
    r = beyond (video_data y) (rounded (red_of (matrix y) (scale y) w));
    g = beyond (video_data y) (rounded (green_of (matrix y) (scale y) w));
    b = beyond (video_data y) (rounded (blue_of (matrix y) (scale y) w));
    red = component_clips _ _ (in_order y);
    green = component_clips _ _ (in_order y);
    blue = component_clips _ _ (in_order y);
    low = refl;
    high = refl;
  }

  pub triple-sum :
      let k = (codes_at (matrix y) (scale y) (video_data y) w).clips in
      (k.low + k.high ≡ former_total y w) × (k.low + k.high ≤ 3)
  unfolding codes_at former_total
  triple-sum =
      let r = component_sum (video_data y) (rounded (red_of (matrix y) (scale y) w)) (in_order y) in
      let g = component_sum (video_data y) (rounded (green_of (matrix y) (scale y) w)) (in_order y) in
      let b = component_sum (video_data y) (rounded (blue_of (matrix y) (scale y) w)) (in_order y) in
      (omega (arith, r.0, g.0, b.0), omega (arith, r, g, b))

-- every answer, refusals included
pub clips_split : (n : ℕ) (w : Words) → Alike (Split n w) (formerly_decoded n w) (codes_of_words n w)
clips_split n w = by_name (named n) refl
  where
    by_test : (y : System) (t : Bool) → words_within (video_data y) w ≡ t → named n ≡ accepted y → Alike (Split n w) (formerly_decoded n w) (codes_of_words n w)
    by_test y true f e = let k = triple-sum y w in rw (e, f) record { system = y; of = e; codes = refl; clips = triple_clips y w; sum = k.0; most = k.1 }
    by_test y false f e = rw (e, f)

    by_name : (o : Outcome System) → named n ≡ o → Alike (Split n w) (formerly_decoded n w) (codes_of_words n w)
    by_name (accepted y) e = by_test y (words_within (video_data y) w) refl e
    by_name (refused r) e = rw e
