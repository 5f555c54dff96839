-- One test of a block's words for both 6 and 33, and what that says of a block that was walked.
-- Assumes nothing.
use Prim.Native.Nat.{ℕ, zero, suc, ◌*◌, ◌≤◌}
use mathlib.Core.Path.{◌≡◌, refl, sym, ◌∙◌}
use mathlib.Core.Bool.{Bool, true, false, cond, not, ◌&&◌, false≢true}
use mathlib.Core.List.{List}
use native.Mathlib.Omega.{arith}
use lib.Dec.{ltb}
use lib.ListN.{length}
use Rattle.exact.specs.Outcome.{Outcome, accepted, refused, ◌and_then◌, require}
use Rattle.exact.specs.Whole.{INT}
use Rattle.systems.specs.declared.System.{System}
use Rattle.systems.specs.declared.System.TheVariants.{Bt709Bits8, Bt709Bits10, Bt2020Bits10, Bt2020Bits12}
use Rattle.systems.specs.Systems.{number, bits, scale, video_data, within, timing}
use Rattle.systems.proofs.Scales.{scale_range}
use Rattle.matrix.specs.declared.Words.{Words}
use Rattle.matrix.specs.Triples.{words_within}
use Rattle.block.specs.declared.Judged.{Judged}
use Rattle.block.specs.Block.{size}
use Rattle.block.specs.Read.{sample_at, within_to, walk, words_ok, judge}
use Rattle.block.proofs.Ranges.{each, by_parts}
use Rattle.block.proofs.Walking.{walk_accepted}
use Rattle.depth.specs.declared.Way.TheVariants.{Up, Down}
use Rattle.depth.specs.Depth.{other_depth, word_in, words_in, no_timing, no_timing_to, row_in, judge_for}
use Rattle.depth.specs.Inner.{way_to, word_by, passing}
use Rattle.depth.proofs.Claims.{Depths, bt709, bt2020}
use Rattle.depth.proofs.Words.{passes_up, passes_down}

-- the two depths of a Recommendation: the greater scale is four times the lesser
pub data Pair (y z : System) : Type 0 where
  upward : Depths (number y) (number z) (scale y) → ltb (bits y) (bits z) ≡ true → scale z ≡ 4 * scale y → Pair y z
  downward : Depths (number z) (number y) (scale z) → ltb (bits y) (bits z) ≡ false → scale y ≡ 4 * scale z → Pair y z

pub pair : (y z : System) → other_depth y z ≡ true → Pair y z
pair Bt709Bits8 Bt709Bits8 e = absurd (false≢true e)
pair Bt709Bits8 Bt709Bits10 e = upward bt709 refl refl
pair Bt709Bits8 Bt2020Bits10 e = absurd (false≢true e)
pair Bt709Bits8 Bt2020Bits12 e = absurd (false≢true e)
pair Bt709Bits10 Bt709Bits8 e = downward bt709 refl refl
pair Bt709Bits10 Bt709Bits10 e = absurd (false≢true e)
pair Bt709Bits10 Bt2020Bits10 e = absurd (false≢true e)
pair Bt709Bits10 Bt2020Bits12 e = absurd (false≢true e)
pair Bt2020Bits10 Bt709Bits8 e = absurd (false≢true e)
pair Bt2020Bits10 Bt709Bits10 e = absurd (false≢true e)
pair Bt2020Bits10 Bt2020Bits10 e = absurd (false≢true e)
pair Bt2020Bits10 Bt2020Bits12 e = upward bt2020 refl refl
pair Bt2020Bits12 Bt709Bits8 e = absurd (false≢true e)
pair Bt2020Bits12 Bt709Bits10 e = absurd (false≢true e)
pair Bt2020Bits12 Bt2020Bits10 e = downward bt2020 refl refl
pair Bt2020Bits12 Bt2020Bits12 e = absurd (false≢true e)

-- the way that the code takes gives the word of the definition
pub by_way : (y z : System) (w : ℕ) → word_by (way_to y z) w ≡ word_in y z w
by_way y z w = go (ltb (bits y) (bits z))
  where
    go : (t : Bool) → word_by (cond t Up Down) w ≡ cond t (4 * w) (INT w 4)
    go true = refl
    go false = refl

-- a word that passes is video data and gives no timing code
word_passes : (y z : System) (w : ℕ) → Pair y z → within (passing (way_to y z) y) w ≡ (within (video_data y) w && not (timing z (word_in y z w)))
word_passes y z w (upward _ t e) = rw (t, e) (passes_up (scale y) (scale_range y).0 w)
word_passes y z w (downward _ t e) = rw (t, e) (passes_down (scale z) (scale_range z).0 w)

by_pairs : (a b c d : Bool) → ((a && b) && (c && d)) ≡ ((a && c) && (b && d))
by_pairs true true c d = refl
by_pairs true false true d = refl
by_pairs true false false d = refl
by_pairs false b c d = refl

module _ (y z : System) (p : Pair y z) (sample : ℕ → Words) where
  -- so do a row's words
  pub row_passes : (n : ℕ) → within_to (passing (way_to y z) y) sample n ≡ (within_to (video_data y) sample n && no_timing_to z (λ i. words_in y z (sample i)) n)
  unfolding within_to no_timing_to
  row_passes zero = refl
  row_passes (suc n) =
      let w = sample n in
      let words : words_within (passing (way_to y z) y) w ≡ (words_within (video_data y) w && no_timing z (words_in y z w)) =
      rw (word_passes y z w.y p, word_passes y z w.cb p, word_passes y z w.cr p)
      (sym (by_parts (within (video_data y) w.y) (within (video_data y) w.cb) (within (video_data y) w.cr) _ _ _)) in
      (λ i. row_passes n i && words i) ∙ by_pairs (within_to (video_data y) sample n) _ (words_within (video_data y) w) _

-- ---- a block that was walked, judged for z

pub walked_long : (bs : List ℕ) (b : Judged) → walk bs ≡ accepted b → (size b.samples ≤ length bs) × (1 ≤ b.samples) × (b.samples ≤ 7680)
walked_long bs b e = let shape = (walk_accepted bs b e).0 in (omega (arith, shape.size), shape.some, shape.most)

module _ (z : System) (bs : List ℕ) (b : Judged) (e : walk bs ≡ accepted b) where
  -- what follows the test of 6
  abbrev after : Outcome Judged
  after = require (other_depth b.system z) 32 (require (no_timing_to z (row_in z b bs) b.samples) 33 (accepted b))

  judged_after : judge_for z bs ≡ require (words_ok b bs) 6 after
  unfolding judge_for judge
  judged_after = rw e (go (words_ok b bs))
    where
      go : (t : Bool) → (require t 6 (accepted b) and_then λ b. require (other_depth b.system z) 32 (require (no_timing_to z (row_in z b bs) b.samples) 33 (accepted b))) ≡ require t 6 after
      go true = refl
      go false = refl

  pub no_other_depth : other_depth b.system z ≡ false → judge_for z bs ≡ refused (cond (words_ok b bs) 32 6)
  no_other_depth o = judged_after ∙ rw o (go (words_ok b bs))
    where
      go : (k : Bool) → require {A = Judged} k 6 (refused 32) ≡ refused (cond k 32 6)
      go true = refl
      go false = refl

  module _ (o : other_depth b.system z ≡ true) where
    abbrev passed : Bool
    passed = within_to (passing (way_to b.system z) b.system) (sample_at bs b.samples) b.samples

    both : passed ≡ (words_ok b bs && no_timing_to z (row_in z b bs) b.samples)
    both = row_passes b.system z (pair b.system z o) (sample_at bs b.samples) b.samples

    pub all_pass : passed ≡ true → judge_for z bs ≡ accepted b
    all_pass t = let parts = each (words_ok b bs) _ (sym both ∙ t) in judged_after ∙ rw (parts.0, o, parts.1) refl

    pub some_fail : passed ≡ false → judge_for z bs ≡ refused (cond (words_ok b bs) 33 6)
    some_fail t = judged_after ∙ rw o (go (words_ok b bs) (no_timing_to z (row_in z b bs) b.samples) (sym both ∙ t))
      where
        go : (k n : Bool) → (k && n) ≡ false → require k 6 (require n 33 (accepted b)) ≡ refused (cond k 33 6)
        go true true f = absurd (false≢true (sym f))
        go true false f = refl
        go false n f = refl
