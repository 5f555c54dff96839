-- The block that a change gives: its words, and that reading accepts it.
-- Assumes nothing.
use Prim.Native.Nat.{ℕ, zero, suc, ◌+◌, ◌*◌, ◌-◌, ◌≤◌, ◌<◌}
use mathlib.Core.Path.{◌≡◌, refl, sym, ap, ◌∙◌}
use mathlib.Core.Bool.{Bool, true, false, ◌&&◌, false≢true}
use mathlib.Core.Logic.{◌⊎◌, inl, inr, ⊎_elim}
use mathlib.Core.List.{List}
use native.Mathlib.Nat.{not-suc-le-zero}
use native.Mathlib.Omega.{arith}
use lib.ListN.{length}
use borrow.Author.Tests.{not-true}
use Rattle.exact.specs.Outcome.{accepted}
use Rattle.exact.specs.Whole.{INT}
use Rattle.exact.proofs.Boolean.{each_of_three}
use Rattle.exact.proofs.Order.{below_or_not}
use Rattle.systems.specs.declared.System.{System}
use Rattle.systems.specs.Systems.{number, scale, video_data, within, timing}
use Rattle.systems.proofs.Scales.{scale_range, named_number}
use Rattle.matrix.specs.declared.Words.{Words}
use Rattle.matrix.specs.Triples.{words_within}
use Rattle.block.specs.declared.Judged.{Judged}
use Rattle.block.specs.Block.{sample_of, tabulate}
use Rattle.block.specs.Read.{sample_at, judge}
use Rattle.block.proofs.Stored.{length_tabulate, tabulate_at}
use Rattle.block.proofs.Ranges.{each, within_at}
use Rattle.block.proofs.Reading.{judged_sound}
use Rattle.block.proofs.ReadBack.{VideoRow, block_length_lem, block_samples, block_judged}
use Rattle.depth.specs.Depth.{word_in, no_timing, no_timing_to, row_in, block_in}
use Rattle.depth.proofs.Words.{video_at, is_within, upward_video, downward_video, downward_timing}
use Rattle.depth.proofs.Passing.{Pair, upward, downward, pair}
use Rattle.depth.proofs.Changing.{For}

-- a word of video data whose result is no timing code has become video data
word_video : (y z : System) → Pair y z → (w : ℕ) → within (video_data y) w ≡ true → timing z (word_in y z w) ≡ false → within (video_data z) (word_in y z w) ≡ true
word_video y z (upward _ t e) w v n =
    let b = upward_video (scale y) (scale_range y).0 w v in
    rw (t, e) (is_within (video_at (4 * scale y)) (4 * w) b.0 (omega (arith, b.1)))
word_video y z (downward _ t e) w v n = go (rw e at v) (rw t at n) (below_or_not w (4 * (255 * scale z) - 2))
  where
    go : within (video_at (4 * scale z)) w ≡ true → timing z (INT w 4) ≡ false → (w < 4 * (255 * scale z) - 2) ⊎ (4 * (255 * scale z) - 2 ≤ w)
        → within (video_data z) (word_in y z w) ≡ true
    go v n (inl h) =
        let b = downward_video (scale z) (scale_range z).0 w v h in
        rw t (is_within (video_at (scale z)) (INT w 4) b.0 (omega (arith, b.1)))
    go v n (inr h) = absurd (false≢true (sym n ∙ downward_timing (scale z) (scale_range z).0 w v h))

module _ (z : System) (sample : ℕ → Words) where
  pub no_timing_at : (n i : ℕ) → no_timing_to z sample n ≡ true → i < n → no_timing z (sample i) ≡ true
  unfolding no_timing_to
  no_timing_at zero i e h = absurd (not-suc-le-zero h)
  no_timing_at (suc n) i e h =
      let both = each (no_timing_to z sample n) (no_timing z (sample n)) e in
      ⊎_elim
      (λ (l : i < n). no_timing_at n i both.0 l)
      (λ (l : n ≤ i). let same : i ≡ n = omega arith in ap (λ (j : ℕ). no_timing z (sample j)) same ∙ both.1)
      (below_or_not i n)

  pub no_timing_if : (n : ℕ) → ((i : ℕ) → i < n → no_timing z (sample i) ≡ true) → no_timing_to z sample n ≡ true
  unfolding no_timing_to
  no_timing_if zero h = refl
  no_timing_if (suc n) h = rw (no_timing_if n (λ i l. h i (omega arith)), h n (omega arith)) refl

  -- where a row has a timing code, some sample of it has
  pub some_timing : (n : ℕ) → no_timing_to z sample n ≡ false → (i : ℕ) × (i < n) × (no_timing z (sample i) ≡ false)
  unfolding no_timing_to
  some_timing zero e = absurd (false≢true (sym e))
  some_timing (suc n) e = go (no_timing_to z sample n) refl (no_timing z (sample n)) refl e (some_timing n)
    where
      go : (t : Bool) → no_timing_to z sample n ≡ t → (u : Bool) → no_timing z (sample n) ≡ u → (t && u) ≡ false
          → (no_timing_to z sample n ≡ false → (i : ℕ) × (i < n) × (no_timing z (sample i) ≡ false)) → (i : ℕ) × (i < suc n) × (no_timing z (sample i) ≡ false)
      go true p true q f earlier = absurd (false≢true (sym f))
      go true p false q f earlier = (n, omega arith, q)
      go false p u q f earlier = let found = earlier p in (found.0, omega (arith, found.1), found.2)

module _ (z : System) (bs : List ℕ) (b : Judged) (f : For z bs b) where
  row_video : (i : ℕ) → i < b.samples → words_within (video_data z) (row_in z b bs i) ≡ true
  row_video i h =
      let y = b.system in
      let w = sample_at bs b.samples i in
      let p = pair y z f.other in
      let v = each_of_three _ _ _ (within_at (video_data y) (sample_at bs b.samples) b.samples i (judged_sound bs b f.judged).words h) in
      let t = each_of_three _ _ _ (no_timing_at z (row_in z b bs) b.samples i f.no_timing_lem h) in
      rw (
        word_video y z p w.y v.0 (not-true _ t.0),
        word_video y z p w.cb v.1 (not-true _ t.1),
        word_video y z p w.cr v.2 (not-true _ t.2),
      ) refl

  abbrev ys : List ℕ
  ys = tabulate (λ i. (row_in z b bs i).y) b.samples

  abbrev cbs : List ℕ
  cbs = tabulate (λ i. (row_in z b bs i).cb) b.samples

  abbrev crs : List ℕ
  crs = tabulate (λ i. (row_in z b bs i).cr) b.samples

  sample_in : (i : ℕ) → i < b.samples → sample_of ys cbs crs i ≡ row_in z b bs i
  sample_in i h =
      let y = tabulate_at (λ i. (row_in z b bs i).y) b.samples i h in
      let cb = tabulate_at (λ i. (row_in z b bs i).cb) b.samples i h in
      let cr = tabulate_at (λ i. (row_in z b bs i).cr) b.samples i h in
      λ k. record { y = y k; cb = cb k; cr = cr k }

  row_of_video : VideoRow z b.samples ys cbs crs
  row_of_video =
      let sound = judged_sound bs b f.judged in
      record {
        some = sound.shape.some;
        most = sound.shape.most;
        luma_count = length_tabulate _ b.samples;
        cb_count = length_tabulate _ b.samples;
        cr_count = length_tabulate _ b.samples;
        words = λ i h. ap (words_within (video_data z)) (sample_in i h) ∙ row_video i h;
      }

  -- the new block is as long as the first
  pub new_length : length (block_in z b bs) ≡ 9 + 6 * b.samples
  unfolding block_in
  new_length = block_length_lem (number z) b.row b.samples z ys cbs crs row_of_video

  -- its words
  pub new_samples : (i : ℕ) → i < b.samples → sample_at (block_in z b bs) b.samples i ≡ row_in z b bs i
  unfolding block_in
  new_samples i h = block_samples (number z) b.row b.samples z ys cbs crs row_of_video i h ∙ sample_in i h

  -- reading accepts it as one of z, with the same row number and count
  pub new_judged : judge (block_in z b bs) ≡ accepted (record { system = z; row = b.row; samples = b.samples })
  unfolding block_in
  new_judged = block_judged (number z) b.row b.samples z ys cbs crs row_of_video (named_number z) (judged_sound bs b f.judged).row
