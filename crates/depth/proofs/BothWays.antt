-- Up, down, and up and then down, over the two scales s and 4s of a Recommendation.
-- Assumes nothing.
use Prim.Native.Nat.{ℕ, zero, suc, ◌*◌, ◌-◌, ◌≤◌, ◌<◌}
use mathlib.Core.Path.{◌≡◌, refl, sym, ap, ◌∙◌}
use mathlib.Core.Bool.{Bool, true, false, not, ◌&&◌, false≢true}
use mathlib.Core.Logic.{◌⊎◌, inl, inr}
use mathlib.Core.List.{List, [], ◌∷◌, ◌++◌}
use native.Mathlib.Omega.{arith}
use lib.Dec.{ltb}
use Rattle.exact.specs.Outcome.{accepted, require}
use Rattle.exact.specs.Whole.{INT}
use Rattle.exact.proofs.Boolean.{each_of_three, is_false}
use Rattle.exact.proofs.Order.{below_or_not}
use Rattle.systems.specs.declared.System.{System}
use Rattle.systems.specs.declared.System.TheVariants.{Bt709Bits8, Bt709Bits10, Bt2020Bits10, Bt2020Bits12}
use Rattle.systems.specs.Systems.{number, bits, scale, video_data, within, timing, named}
use Rattle.systems.proofs.Ranges.{in_range_lem}
use Rattle.systems.proofs.Scales.{scale_range, named_number}
use Rattle.matrix.specs.declared.Words.{Words}
use Rattle.block.specs.declared.Judged.{Judged}
use Rattle.block.specs.Block.{block, tabulate}
use Rattle.block.specs.Read.{sample_at, judge}
use Rattle.block.proofs.Ranges.{within_at}
use Rattle.block.proofs.Reading.{judged_sound}
use Rattle.depth.specs.Depth.{other_depth, word_in, words_in, no_timing, no_timing_to, row_in, block_in, judge_for}
use Rattle.depth.proofs.Words.{up_then_down, no_timing_lem, upward_video, downward_video, downward_timing}
use Rattle.depth.proofs.Changing.{For, judged_for}
use Rattle.depth.proofs.NewBlock.{no_timing_at, no_timing_if, some_timing, new_samples, new_judged}
use Rattle.depth.proofs.Blocks.{is_block}
use Rattle.depth.proofs.Claims.{Depths, bt709, bt2020, Bytes, AtLeast}

-- the two systems of a Recommendation
pub record Two (m n s : ℕ) : Type 0 where
  pub lesser : System
  pub greater : System
  pub lesser_number : number lesser ≡ m
  pub greater_number : number greater ≡ n
  pub lesser_scale : scale lesser ≡ s
  pub greater_scale : scale greater ≡ 4 * s
  pub up : other_depth lesser greater ≡ true
  pub down : other_depth greater lesser ≡ true
  pub rises : ltb (bits lesser) (bits greater) ≡ true
  pub falls : ltb (bits greater) (bits lesser) ≡ false

these : (y z : System) → scale z ≡ 4 * scale y → other_depth y z ≡ true → other_depth z y ≡ true → ltb (bits y) (bits z) ≡ true → ltb (bits z) (bits y) ≡ false
    → Two (number y) (number z) (scale y)
these y z four up down rises falls = record {
  lesser = y;
  greater = z;
  lesser_number = refl;
  greater_number = refl;
  lesser_scale = refl;
  greater_scale = four;
  up = up;
  down = down;
  rises = rises;
  falls = falls;
}

pub two : {m n s : ℕ} → Depths m n s → Two m n s
two bt709 = these Bt709Bits8 Bt709Bits10 refl refl refl refl refl
two bt2020 = these Bt2020Bits10 Bt2020Bits12 refl refl refl refl refl

-- what has the greater as its other depth is the lesser
pub only_lesser : {m n s : ℕ} (d : Depths m n s) (y : System) → other_depth y (two d).greater ≡ true → y ≡ (two d).lesser
unfolding two these
only_lesser bt709 Bt709Bits8 e = refl
only_lesser bt709 Bt709Bits10 e = absurd (false≢true e)
only_lesser bt709 Bt2020Bits10 e = absurd (false≢true e)
only_lesser bt709 Bt2020Bits12 e = absurd (false≢true e)
only_lesser bt2020 Bt709Bits8 e = absurd (false≢true e)
only_lesser bt2020 Bt709Bits10 e = absurd (false≢true e)
only_lesser bt2020 Bt2020Bits10 e = refl
only_lesser bt2020 Bt2020Bits12 e = absurd (false≢true e)

-- a system is known by its number
pub same_system : (y z : System) → number y ≡ number z → y ≡ z
same_system y z e = let p : accepted y ≡ accepted z = sym (named_number y) ∙ ap named e ∙ named_number z in cc

-- what is left to judge of a block that reading accepts and whose target is its other depth
pub by_timing : (z : System) (bs : List ℕ) (b : Judged) → judge bs ≡ accepted b → other_depth b.system z ≡ true
    → judge_for z bs ≡ require (no_timing_to z (row_in z b bs) b.samples) 33 (accepted b)
unfolding judge_for
by_timing z bs b e o = rw (e, o) refl

-- video data has no timing code
video_no_timing : (y : System) (w : ℕ) → within (video_data y) w ≡ true → timing y w ≡ false
video_no_timing y w v = let b = in_range_lem (video_data y) w v in no_timing_lem (scale y) w b.0 (omega (arith, b.1, (scale_range y).0))

tabulate_agree : (f g : ℕ → ℕ) (n : ℕ) → ((i : ℕ) → i < n → f i ≡ g i) → tabulate f n ≡ tabulate g n
unfolding tabulate
tabulate_agree f g zero h = refl
tabulate_agree f g (suc n) h = λ j. tabulate_agree f g n (λ i l. h i (omega arith)) j ++ h n (omega arith) j ∷ []

module _ {m n s : ℕ} (t : Two m n s) where
  -- the least word that is rejected downward
  abbrev limit : ℕ
  limit = 4 * (255 * s) - 2

  abbrev y : System
  y = t.lesser

  abbrev z : System
  z = t.greater

  four : scale z ≡ 4 * scale y
  four = t.greater_scale ∙ ap (λ (k : ℕ). 4 * k) (sym t.lesser_scale)

  upward_no_timing : (w : ℕ) → within (video_data y) w ≡ true → not (timing z (word_in y z w)) ≡ true
  upward_no_timing w v =
      let b = upward_video (scale y) (scale_range y).0 w v in
      rw (t.rises, four, no_timing_lem (4 * scale y) (4 * w) b.0 b.1) refl

  downward_timing_if : (w : ℕ) → within (video_data z) w ≡ true → limit ≤ w → timing y (word_in z y w) ≡ true
  downward_timing_if w v h =
      rw t.falls (downward_timing (scale y) (scale_range y).0 w (rw four at v) (omega (arith, t.lesser_scale)))

  downward_no_timing : (w : ℕ) → within (video_data z) w ≡ true → w < limit → timing y (word_in z y w) ≡ false
  downward_no_timing w v h =
      let b = downward_video (scale y) (scale_range y).0 w (rw four at v) (omega (arith, t.lesser_scale)) in
      rw t.falls (no_timing_lem (scale y) (INT w 4) b.0 b.1)

  module _ (bs : List ℕ) (b : Judged) (e : judge bs ≡ accepted b) where
    -- the words of a sample are video data
    abbrev word : ℕ → Words
    word i = sample_at bs b.samples i

    video : (i : ℕ) → i < b.samples
        → (within (video_data b.system) (word i).y ≡ true) × (within (video_data b.system) (word i).cb ≡ true) × (within (video_data b.system) (word i).cr ≡ true)
    video i h = each_of_three _ _ _ (within_at (video_data b.system) word b.samples i (judged_sound bs b e).words h)

    -- ---- upward

    module _ (is : b.system ≡ y) where
      up_row : (i : ℕ) → i < b.samples → no_timing z (row_in z b bs i) ≡ true
      up_row i h =
          let v = video i h in
          rw is (rw (upward_no_timing (word i).y (rw is at v.0), upward_no_timing (word i).cb (rw is at v.1), upward_no_timing (word i).cr (rw is at v.2)) refl)

      pub up_judged : judge_for z bs ≡ accepted b
      up_judged =
          by_timing z bs b e (ap (λ (x : System). other_depth x z) is ∙ t.up)
          ∙ rw (no_timing_if z (row_in z b bs) b.samples up_row) refl

    -- ---- downward

    module _ (is : b.system ≡ z) where
      pub down_judged : judge_for y bs ≡ require (no_timing_to y (row_in y b bs) b.samples) 33 (accepted b)
      down_judged = by_timing y bs b e (ap (λ (x : System). other_depth x y) is ∙ t.down)

      -- a sample that is refused has a word that is high enough
      high_sample : (i : ℕ) → i < b.samples → no_timing y (row_in y b bs i) ≡ false → AtLeast limit bs b.samples
      high_sample i h f = go (below_or_not (word i).y limit) (below_or_not (word i).cb limit) (below_or_not (word i).cr limit)
        where
          go : ((word i).y < limit) ⊎ (limit ≤ (word i).y) → ((word i).cb < limit) ⊎ (limit ≤ (word i).cb)
              → ((word i).cr < limit) ⊎ (limit ≤ (word i).cr) → AtLeast limit bs b.samples
          go (inr l) c r = record { sample = i; within = h; word = inl l }
          go (inl k) (inr l) r = record { sample = i; within = h; word = inr (inl l) }
          go (inl k) (inl c) (inr l) = record { sample = i; within = h; word = inr (inr l) }
          go (inl k) (inl c) (inl r) =
              let v = video i h in
              let passes : no_timing y (row_in y b bs i) ≡ true =
              rw is
              (rw (
                downward_no_timing (word i).y (rw is at v.0) k,
                downward_no_timing (word i).cb (rw is at v.1) c,
                downward_no_timing (word i).cr (rw is at v.2) r,
              ) refl) in
              absurd (false≢true (sym f ∙ passes))

      pub some_high : no_timing_to y (row_in y b bs) b.samples ≡ false → AtLeast limit bs b.samples
      some_high f = let found = some_timing y (row_in y b bs) b.samples f in high_sample found.0 found.1 found.2

      pub high_refused : AtLeast limit bs b.samples → no_timing_to y (row_in y b bs) b.samples ≡ false
      high_refused a = is_false (no_timing_to y (row_in y b bs) b.samples) contradiction
        where
          found : (v c r : Bool) → (not v && not c && not r) ≡ true → (v ≡ true) ⊎ ((c ≡ true) ⊎ (r ≡ true)) → ⊥
          found true c r f p = false≢true f
          found false true r f p = false≢true f
          found false false true f p = false≢true f
          found false false false f (inl p) = false≢true p
          found false false false f (inr (inl p)) = false≢true p
          found false false false f (inr (inr p)) = false≢true p

          contradiction : no_timing_to y (row_in y b bs) b.samples ≡ true → ⊥
          contradiction f = found _ _ _ (no_timing_at y (row_in y b bs) b.samples a.sample f a.within) (timing_of a.word)
            where
              timing_of : (limit ≤ (word a.sample).y) ⊎ ((limit ≤ (word a.sample).cb) ⊎ (limit ≤ (word a.sample).cr))
                  → (timing y (row_in y b bs a.sample).y ≡ true) ⊎ ((timing y (row_in y b bs a.sample).cb ≡ true) ⊎ (timing y (row_in y b bs a.sample).cr ≡ true))
              timing_of (inl l) = inl (rw is (downward_timing_if (word a.sample).y (rw is at (video a.sample a.within).0) l))
              timing_of (inr (inl l)) = inr (inl (rw is (downward_timing_if (word a.sample).cb (rw is at (video a.sample a.within).1) l)))
              timing_of (inr (inr l)) = inr (inr (rw is (downward_timing_if (word a.sample).cr (rw is at (video a.sample a.within).2) l)))

    -- ---- up and then down

    module _ (is : b.system ≡ y) where
      abbrev above : Judged
      above = record { system = z; row = b.row; samples = b.samples }

      abbrev new : List ℕ
      new = block_in z b bs

      for_z : For z bs b
      for_z = judged_for z bs b (up_judged is)

      word_back : (w : ℕ) → word_in z y (word_in y z w) ≡ w
      word_back w = rw (t.rises, t.falls) (up_then_down w)

      row_back : (i : ℕ) → i < b.samples → row_in y above new i ≡ word i
      row_back i h =
          ap (words_in z y) (new_samples z bs b for_z i h)
          ∙ rw is (λ k. record { y = word_back (word i).y k; cb = word_back (word i).cb k; cr = word_back (word i).cr k })

      back_row : (i : ℕ) → i < b.samples → no_timing y (row_in y above new i) ≡ true
      back_row i h =
          let v = video i h in
          ap (no_timing y) (row_back i h)
          ∙ rw (video_no_timing y (word i).y (rw is at v.0), video_no_timing y (word i).cb (rw is at v.1), video_no_timing y (word i).cr (rw is at v.2)) refl

      pub back_judged : judge_for y new ≡ accepted above
      back_judged =
          by_timing y new above (new_judged z bs b for_z) t.down
          ∙ rw (no_timing_if y (row_in y above new) b.samples back_row) refl

      pub block_back : Bytes bs → block_in y above new ≡ bs
      unfolding block_in
      block_back all =
          let w = b.samples in
          let luma = tabulate_agree (λ i. (row_in y above new i).y) (λ i. (word i).y) w (λ i h. ap (λ (x : Words). x.y) (row_back i h)) in
          let cb = tabulate_agree (λ i. (row_in y above new i).cb) (λ i. (word i).cb) w (λ i h. ap (λ (x : Words). x.cb) (row_back i h)) in
          let cr = tabulate_agree (λ i. (row_in y above new i).cr) (λ i. (word i).cr) w (λ i h. ap (λ (x : Words). x.cr) (row_back i h)) in
          (λ j. block (number (sym is j)) b.row (luma j) (cb j) (cr j)) ∙ sym (is_block bs all b e)
