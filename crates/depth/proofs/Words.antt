-- A word at the other depth, over the lesser scale s of the two: the greater is 4s.
-- Assumes nothing.
use Prim.Native.Nat.{ℕ, ◌+◌, ◌*◌, ◌-◌, ◌/◌, ◌≤◌, ◌<◌}
use mathlib.Core.Path.{◌≡◌, refl, sym, ap, ◌∙◌}
use mathlib.Core.Bool.{Bool, true, false, not, ◌&&◌, ◌||◌, false≢true}
use mathlib.Core.Logic.{◌⊎◌, inl, inr}
use native.Mathlib.Omega.{arith}
use lib.Dec.{leb, ltb}
use borrow.Author.Tests.{lt-ltb, le-ltb, le-leb, lt-leb}
use Rattle.exact.specs.Whole.{INT}
use Rattle.exact.proofs.Order.{below_or_not}
use Rattle.exact.proofs.Rounding.{int_over_even}
use Rattle.systems.specs.declared.Range.{Range}
use Rattle.systems.specs.Systems.{within}
use Rattle.systems.proofs.Ranges.{in_range_lem}

-- halves go up
pub quarter : (w : ℕ) → INT w 4 ≡ (w + 2) / 4
quarter w = int_over_even w 4 refl

pub up_then_down : (w : ℕ) → INT (4 * w) 4 ≡ w
up_then_down w = let back : (4 * w + 2) / 4 ≡ w = omega arith in quarter (4 * w) ∙ back

-- the timing codes and video data at a scale, as a system has them
abbrev pub timing_at : ℕ → ℕ → Bool
timing_at s d = ltb d s || (leb (255 * s) d && ltb d (256 * s))

abbrev pub video_at : ℕ → Range
video_at s = record { low = s; high = 255 * s - 1 }

-- video data at 4s without its two greatest words
abbrev pub passing_at : ℕ → Range
passing_at s = record { low = 4 * s; high = 255 * (4 * s) - 1 - 2 }

pub no_timing_lem : (s d : ℕ) → s ≤ d → d < 255 * s → timing_at s d ≡ false
no_timing_lem s d l h = rw (le-ltb d s l, lt-leb (255 * s) d h) refl

pub is_timing : (s d : ℕ) → 255 * s ≤ d → d < 256 * s → timing_at s d ≡ true
is_timing s d l h =
    let above : s ≤ d = omega arith in
    rw (le-ltb d s above, le-leb (255 * s) d l, lt-ltb d (256 * s) h) refl

pub is_within : (r : Range) (d : ℕ) → r.low ≤ d → d ≤ r.high → within r d ≡ true
is_within r d l h = rw (le-leb r.low d l, le-leb d r.high h) refl

module _ (s : ℕ) (S : 0 < s) (w : ℕ) where
  -- upward no word of video data becomes a timing code
  pub upward_video : within (video_at s) w ≡ true → (4 * s ≤ 4 * w) × (4 * w < 255 * (4 * s))
  upward_video e = let b = in_range_lem (video_at s) w e in (omega (arith, b.0), omega (arith, b.1))

  -- downward a word of video data becomes one where it is at least 4·255s - 2, and no other does
  pub downward_video : within (video_at (4 * s)) w ≡ true → w < 4 * (255 * s) - 2 → (s ≤ INT w 4) × (INT w 4 < 255 * s)
  downward_video e h = let b = in_range_lem (video_at (4 * s)) w e in rw (quarter w) (omega (arith, b.0), omega arith)

  pub downward_timing : within (video_at (4 * s)) w ≡ true → 4 * (255 * s) - 2 ≤ w → timing_at s (INT w 4) ≡ true
  downward_timing e h =
      let b = in_range_lem (video_at (4 * s)) w e in
      rw (quarter w) (is_timing s ((w + 2) / 4) (omega arith) (omega (arith, b.1)))

  -- one test for both: video data that gives no timing code
  pub passes_up : within (video_at s) w ≡ (within (video_at s) w && not (timing_at (4 * s) (4 * w)))
  passes_up = implied (within (video_at s) w) refl
    where
      implied : (t : Bool) → within (video_at s) w ≡ t → t ≡ (t && not (timing_at (4 * s) (4 * w)))
      implied true e = let v = upward_video e in sym (ap not (no_timing_lem (4 * s) (4 * w) v.0 v.1))
      implied false e = refl

  pub passes_down : within (passing_at s) w ≡ (within (video_at (4 * s)) w && not (timing_at s (INT w 4)))
  passes_down = go (within (video_at (4 * s)) w) refl (below_or_not w (4 * (255 * s) - 2))
    where
      go : (t : Bool) → within (video_at (4 * s)) w ≡ t → (w < 4 * (255 * s) - 2) ⊎ (4 * (255 * s) - 2 ≤ w)
          → within (passing_at s) w ≡ (t && not (timing_at s (INT w 4)))
      go true e (inl h) =
          let v = downward_video e h in
          let b = in_range_lem (video_at (4 * s)) w e in
          is_within (passing_at s) w (omega (arith, b.0)) (omega arith) ∙ sym (ap not (no_timing_lem s (INT w 4) v.0 v.1))
      go true e (inr h) =
          let b = in_range_lem (video_at (4 * s)) w e in
          let low = le-leb (4 * s) w b.0 in
          let high = lt-leb w (255 * (4 * s) - 1 - 2) (omega arith) in
          rw (low, high) (sym (ap not (downward_timing e h)))
      go false e h = outside (below_or_not w (4 * s)) (below_or_not (255 * (4 * s) - 1) w)
        where
          outside : (w < 4 * s) ⊎ (4 * s ≤ w) → (255 * (4 * s) - 1 < w) ⊎ (w ≤ 255 * (4 * s) - 1)
              → within (passing_at s) w ≡ false
          outside (inl a) b = rw (lt-leb (4 * s) w a) refl
          outside (inr a) (inl b) = rw (le-leb (4 * s) w a, lt-leb w (255 * (4 * s) - 1 - 2) (omega arith)) refl
          outside (inr a) (inr b) = absurd (false≢true (sym e ∙ is_within (video_at (4 * s)) w a b))
