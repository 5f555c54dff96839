-- The block of a row of video data is accepted, and reads back as its words.
-- Assumes nothing.
use mathlib.Core.Path.{◌≡◌, refl, sym, ap, ◌∙◌}
use mathlib.Core.Bool.{Bool, true}
use mathlib.Core.List.{List, ◌++◌}
use Prim.Native.Nat.{ℕ, zero, suc, ◌+◌, ◌*◌, ◌≤◌, ◌<◌}
use native.Mathlib.Omega.{arith}
use lib.Dec.{eqb}
use lib.ListN.{length, get_or, drop}
use borrow.Author.Tests.{le-leb, eq-eqb}
use Rattle.exact.specs.Outcome.{accepted}
use Rattle.systems.specs.declared.System.{System}
use Rattle.systems.specs.Systems.{named, matrix, scale, video_data}
use Rattle.matrix.specs.declared.Clipped.{Clipped}
use Rattle.matrix.specs.Triples.{◌plus◌, codes_at, words_within}
use Rattle.matrix.proofs.Tested.{twelve_bits}
use Rattle.block.specs.Block.{block, sample_of}
use Rattle.block.specs.Read.{field_at, section_at, width_ok, sections, walk, sample_at, within_to, judge, decoded, rgb, codes_to, clips_to, row_of, header_of, slice_after}
use Rattle.block.proofs.Bytes.{Fields, block_fields}
use Rattle.block.proofs.Ranges.{within_if}
use Rattle.block.proofs.Reading.{row_accepted, codes_in_front}

-- rows that agree on their first n samples have the same codes and clips
module _ (f g : ℕ → Clipped) where
  pub codes_agree_lem : (n : ℕ) → ((i : ℕ) → i < n → f i ≡ g i) → codes_to f n ≡ codes_to g n
  unfolding codes_to
  codes_agree_lem zero h = refl
  codes_agree_lem (suc n) h = λ k. codes_agree_lem n (λ i l. h i (omega arith)) k ++ rgb (h n (omega arith) k).codes

  pub clips_agree : (n : ℕ) → ((i : ℕ) → i < n → f i ≡ g i) → clips_to f n ≡ clips_to g n
  unfolding clips_to
  clips_agree zero h = refl
  clips_agree (suc n) h = λ k. clips_agree n (λ i l. h i (omega arith)) k plus (h n (omega arith) k).clips

-- bytes with the right system, row number, counts and length are walked to their end
section_found : (bs : List ℕ) (i w : ℕ) (good : ℕ → Bool) → i + 2 + 2 * w ≤ length bs → field_at bs i ≡ w → good w ≡ true → section_at bs i good ≡ accepted w
section_found bs i w good h e ok =
    let l : i + 2 ≤ length bs = omega arith in
    rw (le-leb (i + 2) (length bs) l, e, ok, le-leb (i + 2 + 2 * w) (length bs) h)

all_walked : (bs : List ℕ) (w : ℕ) (y : System) → length bs ≡ 9 + 6 * w → 1 ≤ w → w ≤ 7680 → named (get_or bs 0 0) ≡ accepted y → field_at bs 1 ≤ 4319
    → field_at bs 3 ≡ w → field_at bs (5 + 2 * w) ≡ w → field_at bs (7 + 4 * w) ≡ w → walk bs ≡ accepted (record { system = y; row = field_at bs 1; samples = w })
unfolding walk sections
all_walked bs w y size some most known low luma cb cr =
    let three : 3 ≤ length bs = omega arith in
    let ok : width_ok w ≡ true = rw (le-leb 1 w some, le-leb w 7680 most) refl in
    let same = eq-eqb w w refl in
    rw (
      le-leb 3 (length bs) three,
      known,
      le-leb (field_at bs 1) 4319 low,
      section_found bs 3 w width_ok (omega arith) luma ok,
      section_found bs (5 + 2 * w) w (eqb w) (omega arith) cb same,
      section_found bs (7 + 4 * w) w (eqb w) (omega arith) cr same,
      eq-eqb (length bs) (9 + 6 * w) size,
    )

-- a row of w samples of video data
pub record VideoRow (y : System) (w : ℕ) (ys cbs crs : List ℕ) : Type 0 where
  pub some : 1 ≤ w
  pub most : w ≤ 7680
  pub luma_count : length ys ≡ w
  pub cb_count : length cbs ≡ w
  pub cr_count : length crs ≡ w
  pub words : (i : ℕ) → i < w → words_within (video_data y) (sample_of ys cbs crs i) ≡ true

module _ (n row w : ℕ) (y : System) (ys cbs crs : List ℕ) (good : VideoRow y w ys cbs crs) where
  fields : Fields (block n row ys cbs crs) n row w ys cbs crs
  fields = block_fields n row w ys cbs crs good.luma_count good.cb_count good.cr_count

  pub block_length_lem : length (block n row ys cbs crs) ≡ 9 + 6 * w
  block_length_lem = fields.size

  -- the words of sample i read back
  pub block_samples : (i : ℕ) → i < w → sample_at (block n row ys cbs crs) w i ≡ sample_of ys cbs crs i
  block_samples i h =
      let m = twelve_bits y (sample_of ys cbs crs i) (good.words i h) in
      let luma = fields.luma i h (omega (arith, m.y_high)) in
      let cb = fields.cb i h (omega (arith, m.cb_high)) in
      let cr = fields.cr i h (omega (arith, m.cr_high)) in
      λ k. record { y = luma k; cb = cb k; cr = cr k }

  decoded_back : (i : ℕ) → i < w → row_of y (block n row ys cbs crs) w i ≡ decoded y (sample_of ys cbs crs) i
  decoded_back i h = ap (codes_at (matrix y) (scale y) (video_data y)) (block_samples i h)

  block_words : within_to (video_data y) (sample_at (block n row ys cbs crs) w) w ≡ true
  block_words = within_if (video_data y) (sample_at (block n row ys cbs crs) w) w (λ i h. ap (words_within (video_data y)) (block_samples i h) ∙ good.words i h)

  module _ (known : named n ≡ accepted y) (low : row ≤ 4319) where
    row_back : field_at (block n row ys cbs crs) 1 ≡ row
    row_back = fields.row_number (omega arith)

    pub block_judged : judge (block n row ys cbs crs) ≡ accepted (record { system = y; row = row; samples = w })
    unfolding judge
    block_judged =
        let narrow : w < 65536 = omega (arith, good.most) in
        let walked =
        all_walked (block n row ys cbs crs) w y block_length_lem good.some good.most (ap named fields.system ∙ known) (omega (arith, row_back))
        (fields.luma_count narrow) (fields.cb_count narrow) (fields.cr_count narrow) in
        rw (walked, block_words) (λ k. accepted (record { system = y; row = row_back k; samples = w }))

    -- what the caller hears
    pub block_reads_back : (room : ℕ) → 3 * w ≤ room
        → header_of (block n row ys cbs crs) room ≡ accepted (record { system = y; row = row; samples = w; clips = clips_to (decoded y (sample_of ys cbs crs)) w })
    block_reads_back room h =
        let bs = block n row ys cbs crs in
        let total = clips_agree (row_of y bs w) (decoded y (sample_of ys cbs crs)) w decoded_back in
        row_accepted bs room _ block_judged h ∙ (λ k. accepted (record { system = y; row = row; samples = w; clips = total k }))

    -- the slice that is left
    pub block_decodes_back : (slice : List ℕ) → 3 * w ≤ length slice
        → slice_after (block n row ys cbs crs) slice ≡ codes_to (decoded y (sample_of ys cbs crs)) w ++ drop (3 * w) slice
    block_decodes_back slice h =
        let bs = block n row ys cbs crs in
        let same = codes_agree_lem (row_of y bs w) (decoded y (sample_of ys cbs crs)) w decoded_back in
        sym (codes_in_front bs slice _ (block_reads_back (length slice) h)) ∙ ap (λ (l : List ℕ). l ++ drop (3 * w) slice) same
