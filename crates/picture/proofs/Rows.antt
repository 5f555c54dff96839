-- The block of a row of lights: what is stored in it, and what reading it gives.
-- Assumes nothing.
use Prim.Native.Nat.{ℕ, zero, suc, ◌+◌, ◌*◌, ◌-◌, ◌≤◌, ◌<◌}
use mathlib.Core.Path.{◌≡◌, refl, sym, ap, subst, ◌∙◌}
use mathlib.Core.Bool.{true}
use mathlib.Core.Logic.{◌⊎◌, inl, inr}
use mathlib.Core.List.{List, [], ◌∷◌, ◌++◌}
use native.Mathlib.Omega.{arith}
use lib.ListN.{length, get_or, drop, get_or-append}
use lib.Seq.{get_or-append-add}
use borrow.Author.Tests.{le-leb}
use Rattle.exact.specs.Outcome.{accepted}
use Rattle.exact.proofs.Order.{below_or_not}
use Rattle.systems.specs.declared.Codes.{Codes}
use Rattle.systems.specs.declared.System.{System}
use Rattle.systems.specs.Systems.{number, matrix, scale, video_data, within}
use Rattle.systems.proofs.Scales.{named_number, scale_range}
use Rattle.curve.specs.Curve.{code}
use Rattle.matrix.specs.declared.Clipped.{Clipped}
use Rattle.matrix.specs.declared.Words.{Words}
use Rattle.matrix.specs.Inner.{NominalCodes, WordsIn, nominal_at}
use Rattle.matrix.specs.Triples.{codes_at, words_within}
use Rattle.matrix.proofs.Nominal.{words_nominal, word-near, no_timing_code}
use Rattle.matrix.proofs.Return.{codes_return_within_one}
use Rattle.block.specs.declared.Header.{Header}
use Rattle.block.specs.Block.{sample_of, tabulate}
use Rattle.block.specs.Read.{sample_at, decoded, codes_to, clips_to, header_of, slice_after}
use Rattle.block.proofs.Decoding.{length_codes}
use Rattle.block.proofs.Stored.{length_tabulate, tabulate_at}
use Rattle.block.proofs.ReadBack.{VideoRow, block_samples, block_reads_back, block_decodes_back}
use Rattle.row.specs.Row.{sample_codes, sample_words, row_block}
use Rattle.row.proofs.Samples.{lights_nominal}
use Rattle.row.proofs.Written.{length_row_block}
use Rattle.picture.proofs.Calls.{Card, Lights}
use Rattle.picture.proofs.Card.{label_of}
use Rattle.picture.proofs.Claims.{WithinOne, ReadCode, StoredSample, codes_of, ReadsBack}
use Rattle.picture.proofs.Faithful.{Faithful}
use Rattle.picture.proofs.Neighbours.{from_below, to_above}

-- what holds of each sample's three codes at their places holds of every code of a row
module _ (row : ℕ → Clipped) (P : ℕ → ℕ → Type 0) where
  each_code : (n : ℕ) → ((i : ℕ) → i < n → P (3 * i) (row i).codes.r × P (3 * i + 1) (row i).codes.g × P (3 * i + 2) (row i).codes.b)
      → (j : ℕ) → j < 3 * n → P j (get_or (codes_to row n) j 0)
  unfolding codes_to
  each_code zero f j h = absurd (omega arith)
  each_code (suc n) f j h = go (each_code n (λ i m. f i (omega arith)) j) (below_or_not j (3 * n))
    where
      three : List ℕ
      three = (row n).codes.r ∷ (row n).codes.g ∷ (row n).codes.b ∷ []

      here : P (3 * n) (row n).codes.r × P (3 * n + 1) (row n).codes.g × P (3 * n + 2) (row n).codes.b
      here = f n (omega arith)

      place : (c v : ℕ) → get_or three c 0 ≡ v → P (3 * n + c) v → j ≡ 3 * n + c → P j (get_or (codes_to row n ++ three) j 0)
      place c v e p at =
          let k : j ≡ length (codes_to row n) + c = omega (arith, length_codes row n) in
          let found : get_or (codes_to row n ++ three) j 0 ≡ v = ap (λ (i : ℕ). get_or (codes_to row n ++ three) i 0) k ∙ get_or-append-add (codes_to row n) three c 0 ∙ e in
          subst (λ (i : ℕ). P i (get_or (codes_to row n ++ three) j 0)) (sym at) (subst (P (3 * n + c)) (sym found) p)

      last : (j < 3 * n + 1) ⊎ (3 * n + 1 ≤ j) → (j < 3 * n + 2) ⊎ (3 * n + 2 ≤ j) → 3 * n ≤ j → P j (get_or (codes_to row n ++ three) j 0)
      last (inl a) b l = place 0 _ refl (subst (λ (i : ℕ). P i (row n).codes.r) (omega arith) here.0) (omega arith)
      last (inr a) (inl b) l = place 1 _ refl here.1 (omega arith)
      last (inr a) (inr b) l = place 2 _ refl here.2 (omega arith)

      go : (j < 3 * n → P j (get_or (codes_to row n) j 0)) → (j < 3 * n) ⊎ (3 * n ≤ j) → P j (get_or (codes_to row n ++ three) j 0)
      go before (inl l) =
          let found : get_or (codes_to row n ++ three) j 0 ≡ get_or (codes_to row n) j 0 = get_or-append (codes_to row n) three 0 j (omega (arith, length_codes row n)) in
          subst (P j) (sym found) (before l)
      go before (inr l) = last (below_or_not j (3 * n + 1)) (below_or_not j (3 * n + 2)) l

-- ---- the test that nominal words pass

in_video : (y : System) (d : ℕ) → 16 * scale y ≤ d → d ≤ 240 * scale y → within (video_data y) d ≡ true
in_video y d l h =
    let s = scale_range y in
    rw (le-leb (scale y) d (omega arith), le-leb d (255 * scale y - 1) (omega arith)) refl

words_pass : (y : System) (v : Words) → WordsIn (nominal_at (scale y)) v → words_within (video_data y) v ≡ true
words_pass y v n = rw (in_video y v.y n.y_low (omega (arith, n.y_high)), in_video y v.cb n.cb_low n.cb_high, in_video y v.cr n.cr_low n.cr_high) refl

-- ---- a sample

-- a code d that is read at place j
abbrev Good : System → List ℕ → ℕ → ℕ → Type 0
Good y lights j d = WithinOne d (code y (get_or lights j 0))

-- the codes d that are read of sample i
abbrev Returns : System → List ℕ → ℕ → Codes → Type 0
Returns y lights i d = Good y lights (3 * i) d.r × Good y lights (3 * i + 1) d.g × Good y lights (3 * i + 2) d.b

module _ (y : System) (lights : List ℕ) (i : ℕ) where
  abbrev c : Codes
  c = sample_codes y lights i

  -- the claim says of its own which codes a sample has, apart from the row's contract, and says the same
  codes_agree_lem : codes_of y lights i ≡ c
  codes_agree_lem = refl

  sample_nominal : NominalCodes (scale y) c
  sample_nominal = lights_nominal y _ _ _ refl

  sample_passes : words_within (video_data y) (sample_words y lights i) ≡ true
  unfolding sample_words
  sample_passes = words_pass y _ (words_nominal (matrix y) (scale y) c sample_nominal)

  sample_stored : StoredSample y (codes_of y lights i) (sample_words y lights i)
  unfolding sample_words
  sample_stored =
      let near = word-near (matrix y) (scale y) c sample_nominal in
      let free = no_timing_code y c sample_nominal in
      record {
        luma_word = record { near = near.0; no_timing_lem = free.0 };
        cb_word = record { near = near.1; no_timing_lem = free.1 };
        cr_word = record { near = near.2; no_timing_lem = free.2 };
      }

  sample_returns : Returns y lights i (codes_at (matrix y) (scale y) (video_data y) (sample_words y lights i)).codes
  unfolding sample_words
  sample_returns =
      let s = scale_range y in
      let back = codes_return_within_one (matrix y) (scale y) (video_data y) c (omega arith) (omega arith) sample_nominal in
      (back.r, back.g, back.b)

-- ---- a row of w samples, numbered r

module _ (y : System) (r w : ℕ) (lights : List ℕ) (some : 1 ≤ w) (most : w ≤ 7680) (low : r ≤ 4319) where
  abbrev ys : List ℕ
  ys = tabulate (λ i. (sample_words y lights i).y) w

  abbrev cbs : List ℕ
  cbs = tabulate (λ i. (sample_words y lights i).cb) w

  abbrev crs : List ℕ
  crs = tabulate (λ i. (sample_words y lights i).cr) w

  samples : (i : ℕ) → i < w → sample_of ys cbs crs i ≡ sample_words y lights i
  samples i h =
      let a = tabulate_at (λ i. (sample_words y lights i).y) w i h in
      let b = tabulate_at (λ i. (sample_words y lights i).cb) w i h in
      let c = tabulate_at (λ i. (sample_words y lights i).cr) w i h in
      λ k. record { y = a k; cb = b k; cr = c k }

  video_row : VideoRow y w ys cbs crs
  video_row = record {
    some = some;
    most = most;
    luma_count = length_tabulate _ w;
    cb_count = length_tabulate _ w;
    cr_count = length_tabulate _ w;
    words = λ i h. ap (words_within (video_data y)) (samples i h) ∙ sample_passes y lights i;
  }

  words : (i : ℕ) → i < w → StoredSample y (codes_of y lights i) (sample_at (row_block y r w lights) w i)
  unfolding row_block
  words i h =
      let same : sample_at (row_block y r w lights) w i ≡ sample_words y lights i = block_samples (number y) r w y ys cbs crs video_row i h ∙ samples i h in
      subst (StoredSample y (codes_of y lights i)) (sym same) (sample_stored y lights i)

  abbrev row : ℕ → Clipped
  row = decoded y (sample_of ys cbs crs)

  header : Header
  header = record { system = y; row = r; samples = w; clips = clips_to row w }

  answer : (room : ℕ) → 3 * w ≤ room → header_of (row_block y r w lights) room ≡ accepted header
  unfolding row_block header
  answer room h = block_reads_back (number y) r w y ys cbs crs video_row (named_number y) low room h

  left : (slice : List ℕ) → 3 * w ≤ length slice → slice_after (row_block y r w lights) slice ≡ codes_to row w ++ drop (3 * w) slice
  unfolding row_block
  left slice h = block_decodes_back (number y) r w y ys cbs crs video_row (named_number y) low slice h

  codes : Lights lights → (slice : List ℕ) (j : ℕ) → j < 3 * w → ReadCode y (get_or lights j 0) (get_or (codes_to row w ++ drop (3 * w) slice) j 0)
  codes lit slice j h =
      let back : (i : ℕ) → i < w → Returns y lights i (row i).codes =
      λ i h. subst (λ (v : Words). Returns y lights i (codes_at (matrix y) (scale y) (video_data y) v).codes) (sym (samples i h)) (sample_returns y lights i) in
      let good : Good y lights j (get_or (codes_to row w) j 0) = each_code row (Good y lights) w back j h in
      let same : get_or (codes_to row w ++ drop (3 * w) slice) j 0 ≡ get_or (codes_to row w) j 0 =
      get_or-append (codes_to row w) (drop (3 * w) slice) 0 j (omega (arith, length_codes row w)) in
      rw same record { near = good; from = from_below y _ _ (lit j) good; to = to_above y _ _ (lit j) good }

  pub reads_back : {card : Card} → Faithful card → Lights lights → ReadsBack card (row_block y r w lights) (record { system = number y; width = w; row = r; lights = lights })
  unfolding header
  reads_back does lit = record {
    system = y;
    numbered = refl;
    size = length_row_block y r w lights;
    words = words;
    reads = λ {slice} room given. record {
      answer = (does.reads given).0 ∙ ap label_of (answer (length slice) room);
      codes = λ j h. rw ((does.reads given).1 ∙ left slice room) (codes lit slice j h);
    };
  }
