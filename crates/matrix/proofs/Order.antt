-- Trim before the guard changes what `Claims.antt` says, and nothing else.
-- Assumes nothing.
use mathlib.Core.Path.{◌≡◌, refl, sym, ◌∙◌}
use mathlib.Core.Bool.{Bool, true, false, ◌||◌, false≢true}
use mathlib.Core.List.{List, [], ◌∷◌}
use Prim.Native.Nat.{ℕ, ◌+◌, ◌*◌, ◌-◌, ◌≤◌}
use native.Mathlib.Omega.{arith}
use lib.IntN.{ℤ, pos, negsuc}
use lib.Signed.{lt_z}
use mir.Val.{bool_byte}
use borrow.Author.Tests.{ltb-true, lt-ltb}
use Rattle.exact.specs.Signed.{rounded}
use Rattle.exact.specs.Outcome.{Outcome, accepted, refused}
use Rattle.systems.specs.declared.Codes.{Codes}
use Rattle.systems.specs.declared.Matrix.{Matrix}
use Rattle.systems.specs.declared.Matrix.TheVariants.{Bt709, Bt2020}
use Rattle.systems.specs.declared.Range.{Range}
use Rattle.systems.specs.declared.System.{System}
use Rattle.systems.specs.Systems.{matrix, scale, nominal, nominal_difference, video_data, all_within, named}
use Rattle.matrix.specs.declared.Encoding.TheVariants.{Trim}
use Rattle.matrix.specs.declared.Limited.{Limited}
use Rattle.matrix.specs.declared.Ruled.{Ruled}
use Rattle.matrix.specs.Triples.{weighted, luma, outside, clipped, rules, ruled, limited_by, limited, nominal_words, encoded_at, words_of_codes}
use Rattle.matrix.specs.Inner.{CodesIn, nominal_at, video_at}
use Rattle.matrix.proofs.Claims.{former_rules, formerly, Colour, Change, Trimmed, Alike, TheseChange}
use Rattle.matrix.proofs.Clipping.{clipped_by, not_both}
use Rattle.matrix.proofs.Fractions.{luma_rounds}
use Rattle.matrix.proofs.Nominal.{Word, word}
use Rattle.matrix.proofs.Rules.{Inside, holding, rule_acts, next_rule, luma_inside, difference_inside}
use Rattle.matrix.proofs.Tested.{codes_in_lem}

-- ---- one number, by any two ranges of which the one lies in the other

-- beyond one end of a range
above_acts : (r : Range) (rs : List Range) (v : ℤ) → r.low ≤ r.high → lt_z (pos r.high) v ≡ true → ruled (r ∷ rs) v ≡ record { word = r.high; moved = true }
above_acts r rs v order h = go (lt_z v (pos r.low)) refl
  where
    go : (l : Bool) → lt_z v (pos r.low) ≡ l → ruled (r ∷ rs) v ≡ record { word = r.high; moved = true }
    go true l = absurd (not_both r v order l h)
    go false l = rule_acts r rs v (λ i. l i || h i) ∙ (λ i. record { word = sym (clipped_by r v false true l h) i; moved = true })

below_acts : (r : Range) (rs : List Range) (v : ℤ) → lt_z v (pos r.low) ≡ true → ruled (r ∷ rs) v ≡ record { word = r.low; moved = true }
below_acts r rs v l =
    let h = lt_z (pos r.high) v in
    rule_acts r rs v (λ i. l i || h) ∙ (λ i. record { word = sym (clipped_by r v true h l refl) i; moved = true })

-- so it is beyond that end of a range inside
above_inside : (a b : ℕ) → a ≤ b → (v : ℤ) → lt_z (pos b) v ≡ true → lt_z (pos a) v ≡ true
above_inside a b o (pos k) h = lt-ltb a k (omega (arith, ltb-true b k h))
above_inside a b o (negsuc k) h = absurd (false≢true h)

below_inside : (a b : ℕ) → b ≤ a → (v : ℤ) → lt_z v (pos b) ≡ true → lt_z v (pos a) ≡ true
below_inside a b o (pos k) l = lt-ltb k a (omega (arith, ltb-true k b l))
below_inside a b o (negsuc k) l = refl

module _ (video n : Range) (inside : Inside n video) (v : ℤ) where
  abbrev was : Ruled
  was = ruled (former_rules Trim video n) v

  abbrev now : Ruled
  now = ruled (rules Trim video n) v

  above_changes : lt_z (pos video.high) v ≡ true → (was ≡ record { word = video.high; moved = true }) × (now ≡ record { word = n.high; moved = true })
  above_changes h =
      let order : video.low ≤ video.high = omega arith in
      (above_acts video (n ∷ []) v order h, above_acts n (video ∷ []) v inside.1 (above_inside n.high video.high inside.2 v h))

  below_changes : lt_z v (pos video.low) ≡ true → (was ≡ record { word = video.low; moved = true }) × (now ≡ record { word = n.low; moved = true })
  below_changes l = (below_acts video (n ∷ []) v l, below_acts n (video ∷ []) v (below_inside n.low video.low inside.0 v l))

  other_stays : outside video v ≡ false → now ≡ was
  other_stays e =
      (λ i. elim (outside n v) [ true ↦ record { word = clipped n v; moved = true } | false ↦ next_rule video [] v e i ])
      ∙ sym (next_rule video (n ∷ []) v e)

  moved_stays : now.moved ≡ was.moved
  moved_stays = go (lt_z v (pos video.low)) (lt_z (pos video.high) v) refl refl
    where
      go : (l h : Bool) → lt_z v (pos video.low) ≡ l → lt_z (pos video.high) v ≡ h → now.moved ≡ was.moved
      go true h p q = let c = below_changes p in (λ i. (c.1 i).moved) ∙ sym (λ i. (c.0 i).moved)
      go false true p q = let c = above_changes q in (λ i. (c.1 i).moved) ∙ sym (λ i. (c.0 i).moved)
      go false false p q = let c = other_stays (λ i. p i || q i) in λ i. (c i).moved

-- ---- Y', Cb and Cr

-- Y' is a mean of its codes: of video data codes it is video data
pub luma_video : (x : Matrix) (s : ℕ) (c : Codes) → CodesIn (video_at s) c → outside (video_at s) (encoded_at x s c).y ≡ false
luma_video x s c i = let w = mean x in holding (video_at s) (encoded_at x s c).y w.value w.is (w.at_least_lem, w.at_most)
  where
    mean : (x : Matrix) → Word (weighted x c) 0 10000 s (255 * s - 1) (rounded (luma x c))
    mean Bt709 = let y = luma_rounds Bt709 c in word y (omega arith) (omega arith)
    mean Bt2020 = let y = luma_rounds Bt2020 c in word y (omega arith) (omega arith)

colour : (s : ℕ) (v : ℤ) →
    let difference = (nominal_at s).difference in
    Colour s v (ruled (former_rules Trim (video_at s) difference) v).word (ruled (rules Trim (video_at s) difference) v).word
colour s v =
    let inside = difference_inside s in
    let n = (nominal_at s).difference in
    record {
      above = λ h. let c = above_changes (video_at s) n inside v h in (λ i. (c.0 i).word, λ i. (c.1 i).word);
      below = λ l. let c = below_changes (video_at s) n inside v l in (λ i. (c.0 i).word, λ i. (c.1 i).word);
      other = λ l h. let c = other_stays (video_at s) n inside v (λ i. l i || h i) in λ i. (c i).word;
    }

trimmed : (y : System) (c : Codes) → CodesIn (video_data y) c →
    let v = encoded_at (matrix y) (scale y) c in
    Change (scale y) v (limited_by (former_rules Trim (video_data y) (nominal y)) (former_rules Trim (video_data y) (nominal_difference y)) v) (limited Trim (video_data y) (nominal_words y) v)
unfolding limited
trimmed y c i =
    let s = scale y in
    let v = encoded_at (matrix y) s c in
    let difference = difference_inside s in
    let luma = other_stays (video_at s) (nominal_at s).luma (luma_inside s) v.y (luma_video (matrix y) s c i) in
    let cb = moved_stays (video_at s) (nominal_at s).difference difference v.cb in
    let cr = moved_stays (video_at s) (nominal_at s).difference difference v.cr in
    record { y = λ i. (luma i).word; cb = colour s v.cb; cr = colour s v.cr; moved = λ i. bool_byte (luma i).moved + bool_byte (cb i) + bool_byte (cr i) }

-- ---- the answers

-- exactly these answers change
pub exactly_these_change : (n : ℕ) (c : Codes) → TheseChange n c
unfolding limited
exactly_these_change n c = record { plain = refl; trim = by_name (named n) refl }
  where
    by_test : (y : System) (t : Bool) → all_within (video_data y) c ≡ t → named n ≡ accepted y → Alike (Trimmed n c) (formerly n Trim c) (words_of_codes n Trim c)
    by_test y true f e = rw (e, f) record { system = y; of = e; change = trimmed y c (codes_in_lem (video_data y) c f) }
    by_test y false f e = rw (e, f)

    by_name : (o : Outcome System) → named n ≡ o → Alike (Trimmed n c) (formerly n Trim c) (words_of_codes n Trim c)
    by_name (accepted y) e = by_test y (all_within (video_data y) c) refl e
    by_name (refused r) e = rw e

-- the lamps of the request, at 8 bits: the saturated one's Cb left at 254 and leaves at 240, where the duller one's left and leaves
abbrev saturated : Codes
saturated = record { r = 1; g = 1; b = 254 }

abbrev duller : Codes
duller = record { r = 16; g = 16; b = 250 }

abbrev words : ℕ → ℕ → ℕ → Outcome Limited
words y cb cr = accepted (record { words = record { y = y; cb = cb; cr = cr }; moved = 1 })

pub lamps : (formerly 1 Trim saturated ≡ words 19 254 116) × (words_of_codes 1 Trim saturated ≡ words 19 240 116) × (formerly 1 Trim duller ≡ words 33 240 117) × (words_of_codes 1 Trim duller ≡ words 33 240 117)
unfolding limited rounded
lamps = (refl, refl, refl, refl)
