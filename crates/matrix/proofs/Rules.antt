-- What the rules make of the numbers that INT left (requests 2026-03 and 2026-04): in trim encoding every word is nominal, in plain
-- encoding every word is video data; a word that none moved is the number itself, and none moves a word of nominal codes.
-- Assumes nothing.
use mathlib.Core.Path.{◌≡◌, refl, sym, ap, ◌∙◌, subst}
use mathlib.Core.Bool.{Bool, true, false, ◌||◌, false≢true}
use mathlib.Core.List.{List, [], ◌∷◌}
use Prim.Native.Nat.{ℕ, ◌+◌, ◌*◌, ◌≤◌}
use native.Mathlib.Omega.{arith}
use lib.IntN.{ℤ, pos, negsuc}
use lib.Signed.{lt_z}
use mir.Val.{bool_byte}
use borrow.Author.Tests.{le-ltb, ltb-false}
use Rattle.exact.proofs.Difference.{sub_is}
use Rattle.exact.proofs.Nearest.{Rounds}
use Rattle.systems.specs.declared.Codes.{Codes}
use Rattle.systems.specs.declared.Matrix.{Matrix}
use Rattle.systems.specs.declared.Range.{Range}
use Rattle.systems.specs.declared.System.{System}
use Rattle.systems.specs.Systems.{scale, kr, kb, video_data, timing}
use Rattle.matrix.specs.declared.Encoding.{Encoding}
use Rattle.matrix.specs.declared.Encoding.TheVariants.{Plain, Trim}
use Rattle.matrix.specs.declared.Ruled.{Ruled}
use Rattle.matrix.specs.declared.Unlimited.{Unlimited}
use Rattle.matrix.specs.declared.WordRanges.{WordRanges}
use Rattle.matrix.specs.Triples.{natural, outside, clipped, rules, ruled, nominal_words, limited, encoded_at, words_at}
use Rattle.matrix.specs.Inner.{NominalCodes, WordsIn, nominal_at, video_at}
use Rattle.matrix.proofs.Claims.{range_of, ranges_of}
use Rattle.matrix.proofs.Clipping.{clipped_by, clipped_within}
use Rattle.matrix.proofs.Fractions.{luma_rounds, difference_rounds}
use Rattle.matrix.proofs.Nominal.{Word, word, divisors, untimed, WordsOf, words_of, words_are}

-- ---- one word

-- a range lies in another; a range holds a number
abbrev pub Inside : Range → Range → Type 0
Inside n video = (video.low ≤ n.low) × (n.low ≤ n.high) × (n.high ≤ video.high)

abbrev pub Holds : Range → ℕ → Type 0
Holds r k = (r.low ≤ k) × (k ≤ r.high)

-- a number that is not beyond a range is a natural that the range holds, and none that it holds is beyond it
pub record NaturalIn (r : Range) (v : ℤ) : Type 0 where
  pub value : ℕ
  pub is : v ≡ pos value
  pub holds : Holds r value

pub not_beyond : (r : Range) (v : ℤ) → outside r v ≡ false → NaturalIn r v
not_beyond r (pos k) e = go (lt_z (pos k) (pos r.low)) (lt_z (pos r.high) (pos k)) refl refl e
  where
    go : (l h : Bool) → lt_z (pos k) (pos r.low) ≡ l → lt_z (pos r.high) (pos k) ≡ h → l || h ≡ false → NaturalIn r (pos k)
    go true h p q f = absurd (false≢true (sym f))
    go false true p q f = absurd (false≢true (sym f))
    go false false p q f = record { value = k; is = refl; holds = (ltb-false k r.low p, ltb-false r.high k q) }
not_beyond r (negsuc k) e = absurd (false≢true (sym e))

pub holding : (r : Range) (v : ℤ) (k : ℕ) → v ≡ pos k → Holds r k → outside r v ≡ false
holding r v k e h =
    let low = le-ltb k r.low h.0 in
    let high = le-ltb r.high k h.1 in
    ap (outside r) e ∙ (λ i. low i || high i)

-- a rule acts on a number beyond its range, and leaves any other to the next
pub rule_acts : (r : Range) (rs : List Range) (v : ℤ) → outside r v ≡ true → ruled (r ∷ rs) v ≡ record { word = clipped r v; moved = true }
rule_acts r rs v e = λ i. elim (e i) [ true ↦ record { word = clipped r v; moved = true } | false ↦ ruled rs v ]

pub next_rule : (r : Range) (rs : List Range) (v : ℤ) → outside r v ≡ false → ruled (r ∷ rs) v ≡ ruled rs v
next_rule r rs v e = λ i. elim (e i) [ true ↦ record { word = clipped r v; moved = true } | false ↦ ruled rs v ]

-- what a rule leaves, by its range
abbrev pub left_by : Range → ℤ → Ruled
left_by r v = record { word = clipped r v; moved = outside r v }

-- what the rules leave where the others have nothing to do for a number that the first leaves to them
by_first : (r : Range) (rs : List Range) (v : ℤ) → (outside r v ≡ false → ruled rs v ≡ ruled [] v) → ruled (r ∷ rs) v ≡ left_by r v
by_first r rs v idle = go (lt_z v (pos r.low)) (lt_z (pos r.high) v) refl refl
  where
    go : (l h : Bool) → lt_z v (pos r.low) ≡ l → lt_z (pos r.high) v ≡ h →
        ◌≡◌ {A = Ruled} (elim (l || h) [ true ↦ record { word = clipped r v; moved = true } | false ↦ ruled rs v ]) (record { word = clipped r v; moved = l || h })
    go true h p q = refl
    go false true p q = refl
    go false false p q = idle (λ i. p i || q i) ∙ (λ i. record { word = clipped_by r v false false p q i; moved = false })

pub alone : (r : Range) (v : ℤ) → ruled (r ∷ []) v ≡ left_by r v
alone r v = by_first r [] v (λ (e : outside r v ≡ false). refl)

-- a number that is not beyond a range is not beyond one around it
around : {n video : Range} → Inside n video → (v : ℤ) → outside n v ≡ false → outside video v ≡ false
around {n} {video} inside v e =
    let k = not_beyond n v e in
    holding video v k.value k.is (omega (arith, k.holds.0), omega (arith, k.holds.1))

-- trim leaves the guard nothing to do
pub held : (e : Encoding) (video n : Range) → Inside n video → (v : ℤ) → ruled (rules e video n) v ≡ left_by (range_of e video n) v
held Plain video n inside v = alone video v
held Trim video n inside v = by_first n (video ∷ []) v (λ (e : outside n v ≡ false). next_rule video [] v (around inside v e))

range_inside : (e : Encoding) (video n : Range) → Inside n video → Inside (range_of e video n) video
range_inside Plain video n inside = (omega arith, omega arith, omega arith)
range_inside Trim video n inside = inside

-- what nominal holds, each encoding's range holds
range_holds : (e : Encoding) (video n : Range) → Inside n video → (k : ℕ) → Holds n k → Holds (range_of e video n) k
range_holds Plain video n inside k h = (omega arith, omega arith)
range_holds Trim video n inside k h = h

-- every word is in its encoding's range
ruled_within : (e : Encoding) (video n : Range) → Inside n video → (v : ℤ) → Holds (range_of e video n) (ruled (rules e video n) v).word
ruled_within e video n inside v =
    let r = range_of e video n in
    subst (λ (l : Ruled). Holds r l.word) (sym (held e video n inside v)) (clipped_within r v (range_inside e video n inside).1)

at_most_one : (moved : Bool) → bool_byte moved ≤ 1
at_most_one true = omega arith
at_most_one false = omega arith

unmoved_by : (moved : Bool) → bool_byte moved ≡ 0 → moved ≡ false
unmoved_by true none = absurd (omega arith)
unmoved_by false none = refl

-- a number that its range holds is its own word
pub rule_keeps : (e : Encoding) (video n : Range) → Inside n video → (k : ℕ) → Holds (range_of e video n) k → ruled (rules e video n) (pos k) ≡ record { word = k; moved = false }
rule_keeps e video n inside k h =
    let r = range_of e video n in
    let low = le-ltb k r.low h.0 in
    let high = le-ltb r.high k h.1 in
    held e video n inside (pos k) ∙ (λ i. record { word = sym (clipped_by r (pos k) false false low high) i; moved = low i || high i })

-- a number that no rule moved is its word
unmoved_whole : (e : Encoding) (video n : Range) → Inside n video → (v : ℤ) → (ruled (rules e video n) v).moved ≡ false → v ≡ pos (ruled (rules e video n) v).word
unmoved_whole e video n inside v none = go (outside r v) refl
  where
    r : Range
    r = range_of e video n

    go : (t : Bool) → outside r v ≡ t → v ≡ pos (ruled (rules e video n) v).word
    go true f = let same = held e video n inside v in absurd (false≢true (sym none ∙ (λ i. (same i).moved) ∙ f))
    go false f =
        let k = not_beyond r v f in
        k.is ∙ ap pos (sym (ap (λ (z : ℤ). (ruled (rules e video n) z).word) k.is ∙ ap (λ (l : Ruled). l.word) (rule_keeps e video n inside k.value k.holds)))

-- INT's number as a word in a range
word_of : {p n d low high : ℕ} {z : ℤ} (r : Rounds p n d z) (k : ℕ) → z ≡ pos k → low ≤ k → k ≤ high → Word p n d low high z
word_of r k e l h = let u : r.up ≡ k + r.down = sub_is r.up r.down k (sym r.is ∙ e) in word r (omega arith) (omega arith)

-- ---- the three words, at a scale

pub luma_inside : (s : ℕ) → Inside (nominal_at s).luma (video_at s)
luma_inside s = (omega arith, omega arith, omega arith)

pub difference_inside : (s : ℕ) → Inside (nominal_at s).difference (video_at s)
difference_inside s = (omega arith, omega arith, omega arith)

module _ (s : ℕ) (e : Encoding) where
  -- in trim encoding every word is nominal and in plain encoding every word is video data, whatever INT left
  pub words_held : (v : Unlimited) → WordsIn (ranges_of e s) (limited e (video_at s) (nominal_at s) v).words
  unfolding limited
  words_held v =
      let y = ruled_within e (video_at s) (nominal_at s).luma (luma_inside s) v.y in
      let cb = ruled_within e (video_at s) (nominal_at s).difference (difference_inside s) v.cb in
      let cr = ruled_within e (video_at s) (nominal_at s).difference (difference_inside s) v.cr in
      record { y_low = y.0; y_high = y.1; cb_low = cb.0; cb_high = cb.1; cr_low = cr.0; cr_high = cr.1 }

  -- where none was moved the words are what INT left
  pub unmoved : (x : Matrix) (c : Codes) → let l = limited e (video_at s) (nominal_at s) (encoded_at x s c) in l.moved ≡ 0 → WordsOf x s (ranges_of e s) c × (l.words ≡ words_at x s c)
  unfolding limited words_at
  unmoved x c none =
      let v = encoded_at x s c in
      let y = unmoved_whole e (video_at s) (nominal_at s).luma (luma_inside s) v.y (unmoved_by _ (omega arith)) in
      let cb = unmoved_whole e (video_at s) (nominal_at s).difference (difference_inside s) v.cb (unmoved_by _ (omega arith)) in
      let cr = unmoved_whole e (video_at s) (nominal_at s).difference (difference_inside s) v.cr (unmoved_by _ (omega arith)) in
      let w = words_held v in
      let d = divisors x in (
        record {
          y = word_of (luma_rounds x c) _ y w.y_low w.y_high;
          cb = word_of (difference_rounds x (128 * s) (kb x) c.b c d.cb) _ cb w.cb_low w.cb_high;
          cr = word_of (difference_rounds x (128 * s) (kr x) c.r c d.cr) _ cr w.cr_low w.cr_high;
        },
        sym (λ i. record { y = natural (y i); cb = natural (cb i); cr = natural (cr i) }),
      )

  -- no rule acts on a word of nominal codes, so that both encodings give the words that a row has
  pub nominal_unmoved : (x : Matrix) (c : Codes) → NominalCodes s c → limited e (video_at s) (nominal_at s) (encoded_at x s c) ≡ record { words = words_at x s c; moved = 0 }
  unfolding limited
  nominal_unmoved x c i =
      let v = words_of x s c i in
      let keeps : (n : Range) → Inside n (video_at s) → (k : ℕ) → Holds n k → ruled (rules e (video_at s) n) (pos k) ≡ record { word = k; moved = false } =
      λ n inside k h. rule_keeps e (video_at s) n inside k (range_holds e (video_at s) n inside k h) in
      let y = keeps (nominal_at s).luma (luma_inside s) v.y.value (v.y.at_least_lem, v.y.at_most) in
      let cb = keeps (nominal_at s).difference (difference_inside s) v.cb.value (v.cb.at_least_lem, v.cb.at_most) in
      let cr = keeps (nominal_at s).difference (difference_inside s) v.cr.value (v.cr.at_least_lem, v.cr.at_most) in
      rw (v.y.is, v.cb.is, v.cr.is, y, cb, cr, words_are x s c v) refl

pub moved_at_most_three : (e : Encoding) (video : Range) (n : WordRanges) (v : Unlimited) → (limited e video n v).moved ≤ 3
unfolding limited
moved_at_most_three e video n v =
    let luma = rules e video n.luma in
    let difference = rules e video n.difference in
    omega (arith, at_most_one (ruled luma v.y).moved, at_most_one (ruled difference v.cb).moved, at_most_one (ruled difference v.cr).moved)

-- so no call gives a timing code
pub never_timing : (y : System) (e : Encoding) (v : Unlimited) →
    let w = (limited e (video_data y) (nominal_words y) v).words in
    (timing y w.y ≡ false) × (timing y w.cb ≡ false) × (timing y w.cr ≡ false)
never_timing y e v =
    let s = scale y in
    let w = words_held s e v in
    let luma = range_inside e (video_at s) (nominal_at s).luma (luma_inside s) in
    let difference = range_inside e (video_at s) (nominal_at s).difference (difference_inside s) in
    (untimed y _ (omega (arith, luma.0, w.y_low)) (omega (arith, luma.2, w.y_high)), untimed y _ (omega (arith, difference.0, w.cb_low)) (omega (arith, difference.2, w.cb_high)), untimed y _ (omega (arith, difference.0, w.cr_low)) (omega (arith, difference.2, w.cr_high)))
