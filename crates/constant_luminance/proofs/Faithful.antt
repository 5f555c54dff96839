-- What is claimed holds of every card that does what the definitions say.
-- Assumes nothing.
use Prim.Native.Nat.{ℕ, ◌+◌, ◌*◌, ◌-◌, ◌≤◌}
use mathlib.Core.Path.{◌≡◌, refl, sym, ap, ◌∙◌}
use mathlib.Core.Bool.{Bool, true, false}
use native.Mathlib.Omega.{arith}
use lib.IntN.{ℤ, pos, ◌+ℤ◌, ◌-ℤ◌, ◌*ℤ◌}
use borrow.Author.Tests.{le-leb, lt-leb}
use Rattle.exact.specs.Outcome.{Outcome, accepted, refused, ◌and_then◌, require}
use Rattle.exact.specs.Signed.{rounded}
use Rattle.exact.proofs.Difference.{sub_pos}
use Rattle.systems.specs.declared.System.{System}
use Rattle.systems.specs.Systems.{scale, video_data, within, timing}
use Rattle.systems.proofs.Scales.{scale_range}
use Rattle.curve.specs.Curve.{code}
use Rattle.curve.proofs.Lights.{code_low, code_high}
use Rattle.luminance.specs.Luminance.{luminance_code}
use Rattle.luminance.proofs.Luminances.{rule, luminance_high, of_light}
use Rattle.matrix.specs.declared.Words.{Words}
use Rattle.matrix.specs.Triples.{natural, words_within, clipped, beyond, no_clips, ◌plus◌}
use Rattle.matrix.specs.Inner.{WordsIn, nominal_at}
use Rattle.matrix.proofs.Nominal.{untimed}
use Rattle.matrix.proofs.Return.{whole_stays}
use Rattle.matrix.proofs.Clipping.{OffByOne, kept_whole}
use Rattle.constant_luminance.specs.declared.ConstantSystem.{ConstantSystem}
use Rattle.constant_luminance.specs.declared.ConstantSystem.TheVariants.{Bits10, Bits12}
use Rattle.constant_luminance.specs.declared.Lights.{Lights}
use Rattle.constant_luminance.specs.declared.Divisors.{Divisors}
use Rattle.constant_luminance.specs.declared.Clipped.{Clipped}
use Rattle.constant_luminance.specs.ConstantLuminance.{number, base, luminance, blue, red, divisor, difference, luma_of, words_at, words_of_lights, primary, red_of, blue_of, codes_at, codes_of_words}
use Rattle.constant_luminance.specs.Inner.{Sized}
use Rattle.constant_luminance.proofs.Claims.{Card, Constant, bits10, bits12, Lit, DifferenceBy, PrimaryBy, WordsOf, CodesOf, Returned, grey, grey_words, grey_codes, Accepts, Claimed}
use Rattle.constant_luminance.proofs.Numbers.{named_number, unnamed}
use Rattle.constant_luminance.proofs.Sizes.{divisor_sized, blue_sized, red_sized}
use Rattle.constant_luminance.proofs.Differences.{difference_rounds, primary_rounds}
use Rattle.constant_luminance.proofs.Words.{cb_of_lem, cr_of_lem, words_are}

pub record Faithful (card : Card) : Type 0 where
  pub encodes : {n : ℕ} {l : Lights} {a : Outcome Words} → card.Encode n l a → a ≡ words_of_lights n l
  pub decodes : {n : ℕ} {w : Words} {a : Outcome Clipped} → card.Decode n w a → a ≡ codes_of_words n w
  pub encoding : (n : ℕ) (l : Lights) → (a : Outcome Words) × card.Encode n l a
  pub decoding : (n : ℕ) (w : Words) → (a : Outcome Clipped) × card.Decode n w a

-- ---- what the definitions say by the side of zero and of m
module _ (v : Divisors) (m d y c : ℕ) (is : rounded (difference v m d y) ≡ pos c) where
  by_sides : DifferenceBy v.low v.high m d y c
  by_sides = record { falls = λ h. sym is ∙ ap by_test (le-leb d y h); rises = λ h. sym is ∙ ap by_test (lt-leb d y h) }
    where
      by_test : Bool → ℤ
      by_test t =
          let n : ℕ = elim t [ true ↦ v.low | false ↦ v.high ] in
          rounded (record { top = (pos d -ℤ pos y) *ℤ pos 2240000 +ℤ pos (m * (219 * n)); bottom = 219 * n })

primary_by_sides : (v : Divisors) (m y c : ℕ) → PrimaryBy v.low v.high m y c (rounded (primary v m y c))
primary_by_sides v m y c = record { falls = λ h. ap by_test (le-leb c m h); rises = λ h. ap by_test (lt-leb c m h) }
  where
    by_test : Bool → ℤ
    by_test t =
        let n : ℕ = elim t [ true ↦ v.low | false ↦ v.high ] in
        rounded (record { top = pos (2240000 * y) +ℤ (pos c -ℤ pos m) *ℤ pos (219 * n); bottom = 2240000 })

-- ---- every triple of light
module _ (y : ConstantSystem) (l : Lights) (h : Lit l) where
  abbrev s : ℕ
  s = scale (base y)

  abbrev words : Words
  words = record { y = luma_of (base y) l; cb = (cb_of_lem y l h).value; cr = (cr_of_lem y l h).value }

  abbrev in_nominal : WordsIn (nominal_at s) words
  in_nominal = record {
    y_low = (rule (base y)).low (luminance l);
    y_high = luminance_high (base y) (luminance l);
    cb_low = (cb_of_lem y l h).low;
    cb_high = (cb_of_lem y l h).high;
    cr_low = (cr_of_lem y l h).low;
    cr_high = (cr_of_lem y l h).high;
  }

  in_video : (d : ℕ) → 16 * s ≤ d → d ≤ 240 * s → (s ≤ d) × (d ≤ 255 * s - 1)
  in_video d low high = let r = scale_range (base y) in (omega arith, omega arith)

  no_timing_lem : (d : ℕ) → 16 * s ≤ d → d ≤ 240 * s → timing (base y) d ≡ false
  no_timing_lem d low high = let v = in_video d low high in untimed (base y) d v.0 v.1

  luma_high : luma_of (base y) l ≤ 240 * s
  luma_high = omega (arith, luminance_high (base y) (luminance l))

  words_of : WordsOf (base y) l words
  unfolding luminance_code
  words_of = record {
    luma = refl;
    cb = by_sides blue (128 * s) (code (base y) l.b) (luma_of (base y) l) (cb_of_lem y l h).value (cb_of_lem y l h).is;
    cr = by_sides red (128 * s) (code (base y) l.r) (luma_of (base y) l) (cr_of_lem y l h).value (cr_of_lem y l h).is;
    nominal = in_nominal;
    untimed = (
      no_timing_lem (luma_of (base y) l) in_nominal.y_low luma_high,
      no_timing_lem (cb_of_lem y l h).value (cb_of_lem y l h).low (cb_of_lem y l h).high,
      no_timing_lem (cr_of_lem y l h).value (cr_of_lem y l h).low (cr_of_lem y l h).high,
    );
  }

-- ---- and back
holds_word : (y : System) (d : ℕ) → scale y ≤ d → d ≤ 255 * scale y - 1 → within (video_data y) d ≡ true
holds_word y d l h = rw (le-leb (scale y) d l, le-leb d (255 * scale y - 1) h)

-- what is off a nominal code by at most one is video data
nominal_kept : (y : System) (v : ℤ) (d : ℕ) → 16 * scale y ≤ d → d ≤ 235 * scale y → OffByOne v d
    → ((clipped (video_data y) v ≤ d + 1) × (d ≤ clipped (video_data y) v + 1)) × (beyond (video_data y) v ≡ no_clips)
nominal_kept y v d l h o =
    let r = scale_range y in
    let a = o.up - o.down in
    let e : v ≡ pos a = o.is ∙ sub_pos o.up o.down (omega (arith, o.not_under)) in
    let k = kept_whole (video_data y) v a (omega (arith, o.not_under)) (omega (arith, o.not_over)) e in
    ((omega (arith, k.0, o.not_over, o.not_under), omega (arith, k.0, o.not_over, o.not_under)), k.1)

module _ (y : ConstantSystem) (l : Lights) (h : Lit l) where
  words_accepted : words_within (video_data (base y)) (words y l h) ≡ true
  words_accepted =
      let n = in_nominal y l h in
      let luma = in_video y l h (luma_of (base y) l) n.y_low (luma_high y l h) in
      let cb = in_video y l h (cb_of_lem y l h).value n.cb_low n.cb_high in
      let cr = in_video y l h (cr_of_lem y l h).value n.cr_low n.cr_high in
      rw (holds_word (base y) _ luma.0 luma.1, holds_word (base y) _ cb.0 cb.1, holds_word (base y) _ cr.0 cr.1)

  returned : Returned (base y) l (codes_at (base y) (words y l h))
  unfolding codes_at
  returned =
      let r = nominal_kept (base y) _ (code (base y) l.r) (code_low (base y) l.r) (code_high (base y) l.r) (cr_of_lem y l h).returns in
      let b = nominal_kept (base y) _ (code (base y) l.b) (code_low (base y) l.b) (code_high (base y) l.b) (cb_of_lem y l h).returns in
      record { r = r.0; b = b.0; clips = λ i. r.1 i plus b.1 i }

-- ---- greys
module _ (v : Divisors) (sized : Sized v) (m d : ℕ) where
  no_difference : rounded (difference v m d d) ≡ pos m
  no_difference =
      let n = divisor v d d in
      whole_stays m (difference_rounds (219 * n) m d d (omega (arith, divisor_sized v d d sized))) (omega arith)

  no_change : rounded (primary v m d m) ≡ pos d
  no_change = whole_stays d (primary_rounds (219 * divisor v m m) m d m) (omega arith)

grey_luma : (y : System) (k : ℕ) → luma_of y (grey k) ≡ code y k
grey_luma y k = let e : luminance (grey k) ≡ 10000 * k = omega arith in ap (luminance_code y) e ∙ of_light y k

grey_words_lem : (y : System) (k : ℕ) → words_at y (grey k) ≡ grey_words (scale y) (code y k)
unfolding words_at
grey_words_lem y k =
    let e = grey_luma y k in
    let m = 128 * scale y in
    λ i. record {
      y = e i;
      cb = natural ((ap (λ (d : ℕ). rounded (difference blue m (code y k) d)) e ∙ no_difference blue blue_sized m (code y k)) i);
      cr = natural ((ap (λ (d : ℕ). rounded (difference red m (code y k) d)) e ∙ no_difference red red_sized m (code y k)) i);
    }

grey_codes_lem : (y : System) (k : ℕ) → codes_at y (grey_words (scale y) (code y k)) ≡ grey_codes (code y k)
unfolding codes_at
grey_codes_lem y k =
    let s = scale_range y in
    let d = code y k in
    let m = 128 * scale y in
    let r = kept_whole (video_data y) _ d (omega (arith, code_low y k)) (omega (arith, code_high y k)) (no_change red red_sized m d) in
    let b = kept_whole (video_data y) _ d (omega (arith, code_low y k)) (omega (arith, code_high y k)) (no_change blue blue_sized m d) in
    λ i. record { codes = record { r = r.0 i; b = b.0 i }; clips = r.1 i plus b.1 i }

grey_accepted : (y : System) (k : ℕ) → words_within (video_data y) (grey_words (scale y) (code y k)) ≡ true
grey_accepted y k =
    let s = scale_range y in
    rw (holds_word y (code y k) (omega (arith, code_low y k)) (omega (arith, code_high y k)), holds_word y (128 * scale y) (omega arith) (omega arith))

-- ---- the claim
module _ {card : Card} (f : Faithful card) where
  -- of a system by its own name
  encoded_as : (y : ConstantSystem) {l : Lights} {a : Outcome Words} → card.Encode (number y) l a → a ≡ accepted (words_at (base y) l)
  encoded_as y {l} e = f.encodes e ∙ ap (λ (o : Outcome ConstantSystem). o and_then λ (z : ConstantSystem). accepted (words_at (base z) l)) (named_number y)

  decoded_as : (y : ConstantSystem) {w : Words} {a : Outcome Clipped} → card.Decode (number y) w a → a ≡ require (words_within (video_data (base y)) w) 6 (accepted (codes_at (base y) w))
  decoded_as y {w} e = f.decodes e ∙ ap (λ (o : Outcome ConstantSystem). o and_then λ (z : ConstantSystem). require (words_within (video_data (base z)) w) 6 (accepted (codes_at (base z) w))) (named_number y)

  accepted_as : (y : ConstantSystem) {w : Words} {a : Outcome Clipped} → words_within (video_data (base y)) w ≡ true → card.Decode (number y) w a → a ≡ accepted (codes_at (base y) w)
  accepted_as y {w} t e = decoded_as y e ∙ ap (λ (b : Bool). require b 6 (accepted (codes_at (base y) w))) t

  encodes_at : (y : ConstantSystem) (l : Lights) (a : Outcome Words) → Lit l → card.Encode (number y) l a → Accepts a (WordsOf (base y) l)
  encodes_at y l a h e = record { value = words y l h; is = encoded_as y e ∙ ap accepted (words_are y l h); holds = words_of y l h }

  decodes_at : (y : ConstantSystem) (w : Words) (a : Outcome Clipped) → words_within (video_data (base y)) w ≡ true → card.Decode (number y) w a → Accepts a (CodesOf (base y) w)
  unfolding codes_at
  decodes_at y w a t e = record {
    value = codes_at (base y) w;
    is = accepted_as y t e;
    holds = record {
      r = rounded (red_of (base y) w);
      b = rounded (blue_of (base y) w);
      red = primary_by_sides red (128 * scale (base y)) w.y w.cr;
      blue = primary_by_sides blue (128 * scale (base y)) w.y w.cb;
      is = refl;
    };
  }

  outside_at : (y : ConstantSystem) (w : Words) (a : Outcome Clipped) → words_within (video_data (base y)) w ≡ false → card.Decode (number y) w a → a ≡ refused 6
  outside_at y w a t e = decoded_as y e ∙ ap (λ (b : Bool). require b 6 (accepted (codes_at (base y) w))) t

  returns_at : (y : ConstantSystem) (l : Lights) (w : Words) (a : Outcome Clipped) → Lit l → card.Encode (number y) l (accepted w) → card.Decode (number y) w a → Accepts a (Returned (base y) l)
  returns_at y l w a h e d =
      let same : w ≡ words y l h = cc (encoded_as y e, words_are y l h) in
      record {
        value = codes_at (base y) (words y l h);
        is = accepted_as y (ap (words_within (video_data (base y))) same ∙ words_accepted y l h) d ∙ ap (λ (x : Words). accepted (codes_at (base y) x)) same;
        holds = returned y l h;
      }

  greys_at : (y : ConstantSystem) (k : ℕ) (a : Outcome Words) → card.Encode (number y) (grey k) a → a ≡ accepted (grey_words (scale (base y)) (code (base y) k))
  greys_at y k a e = encoded_as y e ∙ ap accepted (grey_words_lem (base y) k)

  greys_return_at : (y : ConstantSystem) (k : ℕ) (a : Outcome Clipped) → card.Decode (number y) (grey_words (scale (base y)) (code (base y) k)) a → a ≡ accepted (grey_codes (code (base y) k))
  greys_return_at y k a e = accepted_as y (grey_accepted (base y) k) e ∙ ap accepted (grey_codes_lem (base y) k)

  -- what holds of a system by its name holds of its number
  at : (P : ℕ → System → Type 0) → ((y : ConstantSystem) → P (number y) (base y)) → {n : ℕ} {y : System} → Constant n y → P n y
  at P p bits10 = p Bits10
  at P p bits12 = p Bits12

  pub claimed : Claimed card
  claimed = record {
    encodes = λ c. at (λ n y. (l : Lights) (a : Outcome Words) → Lit l → card.Encode n l a → Accepts a (WordsOf y l)) encodes_at c _ _;
    decodes = λ c. at (λ n y. (w : Words) (a : Outcome Clipped) → words_within (video_data y) w ≡ true → card.Decode n w a → Accepts a (CodesOf y w)) decodes_at c _ _;
    outside = λ c. at (λ n y. (w : Words) (a : Outcome Clipped) → words_within (video_data y) w ≡ false → card.Decode n w a → a ≡ refused 6) outside_at c _ _;
    returns = λ c. at (λ n y. (l : Lights) (w : Words) (a : Outcome Clipped) → Lit l → card.Encode n l (accepted w) → card.Decode n w a → Accepts a (Returned y l)) returns_at c _ _ _;
    greys = λ c k h. at (λ n y. (k : ℕ) (a : Outcome Words) → card.Encode n (grey k) a → a ≡ accepted (grey_words (scale y) (code y k))) greys_at c k _;
    greys_return = λ c k h. at (λ n y. (k : ℕ) (a : Outcome Clipped) → card.Decode n (grey_words (scale y) (code y k)) a → a ≡ accepted (grey_codes (code y k))) greys_return_at c k _;
    refuses_lights = refuses_lights_as;
    refuses_words = refuses_words_as;
    encoding = f.encoding;
    decoding = f.decoding;
  }
    where
      refuses_lights_as : {n : ℕ} {l : Lights} {a : Outcome Words} → (n ≡ 5 → ⊥) → (n ≡ 6 → ⊥) → card.Encode n l a → a ≡ refused 1
      refuses_lights_as {n} {l} n5 n6 e = f.encodes e ∙ ap (λ (o : Outcome ConstantSystem). o and_then λ (z : ConstantSystem). accepted (words_at (base z) l)) (unnamed n n5 n6)

      refuses_words_as : {n : ℕ} {w : Words} {a : Outcome Clipped} → (n ≡ 5 → ⊥) → (n ≡ 6 → ⊥) → card.Decode n w a → a ≡ refused 1
      refuses_words_as {n} {w} n5 n6 e = f.decodes e ∙ ap (λ (o : Outcome ConstantSystem). o and_then λ (z : ConstantSystem). require (words_within (video_data (base z)) w) 6 (accepted (codes_at (base z) w))) (unnamed n n5 n6)
