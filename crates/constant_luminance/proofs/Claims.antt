-- What is claimed of constant luminance, whoever computes it (request 2026-11). Weights and divisors are written out here once more.
-- Definitions only.
use Prim.Native.Nat.{ℕ, ◌+◌, ◌*◌, ◌≤◌, ◌<◌}
use mathlib.Core.Path.{◌≡◌}
use mathlib.Core.Bool.{true, false}
use lib.IntN.{ℤ, pos, ◌+ℤ◌, ◌-ℤ◌, ◌*ℤ◌}
use Rattle.exact.specs.Outcome.{Outcome, accepted, refused}
use Rattle.exact.specs.Signed.{rounded}
use Rattle.systems.specs.declared.System.{System}
use Rattle.systems.specs.declared.System.TheVariants.{Bt2020Bits10, Bt2020Bits12}
use Rattle.systems.specs.Systems.{scale, transfer, video_data, timing}
use Rattle.curve.specs.Curve.{code_of, code}
use Rattle.matrix.specs.declared.Words.{Words}
use Rattle.matrix.specs.Triples.{words_within, clipped, beyond, no_clips, ◌plus◌}
use Rattle.matrix.specs.Inner.{WordsIn, nominal_at}
use Rattle.constant_luminance.specs.declared.Lights.{Lights}
use Rattle.constant_luminance.specs.declared.Clipped.{Clipped}

-- a card, by what its calls do: each stands between what it was given and what came of it
pub record Card : Type 1 where
  -- encoding: a system's number and a triple of light
  pub Encode : ℕ → Lights → Outcome Words → Type 0
  -- decoding: a system's number and a triple of words
  pub Decode : ℕ → Words → Outcome Clipped → Type 0

-- the systems of constant luminance: the number, and the system whose n, α and β it takes
pub data Constant : ℕ → System → Type 0 where
  bits10 : Constant 5 Bt2020Bits10
  bits12 : Constant 6 Bt2020Bits12

-- a triple of light, each 0 to 65535, since a contract says nothing of the range of a field
pub record Lit (l : Lights) : Type 0 where
  pub r : l.r ≤ 65535
  pub g : l.g ≤ 65535
  pub b : l.b ≤ 65535

-- the word c is INT of (d - y)·10000·224/(219·divisor) + m, with one divisor where d - y is not above zero and the other where it is
pub record DifferenceBy (not_above above m d y c : ℕ) : Type 0 where
  pub falls : d ≤ y → pos c ≡ rounded (record { top = (pos d -ℤ pos y) *ℤ pos (10000 * 224) +ℤ pos (m * (219 * not_above)); bottom = 219 * not_above })
  pub rises : y < d → pos c ≡ rounded (record { top = (pos d -ℤ pos y) *ℤ pos (10000 * 224) +ℤ pos (m * (219 * above)); bottom = 219 * above })

-- v is INT of y + (219/224)·(c - m)·divisor/10000, with one divisor where the word c is not above m and the other where it is
pub record PrimaryBy (not_above above m y c : ℕ) (v : ℤ) : Type 0 where
  pub falls : c ≤ m → v ≡ rounded (record { top = pos (224 * 10000 * y) +ℤ (pos c -ℤ pos m) *ℤ pos (219 * not_above); bottom = 224 * 10000 })
  pub rises : m < c → v ≡ rounded (record { top = pos (224 * 10000 * y) +ℤ (pos c -ℤ pos m) *ℤ pos (219 * above); bottom = 224 * 10000 })

-- the words of a triple of light: what INT leaves is nominal, so that nothing is moved, and none is a timing code
pub record WordsOf (y : System) (l : Lights) (w : Words) : Type 0 where
  -- Y'c is quantised once, from the exact sum
  pub luma : w.y ≡ code_of (10000 * 65535) (scale y) (transfer y).alpha (transfer y).beta (2627 * l.r + 6780 * l.g + 593 * l.b)
  pub cb : DifferenceBy 19404 15820 (128 * scale y) (code y l.b) w.y w.cb
  pub cr : DifferenceBy 17182 9938 (128 * scale y) (code y l.r) w.y w.cr
  pub nominal : WordsIn (nominal_at (scale y)) w
  pub untimed : (timing y w.y ≡ false) × (timing y w.cb ≡ false) × (timing y w.cr ≡ false)

-- R' and B' of a triple of words, clipped to video data and counted
pub record CodesOf (y : System) (w : Words) (c : Clipped) : Type 0 where
  pub r : ℤ
  pub b : ℤ
  pub red : PrimaryBy 17182 9938 (128 * scale y) w.y w.cr r
  pub blue : PrimaryBy 19404 15820 (128 * scale y) w.y w.cb b
  pub is : c ≡ record { codes = record { r = clipped (video_data y) r; b = clipped (video_data y) b }; clips = beyond (video_data y) r plus beyond (video_data y) b }

-- R' and B' are within one code of their lights' codes, and none was clipped
pub record Returned (y : System) (l : Lights) (c : Clipped) : Type 0 where
  pub r : (c.codes.r ≤ code y l.r + 1) × (code y l.r ≤ c.codes.r + 1)
  pub b : (c.codes.b ≤ code y l.b + 1) × (code y l.b ≤ c.codes.b + 1)
  pub clips : c.clips ≡ no_clips

-- a grey light, words that have no colour difference, and the codes that are read of them
abbrev pub grey : ℕ → Lights
grey k = record { r = k; g = k; b = k }

abbrev pub grey_words : ℕ → ℕ → Words
grey_words s d = record { y = d; cb = 128 * s; cr = 128 * s }

abbrev pub grey_codes : ℕ → Clipped
grey_codes d = record { codes = record { r = d; b = d }; clips = no_clips }

-- an answer is accepted with something of which P holds
pub record Accepts {A : Type 0} (a : Outcome A) (P : A → Type 0) : Type 0 where
  pub value : A
  pub is : a ≡ accepted value
  pub holds : P value

module _ (card : Card) where
  pub record Claimed : Type 0 where
    -- every triple of light is accepted, and has these words
    pub encodes : {n : ℕ} {y : System} {l : Lights} {a : Outcome Words} → Constant n y → Lit l → card.Encode n l a → Accepts a (WordsOf y l)
    -- words of video data are accepted, and have these codes; others are refused with 6
    pub decodes : {n : ℕ} {y : System} {w : Words} {a : Outcome Clipped} → Constant n y → words_within (video_data y) w ≡ true → card.Decode n w a → Accepts a (CodesOf y w)
    pub outside : {n : ℕ} {y : System} {w : Words} {a : Outcome Clipped} → Constant n y → words_within (video_data y) w ≡ false → card.Decode n w a → a ≡ refused 6
    -- of every triple of light R' and B' return within one code
    pub returns : {n : ℕ} {y : System} {l : Lights} {w : Words} {a : Outcome Clipped} → Constant n y → Lit l → card.Encode n l (accepted w) → card.Decode n w a → Accepts a (Returned y l)
    -- Y'c of a grey light is that light's own code, both differences are m, and the code returns
    pub greys : {n : ℕ} {y : System} {a : Outcome Words} → Constant n y → (k : ℕ) → k ≤ 65535 → card.Encode n (grey k) a → a ≡ accepted (grey_words (scale y) (code y k))
    pub greys_return : {n : ℕ} {y : System} {a : Outcome Clipped} → Constant n y → (k : ℕ) → k ≤ 65535 → card.Decode n (grey_words (scale y) (code y k)) a
        → a ≡ accepted (grey_codes (code y k))
    -- any other number is refused with 1, those of the other systems among them
    pub refuses_lights : {n : ℕ} {l : Lights} {a : Outcome Words} → (n ≡ 5 → ⊥) → (n ≡ 6 → ⊥) → card.Encode n l a → a ≡ refused 1
    pub refuses_words : {n : ℕ} {w : Words} {a : Outcome Clipped} → (n ≡ 5 → ⊥) → (n ≡ 6 → ⊥) → card.Decode n w a → a ≡ refused 1
    -- any call comes to something
    pub encoding : (n : ℕ) (l : Lights) → (a : Outcome Words) × card.Encode n l a
    pub decoding : (n : ℕ) (w : Words) → (a : Outcome Clipped) × card.Decode n w a
