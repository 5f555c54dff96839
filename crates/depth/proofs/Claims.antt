-- What is claimed of changing the depth of blocks, whoever does it (request 2026-09).
-- Definitions only.
use Prim.Native.Nat.{ℕ, ◌*◌, ◌-◌, ◌≤◌, ◌<◌}
use mathlib.Core.Path.{◌≡◌}
use mathlib.Core.Logic.{◌⊎◌, ◌↔◌}
use mathlib.Core.List.{List}
use lib.ListN.{length, get_or, take, drop}
use Rattle.exact.specs.Outcome.{Outcome, accepted, refused}
use Rattle.exact.specs.Whole.{INT}
use Rattle.block.specs.Read.{sample_at}

-- what an accepted reading tells of a block
pub record Label : Type 0 where
  pub system : ℕ
  pub row : ℕ
  pub samples : ℕ

-- a card, by what its calls do: each stands between what it was given and what came of it
pub record Card : Type 1 where
  -- a change: the target, a block's bytes and a lent buffer; the answer, and the buffer as it was left
  pub Change : ℕ → List ℕ → List ℕ → Outcome (Unit {0}) → List ℕ → Type 0
  -- block reading: a block's bytes and a lent slice; what it tells
  pub Read : List ℕ → List ℕ → Outcome Label → Type 0

-- the two depths of a Recommendation: the system of the lesser, that of the greater, and the scale s of the lesser
pub data Depths : ℕ → ℕ → ℕ → Type 0 where
  bt709 : Depths 1 2 1
  bt2020 : Depths 3 4 4

-- a list of bytes, since a contract says nothing of the range of a slice's elements
abbrev pub Bytes : List ℕ → Type 0
Bytes bs = (i : ℕ) → get_or bs i 0 < 256

-- a word of a block of w samples is at least d
pub record AtLeast (d : ℕ) (bs : List ℕ) (w : ℕ) : Type 0 where
  pub sample : ℕ
  pub within : sample < w
  pub word : (d ≤ (sample_at bs w sample).y) ⊎ ((d ≤ (sample_at bs w sample).cb) ⊎ (d ≤ (sample_at bs w sample).cr))

-- every word of a block of w samples has become f of it
pub record Each (f : ℕ → ℕ) (bs new : List ℕ) (w : ℕ) : Type 0 where
  pub y : (i : ℕ) → i < w → (sample_at new w i).y ≡ f (sample_at bs w i).y
  pub cb : (i : ℕ) → i < w → (sample_at new w i).cb ≡ f (sample_at bs w i).cb
  pub cr : (i : ℕ) → i < w → (sample_at new w i).cr ≡ f (sample_at bs w i).cr

-- upward words are multiplied by 4, downward they are INT(word/4); there is no third way
pub data Went (l : Label) (t : ℕ) (bs new : List ℕ) : Type 0 where
  up : {s : ℕ} → Depths l.system t s → Each (λ w. 4 * w) bs new l.samples → Went l t bs new
  down : {s : ℕ} → Depths t l.system s → Each (λ w. INT w 4) bs new l.samples → Went l t bs new

module _ (card : Card) where
  -- reading with room for the codes accepts a block and tells l
  abbrev pub ReadsAs : List ℕ → Label → Type 0
  ReadsAs bs l = (slice : List ℕ) (r : Outcome Label) → 3 * l.samples ≤ length slice → card.Read bs slice r → r ≡ accepted l

  -- a block in the target t: one that reading accepts, as long as the first, with t's number and the same row number and count
  pub record Becomes (t : ℕ) (bs new : List ℕ) : Type 0 where
    pub label : Label
    pub was : ReadsAs bs label
    pub is : ReadsAs new (record { system = t; row = label.row; samples = label.samples })
    pub long : length new ≡ length bs
    pub words : Went label t bs new

  pub record Claimed : Type 0 where
    -- an accepted change leaves the new block at the front of the buffer, and the bytes beyond as they were; a refused one leaves all of them
    pub changes : {t : ℕ} {bs out left : List ℕ} → card.Change t bs out (accepted tt) left → Becomes t bs (take (length bs) left) × (drop (length bs) left ≡ drop (length bs) out)
    pub refuses : {t n : ℕ} {bs out left : List ℕ} → card.Change t bs out (refused n) left → left ≡ out
    -- up and then down gives the first bytes back, of every block that reading accepts and with any buffers that have room
    pub returns : {m n s : ℕ} {l : Label} {bs slice mid mid' out out' : List ℕ} {a b : Outcome (Unit {0})} → Depths m n s → Bytes bs
        → card.Read bs slice (accepted l) → l.system ≡ m → length bs ≤ length mid → length bs ≤ length out
        → card.Change n bs mid a mid' → card.Change m (take (length bs) mid') out b out'
        → (a ≡ accepted tt) × (b ≡ accepted tt) × (take (length bs) out' ≡ bs)
    -- upward 33 is never given, whatever the bytes are
    pub never_33 : {m n s : ℕ} {bs out left : List ℕ} → Depths m n s → card.Change n bs out (refused 33) left → ⊥
    -- downward it is given exactly where a word is at least 4·255s - 2, of blocks that reading accepts; where none is, and there is room, the block is accepted
    pub rejects : {m n s : ℕ} {l : Label} {bs slice out left : List ℕ} {a : Outcome (Unit {0})} → Depths m n s
        → card.Read bs slice (accepted l) → l.system ≡ n → card.Change m bs out a left
        → (a ≡ refused 33) ↔ AtLeast (4 * (255 * s) - 2) bs l.samples
    pub accepts : {m n s : ℕ} {l : Label} {bs slice out left : List ℕ} {a : Outcome (Unit {0})} → Depths m n s
        → card.Read bs slice (accepted l) → l.system ≡ n → (AtLeast (4 * (255 * s) - 2) bs l.samples → ⊥) → length bs ≤ length out
        → card.Change m bs out a left → a ≡ accepted tt
    -- any target, bytes and buffer come to something, and so does every reading
    pub happens : (t : ℕ) (bs out : List ℕ) → (a : Outcome (Unit {0})) × (left : List ℕ) × card.Change t bs out a left
    pub reading : (bs slice : List ℕ) → (r : Outcome Label) × card.Read bs slice r
