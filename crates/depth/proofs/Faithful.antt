-- Whoever does what the definitions say has the claim.
-- Assumes nothing.
use Prim.Native.Nat.{ℕ, ◌*◌, ◌-◌, ◌≤◌}
use mathlib.Core.Path.{◌≡◌, refl, sym, ap, subst, ◌∙◌}
use mathlib.Core.Bool.{Bool, true, false, false≢true}
use mathlib.Core.Logic.{◌↔◌}
use mathlib.Core.List.{List}
use native.Mathlib.Omega.{arith}
use lib.Dec.{leb}
use lib.ListN.{length, take, drop}
use lib.Seq.{take_at, drop_at}
use borrow.Author.Tests.{le-leb}
use Rattle.exact.specs.Outcome.{Outcome, accepted, refused, require}
use Rattle.exact.specs.Whole.{INT}
use Rattle.exact.proofs.Outcome.{accepted_first, required}
use Rattle.systems.specs.declared.System.{System}
use Rattle.systems.specs.Systems.{number, named}
use Rattle.systems.proofs.Scales.{named_number, only_its_number}
use Rattle.matrix.specs.declared.Words.{Words}
use Rattle.block.specs.declared.Header.{Header}
use Rattle.block.specs.declared.Judged.{Judged}
use Rattle.block.specs.Block.{size}
use Rattle.block.specs.Read.{judge, header, header_of}
use Rattle.block.proofs.Reading.{judged_sound, row_accepted}
use Rattle.depth.specs.Depth.{other_depth, no_timing_to, word_in, row_in, judge_for, block_in, changing, over, buffer_by, buffer_after, heard}
use Rattle.depth.proofs.Claims.{Label, Card, Depths, Bytes, AtLeast, Each, Went, up, down, Becomes, Claimed}
use Rattle.depth.proofs.Card.{label_of}
use Rattle.depth.proofs.Passing.{Pair, upward, downward, pair}
use Rattle.depth.proofs.Changing.{For, judged_for, by_room, no_block}
use Rattle.depth.proofs.NewBlock.{new_length, new_samples, new_judged}
use Rattle.depth.proofs.Numbers.{Below, refusing, judge_below}
use Rattle.depth.proofs.BothWays.{Two, two, only_lesser, same_system, up_judged, down_judged, some_high, high_refused, back_judged, block_back}

-- a card that does what the definitions say, and whose calls always come to something
pub record Faithful (card : Card) : Type 0 where
  pub changes : {t : ℕ} {bs out left : List ℕ} {a : Outcome (Unit {0})} → card.Change t bs out a left
      → (a ≡ heard (changing t bs (length out))) × (left ≡ buffer_after t bs out)
  pub reads : {bs slice : List ℕ} {r : Outcome Label} → card.Read bs slice r → r ≡ label_of (header_of bs (length slice))
  pub happens : (t : ℕ) (bs out : List ℕ) → (a : Outcome (Unit {0})) × (left : List ℕ) × card.Change t bs out a left
  pub reading : (bs slice : List ℕ) → (r : Outcome Label) × card.Read bs slice r

-- ---- readings

abbrev label_for : Judged → Label
label_for b = record { system = number b.system; row = b.row; samples = b.samples }

judged_read : (bs : List ℕ) (room : ℕ) (b : Judged) → judge bs ≡ accepted b → 3 * b.samples ≤ room → label_of (header_of bs room) ≡ accepted (label_for b)
judged_read bs room b e h = ap label_of (row_accepted bs room b e h)

-- a block that a reading accepted was judged so
record Accepted (bs : List ℕ) (l : Label) : Type 0 where
  block : Judged
  judged : judge bs ≡ accepted block
  label : label_for block ≡ l

read_accepted : (bs : List ℕ) (room : ℕ) (l : Label) → accepted l ≡ label_of (header_of bs room) → Accepted bs l
unfolding header_of
read_accepted bs room l e = go (header_of bs room) refl e
  where
    go : (o : Outcome Header) → header_of bs room ≡ o → accepted l ≡ label_of o → Accepted bs l
    go (accepted h) f p =
        let judged = accepted_first (judge bs) _ h f in
        let b = judged.0 in
        let ends = required (leb (3 * b.samples) room) 5 (header b bs) h judged.2 in
        let told : accepted (label_for b) ≡ label_of (accepted h) = ap (λ (x : Header). label_of (accepted x)) ends.1 in
        record { block = b; judged = judged.1; label = let q = told ∙ sym p in cc }
    go (refused n) f p = let z : ◌≡◌ {A = ℕ} 0 1 = cc in absurd (omega arith)

-- ---- accepted changes

record Came (t : ℕ) (bs out left : List ℕ) : Type 0 where
  to : System
  block : Judged
  known : named t ≡ accepted to
  for : For to bs block
  left_is : left ≡ over (block_in to block bs) out

came : (t : ℕ) (bs out left : List ℕ) → accepted tt ≡ heard (changing t bs (length out)) → left ≡ buffer_after t bs out → Came t bs out left
unfolding changing
came t bs out left e l = go (changing t bs (length out)) refl e
  where
    go : (o : Outcome (List ℕ)) → changing t bs (length out) ≡ o → accepted tt ≡ heard o → Came t bs out left
    go (accepted p) f q =
        let target = accepted_first (named t) _ p f in
        let z = target.0 in
        let judged = accepted_first (judge_for z bs) _ p target.2 in
        let b = judged.0 in
        let ends = required (leb (size b.samples) (length out)) 5 (block_in z b bs) p judged.2 in
        record {
          to = z;
          block = b;
          known = target.1;
          for = judged_for z bs b judged.1;
          left_is = l ∙ ap (λ (o : Outcome (List ℕ)). buffer_by o out) f ∙ ap (λ (p : List ℕ). over p out) (sym ends.1);
        }
    go (refused n) f q = let z : ◌≡◌ {A = ℕ} 0 1 = cc in absurd (omega arith)

module _ {t : ℕ} {bs out left : List ℕ} (c : Came t bs out left) where
  abbrev z : System
  z = c.to

  abbrev b : Judged
  b = c.block

  abbrev new : List ℕ
  new = block_in c.to c.block bs

  long : length new ≡ length bs
  long = new_length z bs b c.for ∙ sym (judged_sound bs b c.for.judged).shape.size

  front : take (length bs) left ≡ new
  front = ap (take (length bs)) c.left_is ∙ take_at new (drop (length new) out) (length bs) long

  beyond : drop (length bs) left ≡ drop (length bs) out
  beyond = ap (drop (length bs)) c.left_is ∙ drop_at new (drop (length new) out) (length bs) long ∙ ap (λ (n : ℕ). drop n out) long

  each : (f : ℕ → ℕ) → ((w : ℕ) → word_in b.system z w ≡ f w) → Each f bs new b.samples
  each f e = record {
    y = λ i h. ap (λ (x : Words). x.y) (new_samples z bs b c.for i h) ∙ e _;
    cb = λ i h. ap (λ (x : Words). x.cb) (new_samples z bs b c.for i h) ∙ e _;
    cr = λ i h. ap (λ (x : Words). x.cr) (new_samples z bs b c.for i h) ∙ e _;
  }

  went : Pair b.system z → Went (label_for b) (number z) bs new
  went (upward d r e) = up d (each (λ w. 4 * w) (λ w. rw r refl))
  went (downward d r e) = down d (each (λ w. INT w 4) (λ w. rw r refl))

refused_stays : (o : Outcome (List ℕ)) (n : ℕ) (out : List ℕ) → refused n ≡ heard o → buffer_by o out ≡ out
refused_stays (accepted p) n out e = let z : ◌≡◌ {A = ℕ} 0 1 = cc in absurd (omega arith)
refused_stays (refused k) n out e = refl

-- refusals of different numbers are not the same
unlike : {A : Type 0} (j k : ℕ) → (j ≡ k → ⊥) → ◌≡◌ {A = Outcome A} (refused j) (refused k) → ⊥
unlike j k h e = h (cc)

not_refused : (t : Bool) (p : List ℕ) → refused 33 ≡ heard (require t 5 (accepted p)) → ⊥
not_refused true p e = let z : ◌≡◌ {A = ℕ} 0 1 = cc in omega arith
not_refused false p e = unlike 33 5 (λ h. omega arith) e

module _ {card : Card} (f : Faithful card) where
  -- a change whose block was judged for the target, where there is room
  accepted_change : {t : ℕ} {bs out left : List ℕ} {a : Outcome (Unit {0})} (z : System) (b : Judged) → card.Change t bs out a left
      → named t ≡ accepted z → judge_for z bs ≡ accepted b → size b.samples ≤ length out → (a ≡ accepted tt) × (left ≡ over (block_in z b bs) out)
  accepted_change {t} {bs} {out} z b c known judged h =
      let is : changing t bs (length out) ≡ accepted (block_in z b bs) = by_room t bs (length out) z known b judged ∙ rw (le-leb (size b.samples) (length out) h) refl in
      ((f.changes c).0 ∙ ap heard is, (f.changes c).1 ∙ ap (λ (o : Outcome (List ℕ)). buffer_by o out) is)

  changes_so : {t : ℕ} {bs out left : List ℕ} → card.Change t bs out (accepted tt) left → Becomes card t bs (take (length bs) left) × (drop (length bs) left ≡ drop (length bs) out)
  changes_so {t} {bs} {out} {left} call =
      let c = came t bs out left (f.changes call).0 (f.changes call).1 in
      let z = c.to in
      let b = c.block in
      let new = block_in z b bs in
      let made : Becomes card (number z) bs new =
      record {
        label = label_for b;
        was = λ slice r h rd. f.reads rd ∙ judged_read bs (length slice) b c.for.judged h;
        is = λ slice r h rd. f.reads rd ∙ judged_read new (length slice) (record { system = z; row = b.row; samples = b.samples }) (new_judged z bs b c.for) h;
        long = long c;
        words = went c (pair b.system z c.for.other);
      } in
      let named_so : Becomes card t bs new = subst (λ (k : ℕ). Becomes card k bs new) (sym (only_its_number t z c.known)) made in
      (subst (Becomes card t bs) (sym (front c)) named_so, beyond c)

  refuses_so : {t n : ℕ} {bs out left : List ℕ} → card.Change t bs out (refused n) left → left ≡ out
  refuses_so {t} {n} {bs} {out} call = (f.changes call).1 ∙ refused_stays (changing t bs (length out)) n out (f.changes call).0

  module _ {m n s : ℕ} (d : Depths m n s) where
    abbrev t : Two m n s
    t = two d

    to_greater : named n ≡ accepted t.greater
    to_greater = ap named (sym t.greater_number) ∙ named_number t.greater

    to_lesser : named m ≡ accepted t.lesser
    to_lesser = ap named (sym t.lesser_number) ∙ named_number t.lesser

    returns_so : {l : Label} {bs slice mid mid' out out' : List ℕ} {a b : Outcome (Unit {0})} → Bytes bs
        → card.Read bs slice (accepted l) → l.system ≡ m → length bs ≤ length mid → length bs ≤ length out
        → card.Change n bs mid a mid' → card.Change m (take (length bs) mid') out b out'
        → (a ≡ accepted tt) × (b ≡ accepted tt) × (take (length bs) out' ≡ bs)
    returns_so {l} {bs} {slice} {mid} {mid'} {out} {out'} {a} {b} all read system Room-mid room_out there back =
        let r = read_accepted bs (length slice) l (f.reads read) in
        let k = r.block in
        let e = r.judged in
        let is : k.system ≡ t.lesser = same_system k.system t.lesser (ap (λ (x : Label). x.system) r.label ∙ system ∙ sym t.lesser_number) in
        let sized = (judged_sound bs k e).shape.size in
        let for-up = up_judged t bs k e is in
        let new = block_in t.greater k bs in
        let above : Judged = record { system = t.greater; row = k.row; samples = k.samples } in
        let went_up = accepted_change t.greater k there to_greater for-up (omega arith) in
        let new_long : length new ≡ length bs = new_length t.greater bs k (judged_for t.greater bs k for-up) ∙ sym sized in
        let first : take (length bs) mid' ≡ new = ap (take (length bs)) went_up.1 ∙ take_at new (drop (length new) mid) (length bs) new_long in
        let went_down = accepted_change t.lesser above back to_lesser (ap (judge_for t.lesser) first ∙ back_judged t bs k e is) (omega arith) in
        let again : out' ≡ over bs out = went_down.1 ∙ ap (λ (x : List ℕ). over (block_in t.lesser above x) out) first ∙ ap (λ (p : List ℕ). over p out) (block_back t bs k e is all) in
        (went_up.0, went_down.0, ap (take (length bs)) again ∙ take_at bs (drop (length bs) out) (length bs) refl)

    never_33_so : {bs out left : List ℕ} → card.Change n bs out (refused 33) left → ⊥
    unfolding judge_for
    never_33_so {bs} {out} call = go (judge bs) refl (judge_below bs)
      where
        heard_33 : refused 33 ≡ heard (changing n bs (length out))
        heard_33 = (f.changes call).0

        by_depth : (b : Judged) → judge bs ≡ accepted b → (o : Bool) → other_depth b.system t.greater ≡ o → ⊥
        by_depth b e true p =
            not_refused (leb (size b.samples) (length out)) (block_in t.greater b bs) (heard_33 ∙ ap heard (by_room n bs (length out) t.greater to_greater b (up_judged t bs b e (only_lesser d b.system p))))
        by_depth b e false p =
            let refuses : judge_for t.greater bs ≡ refused 32 = rw (e, p) refl in
            unlike 33 32 (λ h. omega arith) (heard_33 ∙ ap heard (no_block n bs (length out) t.greater to_greater 32 refuses))

        go : (o : Outcome Judged) → judge bs ≡ o → Below o → ⊥
        go (accepted b) e w = by_depth b e (other_depth b.system t.greater) refl
        go (refused k) e (refusing _ h) =
            let refuses : judge_for t.greater bs ≡ refused k = rw e refl in
            unlike 33 k (λ q. omega arith) (heard_33 ∙ ap heard (no_block n bs (length out) t.greater to_greater k refuses))

    -- a block of the greater depth that reading accepts, by whether a result is a timing code
    module _ {l : Label} {bs slice out left : List ℕ} {a : Outcome (Unit {0})} (read : card.Read bs slice (accepted l)) (system : l.system ≡ n) (call : card.Change m bs out a left) where
      abbrev r : Accepted bs l
      r = read_accepted bs (length slice) l (f.reads read)

      abbrev k : Judged
      k = r.block

      is : k.system ≡ t.greater
      is = same_system k.system t.greater (ap (λ (x : Label). x.system) r.label ∙ system ∙ sym t.greater_number)

      width : k.samples ≡ l.samples
      width = ap (λ (x : Label). x.samples) r.label

      abbrev clear : Bool
      clear = no_timing_to t.lesser (row_in t.lesser k bs) k.samples

      judged_by : (c : Bool) → clear ≡ c → judge_for t.lesser bs ≡ require c 33 (accepted k)
      judged_by c e = down_judged t bs k r.judged is ∙ ap (λ (c : Bool). require c 33 (accepted k)) e

      high_so : clear ≡ false → AtLeast (4 * (255 * s) - 2) bs l.samples
      high_so e = rw (← width) (some_high t bs k r.judged is e)

      rejects_so : (a ≡ refused 33) ↔ AtLeast (4 * (255 * s) - 2) bs l.samples
      rejects_so = go clear refl
        where
          go : (c : Bool) → clear ≡ c → (a ≡ refused 33) ↔ AtLeast (4 * (255 * s) - 2) bs l.samples
          go true e = (
            (λ p. absurd (not_refused (leb (size k.samples) (length out)) (block_in t.lesser k bs) (sym p ∙ (f.changes call).0 ∙ ap heard (by_room m bs (length out) t.lesser to_lesser k (judged_by true e))))),
            (λ high. absurd (false≢true (sym (high_refused t bs k r.judged is (rw (← width) at high)) ∙ e))),
          )
          go false e = (
            (λ p. high_so e),
            (λ high. (f.changes call).0 ∙ ap heard (no_block m bs (length out) t.lesser to_lesser 33 (judged_by false e))),
          )

      accepts_so : (AtLeast (4 * (255 * s) - 2) bs l.samples → ⊥) → length bs ≤ length out → a ≡ accepted tt
      accepts_so none room = go clear refl
        where
          go : (c : Bool) → clear ≡ c → a ≡ accepted tt
          go true e = (accepted_change t.lesser k call to_lesser (judged_by true e) (omega (arith, (judged_sound bs k r.judged).shape.size))).0
          go false e = absurd (none (high_so e))

  pub claimed : Claimed card
  claimed = record {
    changes = changes_so;
    refuses = refuses_so;
    returns = λ d. returns_so d;
    never_33 = λ d. never_33_so d;
    rejects = λ d read system call. rejects_so d read system call;
    accepts = λ d read system none room call. accepts_so d read system call none room;
    happens = f.happens;
    reading = f.reading;
  }
