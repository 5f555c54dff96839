-- Demand 3, as one claim about every list of calls on a card that does what the definitions say, and so of this crate's; and beside
-- it the bytes that a picture carries.
-- Assumes nothing.
use Prim.Native.Nat.{ℕ, ◌*◌, ◌≤◌}
use mathlib.Core.Path.{◌≡◌, refl, ap, sym, subst, ◌∙◌}
use mathlib.Core.Bool.{Bool, true, false}
use mathlib.Core.List.{List, [], ◌∷◌, ◌++◌}
use native.Mathlib.Omega.{arith}
use lib.Dec.{ltb, leb, eqb}
use lib.ListN.{length}
use lib.Seq.{take_at, drop_at}
use borrow.Author.Tests.{ltb-true}
use Rattle.exact.specs.Outcome as outcome
use Rattle.exact.specs.Outcome.{Outcome}
use Rattle.systems.specs.Systems.{number}
use Rattle.block.specs.Read.{header_of, slice_after}
use Rattle.block.specs.Block.{size}
use Rattle.row.specs.Row.{row_block}
use Rattle.row.proofs.Written.{length_row_block}
use Rattle.picture.specs.declared.Opened.{Opened}
use Rattle.picture.specs.declared.Phase.{Phase}
use Rattle.picture.specs.declared.Phase.TheVariants.{Fresh, Open, Closed}
use Rattle.picture.specs.declared.Picture.{Picture}
use Rattle.picture.specs.Picture.{at, around, total_bytes, opening, row_open, row_from, rowing, buffer_by, buffer_from, buffer_after, closing}
use Rattle.picture.specs.Book.{Call, opens, rows, closes, State, fresh, Answer, refused, Entry, accepts, enters, choose, answers_from, entries_from, sum_from}
use Rattle.picture.proofs.Agreement.{split}
use Rattle.picture.proofs.Calls.{Label, Card, Lent, Lights, Ran, ends, after_open, after_row, after_close, History}
use Rattle.picture.proofs.Card.{answer_of, label_of, Opens, by_open, Rows, by_row, Closes, by_close, Reads, by_read_block, Totals, by_total_bytes, card}
use Rattle.picture.proofs.Claims.{ReadsBack, Blocks, none, one, if_accepted, accepted_rows, Unchanged, state_of, state_from, Demanded, Counted, ProperAt, Proper}
use Rattle.picture.proofs.Faithful.{Follows, Faithful}
use Rattle.picture.proofs.Foretold.{close_foretold}
use Rattle.picture.proofs.Rows.{reads_back}
use Rattle.picture.proofs.Steps.{InStep, StepsTo, open_step, row_step, close_step}

-- ---- what a row leaves in its buffer

refused_leaves : (o : Opened) (lights out : List ℕ) (k : Outcome Phase) (n : ℕ) → answer_of k ≡ refused n → buffer_by k o lights out ≡ out
refused_leaves o lights out (outcome.accepted q) n e = cc
refused_leaves o lights out (outcome.refused m) n e = refl

row_leaves : (f : Phase) (lights out : List ℕ) (n : ℕ) → answer_of (row_from f lights (length out)) ≡ refused n → buffer_from f lights out ≡ out
row_leaves Fresh lights out n e = refl
row_leaves (Open o) lights out n e = refused_leaves o lights out (row_open o lights (length out)) n e
row_leaves Closed lights out n e = refl

abbrev entered : State → Call → List Entry
entered st c = choose (accepts st c) (enters st c) []

-- the buffer of a row, and the answer
abbrev lent : Phase → List ℕ → List ℕ → Lent
lent f lights out = record { answer = answer_of (row_from f lights (length out)); before = out; after = buffer_from f lights out }

row_keeps : {card : Card} → Faithful card → (f : Phase) (n : ℕ) (lights out : List ℕ) → ProperAt f n → Lights lights
    → Blocks card (if_accepted (lent f lights out).answer (lent f lights out)) (entered (state_of f) (rows lights (length out)))
unfolding row_open
row_keeps does Fresh n lights out g l = none
row_keeps {card} does (Open o) n lights out g l =
    split (ltb o.rows o.height)
    (λ a. split (eqb (length lights) (3 * o.width))
    (λ b. split (leb (size o.width) (length out))
    (λ c.
    let lt = ltb-true o.rows o.height a in
    let numbered : o.rows ≤ 4319 = omega (arith, g.height_to) in
    let long = length_row_block o.system o.rows o.width lights in
    let back = reads_back o.system o.rows o.width lights g.width_from g.width_to numbered does l in
    let entry : Entry = record { system = number o.system; width = o.width; row = o.rows; lights = lights } in
    let made : List ℕ = row_block o.system o.rows o.width lights in
    simp (a, b, c) (one {e = entry} (subst (λ (s : List ℕ). ReadsBack card s entry) (sym (take_at made _ _ long)) back) (drop_at made _ _ long) none))
    (λ c. simp (a, b, c) none))
    (λ b. simp (a, b) none))
    (λ a. simp a none)
row_keeps does Closed n lights out g l = none

-- ---- a call, then those that follow it

blocks_append : {card : Card} {ls ms : List Lent} {es fs : List Entry} → Blocks card ls es → Blocks card ms fs → Blocks card (ls ++ ms) (es ++ fs)
blocks_append none y = y
blocks_append (one r s x) y = one r s (blocks_append x y)

-- what the calls cs come to that lead from the picture p to q, which calls can reach
pub record After (card : Card) (p : Picture) (cs : List Call) (ans : List Answer) (ls : List Lent) (q : Picture) : Type 0 where
  pub demanded : Demanded card (state_of p.phase) cs ans ls (state_of q.phase)
  pub summed : q.bytes ≡ sum_from p.bytes (state_of p.phase) cs
  pub proper : Proper q

module _ {card : Card} {p p' q : Picture} {c : Call} {answer : Answer} {cs : List Call} {ans : List Answer} {ls : List Lent} (g : Proper p) (i : InStep p c answer p') where
  -- with the buffers ms in all
  then : {ms : List Lent} → Unchanged ms → Blocks card (accepted_rows ms) (entered (state_of p.phase) c ++ entries_from (state_of p'.phase) cs)
      → After card p' cs ans ls q → After card p (c ∷ cs) (answer ∷ ans) ms q
  unfolding answers_from entries_from state_from sum_from
  then u b k = record {
    demanded = record {
      answer = rw (← i.leads_on, ← i.same) (ap (λ (l : List Answer). answer ∷ l) k.demanded.answer);
      state = rw (← i.leads_on) k.demanded.state;
      unchanged = u;
      blocks = rw (← i.leads_on) b;
    };
    summed = rw (← i.leads_on, ← i.sums_on g) k.summed;
    proper = k.proper;
  }

  -- an open or a close: no buffer, no entry
  call_then : entered (state_of p.phase) c ≡ [] → After card p' cs ans ls q → After card p (c ∷ cs) (answer ∷ ans) ls q
  call_then e k = then k.demanded.unchanged (rw e k.demanded.blocks) k

  row_then : {l : Lent} → ((n : ℕ) → l.answer ≡ refused n → l.after ≡ l.before) → Blocks card (if_accepted l.answer l) (entered (state_of p.phase) c)
      → After card p' cs ans ls q → After card p (c ∷ cs) (answer ∷ ans) (l ∷ ls) q
  unfolding accepted_rows Unchanged
  row_then u b k = then (u, k.demanded.unchanged) (blocks_append b k.demanded.blocks) k

-- the step that a call made
pub in_step : {p p' : Picture} {o : Outcome Picture} {c : Call} {answer : Answer} → Follows p o answer p' → StepsTo p c o → InStep p c answer p'
in_step s t = rw (s.same, s.next) t

-- a call on a picture is answered as the one on its phase
answer_on_phase : (o : Outcome Phase) (b : ℕ) → answer_of (around o b) ≡ answer_of o
answer_on_phase (outcome.accepted f) b = refl
answer_on_phase (outcome.refused n) b = refl

chosen_same : {A : Type 0} (t : Bool) (a : A) → choose t a a ≡ a
chosen_same true a = refl
chosen_same false a = refl

-- ---- a list of calls

module _ {card : Card} (does : Faithful card) where
  abbrev at_picture : card.Picture → Picture
  at_picture k = does.picture k

  abbrev at_state : card.Picture → State
  at_state k = state_of (at_picture k).phase

  -- from any picture that calls can reach
  pub run : {k l : card.Picture} {cs : List Call} {ans : List Answer} {ls : List Lent} → Proper (at_picture k) → Ran card k cs ans ls l → After card (at_picture k) cs ans ls (at_picture l)
  unfolding answers_from entries_from state_from sum_from accepted_rows Unchanged
  run g ends = record { demanded = record { answer = refl; state = refl; unchanged = tt; blocks = none }; summed = refl; proper = g }
  run {k} g (after_open {n = n} {w = w} {h = h} call rest) =
      let i = in_step (does.opens call) (open_step (at_picture k) n w h) in
      call_then g i (chosen_same (accepts (at_state k) (opens n w h)) []) (run (i.stays g) rest)
  run {k} g (after_row {lights = lights} {out = out} {out' = out'} {answer = answer} lit call rest) =
      let f = (at_picture k).phase in
      let s = (does.rows call).0 in
      let left = (does.rows call).1 in
      let same = s.same ∙ answer_on_phase (row_from f lights (length out)) _ in
      let i = in_step s (row_step (at_picture k) lights (length out)) in
      let u : (n : ℕ) → answer ≡ refused n → out' ≡ out = rw (same, left) (row_leaves f lights out) in
      let b : Blocks card (if_accepted answer (record { answer = answer; before = out; after = out' })) (entered (at_state k) (rows lights (length out))) = rw (same, left) (row_keeps does f (at_picture k).bytes lights out g lit) in
      row_then g i u b (run (i.stays g) rest)
  run {k} g (after_close call rest) =
      let i = in_step (does.closes call) (close_step (at_picture k)) in
      call_then g i (chosen_same (accepts (at_state k) closes) []) (run (i.stays g) rest)

  pub from_fresh : {cs : List Call} {ans : List Answer} {ls : List Lent} {l : card.Picture} → History card cs ans ls l → After card (at Fresh 0) cs ans ls (at_picture l)
  from_fresh s =
      let new = does.news s.made in
      rw new at (run (rw new tt) s.ran)

  -- the bytes that a picture carries, wherever the calls began
  pub counted : {p : Picture} {cs : List Call} {ans : List Answer} {ls : List Lent} {l : card.Picture} → After card p cs ans ls (at_picture l) → Counted card p.bytes (state_of p.phase) cs l
  counted {l = l} k = record {
    summed = does.bytes l ∙ k.summed;
    foretold = λ {q'} call told.
        let i = in_step (does.closes call) (close_step (at_picture l)) in
        rw (does.bytes q' ∙ i.sums_on k.proper ∙ chosen_same (accepts (at_state l) closes) _)
        (does.totals told ∙ rw (← k.demanded.state) (close_foretold (at_picture l).phase _ k.proper (sym i.same)));
  }

-- ---- this crate's card

opens_so : {p p' : Picture} {n w h : ℕ} {answer : Answer} → Opens p n w h answer p' → Follows p (opening p n w h) answer p'
opens_so (by_open r _ _ _ _ post) = rw (← post) record { same = refl; next = refl }

rows_so : {p p' : Picture} {lights out out' : List ℕ} {answer : Answer} → Rows p lights out answer out' p' → Follows p (rowing p lights (length out)) answer p' × (out' ≡ buffer_after p lights out)
rows_so (by_row _ _ _ _ _ r _ post) = (rw (← post.0) record { same = refl; next = refl }, post.1)

closes_so : {p p' : Picture} {answer : Answer} → Closes p answer p' → Follows p (closing p) answer p'
closes_so (by_close r _ post) = rw (← post) record { same = refl; next = refl }

reads_so : {bytes slice left : List ℕ} {r : Outcome Label} → Reads bytes slice r left → (r ≡ label_of (header_of bytes (length slice))) × (left ≡ slice_after bytes slice)
reads_so (by_read_block _ _ _ _ _ r post) = (ap label_of post.0, post.1)

totals_so : {w h : ℕ} {r : Outcome ℕ} → Totals w h r → r ≡ total_bytes w h
totals_so (by_total_bytes r _ _ post) = post

pub faithful : Faithful card
faithful = record {
  picture = λ p. p;
  bytes = λ p. refl;
  news = λ made. made;
  opens = opens_so;
  rows = rows_so;
  closes = closes_so;
  reads = reads_so;
  totals = totals_so;
}

-- Demand 3.
pub demand_3 : {cs : List Call} {ans : List Answer} {ls : List Lent} {q : Picture} → History card cs ans ls q → Demanded card fresh cs ans ls (state_of q.phase)
unfolding faithful
demand_3 s = (from_fresh faithful s).demanded

-- Request 2026-06.
pub bytes_counted : {cs : List Call} {ans : List Answer} {ls : List Lent} {q : Picture} → History card cs ans ls q → Counted card 0 fresh cs q
unfolding faithful
bytes_counted s = counted faithful (from_fresh faithful s)

-- no list of calls reaches a picture but these
pub only_proper : {cs : List Call} {ans : List Answer} {ls : List Lent} {q : Picture} → History card cs ans ls q → Proper q
unfolding faithful
only_proper s = (from_fresh faithful s).proper
