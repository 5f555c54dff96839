-- Every list of calls has a history, whatever the lent buffers hold, so that demand 3 speaks of all of them.
-- Assumes nothing.
use Prim.Native.Nat.{ℕ}
use mathlib.Core.Path.{◌≡◌, refl, ap}
use mathlib.Core.List.{List, [], ◌∷◌, map}
use lib.ListN.{length}
use Rattle.exact.specs.Outcome.{Outcome}
use Rattle.exact.proofs.Lending.{lend, lend_mut, lifetimes}
use Rattle.systems.proofs.Answerable.{answer_for}
use Rattle.block.specs.Read.{slice_after}
use Rattle.block.proofs.Answerable.{reading_answerable}
use Rattle.picture.specs.declared.Phase.TheVariants.{Fresh}
use Rattle.picture.specs.Picture.{at, with_block, buffer_after}
use Rattle.picture.specs.Book.{Call, opens, rows, closes, Answer}
use Rattle.picture.proofs.Calls.{Label, Card, Lent, Lights, Ran, ends, after_open, after_row, after_close, History}
use Rattle.picture.proofs.Card.{by_open, by_row, by_close, by_read_block, by_total_bytes, card}
use Rattle.picture.proofs.Answerable.{around_answerable, open_answerable, row_answerable, close_answerable, total_answerable}

-- every call on a card comes to something, whatever it is given
pub record Answering (card : Card) : Type 0 where
  pub news : (p : card.Picture) × card.New p
  pub opens : (p : card.Picture) (n w h : ℕ) → (answer : Answer) × (p' : card.Picture) × card.Open p n w h answer p'
  pub rows : (p : card.Picture) (lights out : List ℕ) → (answer : Answer) × (out' : List ℕ) × (p' : card.Picture) × card.Row p lights out answer out' p'
  pub closes : (p : card.Picture) → (answer : Answer) × (p' : card.Picture) × card.Close p answer p'
  pub reads : (bytes slice : List ℕ) → (r : Outcome Label) × (left : List ℕ) × card.Read bytes slice r left
  pub totals : (w h : ℕ) → (r : Outcome ℕ) × card.Total w h r

-- the buffers bs can be lent to the rows of the calls cs: each has the length that its call says, and the row's lights are 16-bit words
pub data Lends : List Call → List (List ℕ) → Type 0 where
  none : Lends [] []
  at_open : {n w h : ℕ} {cs : List Call} {bs : List (List ℕ)} → Lends cs bs → Lends (opens n w h ∷ cs) bs
  at_row : {lights out : List ℕ} {cs : List Call} {bs : List (List ℕ)} → Lights lights → Lends cs bs → Lends (rows lights (length out) ∷ cs) (out ∷ bs)
  at_close : {cs : List Call} {bs : List (List ℕ)} → Lends cs bs → Lends (closes ∷ cs) bs

abbrev pub before : List Lent → List (List ℕ)
before ls = map (λ (l : Lent). l.before) ls

-- a history of the calls cs with the buffers bs
pub record Happens (card : Card) (cs : List Call) (bs : List (List ℕ)) : Type 0 where
  pub ans : List Answer
  pub ls : List Lent
  pub q : card.Picture
  pub history : History card cs ans ls q
  pub lent : before ls ≡ bs

module _ {card : Card} (calls : Answering card) where
  -- from any picture
  pub record Runs (p : card.Picture) (cs : List Call) (bs : List (List ℕ)) : Type 0 where
    pub ans : List Answer
    pub ls : List Lent
    pub q : card.Picture
    pub ran : Ran card p cs ans ls q
    pub lent : before ls ≡ bs

  pub runs : {cs : List Call} {bs : List (List ℕ)} → Lends cs bs → (p : card.Picture) → Runs p cs bs
  runs none p = record { ans = []; ls = []; q = p; ran = ends; lent = refl }
  runs (at_open {n = n} {w = w} {h = h} rest) p =
      let a = calls.opens p n w h in
      let k = runs rest a.1 in
      record { ans = a.0 ∷ k.ans; ls = k.ls; q = k.q; ran = after_open a.2 k.ran; lent = k.lent }
  runs (at_row {lights = lights} {out = out} lit rest) p =
      let a = calls.rows p lights out in
      let k = runs rest a.2 in
      record {
        ans = a.0 ∷ k.ans;
        ls = record { answer = a.0; before = out; after = a.1 } ∷ k.ls;
        q = k.q;
        ran = after_row lit a.3 k.ran;
        lent = ap (λ (bs : List (List ℕ)). out ∷ bs) k.lent;
      }
  runs (at_close rest) p =
      let a = calls.closes p in
      let k = runs rest a.1 in
      record { ans = a.0 ∷ k.ans; ls = k.ls; q = k.q; ran = after_close a.2 k.ran; lent = k.lent }

  pub every_list_happens : {cs : List Call} {bs : List (List ℕ)} → Lends cs bs → Happens card cs bs
  every_list_happens b =
      let k = runs b calls.news.0 in
      record { ans = k.ans; ls = k.ls; q = k.q; history = record { start = calls.news.0; made = calls.news.1; ran = k.ran }; lent = k.lent }

-- ---- this crate's card

pub answering : Answering card
answering = record {
  news = (at Fresh 0, refl);
  opens = λ p n w h. let a = answer_for (around_answerable (open_answerable p.phase n w h) 0) in (_, _, by_open a.0 p n w h a.1);
  rows = λ p lights out.
      let a = answer_for (around_answerable (row_answerable p.phase lights (length out)) (with_block p.phase p.bytes)) in
      (_, _, _, by_row lifetimes (lend lights) (lend_mut out) (lend lights) (lend_mut (buffer_after p lights out)) a.0 p (a.1, refl));
  closes = λ p. let a = answer_for (around_answerable (close_answerable p.phase) p.bytes) in (_, _, by_close a.0 p a.1);
  reads = λ bytes slice.
      let a = answer_for (reading_answerable bytes (length slice)) in
      (_, _, by_read_block lifetimes (lend bytes) (lend_mut slice) (lend bytes) (lend_mut (slice_after bytes slice)) a.0 (a.1, refl));
  totals = λ w h. let a = answer_for (total_answerable w h) in (_, by_total_bytes a.0 w h a.1);
}
