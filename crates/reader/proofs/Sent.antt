-- The blocks of a picture that was opened, sent and closed: as many as its height, numbered from 0, of its system and width.
-- Assumes nothing.
use Prim.Native.Nat.{ℕ, ◌+◌}
use mathlib.Core.Path.{◌≡◌, refl, subst, ◌∙◌}
use mathlib.Core.Bool.{Bool, true, ◌&&◌}
use mathlib.Core.List.{List, [], ◌∷◌}
use native.Mathlib.Omega.{arith}
use lib.Dec.{eqb}
use lib.ListN.{length}
use borrow.Author.Tests.{eqb-true}
use Rattle.exact.proofs.Boolean.{each_of_three}
use Rattle.picture.specs.Book.{Call, opens, rows, closes, State, fresh, opened, closed, Sheet, Entry, Answer, accepted, among, in_ranges, accepts, next, entries_from}
use Rattle.picture.proofs.Agreement.{split, Agree, both_accept, both_refuse, accepts_unless_a_condition_holds}
use Rattle.picture.proofs.Calls.{Card, Lent}
use Rattle.picture.proofs.Claims.{Blocks, accepted_rows, state_of, state_from, NoOpening}
use Rattle.picture.proofs.Demand.{in_step, run, from_fresh}
use Rattle.picture.proofs.Faithful.{Faithful}
use Rattle.picture.proofs.Histories.{Lends, Answering, every_list_happens, runs}
use Rattle.picture.proofs.Steps.{open_step, close_step}
use Rattle.reader.proofs.Claims.{begins, Sent, entries_of, Sends, SentWith}

-- entries of the system n and width w, numbered i and so on
unfoldable pub Entered : ℕ → ℕ → ℕ → List Entry → Type 0
Entered n w i [] = Unit {0}
Entered n w i (e ∷ es) = (e.system ≡ n) × (e.width ≡ w) × (e.row ≡ i) × Entered n w (i + 1) es

-- ---- the row book from an accepted open to an accepted close

closed_stays : (cs : List Call) → NoOpening closed cs → state_from closed cs ≡ closed
unfolding NoOpening state_from
closed_stays [] none = refl
closed_stays (opens n w h ∷ cs) none = simp none.0 (closed_stays cs (simp none.0 at none.1))
closed_stays (rows lights room ∷ cs) none = closed_stays cs none.1
closed_stays (closes ∷ cs) none = closed_stays cs none.1

record All (s : Sheet) (es : List Entry) : Type 0 where
  entered : Entered s.system s.width s.count es
  count : s.count + length es ≡ s.height

entries_all : (s : Sheet) (cs : List Call) → NoOpening (opened s) cs → accepts (state_from (opened s) cs) closes ≡ true → All s (entries_from (opened s) cs)
unfolding NoOpening state_from entries_from Entered
entries_all s [] none e = record { entered = tt; count = let full = eqb-true s.count s.height e in omega arith }
entries_all s (opens n w h ∷ cs) none e = entries_all s cs none.1 e
entries_all s (rows lights room ∷ cs) none e =
    split (accepts (opened s) (rows lights room))
    (λ t.
    let more : Sheet = record { system = s.system; width = s.width; height = s.height; count = s.count + 1 } in
    let rest = entries_all more cs (simp t at none.1) (simp t at e) in
    simp t (record { entered = (refl, refl, refl, rest.entered); count = omega (arith, rest.count) }))
    (λ t. simp t (entries_all s cs (simp t at none.1) (simp t at e)))
entries_all s (closes ∷ cs) none e =
    split (eqb s.count s.height)
    (λ t. let no = rw (closed_stays cs (simp t at none.1)) at (simp t at e) in cc)
    (λ t. simp t (entries_all s cs (simp t at none.1) (simp t at e)))

-- what is accepted, the book accepts
book_accepts : {t : Bool} {a : Answer} → Agree t a → accepted ≡ a → t ≡ true
book_accepts both_accept e = refl
book_accepts (both_refuse n) e = cc

tall_enough : (n w h : ℕ) → in_ranges n w h ≡ true → among 1 4320 h ≡ true
tall_enough n w h e = (each_of_three true (among 1 7680 w) (among 1 4320 h) (each_of_three true (among 1 4 n) (among 1 7680 w && among 1 4320 h) e).2).2

opens_to : (st : State) (n w h : ℕ) → accepts st (opens n w h) ≡ true → (next st (opens n w h) ≡ begins n w h) × (among 1 4320 h ≡ true)
opens_to fresh n w h e = (rw e, tall_enough n w h e)
opens_to (opened s) n w h e = cc
opens_to closed n w h e = (rw e, tall_enough n w h e)

-- ---- the calls

pub record Whole (card : Card) (n w h : ℕ) (ls : List Lent) (es : List Entry) : Type 0 where
  pub tall : among 1 4320 h ≡ true
  pub blocks : Blocks card (accepted_rows ls) es
  pub entered : Entered n w 0 es
  pub count : length es ≡ h

pub sent_whole : {card : Card} {n w h : ℕ} {cs : List Call} {ls : List Lent} → Faithful card → Sent card n w h cs ls → Whole card n w h ls (entries_of n w h cs)
sent_whole {card} {n} {w} {h} {cs} {ls} does s =
    let begun = does.picture s.begun in
    let full = does.picture s.full in
    let first = from_fresh does s.history in
    let opening = in_step (does.opens s.opens) (open_step begun n w h) in
    let to = opens_to (state_of begun.phase) n w h (book_accepts (accepts_unless_a_condition_holds (state_of begun.phase) (opens n w h)) opening.same) in
    let sent = (run does (opening.stays first.proper) s.ran).demanded in
    let at_open = opening.leads_on ∙ to.0 in
    let closing = in_step (does.closes s.closes) (close_step full) in
    let last = book_accepts (accepts_unless_a_condition_holds (state_of full.phase) closes) closing.same in
    let all = entries_all (record { system = n; width = w; height = h; count = 0 }) cs s.alone (rw (sent.state, at_open) at last) in
    record { tall = to.1; blocks = rw at_open at sent.blocks; entered = all.entered; count = omega (arith, all.count) }

-- ---- every list of calls that the book has as a whole picture is sent so

book_accepted : {t : Bool} {a : Answer} → Agree t a → t ≡ true → a ≡ accepted
book_accepted both_accept e = refl
book_accepted (both_refuse n) e = cc

pub sent_with : {card : Card} {former : List Call} {n w h : ℕ} {cs : List Call} {bs bs' : List (List ℕ)} → Faithful card → Answering card → Sends former n w h cs → Lends former bs → Lends cs bs'
    → SentWith card n w h cs bs'
sent_with {card} {former} {n} {w} {h} {cs} does calls s lends lends' =
    let first = every_list_happens calls lends in
    let begun = does.picture first.q in
    let fresh-on = from_fresh does first.history in
    let asked = calls.opens first.q n w h in
    let opening = in_step (does.opens asked.2) (open_step begun n w h) in
    let may = rw (← fresh-on.demanded.state) at s.opens in
    let open-heard = opening.same ∙ book_accepted (accepts_unless_a_condition_holds (state_of begun.phase) (opens n w h)) may in
    let at_open = opening.leads_on ∙ (opens_to (state_of begun.phase) n w h may).0 in
    let made = runs calls lends' asked.1 in
    let sent = (run does (opening.stays fresh-on.proper) made.ran).demanded in
    let full = does.picture made.q in
    let shut = calls.closes made.q in
    let closing = in_step (does.closes shut.2) (close_step full) in
    let closes_at : accepts (state_of full.phase) closes ≡ true = rw (sent.state, at_open) s.closes in
    let close-heard = closing.same ∙ book_accepted (accepts_unless_a_condition_holds (state_of full.phase) closes) closes_at in
    record {
      ls = made.ls;
      sent = record {
        former = former;
        former_answers = first.ans;
        former_buffers = first.ls;
        begun = first.q;
        history = first.history;
        empty = asked.1;
        opens = subst (λ (a : Answer). card.Open first.q n w h a asked.1) open-heard asked.2;
        answers = made.ans;
        full = made.q;
        ran = made.ran;
        alone = s.alone;
        closed = shut.1;
        closes = subst (λ (a : Answer). card.Close made.q a shut.1) close-heard shut.2;
      };
      lent = made.lent;
    }
