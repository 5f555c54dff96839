-- The rows heard since the last accepted opening, and the reader that they leave.
-- Assumes nothing.
use Prim.Native.Nat.{ℕ, ◌+◌, ◌<◌}
use mathlib.Core.Path.{◌≡◌, refl, sym, ap, ◌∙◌}
use mathlib.Core.Bool.{true}
use mathlib.Core.List.{List, [], ◌∷◌, ◌++◌}
use native.Mathlib.Omega.{arith}
use lib.Dec.{eqb}
use lib.ListN.{length, length-append}
use borrow.Author.Tests.{eqb-true, eqb-false, eq-eqb, ne_eqb}
use Rattle.std.specs.Prelude.{Option, Some, None}
use Rattle.systems.specs.Systems.{number}
use Rattle.block.specs.declared.Header.{Header}
use Rattle.block.proofs.Told.{Row}
use Rattle.picture.proofs.Agreement.{split}
use Rattle.reader.specs.declared.Format.{Format}
use Rattle.reader.specs.declared.Progress.{Progress}
use Rattle.reader.specs.declared.Phase.{Phase}
use Rattle.reader.specs.declared.Phase.TheVariants.{Unopened, Reading, Complete}
use Rattle.reader.specs.Reader.{alike, after}
use Rattle.reader.proofs.Card.{is_complete}
use Rattle.reader.proofs.Claims.{Since, never, since, Numbered, InOrder, Holds}
use Rattle.reader.proofs.Steps.{same_format}

numbered_more : (n w i : ℕ) (ws : List Row) (r : Row) → Numbered n w i ws → r.row ≡ i + length ws → r.system ≡ n → r.samples ≡ w → Numbered n w i (ws ++ r ∷ [])
unfolding Numbered
numbered_more n w i [] r g row system samples = (omega arith, system, samples, tt)
numbered_more n w i (x ∷ ws) r g row system samples = (g.0, g.1, g.2, numbered_more n w (i + 1) ws r g.3 (omega arith) system samples)

-- the accepted rows, by the format that a reader has
abbrev pub Formatted : Option Format → List Row → Type 0
Formatted None ws = ws ≡ []
Formatted (Some f) ws = Numbered (number f.system) f.width 0 ws

pub record Under (p : Progress) (ws : List Row) : Type 0 where
  pub count : length ws ≡ p.next
  pub below : p.next < p.height
  pub rows : Formatted p.format ws

-- a reader's phase, and what was heard
pub data Tracks : Phase → Since → Type 0 where
  not_opened : Tracks Unopened never
  reading : {p : Progress} {ws : List Row} → Under p ws → Tracks (Reading p) (since p.height ws)
  whole : {h : ℕ} {ws : List Row} → InOrder ws → length ws ≡ h → Tracks Complete (since h ws)

-- the row that is told of a header
abbrev pub row_of : Header → Row
row_of h = record { system = number h.system; row = h.row; samples = h.samples; low = h.clips.low; high = h.clips.high }

one_more : (f : Option Format) (h : Header) (ws : List Row) → Formatted f ws → h.row ≡ length ws → alike f h.system h.samples ≡ true → Numbered (number h.system) h.samples 0 (ws ++ row_of h ∷ [])
unfolding Numbered
one_more None h ws none row e = rw none (row ∙ ap length none, refl, refl, tt)
one_more (Some f) h ws g row e =
    let same = same_format f h.system h.samples e in
    numbered_more _ _ 0 ws (row_of h) (rw (same.0, same.1) g) (omega arith) refl refl

pub row_tracks : (p : Progress) (h : Header) (ws : List Row) → Under p ws → h.row ≡ p.next → alike p.format h.system h.samples ≡ true
    → Tracks (after p h.system h.samples) (since p.height (ws ++ row_of h ∷ []))
row_tracks p h ws u row e =
    let long = length-append ws (row_of h ∷ []) in
    let rows = one_more p.format h ws u.rows (row ∙ sym u.count) e in
    split (eqb (p.next + 1) p.height)
    (λ t.
    let last : p.next + 1 ≡ p.height = eqb-true _ _ t in
    let all : length (ws ++ row_of h ∷ []) ≡ p.height = omega (arith, u.count, long) in
    simp t (whole (record { system = _; width = _; rows = rows }) all))
    (λ t.
    let more = eqb-false (p.next + 1) p.height t in
    simp t (reading {p = record { height = p.height; next = p.next + 1; format = Some (record { system = h.system; width = h.samples }) }} {ws = ws ++ row_of h ∷ []} (record {
      count = omega (arith, u.count, long);
      below = omega (arith, u.below);
      rows = rows;
    })))

pub tracks_holds : {f : Phase} {s : Since} → Tracks f s → Holds s (is_complete f)
unfolding Numbered
tracks_holds not_opened = refl
tracks_holds (reading {p} {ws} u) = record {
  in_order = of p.format u.rows;
  at_most = omega (arith, u.count, u.below);
  complete = sym (ne_eqb _ _ (λ (e : length ws ≡ p.height). omega (arith, u.count, u.below)));
}
  where
    of : (f : Option Format) → Formatted f ws → InOrder ws
    of None e = rw e (record { system = 0; width = 0; rows = tt })
    of (Some f) g = record { system = number f.system; width = f.width; rows = g }
tracks_holds (whole o e) = record { in_order = o; at_most = omega arith; complete = sym (eq-eqb _ _ e) }
