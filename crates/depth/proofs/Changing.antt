-- What a block that was judged for a target becomes.
-- Assumes nothing.
use Prim.Native.Nat.{ℕ, ◌+◌, ◌*◌}
use native.Mathlib.Nat.{le_refl}
use mathlib.Core.Path.{◌≡◌, ap, ◌∙◌}
use mathlib.Core.Bool.{true}
use mathlib.Core.List.{List}
use lib.Dec.{leb}
use Rattle.exact.specs.Outcome.{accepted, refused, require}
use Rattle.exact.proofs.Outcome.{accepted_first, required}
use Rattle.systems.specs.declared.System.{System}
use Rattle.systems.specs.Systems.{named}
use Rattle.block.specs.declared.Judged.{Judged}
use Rattle.block.specs.Block.{section, size, tabulate}
use Rattle.block.specs.Read.{field_at, judge}
use Rattle.block.specs.Inner.{Decodable}
use Rattle.block.proofs.Walking.{passed}
use Rattle.block.proofs.Reading.{decodable}
use Rattle.depth.specs.declared.Way.{Way}
use Rattle.depth.specs.Depth.{other_depth, word_in, no_timing_to, row_in, judge_for, block_in, changing}
use Rattle.depth.specs.Inner.{way_to, word_by, words_by, over_at}
use Rattle.depth.proofs.Passing.{by_way}

-- a section's words, by the way that the code takes
section_words : (y z : System) (bs : List ℕ) (at k n : ℕ) → at + 2 ≡ k → words_by (way_to y z) bs (at + 2) n ≡ tabulate (λ i. word_in y z (field_at bs (k + 2 * i))) n
section_words y z bs at k n e =
    λ j. tabulate (λ i. (ap (λ (m : ℕ). word_by (way_to y z) (field_at bs (m + 2 * i))) e ∙ by_way y z (field_at bs (k + 2 * i))) j) n

-- a section that went the way from y to z has the words of z
pub section_in : (y z : System) (bs d d' : List ℕ) (at k n : ℕ) (v : Way) → v ≡ way_to y z → at + 2 ≡ k → d' ≡ over_at at (section (words_by v bs (at + 2) n)) d
    → d' ≡ over_at at (section (tabulate (λ i. word_in y z (field_at bs (k + 2 * i))) n)) d
section_in y z bs d d' at k n v way e put =
    put ∙ ap (λ (v : Way). over_at at (section (words_by v bs (at + 2) n)) d) way ∙ ap (λ (ws : List ℕ). over_at at (section ws) d) (section_words y z bs at k n e)

-- what a block that was judged for z has shown
pub record For (z : System) (bs : List ℕ) (b : Judged) : Type 0 where
  pub judged : judge bs ≡ accepted b
  pub other : other_depth b.system z ≡ true
  pub no_timing_lem : no_timing_to z (row_in z b bs) b.samples ≡ true

pub judged_for : (z : System) (bs : List ℕ) (b : Judged) → judge_for z bs ≡ accepted b → For z bs b
unfolding judge_for
judged_for z bs b e =
    let judged = accepted_first (judge bs) _ b e in
    let a = judged.0 in
    let other = passed (other_depth a.system z) 32 _ b judged.2 in
    let timing = required (no_timing_to z (row_in z a bs) a.samples) 33 a b other.1 in
    rw (← timing.1) record { judged = judged.1; other = other.0; no_timing_lem = timing.0 }

pub for_decodable : (z : System) (bs : List ℕ) (b : Judged) → judge_for z bs ≡ accepted b → Decodable bs b.samples (3 * b.samples)
for_decodable z bs b e = decodable bs (3 * b.samples) b (judged_for z bs b e).judged (le_refl (3 * b.samples))

module _ (n : ℕ) (bs : List ℕ) (room : ℕ) (z : System) (known : named n ≡ accepted z) where
  pub no_block : (k : ℕ) → judge_for z bs ≡ refused k → changing n bs room ≡ refused k
  unfolding changing
  no_block k e = rw (known, e)

  pub by_room : (b : Judged) → judge_for z bs ≡ accepted b → changing n bs room ≡ require (leb (size b.samples) room) 5 (accepted (block_in z b bs))
  unfolding changing
  by_room b e = rw (known, e)
