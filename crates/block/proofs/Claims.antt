-- What the clips of a block count (request 2026-07), stated. The clipped total as it was is kept here, beside the sums of the product.
-- Definitions only.
use mathlib.Core.Path.{◌≡◌}
use mathlib.Core.List.{List}
use Prim.Native.Nat.{ℕ, zero, suc, ◌+◌, ◌*◌, ◌≤◌}
use lib.Dec.{leb}
use Rattle.exact.specs.Outcome.{Outcome, accepted, ◌and_then◌, require}
use Rattle.systems.specs.declared.System.{System}
use Rattle.matrix.specs.declared.Clips.{Clips}
use Rattle.matrix.proofs.Claims.{former_total, TripleClips}
use Rattle.block.specs.declared.Header.{Header}
use Rattle.block.specs.declared.Judged.{Judged}
use Rattle.block.specs.Read.{sample_at, judge}

-- a number of each of a row's first n samples, added up
unfoldable pub sum_to : (ℕ → ℕ) → ℕ → ℕ
sum_to f zero = 0
sum_to f (suc n) = sum_to f n + f n

-- what was read of a judged block: its clips were one total
pub record FormerHeader : Type 0 where
  pub judged : Judged
  pub total : ℕ

abbrev pub former_header : Judged → List ℕ → FormerHeader
former_header b bs = record { judged = b; total = sum_to (λ i. former_total b.system (sample_at bs b.samples i)) b.samples }

-- reading into a slice of so many words, as it was
unfoldable pub formerly_read : List ℕ → ℕ → Outcome FormerHeader
formerly_read bs room = judge bs and_then λ b. require (leb (3 * b.samples) room) 5 (accepted (former_header b bs))

-- what a row of n samples counts: each sample what its words count, and both sums
pub record RowClips (y : System) (bs : List ℕ) (n : ℕ) (k : Clips) : Type 0 where
  pub sample : ℕ → Clips
  pub counts : (i : ℕ) → TripleClips y (sample_at bs n i) (sample i)
  pub low : k.low ≡ sum_to (λ i. (sample i).low) n
  pub high : k.high ≡ sum_to (λ i. (sample i).high) n

-- an answer as it was and as it is; a row's sums are at most 3·7680
pub record Split (bs : List ℕ) (was : FormerHeader) (now : Header) : Type 0 where
  pub system : now.system ≡ was.judged.system
  pub row : now.row ≡ was.judged.row
  pub samples : now.samples ≡ was.judged.samples
  pub clips : RowClips now.system bs now.samples now.clips
  pub sum : now.clips.low + now.clips.high ≡ was.total
  pub most : now.clips.low + now.clips.high ≤ 3 * 7680
