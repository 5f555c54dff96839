-- Inner definitions: the steps of reading a block, and a field that is stored. Nothing here has to be believed.
-- Definitions only.
use Rattle.std.specs.Prelude.{ℕ, zero, suc, ◌+◌, ◌*◌, ◌^◌, ◌/◌, ◌%◌, ◌≤◌, ◌<◌, Bool, true, ◌&&◌, List, [], ◌∷◌, ◌++◌, ℤ, pos, nat_abs, ◌+ℤ◌, ◌-ℤ◌, length, set}
use Rattle.systems.specs.declared.Codes.{Codes}
use Rattle.systems.specs.declared.Matrix.{Matrix}
use Rattle.systems.specs.declared.Range.{Range}
use Rattle.systems.specs.Systems.{within}
use Rattle.matrix.specs.declared.Clips.{Clips}
use Rattle.matrix.specs.declared.Words.{Words}
use Rattle.matrix.specs.declared.Unclipped.{Unclipped}
use Rattle.matrix.specs.Triples.{natural, no_clips, ◌plus◌, clipped, beyond}
use Rattle.matrix.specs.Inner.{TwelveBitWords, unclipped_at}
use Rattle.block.specs.Read.{field_at, sample_at, rgb}

-- the first n words from a place are in a range
unfoldable pub in_range : Range → List ℕ → ℕ → ℕ → Bool
in_range r bs at zero = true
in_range r bs at (suc n) = in_range r bs at n && within r (field_at bs (at + 2 * n))

-- a block of w samples of 12 bits at most, and room for their codes
pub record Decodable (bs : List ℕ) (w room : ℕ) : Type 0 where
  pub long : 9 + 6 * w ≤ length bs
  pub narrow : w ≤ 7680
  pub words : (i : ℕ) → i < w → TwelveBitWords (sample_at bs w i)
  pub fits : 3 * w ≤ room

-- a component as the slice holds it until it is clipped, and back
abbrev pub biased : ℤ → ℕ
biased v = natural (v +ℤ pos 16384)

abbrev pub unbiased : ℕ → ℤ
unbiased n = pos n -ℤ pos 16384

-- components that the bias brings to 0 or above
pub record BiasFits (v : Unclipped) : Type 0 where
  pub r : nat_abs v.r ≤ 2 ^ 14
  pub g : nat_abs v.g ≤ 2 ^ 14
  pub b : nat_abs v.b ≤ 2 ^ 14

abbrev pub biased_triple : Unclipped → Codes
biased_triple v = record { r = biased v.r; g = biased v.g; b = biased v.b }

-- R, G and B of a row's samples before they are clipped
abbrev pub biased_row : Matrix → ℕ → (ℕ → Words) → ℕ → Codes
biased_row x s sample i = biased_triple (unclipped_at x s (sample i))

-- the triples of a row's first n samples, one behind the other
unfoldable pub triples_to : (ℕ → Codes) → ℕ → List ℕ
triples_to sample zero = []
triples_to sample (suc n) = triples_to sample n ++ rgb (sample n)

-- a range to which biased components can be clipped
pub record Clippable (n : Range) : Type 0 where
  pub in_order : n.low ≤ n.high
  pub small : n.high < 2 ^ 12

-- biased components clipped to a range, and their clips
unfoldable pub clipped_all : Range → List ℕ → List ℕ
clipped_all r [] = []
clipped_all r (v ∷ vs) = clipped r (unbiased v) ∷ clipped_all r vs

unfoldable pub beyond_all : Range → List ℕ → Clips
beyond_all r [] = no_clips
beyond_all r (v ∷ vs) = beyond r (unbiased v) plus beyond_all r vs

-- d with a field of 2 bytes at a place, low byte first
abbrev pub put : ℕ → ℕ → List ℕ → List ℕ
put at x d = set (set d at (x % 256)) (at + 1) (x / 256 % 256)
