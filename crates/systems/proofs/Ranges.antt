-- What a range's test shows of a code and of the codes of a sample.
-- Assumes nothing.
use mathlib.Core.Path.{◌≡◌}
use mathlib.Core.Bool.{true}
use Prim.Native.Nat.{ℕ, ◌*◌, ◌≤◌}
use lib.Dec.{leb, leb→le}
use lib.Ieee.Fits.{and_l, and_r}
use Rattle.exact.proofs.Boolean.{holds, each_of_three}
use Rattle.systems.specs.declared.Codes.{Codes}
use Rattle.systems.specs.declared.Range.{Range}
use Rattle.systems.specs.declared.System.{System}
use Rattle.systems.specs.Systems.{scale, within, all_within}

-- a code that passes lies between the ends
pub in_range_lem : (n : Range) (d : ℕ) → within n d ≡ true → (n.low ≤ d) × (d ≤ n.high)
in_range_lem n d e =
    let low = leb n.low d in
    let high = leb d n.high in
    let t = holds e in
    (leb→le n.low d (and_l low high t), leb→le d n.high (and_r low high t))

-- so do all three codes of a sample
pub all_in_range : (n : Range) (d : Codes) → all_within n d ≡ true → ((n.low ≤ d.r) × (d.r ≤ n.high)) × ((n.low ≤ d.g) × (d.g ≤ n.high)) × ((n.low ≤ d.b) × (d.b ≤ n.high))
all_in_range n d e =
    let t = each_of_three _ _ _ e in
    (in_range_lem n _ t.0, in_range_lem n _ t.1, in_range_lem n _ t.2)

-- 16s to 235s
abbrev pub Nominal : System → ℕ → Type 0
Nominal y d = (16 * scale y ≤ d) × (d ≤ 235 * scale y)
