-- What the tests of a table's and an index's entries show, by the quantiser's rule at the entry and at its neighbour.
-- Assumes nothing.
use mathlib.Core.Path.{◌≡◌}
use mathlib.Core.Bool.{Bool, not, ◌&&◌}
use mathlib.Core.Logic.{◌⊎◌, inl, inr, ◌↔◌}
use mathlib.Core.List.{List}
use Prim.Native.Nat.{ℕ, suc, ◌+◌, ◌*◌, ◌-◌, ◌/◌, ◌≤◌, ◌<◌}
use native.Mathlib.Nat.{lt-div-mul-add, div-mul-le_self, div-lt_iff_lt-mul}
use native.Mathlib.Omega.{arith}
use lib.Dec.{T, T_not, leb, leb→le}
use lib.Ieee.Fits.{and_l, and_r}
use lib.ListN.{length, get_or}
use Rattle.exact.proofs.Boolean.{all_three}
use Rattle.exact.proofs.Order.{below_or_not}
use Rattle.exact.proofs.Table.{every, at_entry}
use Rattle.curve.specs.Inner.{Quantiser, Boundaries, Index}

-- what the tests rest on: each code is the first or one of those above it, the codes rise with the light, and `reached k d`
-- tests that light k's code is at least the first + d
pub record Rule (q : Quantiser) (reached : ℕ → ℕ → Bool) : Type 0 where
  pub low : (k : ℕ) → q.first ≤ q.code k
  pub high : (k : ℕ) → q.code k ≤ q.first + q.above
  pub rises : (k l : ℕ) → k ≤ l → q.code k ≤ q.code l
  pub tests : (k d : ℕ) → 0 < d → d ≤ q.above → (q.first + d ≤ q.code k) ↔ T (reached k d)

-- entry j of the table, t, has the first code + j + 1 or more, and the light before it has less
unfoldable pub boundary : (ℕ → ℕ → Bool) → ℕ → ℕ → Bool
boundary reached j t = reached t (suc j) && not (reached (t - 1) (suc j))

-- entry i of the index, n: the first light of the bucket has at least the first code + n, the last one less than the first + n + 3
unfoldable pub bucket : (ℕ → ℕ → Bool) → ℕ → ℕ → ℕ → ℕ → Bool
bucket reached above w i n = leb (n + 2) above && (reached (i * w) n && not (reached (suc i * w - 1) (n + 3)))

module _ {q : Quantiser} {reached : ℕ → ℕ → Bool} (rule : Rule q reached) where
  -- a test that fails says that the code is less
  pub unreached : (k d : ℕ) → 0 < d → d ≤ q.above → T (not (reached k d)) → q.code k < q.first + d
  unreached k d p m t = go (below_or_not (q.code k) (q.first + d))
    where
      go : (q.code k < q.first + d) ⊎ (q.first + d ≤ q.code k) → q.code k < q.first + d
      go (inl l) = l
      go (inr l) = absurd (T_not (reached k d) t ((rule.tests k d p m).0 l))

  -- a table that passes its test
  pub boundaries : (t : List ℕ) → length t ≡ q.above → T (every (boundary reached) 0 t) → Boundaries q t
  unfolding boundary
  boundaries t size p = record {
    size = size;
    from = λ j k h l. omega (arith, rule.rises (get_or t j 0) k l, (rule.tests (get_or t j 0) (suc j) (omega arith) (omega arith)).1 (and_l (here j) (not (before j)) (at j h)));
    before = λ j k h l. omega (arith, rule.rises k (get_or t j 0 - 1) (omega arith), unreached (get_or t j 0 - 1) (suc j) (omega arith) (omega arith) (and_r (here j) (not (before j)) (at j h)));
  }
    where
      here : ℕ → Bool
      here j = reached (get_or t j 0) (suc j)

      before : ℕ → Bool
      before j = reached (get_or t j 0 - 1) (suc j)

      at : (j : ℕ) → j < length t → T (here j && not (before j))
      at = at_entry (boundary reached) t p

  module _ (w : ℕ) (x : List ℕ) (some : 0 < w) (size : q.full < length x * w) (p : T (every (bucket reached q.above w) 0 x)) (k : ℕ) (light : k ≤ q.full) where
    -- the light's bucket, the first and the last light of it, and its entry
    abbrev i : ℕ
    i = k / w

    abbrev bucket_first : ℕ
    bucket_first = i * w

    abbrev bucket_last : ℕ
    bucket_last = suc i * w - 1

    abbrev n : ℕ
    n = get_or x i 0

    in_index : i < length x
    in_index = (div-lt_iff_lt-mul {k = w} {x = k} {y = length x} some).1 (omega (arith, size))

    at : T (leb (n + 2) q.above) × T (reached bucket_first n) × T (not (reached bucket_last (n + 3)))
    unfolding bucket
    at = all_three (leb (n + 2) q.above) (reached bucket_first n) (not (reached bucket_last (n + 3))) (at_entry (bucket reached q.above w) x p i in_index)

    room : n + 2 ≤ q.above
    room = leb→le _ _ at.0

    low : (0 < n) ⊎ (n ≤ 0) → q.first + n ≤ q.code bucket_first
    low (inl z) = (rule.tests bucket_first n z (omega (arith, room))).1 at.1
    low (inr z) = omega (arith, rule.low bucket_first)

    high : (n + 2 < q.above) ⊎ (q.above ≤ n + 2) → q.code bucket_last ≤ q.first + n + 2
    high (inl z) = omega (arith, unreached bucket_last (n + 3) (omega arith) (omega arith) at.2)
    high (inr z) = omega (arith, rule.high bucket_last)

    from : q.first + n ≤ q.code k
    from = omega (arith, low (below_or_not 0 n), rule.rises bucket_first k (div-mul-le_self k w))

    to : q.code k ≤ q.first + n + 2
    to = omega (arith, high (below_or_not (n + 2) q.above), rule.rises k bucket_last (omega (arith, lt-div-mul-add {a = k} {b = w} some)))

  -- an index that passes its test
  pub index : (w : ℕ) (x : List ℕ) → 0 < w → w ≤ q.full → q.full < length x * w → T (every (bucket reached q.above w) 0 x) → Index q w x
  index w x some width size p =
      record { width = width; size = in_index w x some size p; room = room w x some size p; from = from w x some size p; to = to w x some size p }
