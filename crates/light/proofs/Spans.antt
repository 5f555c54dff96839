-- The span of a nominal code: a light is in it exactly when its code is that code; and it is what the boundaries say.
-- Assumes nothing.
use mathlib.Core.Path.{◌≡◌, sym, ap, subst, ◌∙◌}
use mathlib.Core.Bool.{Bool}
use mathlib.Core.Logic.{◌⊎◌, inl, inr, ◌↔◌}
use mathlib.Core.List.{List, ◌∷◌}
use Prim.Native.Nat.{ℕ, zero, suc, ◌+◌, ◌*◌, ◌-◌, ◌≤◌, ◌<◌}
use native.Mathlib.Nat.{le_refl}
use native.Mathlib.Omega.{arith}
use lib.Dec.{T, eqb, eqb→eq, eqb_refl}
use lib.ListN.{length, get_or, get_or-eq_default}
use Rattle.std.proofs.lemmas.List.{get_or_default}
use Rattle.exact.proofs.Order.{below_or_not}
use Rattle.exact.proofs.Search.{greatest_within, greatest_passes, greatest_above, least_passes, least_below}
use Rattle.systems.specs.declared.System.{System}
use Rattle.systems.specs.Systems.{scale}
use Rattle.curve.specs.Curve.{code, full_light, least_light, greatest_light}
use Rattle.curve.specs.Inner.{quantiser_of, Boundaries}
use Rattle.curve.proofs.Lights.{codes_rise}
use Rattle.light.proofs.Lit.{Lit, every_code_lit, first_light, last_light}

module _ (y : System) (d : ℕ) (lit : Lit y d) where
  has : ℕ → Bool
  has k = eqb (code y k) d

  shown : (k : ℕ) → code y k ≡ d → T (has k)
  unfolding has
  shown k e = subst (λ (c : ℕ). T (eqb c d)) (sym e) (eqb_refl d)

  pub least_has : code y (least_light y d) ≡ d
  unfolding least_light has
  least_has = eqb→eq _ _ (least_passes has full_light lit.light lit.small (shown lit.light lit.has))

  pub least_first : (k : ℕ) → k ≤ full_light → code y k ≡ d → least_light y d ≤ k
  unfolding least_light has
  least_first k h e = least_below has full_light k h (shown k e)

  pub greatest_last : (k : ℕ) → k ≤ full_light → code y k ≡ d → k ≤ greatest_light y d
  unfolding greatest_light has
  greatest_last k h e = greatest_above has full_light k h (shown k e)

  pub greatest_light_lem : greatest_light y d ≤ full_light
  unfolding greatest_light
  greatest_light_lem = greatest_within (λ k. eqb (code y k) d) full_light

  -- where no light above 0 has the code, light 0 has it
  pub greatest_has : code y (greatest_light y d) ≡ d
  unfolding greatest_light has
  greatest_has = go (below_or_not 0 (greatest_light y d))
    where
      go : (0 < greatest_light y d) ⊎ (greatest_light y d ≤ 0) → code y (greatest_light y d) ≡ d
      go (inl p) = eqb→eq _ _ (greatest_passes has full_light p)
      go (inr p) =
          let e : lit.light ≡ greatest_light y d = omega (arith, greatest_last lit.light lit.small lit.has) in
          ap (code y) (sym e) ∙ lit.has

  pub in_span : (k : ℕ) → k ≤ full_light → (code y k ≡ d) ↔ ((least_light y d ≤ k) × (k ≤ greatest_light y d))
  in_span k h = (
    (λ e. (least_first k h e, greatest_last k h e)),
    (λ s. omega (arith, least_has, greatest_has, codes_rise y (least_light y d) k s.0, codes_rise y k (greatest_light y d) s.1)),
  )

-- a span by the lights at its ends
pub span_by_ends : (y : System) (d lo hi : ℕ) → code y lo < d → code y (suc lo) ≡ d → code y hi ≡ d → d < code y (suc hi) → suc hi ≤ full_light
    → (least_light y d ≡ suc lo) × (greatest_light y d ≡ hi)
span_by_ends y d lo hi before first last after small = (
  omega (arith, least_first y d lit (suc lo) (ordered (below_or_not lo hi)) first, from (below_or_not lo (least_light y d))),
  omega (arith, greatest_last y d lit hi (omega arith) last, to (below_or_not hi (greatest_light y d))),
)
  where
    lit : Lit y d
    lit = record { light = hi; small = omega arith; has = last }

    ordered : (lo < hi) ⊎ (hi ≤ lo) → suc lo ≤ full_light
    ordered (inl h) = omega arith
    ordered (inr h) = absurd (omega (arith, codes_rise y hi lo h))

    from : (lo < least_light y d) ⊎ (least_light y d ≤ lo) → lo < least_light y d
    from (inl h) = h
    from (inr h) = absurd (omega (arith, least_has y d lit, codes_rise y (least_light y d) lo h))

    to : (hi < greatest_light y d) ⊎ (greatest_light y d ≤ hi) → greatest_light y d ≤ hi
    to (inl h) = absurd (omega (arith, greatest_has y d lit, codes_rise y (suc hi) (greatest_light y d) h))
    to (inr h) = h

-- the span of the code 16s + n by a table of boundaries
module _ (y : System) (t : List ℕ) (b : Boundaries (quantiser_of y) t) where
  pub boundary_above_zero : (n : ℕ) → 1 ≤ get_or t n 65536
  boundary_above_zero n = go (below_or_not n (length t))
    where
      go : (n < length t) ⊎ (length t ≤ n) → 1 ≤ get_or t n 65536
      go (inl h) = apart (below_or_not 0 (get_or t n 0))
        where
          apart : (0 < get_or t n 0) ⊎ (get_or t n 0 ≤ 0) → 1 ≤ get_or t n 65536
          apart (inl p) = omega (arith, get_or_default t n 65536 0 h)
          apart (inr p) = absurd (omega (arith, b.from n 0 h p, first_light y))
      go (inr h) = omega (arith, get_or-eq_default t 65536 h)

  boundary_lit : (n : ℕ) → n < length t → get_or t n 0 ≤ full_light
  boundary_lit n i = go (below_or_not full_light (get_or t n 0)) (every_code_lit y (suc n) (omega (arith, b.size)))
    where
      go : (full_light < get_or t n 0) ⊎ (get_or t n 0 ≤ full_light) → Lit y (16 * scale y + suc n) → get_or t n 0 ≤ full_light
      go (inl p) l = absurd (omega (arith, l.has, b.before n l.light i (omega (arith, l.small))))
      go (inr p) l = p

  module _ (n : ℕ) (room : n ≤ 219 * scale y) where
    lit : Lit y (16 * scale y + n)
    lit = every_code_lit y n room

    pub least_by_table : least_light y (16 * scale y + n) ≡ get_or (0 ∷ t) n 0
    least_by_table = go n room lit
      where
        go : (m : ℕ) → m ≤ 219 * scale y → Lit y (16 * scale y + m) → least_light y (16 * scale y + m) ≡ get_or (0 ∷ t) m 0
        go zero h l = omega (arith, least_first y (16 * scale y + 0) l 0 (omega arith) (omega (arith, first_light y)))
        go (suc m) h l =
            let d = 16 * scale y + suc m in
            let i : m < length t = omega (arith, b.size) in
            let first : get_or t m 0 ≤ least_light y d = reach (below_or_not (least_light y d) (get_or t m 0)) l i in
            let low : d ≤ code y (get_or t m 0) = b.from m (get_or t m 0) i (le_refl _) in
            let high : code y (get_or t m 0) ≤ code y (least_light y d) = codes_rise y (get_or t m 0) (least_light y d) first in
            omega (arith, least_first y d l (get_or t m 0) (boundary_lit m i) (omega (arith, least_has y d l)))
          where
            reach : (least_light y (16 * scale y + suc m) < get_or t m 0) ⊎ (get_or t m 0 ≤ least_light y (16 * scale y + suc m)) → Lit y (16 * scale y + suc m) → m < length t
                → get_or t m 0 ≤ least_light y (16 * scale y + suc m)
            reach (inl p) l i = absurd (omega (arith, b.before m (least_light y (16 * scale y + suc m)) i p, least_has y (16 * scale y + suc m) l))
            reach (inr p) l i = p

    pub greatest_by_table : greatest_light y (16 * scale y + n) + 1 ≡ get_or t n 65536
    greatest_by_table = go (below_or_not n (length t))
      where
        d : ℕ
        d = 16 * scale y + n

        g : ℕ
        g = greatest_light y d

        go : (n < length t) ⊎ (length t ≤ n) → g + 1 ≡ get_or t n 65536
        go (inl h) =
            let below : g < get_or t n 0 = under (below_or_not g (get_or t n 0)) h in
            let last : code y (get_or t n 0 - 1) < 16 * scale y + suc n = b.before n (get_or t n 0 - 1) h (omega arith) in
            let same : code y (get_or t n 0 - 1) ≡ d = omega (arith, greatest_has y d lit, codes_rise y g (get_or t n 0 - 1) (omega arith)) in
            omega (arith, get_or_default t n 65536 0 h, greatest_last y d lit (get_or t n 0 - 1) (omega (arith, boundary_lit n h)) same)
          where
            under : (g < get_or t n 0) ⊎ (get_or t n 0 ≤ g) → n < length t → g < get_or t n 0
            under (inl p) i = p
            under (inr p) i = absurd (omega (arith, b.from n g i p, greatest_has y d lit))
        go (inr h) = omega (arith, get_or-eq_default t 65536 h, greatest_light_lem y d lit, greatest_last y d lit full_light (le_refl _) (omega (arith, last_light y, b.size)))
