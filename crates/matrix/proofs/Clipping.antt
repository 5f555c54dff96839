-- Numbers brought to a range, and how many of them were beyond it.
-- Assumes nothing.
use mathlib.Core.Path.{◌≡◌, refl, sym, ap, ◌∙◌, subst}
use mathlib.Core.Bool.{Bool, true, false}
use mathlib.Core.Logic.{◌⊎◌, inl, inr}
use Prim.Native.Nat.{ℕ, ◌+◌, ◌-◌, ◌≤◌, ◌<◌}
use native.Mathlib.Nat.{le_refl, add-zero, zero-add, add_assoc}
use native.Mathlib.Omega.{arith}
use lib.Dec.{T, ltb}
use lib.IntN.{ℤ, pos, negsuc, sub_ℕ}
use lib.Signed.{lt_z}
use mir.Val.{bool_byte}
use borrow.Author.Tests.{ltb-true, ltb-false, le-ltb}
use Rattle.exact.specs.Signed.{rounded}
use Rattle.exact.proofs.Order.{below_or_not}
use Rattle.exact.proofs.Difference.{sub_pos, sub_neg}
use Rattle.systems.specs.declared.Matrix.{Matrix}
use Rattle.systems.specs.declared.Range.{Range}
use Rattle.matrix.specs.declared.Clips.{Clips}
use Rattle.matrix.specs.declared.Words.{Words}
use Rattle.matrix.specs.Inner.{CodesIn}
use Rattle.matrix.specs.Triples.{red_of, green_of, blue_of, natural, no_clips, ◌plus◌, clipped, beyond, codes_at}

-- ---- counts together
pub none_plus : (a : Clips) → no_clips plus a ≡ a
none_plus a = λ i. record { low = zero-add a.low i; high = zero-add a.high i }

pub plus_none : (a : Clips) → a plus no_clips ≡ a
plus_none a = λ i. record { low = add-zero a.low i; high = add-zero a.high i }

pub plus_assoc : (a b c : Clips) → (a plus b) plus c ≡ a plus (b plus c)
plus_assoc a b c = λ i. record { low = add_assoc a.low b.low c.low i; high = add_assoc a.high b.high c.high i }

inside : (v : ℤ) (low high : ℕ) → lt_z v (pos low) ≡ false → lt_z (pos high) v ≡ false → (low ≤ natural v) × (natural v ≤ high)
inside (pos n) low high l h = (ltb-false n low l, ltb-false high n h)
inside (negsuc n) low high l h = absurd (subst T l tt)

-- ---- clipped and counted by the two tests
pub clipped_by : (n : Range) (v : ℤ) (l h : Bool) → lt_z v (pos n.low) ≡ l → lt_z (pos n.high) v ≡ h
    → elim l [ true ↦ n.low | false ↦ elim h [ true ↦ n.high | false ↦ natural v ] ] ≡ clipped n v
clipped_by n v l h p q = sym (λ i. elim (p i) [ true ↦ n.low | false ↦ elim (q i) [ true ↦ n.high | false ↦ natural v ] ])

pub beyond_by : (n : Range) (v : ℤ) (l h : Bool) → lt_z v (pos n.low) ≡ l → lt_z (pos n.high) v ≡ h → record { low = bool_byte l; high = bool_byte h } ≡ beyond n v
beyond_by n v l h p q = λ i. record { low = (tested l ∙ ap one_where (sym p)) i; high = (tested h ∙ ap one_where (sym q)) i }
  where
    one_where : Bool → ℕ
    one_where t = elim t [ true ↦ 1 | false ↦ 0 ]

    tested : (t : Bool) → bool_byte t ≡ one_where t
    tested true = refl
    tested false = refl

pub not_both : (n : Range) (v : ℤ) → n.low ≤ n.high → lt_z v (pos n.low) ≡ true → lt_z (pos n.high) v ≡ true → ⊥
not_both n (pos a) o l h = omega (arith, ltb-true a n.low l, ltb-true n.high a h)
not_both n (negsuc a) o l h = subst T (sym h) tt

pub clipped_within : (n : Range) (v : ℤ) → n.low ≤ n.high → (n.low ≤ clipped n v) × (clipped n v ≤ n.high)
clipped_within n v h = by_tests (lt_z v (pos n.low)) (lt_z (pos n.high) v) refl refl
  where
    by_tests : (l t : Bool) → lt_z v (pos n.low) ≡ l → lt_z (pos n.high) v ≡ t →
        let k : ℕ = elim l [ true ↦ n.low | false ↦ elim t [ true ↦ n.high | false ↦ natural v ] ] in
        (n.low ≤ k) × (k ≤ n.high)
    by_tests true t e f = (le_refl n.low, h)
    by_tests false true e f = (h, le_refl n.high)
    by_tests false false e f = inside v n.low n.high e f

pub codes_in_range : (x : Matrix) (s : ℕ) (n : Range) (w : Words) → n.low ≤ n.high → CodesIn n (codes_at x s n w).codes
unfolding codes_at
codes_in_range x s n w h =
    let r = clipped_within n (rounded (red_of x s w)) h in
    let g = clipped_within n (rounded (green_of x s w)) h in
    let b = clipped_within n (rounded (blue_of x s w)) h in
    record { r_low = r.0; r_high = r.1; g_low = g.0; g_high = g.1; b_low = b.0; b_high = b.1 }

-- ---- what clipping does to a component that is near a code of the range
-- v is off the code d by at most 1
pub record OffByOne (v : ℤ) (d : ℕ) : Type 0 where
  pub up : ℕ
  pub down : ℕ
  pub is : v ≡ sub_ℕ up down
  pub not_over : up ≤ d + 1 + down
  pub not_under : d + down ≤ up + 1

pub clipped_nearer : (n : Range) (v : ℤ) (d : ℕ) → n.low ≤ d → d ≤ n.high → OffByOne v d → (clipped n v ≤ d + 1) × (d ≤ clipped n v + 1)
clipped_nearer n v d l h o = subst (λ (z : ℤ). (clipped n z ≤ d + 1) × (d ≤ clipped n z + 1)) (sym o.is) (by_order (below_or_not o.up o.down))
  where
    by_tests : (a : ℕ) → a ≤ d + 1 → d ≤ a + 1 → (x y : Bool) → ltb a n.low ≡ x → ltb n.high a ≡ y →
        let k : ℕ = elim x [ true ↦ n.low | false ↦ elim y [ true ↦ n.high | false ↦ a ] ] in
        (k ≤ d + 1) × (d ≤ k + 1)
    by_tests a p q true y e f = let t = ltb-true a n.low e in (omega arith, omega arith)
    by_tests a p q false true e f = let t = ltb-true n.high a f in (omega arith, omega arith)
    by_tests a p q false false e f = (p, q)

    by_order : (o.up < o.down) ⊎ (o.down ≤ o.up) → (clipped n (sub_ℕ o.up o.down) ≤ d + 1) × (d ≤ clipped n (sub_ℕ o.up o.down) + 1)
    by_order (inl b) = rw (sub_neg o.up o.down b) (omega arith, omega arith)
    by_order (inr b) =
        let a = o.up - o.down in
        rw (sub_pos o.up o.down b) (by_tests a (omega arith) (omega arith) (ltb a n.low) (ltb n.high a) refl refl)

pub kept_whole : (n : Range) (v : ℤ) (d : ℕ) → n.low ≤ d → d ≤ n.high → v ≡ pos d → (clipped n v ≡ d) × (beyond n v ≡ no_clips)
kept_whole n v d l h e =
    let low : lt_z v (pos n.low) ≡ false = ap (λ (z : ℤ). lt_z z (pos n.low)) e ∙ le-ltb d n.low l in
    let high : lt_z (pos n.high) v ≡ false = ap (λ (z : ℤ). lt_z (pos n.high) z) e ∙ le-ltb n.high d h in
    (sym (clipped_by n v false false low high) ∙ ap natural e, sym (beyond_by n v false false low high))
