-- What `==` says of two slices of numbers.
-- Assumes nothing.
use Prim.Native.Nat.{ℕ, ◌<◌}
use mathlib.Core.Path.{◌≡◌, refl, ap}
use mathlib.Core.Bool.{Bool, true, false, ◌&&◌}
use mathlib.Core.List.{List}
use lib.Dec.{eqb}
use lib.ListN.{length, get_or}
use Rattle.std.specs.Bool.{Decides}
use Rattle.std.specs.Cmp.Lexicographic.{pointwise}
use Rattle.std.proofs.lemmas.Bool.Decides.{same_from_decides, Decides-eqb, Decides-and, Decides-like, Decides-below_and}
use Rattle.std.proofs.lemmas.Slice.Eq.{slice_eq-Decides}
use Rattle.std.proofs.lemmas.Grind.{same_number_lists}
use Rattle.check_records.specs.Records.{same_to}

and_comm : (p q : Bool) → (p && q) ≡ (q && p)
and_comm true true = refl
and_comm true false = refl
and_comm false true = refl
and_comm false false = refl

reads : (a b : List ℕ) (n : ℕ) → Decides (same_to a b n) ((k : ℕ) → k < n → get_or a k 0 ≡ get_or b k 0)
unfolding same_to
reads a b n = Decides-below_and (λ k. eqb (get_or a k 0) (get_or b k 0)) (λ k. get_or a k 0 ≡ get_or b k 0) (same_to a b) (λ k. Decides-eqb _ _) refl (λ k. and_comm (same_to a b k) (eqb (get_or a k 0) (get_or b k 0))) n

pub slices_same : (a b : List ℕ) → pointwise eqb a b ≡ (eqb (length a) (length b) && same_to a b (length a))
slices_same a b =
    same_from_decides {P = a ≡ b} _ _ (slice_eq-Decides Decides-eqb a b _ refl)
    (Decides-like _ (λ h. same_number_lists a b h.0 h.1) (λ e. (ap length e, λ k _. ap (λ (xs : List ℕ). get_or xs k 0) e)) (Decides-and _ _ (Decides-eqb _ _) (reads a b (length a))))
