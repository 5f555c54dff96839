-- Every refusal of an outcome is one of the list, so an answer can say it.
-- Assumes nothing.
use Prim.Native.Nat.{ℕ}
use mathlib.Core.Path.{◌≡◌, refl}
use mathlib.Core.Bool.{Bool, true, false}
use mathlib.Core.List.{List, [], ◌∷◌}
use lib.Dec.{eqb}
use Rattle.std.specs.Prelude.{Result, Ok, Err}
use Rattle.exact.specs.Outcome.{Outcome, accepted, refused, ◌and_then◌, require}
use Rattle.systems.specs.declared.System.{System}
use Rattle.systems.specs.declared.System.TheVariants.{Bt709Bits8, Bt709Bits10, Bt2020Bits10, Bt2020Bits12}
use Rattle.systems.specs.declared.refusal.Refusal.{Refusal}
use Rattle.systems.specs.declared.refusal.Refusal.TheVariants as refusal
use Rattle.systems.specs.Refusals as numbers
use Rattle.systems.specs.Systems.{number, named, named_in}

pub data Answerable {A : Type 0} : Outcome A → Type 0 where
  values : (a : A) → Answerable (accepted a)
  refusing : (r : Refusal) → Answerable (refused (numbers.refusal r))

-- an answer that says an outcome
pub answer_for : {A : Type 0} {o : Outcome A} → Answerable o → (r : Result A Refusal) × (numbers.outcome r ≡ o)
answer_for (values a) = (Ok a, refl)
answer_for (refusing r) = (Err r, refl)

pub tested : {A : Type 0} {o : Outcome A} (t : Bool) (r : Refusal) → Answerable o → Answerable (require t (numbers.refusal r) o)
tested true r o = o
tested false r o = refusing r

pub followed : {A B : Type 0} {o : Outcome A} {f : A → Outcome B} → Answerable o → ((a : A) → Answerable (f a)) → Answerable (o and_then f)
followed (values a) g = g a
followed (refusing r) g = refusing r

named_in_answerable : (ys : List System) (n : ℕ) → Answerable (named_in ys n)
named_in_answerable [] n = refusing refusal.System
named_in_answerable (y ∷ ys) n = found (eqb n (number y)) (named_in_answerable ys n)
  where
    found : (t : Bool) → Answerable (named_in ys n) → Answerable {A = System} (elim t [ true ↦ accepted y | false ↦ named_in ys n ])
    found true k = values y
    found false k = k

pub named_answerable : (n : ℕ) → Answerable (named n)
named_answerable n = named_in_answerable (Bt709Bits8 ∷ Bt709Bits10 ∷ Bt2020Bits10 ∷ Bt2020Bits12 ∷ []) n

-- no refusal has the number 0, which stands for an accepted call in the C interface
pub never_0 : (r : Refusal) → eqb (numbers.refusal r) 0 ≡ false
never_0 refusal.System = refl
never_0 refusal.Width = refl
never_0 refusal.Height = refl
never_0 refusal.Lights = refl
never_0 refusal.Output = refl
never_0 refusal.Code = refl
never_0 refusal.Signal = refl
never_0 refusal.BlockEnd = refl
never_0 refusal.Count = refl
never_0 refusal.RowNumber = refl
never_0 refusal.BytesAfter = refl
never_0 refusal.AlreadyOpen = refl
never_0 refusal.NotOpen = refl
never_0 refusal.AllRows = refl
never_0 refusal.RowsMissing = refl
never_0 refusal.Length = refl
never_0 refusal.Target = refl
never_0 refusal.Timing = refl
never_0 refusal.Turn = refl
never_0 refusal.Unlike = refl
never_0 refusal.NotReading = refl
