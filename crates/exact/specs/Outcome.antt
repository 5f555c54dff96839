-- What a caller hears (document 01, 'What the caller hears'): the values of an accepted call, or a refusal's number and nothing else.
-- Definitions only.
use Rattle.std.specs.Prelude.{ℕ, Bool, true, false}

pub data Outcome (A : Type 0) : Type 0 where
  accepted : A → Outcome A
  refused : ℕ → Outcome A

-- what follows an accepted outcome; a refusal stays
infixr 5 ◌and_then◌
abbrev pub ◌and_then◌ : {A B : Type 0} → Outcome A → (A → Outcome B) → Outcome B
accepted a and_then f = f a
refused n and_then f = refused n

-- the outcome where the test passes, the refusal n where it does not
abbrev pub require : {A : Type 0} → Bool → ℕ → Outcome A → Outcome A
require true n o = o
require false n o = refused n
