-- The calls on lights (document 01, 'Light to code'): the code of a light, and the span of a code.
-- Definitions only.
use Rattle.std.specs.Prelude.{ℕ}
use Rattle.exact.specs.Outcome.{Outcome, accepted, ◌and_then◌, require}
use Rattle.systems.specs.declared.System.{System}
use Rattle.systems.specs.Systems.{named, nominal, within}
use Rattle.curve.specs.Curve.{code, least_light, greatest_light}
use Rattle.light.specs.declared.Span.{Span}

-- the code of light k in system n
abbrev pub code_of_light : ℕ → ℕ → Outcome ℕ
code_of_light n k = named n and_then λ y. accepted (code y k)

-- the least and the greatest light of a code
abbrev pub span : System → ℕ → Span
span y d = record { least = least_light y d; greatest = greatest_light y d }

-- the span of code d in system n, which must be nominal
abbrev pub span_of_code : ℕ → ℕ → Outcome Span
span_of_code n d = named n and_then λ y. require (within (nominal y) d) 6 (accepted (span y d))
