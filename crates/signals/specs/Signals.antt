-- Float signals to codes and back (document 01, 'Float signals').
-- Definitions only.
use Rattle.std.specs.Prelude.{ℕ, ◌+◌, ◌-◌, ◌*◌, Bool, true, false, ◌&&◌, ◌==◌, nat_le, Float}
use Rattle.std.specs.Float.{nan, inf, fin, binary32}
use Rattle.std.specs.Float.Ieee.{up, down, round}
use Rattle.std.specs.Float.Ieee.Positive.{num, den}
use Rattle.exact.specs.Whole.{INT}
use Rattle.exact.specs.Outcome.{Outcome, accepted, ◌and_then◌, require}
use Rattle.systems.specs.Systems.{scale, nominal, all_within, named}
use Rattle.systems.specs.declared.System.{System}
use Rattle.systems.specs.declared.Codes.{Codes}
use Rattle.signals.specs.declared.Signals.{Signals}

-- E' is a number from 0 to 1; negative zero is zero
abbrev pub in_unit : Float → Bool
in_unit nan = false
in_unit (inf negative) = false
in_unit (fin true m e) = m == 0
in_unit (fin false m e) = nat_le (m * up e) (down e)

abbrev pub all_in_unit : Signals → Bool
all_in_unit e = in_unit e.r && in_unit e.g && in_unit e.b

-- INT((219·E' + 16)·s), where the fraction num/den is the exact value of E'
abbrev pub component : ℕ → Float → ℕ
component s e = INT ((219 * num e + 16 * den e) * s) (den e)

abbrev pub quantised_at : ℕ → Signals → Codes
quantised_at s e = record { r = component s e.r; g = component s e.g; b = component s e.b }

-- the codes of a triple of signals in the system that n names, or refusal 1 or 7
abbrev pub signal_codes : ℕ → Signals → Outcome Codes
signal_codes n e = named n and_then λ (y : System). require (all_in_unit e) 7 (accepted (quantised_at (scale y) e))

-- the f32 nearest to (D - 16s)/(219s), ties to even; it is positive zero for 16s
abbrev pub nearest : ℕ → ℕ → Float
nearest s d = round binary32 false (d - 16 * s) (219 * s)

abbrev pub signals_at : ℕ → Codes → Signals
signals_at s d = record { r = nearest s d.r; g = nearest s d.g; b = nearest s d.b }

-- the way back from a triple of codes in the system that n names, or refusal 1 or 6
abbrev pub code_signals : ℕ → Codes → Outcome Signals
code_signals n d = named n and_then λ (y : System). require (all_within (nominal y) d) 6 (accepted (signals_at (scale y) d))
