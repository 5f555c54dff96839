-- Inner definition: what an inner function gives. Nothing here has to be believed.
-- Definitions only.
use Rattle.std.specs.Prelude.{ℕ, ◌+◌, ◌*◌, List, get_or}
use Rattle.systems.specs.declared.Codes.{Codes}

-- R, G and B of sample i in a slice of codes
abbrev pub triple_at : List ℕ → ℕ → Codes
triple_at codes i = record { r = get_or codes (3 * i) 0; g = get_or codes (3 * i + 1) 0; b = get_or codes (3 * i + 2) 0 }
