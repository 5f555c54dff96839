-- The triples in the records of the programs that compare words and codes with data. Definitions only.
use Rattle.std.specs.Prelude.{ℕ, ◌+◌, List}
use Rattle.systems.specs.declared.Codes.{Codes}
use Rattle.matrix.specs.declared.Words.{Words}
use Rattle.check_records.specs.Records.{u16_at}

-- three 16-bit numbers from a place on
abbrev pub words_in : List ℕ → ℕ → Words
words_in bs i = record { y = u16_at bs i; cb = u16_at bs (i + 2); cr = u16_at bs (i + 4) }

abbrev pub codes_in : List ℕ → ℕ → Codes
codes_in bs i = record { r = u16_at bs i; g = u16_at bs (i + 2); b = u16_at bs (i + 4) }
