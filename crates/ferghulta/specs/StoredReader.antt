-- A picture reader as a caller in C stores it, and the answers of its calls (request 2026-10).
-- Definitions only.
use Rattle.std.specs.Prelude.{Option, Some, None, ℕ, Bool, true, false, ◌&&◌, cond, eqb}
use Rattle.exact.specs.Outcome.{Outcome, accepted, refused}
use Rattle.systems.specs.declared.System.{System}
use Rattle.systems.specs.Systems.{number, named}
use Rattle.reader.specs.declared.Format.{Format}
use Rattle.reader.specs.declared.Progress.{Progress}
use Rattle.reader.specs.declared.Phase.{Phase}
use Rattle.reader.specs.declared.Phase.TheVariants.{Unopened, Reading, Complete}
use Rattle.reader.specs.declared.Reader.{Reader}
use Rattle.reader.specs.declared.Taken.{Taken}
use Rattle.reader.specs.Reader.{at, resumed}
use Rattle.ferghulta.specs.declared.stored_reader.StoredReader.{StoredReader}
use Rattle.ferghulta.specs.declared.reader_calls.ReaderAnswer.{ReaderAnswer}
use Rattle.ferghulta.specs.declared.reader_calls.NextAnswer.{NextAnswer}
use Rattle.ferghulta.specs.Answers.{block_answer}

-- ---- a reader in numbers: not opened is 0, reading 1, complete 2

abbrev pub stored_idle : ℕ → StoredReader
stored_idle n = record { phase = n; system = 0; width = 0; height = 0; next = 0 }

-- system and width are 0 before the first row
abbrev pub stored_with : Option Format → Progress → StoredReader
stored_with None p = record { phase = 1; system = 0; width = 0; height = p.height; next = p.next }
stored_with (Some f) p = record { phase = 1; system = number f.system; width = f.width; height = p.height; next = p.next }

abbrev pub stored_progress : Progress → StoredReader
stored_progress p = stored_with p.format p

abbrev pub stored_phase : Phase → StoredReader
stored_phase Unopened = stored_idle 0
stored_phase (Reading p) = stored_progress p
stored_phase Complete = stored_idle 2

abbrev pub stored_reader : Reader → StoredReader
stored_reader r = stored_phase r.phase

-- ---- and back: a phase that no call made is taken as not opened

abbrev pub reading_in : StoredReader → Outcome System → Phase
reading_in k (accepted y) = Reading (record { height = k.height; next = k.next; format = Some (record { system = y; width = k.width }) })
reading_in k (refused n) = Unopened

abbrev pub reading_of : StoredReader → Phase
reading_of k =
    cond (eqb k.system 0 && eqb k.width 0)
    (Reading (record { height = k.height; next = k.next; format = None }))
    (reading_in k (named k.system))

-- the phase, by whether its number is 1 and by whether it is 2
abbrev pub phase_by : StoredReader → Bool → Bool → Phase
phase_by k true b = reading_of k
phase_by k false true = Complete
phase_by k false false = Unopened

abbrev pub reader_phase : StoredReader → Phase
reader_phase k = phase_by k (eqb k.phase 1) (eqb k.phase 2)

abbrev pub reader_of : StoredReader → Reader
reader_of k = at (resumed (reader_phase k))

-- ---- an answer: the new reader, or the number and the reader that was given

abbrev pub reader_answer : StoredReader → Outcome Reader → ReaderAnswer
reader_answer k (accepted r) = record { refusal = 0; reader = stored_reader r }
reader_answer k (refused n) = record { refusal = n; reader = k }

-- with what reading gives of the block
abbrev pub next_answer : StoredReader → Outcome Taken → NextAnswer
next_answer k (accepted t) = record { reader = stored_reader t.reader; block = block_answer (accepted t.header) }
next_answer k (refused n) = record { reader = k; block = block_answer (refused n) }
