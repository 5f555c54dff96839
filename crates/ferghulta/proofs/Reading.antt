-- What a block's answer says of a picture reader whose turn was asked: with refusal 0 it is the one after the block.
-- Assumes nothing.
use mathlib.Core.Path.{◌≡◌, sym, ap, ◌∙◌}
use borrow.Author.Tests.{eqb-false}
use Rattle.exact.specs.Outcome.{Outcome}
use Rattle.systems.proofs.Answerable.{Answerable, values, refusing, never_0}
use Rattle.block.specs.declared.Header.{Header}
use Rattle.reader.specs.declared.Reader.{Reader}
use Rattle.reader.proofs.Turns.{with_reader}
use Rattle.ferghulta.specs.declared.calls.BlockAnswer.{BlockAnswer}
use Rattle.ferghulta.specs.declared.stored_reader.StoredReader.{StoredReader}
use Rattle.ferghulta.specs.declared.reader_calls.NextAnswer.{NextAnswer}
use Rattle.ferghulta.specs.Answers.{block_answer}
use Rattle.ferghulta.specs.StoredReader.{stored_reader, next_answer}

-- an answer by its parts
abbrev pub next_of : StoredReader → BlockAnswer → NextAnswer
next_of k a = record { reader = k; block = a }

pub accepted_next : (k : StoredReader) (q : Reader) {a : BlockAnswer} {o : Outcome Header} → Answerable o → a ≡ block_answer o → a.refusal ≡ 0 → next_of (stored_reader q) a ≡ next_answer k (with_reader o q)
accepted_next k q (values h) e z = ap (next_of (stored_reader q)) e
accepted_next k q (refusing r) e z = absurd (eqb-false _ 0 (never_0 r) (sym (ap (λ (x : BlockAnswer). x.refusal) e) ∙ z))
