use mathlib.Core.Path.{sym, ap, ◌∙◌}
use lib.ListN.{length}
use Rattle.block.proofs.Answerable.{reading_answerable}
use Rattle.reader.proofs.Turns.{next_row, no_turn}
use Rattle.ferghulta.specs.declared.stored_reader.StoredReader.{StoredReader}
use Rattle.ferghulta.specs.StoredReader.{next_answer, reader_of}
use Rattle.ferghulta.proofs.Reading.{next_of, accepted_next}
use Rattle.ferghulta.proofs.reader_calls.ferghulta_read_next.Goals as goal

-- the turn was asked of the reader that the stored one is taken for
pub returns-then-block-eq0 : goal.returns-then-block-eq0
returns-then-block-eq0 c =
    let read = c.ferghulta_read_block-block in
    let next = next_row (reader_of c.args.reader) c.args.bytes.now c.args.codes.now (sym (rw c.from-given.ensures at c.in-Ok.ensures)) in
    record {
      value =
          ap (λ (k : StoredReader). next_of k read.result) c.into-next.ensures
          ∙ accepted_next c.args.reader c.in-Ok.after (reading_answerable c.args.bytes.now (length c.args.codes.now)) read.ensures.value c.if-block-eq0.true
          ∙ ap (next_answer c.args.reader) (sym next.0);
      codes_after = read.ensures.codes_after ∙ next.1;
    }

pub returns-in-Err : goal.returns-in-Err
returns-in-Err c =
    let none = no_turn (reader_of c.args.reader) c.args.bytes.now c.args.codes.now (sym (rw c.from-given.ensures at c.in-Err.ensures)) in
    record { value = ap (next_of c.args.reader) c.into.ensures ∙ ap (next_answer c.args.reader) (sym none.0); codes_after = none.1 }
