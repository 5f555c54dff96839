-- The reads of the lists that reference/make_meters.py makes, what each is given, and whether it gives what is due.
-- Definitions only.
use Rattle.std.specs.Prelude.{ℕ, ◌+◌, Bool, false, ◌&&◌, cond, List, eqb, leb, length, take, drop, replicate}
use Rattle.exact.specs.Outcome.{Outcome}
use Rattle.block.specs.declared.Header.{Header}
use Rattle.block.specs.Read.{header_of, slice_after}
use Rattle.meter.specs.declared.Meter.{Meter}
use Rattle.meter.specs.declared.Figures.{Figures}
use Rattle.meter.specs.Meter.{empty, metering, figures}
use Rattle.check_records.specs.declared.tally.Tally.{Tally}
use Rattle.check_records.specs.Records.{u16_at, u32_at, same_to, none, tallied, Compared}
use Rattle.check_answers.specs.Answers.{due_at, agrees}
use Rattle.check_meters.specs.declared.read.Read.{Read}
use Rattle.check_meters.specs.declared.list.Play.{Play}

-- the record of 32 bytes at a place
abbrev pub read_at : List ℕ → ℕ → Read
read_at bs i = record {
  begins = eqb (u16_at bs i) 1;
  block = record { start = u32_at bs (i + 4); length = u16_at bs (i + 8); places = u16_at bs (i + 2) };
  answer = u16_at bs (i + 10);
  due = due_at bs (i + 12);
  figures = record { rows = u16_at bs (i + 22); low = u32_at bs (i + 24); high = u32_at bs (i + 28) };
}

-- the meter that a read is made with: an empty one where a list begins, else the one that the read before left
abbrev pub meter_for : Read → Meter → Meter
meter_for r m = cond r.begins empty m

abbrev pub same_figures : Figures → Figures → Bool
same_figures f g = eqb f.rows g.rows && eqb f.low g.low && eqb f.high g.high

-- the answer and the figures of the meter after it are the record's
abbrev pub met : Read → Outcome Header → Meter → Bool
met r answer after = agrees answer r.answer r.due && same_figures (figures after) r.figures

-- whether a read gave what it has to give, and the meter after it
pub record Made : Type 0 where
  pub met : Bool
  pub meter : Meter

-- a block is read with a meter into a slice, and without one into another slice, which has to be left alike
unfoldable pub made_into : Read → Meter → List ℕ → List ℕ → List ℕ → Made
made_into r m block slice other =
    let answer = header_of block (length slice) in
    let after = metering m answer in
    record { met = met r answer after && same_to (slice_after block slice) (slice_after block other) (length slice); meter = after }

-- both slices hold in each of their places, which are fewer than 65536, a code that no system has
abbrev pub lent : Read → List ℕ
lent r = take r.block.places (replicate 65536 40000)

abbrev pub made_of : Read → Meter → List ℕ → Made
made_of r m block = made_into r m block (lent r) (lent r)

-- the block is a part of the blocks; where that is not there the read differs, and leaves the meter
abbrev pub made : Read → Meter → List ℕ → Made
made r m blocks =
    cond (leb (r.block.start + r.block.length) (length blocks))
    (made_of r (meter_for r m) (take r.block.length (drop r.block.start blocks)))
    (record { met = false; meter = meter_for r m })

-- what reads leave, the meter and their tally: before the first of them, and after one more, which counts where the answer in question is due
abbrev pub begun : Play
begun = record { meter = empty; tally = none }

unfoldable pub after_read : Read → List ℕ → ℕ → Play → Play
after_read r blocks answer p =
    let x = made r p.meter blocks in
    record { meter = x.meter; tally = cond (eqb r.answer answer) (tallied p.tally x.met) p.tally }

-- the tally of all reads
abbrev pub ReadsCompared : List ℕ → List ℕ → ℕ → Tally → Type 0
ReadsCompared bs blocks answer t = Compared (λ _. 32) (λ at. after_read (read_at bs at) blocks answer) begun (λ (p : Play). p.tally) (length bs) t
