-- What a block's answer says of a meter: with refusal 0 its clips enter.
-- Assumes nothing.
use mathlib.Core.Path.{◌≡◌, sym, ap, ◌∙◌}
use borrow.Author.Tests.{eqb-false}
use Rattle.exact.specs.Outcome.{Outcome}
use Rattle.systems.proofs.Answerable.{Answerable, values, refusing, never_0}
use Rattle.block.specs.declared.Header.{Header}
use Rattle.meter.specs.declared.Meter.{Meter}
use Rattle.meter.specs.Meter.{kept, entered, metering}
use Rattle.ferghulta.specs.declared.calls.BlockAnswer.{BlockAnswer}
use Rattle.ferghulta.specs.Answers.{block_answer}

pub accepted_enters : (m : Meter) {a : BlockAnswer} {o : Outcome Header} → Answerable o → a ≡ block_answer o → a.refusal ≡ 0 → entered (kept m) a.clips ≡ metering m o
accepted_enters m (values h) e z = ap (λ (x : BlockAnswer). entered (kept m) x.clips) e
accepted_enters m (refusing r) e z = absurd (eqb-false _ 0 (never_0 r) (sym (ap (λ (x : BlockAnswer). x.refusal) e) ∙ z))
