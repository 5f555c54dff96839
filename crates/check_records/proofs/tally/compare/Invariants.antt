use Rattle.std.proofs.Common.{ℕ, ◌≡◌, Bool}
use Rattle.check_records.specs.Records.{tally_to, TellsEach}
use Rattle.check_records.proofs.tally.compare.Given as goal

abbrev pub invariant-loop-i : goal.invariant-loop-i
invariant-loop-i g l = (same : ℕ → Bool) → TellsEach (goal.F-post g l.is_met) l.bytes l.size same → l.tally ≡ tally_to same l.i
