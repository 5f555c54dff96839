use Rattle.std.proofs.Common.{rules}
use Rattle.check_levels.specs.Cases.{level_at}
use Rattle.check_levels.proofs.case.compare.Goals as goal

pub returns : goal.returns
returns g c = λ level gives. c.compare.ensures (level_at level c.args.records.now) (λ i told within post. search (rules, gives))
