use Rattle.std.proofs.Common.{sym, ap, ◌∙◌}
use Rattle.exact.specs.Outcome.{refused}
use Rattle.depth.proofs.Passing.{no_other_depth, all_pass, some_fail}
use Rattle.depth.proofs.judge_for.Goals as goal

pub returns-then-not-other_depth : goal.returns-then-not-other_depth
returns-then-not-other_depth c = ap refused c.refused_with.ensures ∙ sym (no_other_depth _ _ _ (sym c.in_ok-b.ensures) (sym c.if-not-other_depth.ensures))

pub returns-then-not-all_in : goal.returns-then-not-all_in
returns-then-not-all_in c =
    ap refused c.refused_with-then-not-all_in.ensures
    ∙ sym (some_fail _ _ _ (sym c.in_ok-b.ensures) (sym c.if-not-other_depth.ensures) (rw (c.passing.ensures, c.way_to.ensures) at (sym c.if-not-all_in.ensures)))

pub returns : goal.returns
returns c =
    sym (all_pass _ _ _ (sym c.in_ok-b.ensures) (sym c.if-not-other_depth.ensures) (rw (c.passing.ensures, c.way_to.ensures) at (sym c.if-not-all_in.ensures)))
