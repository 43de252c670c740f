use mathlib.Core.Bool.{not}
use mathlib.Core.Path.{ap, ◌∙◌}
use Rattle.rule_usage.proofs.Laws.{not_own, not_block, both}
use Rattle.rule_usage.proofs.in_both.Goals as goal

pub returns-in_default : goal.returns-in_default
returns-in_default c = λ s p y o b. not_own c.args.row p (c.first.ensures s c.args.tree.now p.own y o) c.in_default.is

pub returns-then-is_none : goal.returns-then-is_none
returns-then-is_none c =
    let args = c.args in
    λ s p y o b.
    not_block args.row p (c.first.ensures s args.tree.now p.own y o) (c.first-theirs.ensures s args.tree.now p.block y b) c.in-Some.is
    (c.is_none.ensures ∙ ap not c.if-is_none.true)

pub returns : goal.returns
returns c =
    let args = c.args in
    λ s p y o b.
    both args.row p (c.first.ensures s args.tree.now p.own y o) (c.first-theirs.ensures s args.tree.now p.block y b) c.in-Some.is
    (c.is_none.ensures ∙ ap not c.if-is_none.false) c.cell.ensures
