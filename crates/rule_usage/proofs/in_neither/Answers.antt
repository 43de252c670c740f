use mathlib.Core.Path.{refl, sym, ◌∙◌}
use Rattle.form_names.specs.Names.{is_sought}
use Rattle.rule_usage.proofs.Laws.{own_there, block_there, neither}
use Rattle.rule_usage.proofs.in_neither.Goals as goal

pub returns-then-is_some : goal.returns-then-is_some
unfolding is_sought
returns-then-is_some c = λ s p l o b. own_there 16 p (c.first-mine.ensures s c.args.tree.now p.own refl o) (sym c.is_some.ensures ∙ c.if-is_some.true)

pub returns-then-is_some-2 : goal.returns-then-is_some-2
unfolding is_sought
returns-then-is_some-2 c =
    let tree = c.args.tree.now in
    λ s p l o b.
    block_there 16 p (c.first-mine.ensures s tree p.own refl o) (c.first-theirs.ensures s tree p.block refl b) (sym c.is_some.ensures ∙ c.if-is_some.false)
    (sym c.is_some-2.ensures ∙ c.if-is_some-2.true)

pub returns : goal.returns
unfolding is_sought
returns c =
    let tree = c.args.tree.now in
    λ s p l o b.
    neither p (c.first-mine.ensures s tree p.own refl o) (sym c.is_some.ensures ∙ c.if-is_some.false) (c.first-theirs.ensures s tree p.block refl b)
    (sym c.is_some-2.ensures ∙ c.if-is_some-2.false) l c.cell.ensures
