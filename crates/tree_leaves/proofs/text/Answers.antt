use Rattle.tree_leaves.proofs.Leaves.{text_there, text_nowhere, text_stuck}
use Rattle.tree_leaves.proofs.text.Goals as goal

pub returns-then-next-i : goal.returns-then-next-i
returns-then-next-i c = λ t l. text_stuck c.cell-next.ensures l.laid c.if-next-i.true

pub returns-then-next-i-ne1 : goal.returns-then-next-i-ne1
returns-then-next-i-ne1 c = λ t l. text_nowhere c.cell-next.ensures l.laid c.if-next-i-ne1.true

pub returns : goal.returns
returns c = λ t l. text_there c.cell-next.ensures l.laid c.if-next-i-ne1.false c.held.ensures
