use Rattle.tree_leaves.proofs.Leaves.{currency_there, tag_past}
use Rattle.tree_leaves.proofs.currency.Goals as goal

pub returns-then-s-at : goal.returns-then-s-at
returns-then-s-at c = λ h next e n. tag_past e c.cell-at.ensures c.if-s-at.true

pub returns : goal.returns
returns c = λ h next e n. currency_there e c.cell-at.ensures n c.part.ensures
