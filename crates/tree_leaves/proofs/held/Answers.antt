use Rattle.tree_leaves.proofs.Leaves.{held_there}
use Rattle.tree_leaves.proofs.held.Goals as goal

pub returns : goal.returns
returns c = λ h next e. held_there e c.cell.ensures c.cell-2.ensures c.part.ensures
