use Rattle.tree_routes.proofs.FirstOfEachName.{children_again}
use Rattle.tree_routes.proofs.by_name_again.Goals as goal

pub returns-then-known-i : goal.returns-then-known-i
returns-then-known-i c = λ f. children_again c.if-known-i.true f

pub returns : goal.returns
returns c = λ f. c.by_name.ensures
