use Rattle.leaf_values.proofs.Laws.{all_first}
use Rattle.leaf_values.proofs.first_outside.Goals as goal

pub returns-then-known-eq3 : goal.returns-then-known-eq3
returns-then-known-eq3 c k = all_first (k c.if-known-eq3.true)
