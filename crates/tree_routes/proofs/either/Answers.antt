use Rattle.tree_routes.proofs.WhatIsFound.{first_of_two}
use Rattle.tree_routes.proofs.either.Goals as goal

pub returns : goal.returns
returns c = λ s tree o u f g. rw c.or.ensures (first_of_two f g)
