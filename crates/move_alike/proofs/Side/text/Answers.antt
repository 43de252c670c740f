use Rattle.move_alike.proofs.Alike.{no_text, a_text_there}
use Rattle.tree_routes.proofs.WhatIsFound.{found_none, found_some}
use Rattle.move_alike.proofs.Side.text.Goals as goal

pub returns-in_err-found : goal.returns-in_err-found
returns-in_err-found c = λ o f. rw c.from_residual.ensures (no_text (found_none f c.in_err-found.was))

pub returns : goal.returns
returns c = λ o f. let t = found_some f c.in_ok-found.was in a_text_there t.is_it (c.text.ensures t.it t.laid)
