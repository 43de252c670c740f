use Rattle.move_alike.proofs.Alike.{no_cents, cents_there}
use Rattle.tree_routes.proofs.WhatIsFound.{found_none, found_some}
use Rattle.move_alike.proofs.Side.cents.Goals as goal

pub returns-in_err-found : goal.returns-in_err-found
returns-in_err-found c = λ o f m. rw c.from_residual.ensures (no_cents (found_none f c.in_err-found.was))

pub returns : goal.returns
returns c = λ o f m. let t = found_some f c.in_ok-found.was in cents_there t.is_it (c.cents_at.ensures.1 t.it t.laid (m t.it t.is_it))
