use Rattle.tree_routes.proofs.Laws.{ends_after, first_inside}
use Rattle.tree_routes.proofs.first_in.Goals as goal

pub returns-then-stop-i : goal.returns-then-stop-i
returns-then-stop-i c = λ s t next y l. ends_after l c.cell-stop.ensures c.if-stop-i.true

pub returns : goal.returns
returns c = λ s t next y l. first_inside l c.cell-stop.ensures (λ ts all. c.next_named.ensures.1 s _ ts y (c.name_of.ensures y) all)
