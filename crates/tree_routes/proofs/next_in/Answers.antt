use borrow.Author.Rules.{rules}
use Rattle.tree_routes.proofs.Laws.{ends_after, next_after}
use Rattle.tree_routes.proofs.next_in.Goals as goal

pub returns-then-next-i : goal.returns-then-next-i
returns-then-next-i c = (λ h. h, λ s t ts next y l all. ends_after l c.cell-next.ensures c.if-next-i.true)

pub returns : goal.returns
returns c = (λ h. search rules, λ s t ts next y l all. next_after l all c.cell-next.ensures (λ us rest. c.next_named.ensures.1 s _ us y (c.name_of.ensures y) rest))
