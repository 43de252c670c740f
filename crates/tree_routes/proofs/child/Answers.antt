use native.Mathlib.Omega.{arith}
use Rattle.tree_routes.proofs.Laws.{ends_at, finds_none, finds_one}
use Rattle.tree_routes.proofs.child.Goals as goal

pub returns-then-stop-at : goal.returns-then-stop-at
returns-then-stop-at c = λ s t y l. finds_none t (c.first_in-at.ensures s t l.next y l.laid) (omega (arith, ends_at l.laid c.cell-stop.ensures))

pub returns : goal.returns
returns c = λ s t y l. finds_one t (c.first_in-at.ensures s t l.next y l.laid) (omega (arith, ends_at l.laid c.cell-stop.ensures))
