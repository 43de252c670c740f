use Prim.Native.Nat.{◌≤◌}
use mathlib.Core.Path.{◌≡◌}
use lib.ListN.{length}
use Rattle.paper.specs.Form.{Element}
use Rattle.paper.specs.Payments.{payments as all_payments}
use Rattle.paper.specs.Accepted.{All}
use Rattle.tree_routes.specs.Finds.{ChildrenOf}
use Rattle.rule_limits.specs.Ordered.{Ordered}
use Rattle.verdict_table.specs.Rows.{Fitting}
use Rattle.verdict_table.proofs.Filling.{Filled}
use Rattle.verdict_table.proofs.fill.Given as goal

abbrev pub invariant-loop-k : goal.invariant-loop-k
invariant-loop-k l =
    ChildrenOf l.tree l.known l.block × ((root : Element) → length l.s ≤ 32768 → Ordered l.s l.tree l.order root
    → l.payments ≡ length (all_payments root) → All Fitting (all_payments root) → Filled l.s l.tree l.order l.initial.table root l.payments l.k l.table)
