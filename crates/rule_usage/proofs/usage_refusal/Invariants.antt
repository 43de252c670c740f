use Prim.Native.Nat.{ℕ, ◌≤◌}
use mathlib.Core.List.{List}
use mathlib.Core.Path.{◌≡◌}
use lib.ListN.{length}
use Rattle.paper.specs.Form.{Element}
use Rattle.paper.specs.Payments.{payments as all_payments}
use Rattle.tree_routes.specs.Finds.{ChildrenOf}
use Rattle.rule_limits.specs.Ordered.{Ordered}
use Rattle.rule_usage.proofs.Walk.{Left}
use Rattle.rule_usage.proofs.usage_refusal.Given as goal

abbrev pub invariant-loop-k : goal.invariant-loop-k
invariant-loop-k l =
    ChildrenOf l.tree l.known l.block
    × ((s : List ℕ) (root : Element) → Ordered s l.tree l.order root → l.payments ≡ length (all_payments root) → l.payments ≤ 64 → Left s l.tree l.order root l.payments l.k)
