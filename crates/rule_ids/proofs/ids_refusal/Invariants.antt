use Prim.Native.Nat.{◌≤◌}
use mathlib.Core.Path.{◌≡◌}
use lib.ListN.{length}
use Rattle.paper.specs.Form.{Element}
use Rattle.paper.specs.Payments.{blocks as all_blocks}
use Rattle.rule_limits.specs.Ordered.{Ordered}
use Rattle.rule_ids.proofs.Repeats.{BeforeId}
use Rattle.rule_ids.proofs.ids_refusal.Given as goal

abbrev pub invariant-loop-k : goal.invariant-loop-k
invariant-loop-k l =
    (root : Element) → Ordered l.s l.tree l.order root → l.blocks ≡ length (all_blocks root) → l.blocks ≤ 16 → BeforeId l.s l.tree l.order root l.k l.blocks
