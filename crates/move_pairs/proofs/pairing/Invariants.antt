use Rattle.move_pairs.proofs.Pairs.{SoFar}
use Prim.Native.Nat.{ℕ}
use mathlib.Core.List.{List}
use mathlib.Core.Option.{some}
use mathlib.Core.Path.{◌≡◌}
use lib.ListN.{length}
use Rattle.paper.specs.Form.{Element}
use Rattle.paper.specs.Regrouping.{ordinals_of, all_values}
use Rattle.move_pairs.specs.Pairs.{InOrder, Known}
use Rattle.move_pairs.proofs.pairing.Given as goal

abbrev pub invariant-loop-k : goal.invariant-loop-k
invariant-loop-k l =
    Known l.one.side.tree.now l.first × Known l.other.side.tree.now l.second
    × ((root1 root2 : Element) (ks : List ℕ) → InOrder l.one.side.bytes.now l.one.side.tree.now l.one.order.now l.payments root1
    → InOrder l.other.side.bytes.now l.other.side.tree.now l.other.order.now l.payments root2 → ordinals_of l.list ≡ some ks → length ks ≡ l.payments
    → SoFar (all_values root1) (all_values root2) ks l.marks l.k)
