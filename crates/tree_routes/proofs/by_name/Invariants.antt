use Prim.Native.Nat.{◌-◌, ◌<◌}
use Rattle.tree_routes.proofs.FirstOfEachName.{Walk}
use Rattle.tree_routes.proofs.by_name.Given as goal

abbrev pub invariant-loop-at : goal.invariant-loop-at
invariant-loop-at l = (l.i < l.at) × Walk l.tree l.i l.firsts l.at l.stop

abbrev pub decreases-loop-at : goal.decreases-loop-at
decreases-loop-at l = l.stop - l.at
