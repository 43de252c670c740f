use Prim.Native.Nat.{ℕ, ◌≤◌, ◌-◌}
use mathlib.Core.List.{List}
use mathlib.Core.Bool.{true}
use mathlib.Core.Path.{◌≡◌}
use Rattle.paper.specs.Form.{Elements}
use Rattle.paper.specs.Rows.{name as name-of-row}
use Rattle.paper.specs.Payments.{listed}
use Rattle.form_names.specs.Names.{name_number, is_sought}
use Rattle.tree.specs.Laid.{LaidAll}
use Rattle.tree_routes.proofs.Laws.{Left}
use Rattle.tree_routes.proofs.next_named.Given as goal

abbrev pub invariant-loop-at : goal.invariant-loop-at
invariant-loop-at l =
    (l.i ≤ l.at) × ((s : List ℕ) (row : ℕ) (ts : Elements) → is_sought row ≡ true → l.name ≡ name_number (name-of-row row) → LaidAll s l.tree ts l.i l.stop → Left s l.tree row (listed ts) l.at l.stop)

abbrev pub decreases-loop-at : goal.decreases-loop-at
decreases-loop-at l = l.stop - l.at
