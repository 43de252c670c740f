use Prim.Native.Nat.{ℕ}
use mathlib.Core.List.{List}
use mathlib.Core.Option.{Option}
use mathlib.Core.Bool.{true}
use mathlib.Core.Path.{◌≡◌}
use Rattle.paper.specs.Bytes.{every}
use Rattle.paper.specs.Form.{Element}
use Rattle.form_names.specs.Names.{is_sought}
use Rattle.tree_routes.specs.Finds.{Finds, rows_in}
use Rattle.tree_routes.proofs.AlongARoute.{Halfway}
use Rattle.tree_routes.proofs.follow.Given as goal

abbrev pub invariant-loop-row : goal.invariant-loop-row
invariant-loop-row l =
    (s : List ℕ) (o : Option Element) → every is_sought (rows_in l.route) ≡ true → Finds s l.tree o l.fn.from → Halfway s l.tree l.route o l.reached l.row-index
