use Prim.Native.Nat.{ℕ}
use mathlib.Core.Path.{◌≡◌}
use native.Mathlib.Omega.{arith}
use lib.ListN.{get_or}
use Rattle.std.proofs.lemmas.Grind.{common_steps}
use Rattle.std.specs.Prelude as code
use Rattle.std.specs.Prelude.{None}
use Rattle.tree_routes.proofs.FirstOfEachName.{number_of_row, finds_there}
use Rattle.tree_routes.proofs.first.Goals as goal

pub returns-then-name-ge59 : goal.returns-then-name-ge59
returns-then-name-ge59 c = λ s tree t y b. number_of_row _ y (c.name_of-name.ensures y) b c.if-name-ge59.true

pub returns : goal.returns
returns c = λ s tree t y b.
    let e : ◌≡◌ {A = code.Option ℕ} c.map.result (get_or c.args.children.now c.name_of-name.result None) = grind (arith, common_steps, c.map.ensures.cases) in
    rw e (finds_there _ y (c.name_of-name.ensures y) b)
