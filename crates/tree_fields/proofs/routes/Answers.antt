use mathlib.Core.Path.{refl}
use Rattle.tree_fields.specs.Routes.{route_table}
use Rattle.tree_fields.proofs.routes.Goals as goal

pub returns : goal.returns
unfolding route_table
returns c = refl
