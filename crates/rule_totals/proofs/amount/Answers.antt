use mathlib.Core.Path.{refl}
use mathlib.Core.List.{[], ◌∷◌}
use Rattle.paper.specs.Bytes.{every}
use Rattle.form_names.specs.Names.{is_sought}
use Rattle.tree_routes.specs.Finds.{rows_in}
use Rattle.rule_totals.proofs.Amounts.{route_found, amount_absent, amount_there}
use borrow.Author.Rules.{rules}
use Rattle.rule_totals.proofs.amount.Goals as goal

pub returns-in-None : goal.returns-in-None
unfolding rows_in every is_sought
returns-in-None c = (search rules, λ t l read. amount_absent t (route_found (41 ∷ 42 ∷ []) refl l (c.follow.ensures _)) c.in-None.is)

pub returns-in-Some : goal.returns-in-Some
unfolding rows_in every is_sought
returns-in-Some c = (c.cents_at.ensures.0, λ t l read. amount_there t (route_found (41 ∷ 42 ∷ []) refl l (c.follow.ensures _)) c.in-Some.is c.cents_at.ensures.1 read)
