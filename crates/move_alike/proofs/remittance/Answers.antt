use mathlib.Core.Path.{refl}
use Rattle.form_names.specs.Names.{is_sought}
use Rattle.tree_routes.specs.Finds.{rows_in}
use Rattle.move_alike.proofs.Alike.{in_payment_found}
use Rattle.move_alike.proofs.remittance.Goals as goal

pub returns : goal.returns
unfolding is_sought
returns c = λ s p h b. in_payment_found 48 (rows_in c.args.route.now) p (c.follow.ensures s _ h (c.first.ensures s _ p.own refl b))
