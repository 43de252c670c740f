use mathlib.Core.Path.{ap, ◌∙◌}
use Rattle.std.specs.Option.{is_some}
use Rattle.leaf_money.proofs.Cents.{is_money}
use Rattle.leaf_money.proofs.money.Goals as goal

pub returns : goal.returns
returns c = c.is_some.ensures ∙ ap is_some c.money_cents.ensures ∙ is_money _
