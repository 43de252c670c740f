use Rattle.std.proofs.Common.{rules}
use Rattle.leaf_money.proofs.Cents.{is_amount}
use Rattle.leaf_money.proofs.amount.Goals as goal

pub returns : goal.returns
returns c = is_amount c.args.s.now c.money_cents.result c.is_some_and.result c.money_cents.ensures (search rules)
