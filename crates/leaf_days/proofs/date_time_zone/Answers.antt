use Rattle.std.proofs.Common.{rules}
use Rattle.leaf_days.proofs.Times.{split_time}
use Rattle.leaf_days.proofs.date_time_zone.Goals as goal

pub returns : goal.returns
returns c = split_time c.args.s.now c.split_at_checked.result c.is_some_and.result c.split_at_checked.ensures.cases (search rules)
