use native.Mathlib.Omega.{arith}
use Rattle.move_lists.proofs.Lists.{past_list, ordinal_there}
use Rattle.move_lists.proofs.ordinal.Goals as goal

pub returns-then-list-k : goal.returns-then-list-k
returns-then-list-k c = λ ks e. past_list c.args.list.now ks _ (omega arith) e

pub returns : goal.returns
returns c = λ ks e. ordinal_there c.args.list.now ks _ c.number_at.ensures.within c.number_at.ensures.past e
