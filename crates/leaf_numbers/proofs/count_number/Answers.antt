use Rattle.std.proofs.Common.{rules, ◌∙◌}
use Rattle.leaf_numbers.proofs.Laws.{count_read}
use Rattle.leaf_numbers.proofs.count_number.Goals as goal

pub returns : goal.returns
returns c = count_read c.args.s.now c.then.result (c.then.ensures.variant ∙ c.digits.ensures) (search rules)
