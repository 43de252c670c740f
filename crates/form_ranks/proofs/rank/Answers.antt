use borrow.Author.Rules.{rules}
use mathlib.Core.Path.{ap, ◌∙◌}
use Rattle.form_ranks.specs.Ranks.{rank}
use Rattle.form_ranks.proofs.rank.Goals as goal

pub returns : goal.returns
returns c = λ t. t.right _ (search rules) ∙ ap rank c.from.ensures
