use mathlib.Core.Path.{◌∙◌}
use Rattle.leaf_remainders.specs.Remainders.{modulo_97}
use Rattle.leaf_remainders.proofs.Laws.{one_behind_the_other}
use Rattle.leaf_remainders.proofs.modulo_97.Goals as goal

pub returns : goal.returns
unfolding modulo_97
returns c = c.remainder.ensures.0 ∙ one_behind_the_other _ c.args.front.now c.args.end.now c.remainder-of_front.ensures.0
