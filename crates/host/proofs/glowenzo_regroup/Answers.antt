use mathlib.Core.Path.{◌∙◌}
use Rattle.host.proofs.Laws.{regrouped_in_profile}
use Rattle.host.proofs.glowenzo_regroup.Goals as goal

pub returns : goal.returns
returns c = c.from.ensures ∙ regrouped_in_profile _ _ c.args.first.now c.args.second.now c.args.list.now c.profile_of.ensures c.regroup-found.ensures
