use mathlib.Core.Path.{refl}
use Rattle.tree_leaves.proofs.Parts.{part_is}
use Rattle.tree_leaves.proofs.part.Goals as goal

pub returns : goal.returns
returns c = part_is c.args.s.now c.args.from c.args.to c.min.result c.get.result _ _ c.min.ensures c.get.ensures.lookup.0 refl c.unwrap_or.ensures
