use Rattle.tree_fields.proofs.Fields.{route_leads}
use Rattle.tree_fields.proofs.within.Goals as goal

pub returns : goal.returns
returns c = λ s t y b. route_leads c.args.line.now t c.from.ensures (λ x. c.first-first.ensures s _ t x b) (λ x f. c.follow.ensures s _ x f) y
