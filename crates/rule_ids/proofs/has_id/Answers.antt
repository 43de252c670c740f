use mathlib.Core.Path.{refl}
use Rattle.paper.specs.Payments.{text_of}
use Rattle.form_names.specs.Names.{is_sought}
use Rattle.rule_ids.proofs.Repeats.{id_absent, id_there}
use Rattle.rule_ids.proofs.has_id.Goals as goal

pub returns-in_default : goal.returns-in_default
unfolding is_sought
returns-in_default c = λ b t lb lt. id_absent (text_of t) (c.child.ensures c.args.s.now b refl lb) c.in_default.is

pub returns : goal.returns
unfolding is_sought
returns c = λ b t lb lt. id_there (text_of t) (c.child.ensures c.args.s.now b refl lb) c.in-Some.is (c.text.ensures t lt) c.text-2.ensures c.same.ensures
