use mathlib.Core.Path.{◌∙◌}
use Rattle.move_alike.proofs.Alike.{texts_alike}
use Rattle.move_alike.proofs.same_given.Goals as goal

pub returns : goal.returns
returns c = λ o u f g. c.eq.ensures ∙ texts_alike _ _ _ _ (c.text.ensures o f) (c.text-2.ensures u g)
