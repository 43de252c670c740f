use mathlib.Core.Path.{◌∙◌}
use Rattle.move_alike.proofs.Alike.{cents_alike}
use Rattle.move_alike.proofs.same_cents.Goals as goal

pub returns : goal.returns
returns c = λ o u f g x y. c.eq.ensures ∙ cents_alike _ _ _ _ (c.cents.ensures o f x) (c.cents-2.ensures u g y)
