use mathlib.Core.Path.{sym, ◌∙◌}
use Rattle.rows_places.proofs.Places.{seek_never, seek_early, seek_plus, seek_once}
use Rattle.rows_places.proofs.seek.Goals as goal

pub returns-in_default : goal.returns-in_default
returns-in_default c = λ profile parent s h next r e. seek_never profile _ _ parent h.name _ _ (c.in_default.ensures.stands profile parent s h next r e)

pub returns-in-Some-missing : goal.returns-in-Some-missing
returns-in-Some-missing c = λ profile parent s h next r e. seek_early profile _ _ parent h.name _ _ _ _ (c.in-Some.ensures.stands profile parent s h next r e) _ c.in-Some-missing.ensures

pub returns-then-number-eq2 : goal.returns-then-number-eq2
returns-then-number-eq2 c = λ profile parent s h next r e. seek_plus profile _ _ parent h.name _ _ _ _ (c.in-Some.ensures.stands profile parent s h next r e) c.in_default-missing.ensures (sym c.number.ensures ∙ c.if-number-eq2.true)

pub returns : goal.returns
returns c = λ profile parent s h next r e. seek_once profile _ _ parent h.name _ _ _ _ (c.in-Some.ensures.stands profile parent s h next r e) c.in_default-missing.ensures (λ k. c.if-number-eq2.false (c.number.ensures ∙ k))
