use Rattle.verdict_stages.proofs.InTurn.{too_long, form_refuses, form_passes}
use Rattle.verdict_stages.proofs.outcome.Goals as goal

pub returns-then-s-gt-LARGEST_MESSAGE : goal.returns-then-s-gt-LARGEST_MESSAGE
returns-then-s-gt-LARGEST_MESSAGE c = λ _ _. too_long c.if-s-gt-LARGEST_MESSAGE.true

pub returns-in_err-form_of : goal.returns-in_err-form_of
returns-in_err-form_of c = λ h k. form_refuses _ c.if-s-gt-LARGEST_MESSAGE.false _ (c.in_err-form_of.ensures h) c.from_residual.ensures.1

pub returns : goal.returns
returns c = λ h k. form_passes _ c.if-s-gt-LARGEST_MESSAGE.false (c.in_ok-form_of.ensures h) (λ root l. c.stages.ensures root l k)
