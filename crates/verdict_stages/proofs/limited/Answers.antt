use Rattle.verdict_stages.proofs.InTurn.{handed_on, limits_refused, limits_passed}
use Rattle.verdict_stages.proofs.limited.Goals as goal

pub returns-in_err-many : goal.returns-in_err-many
returns-in_err-many c = λ profile root l room n v. handed_on c.from_residual.ensures.1 (limits_refused _ n (c.in_err-many.ensures.1 _ root l room))

pub returns : goal.returns
returns c = λ profile root l room n v.
    let few = c.in_ok-many.ensures.0.0 in
    limits_passed _ n (c.in_ok-many.ensures.1 _ root l room) (λ o b p. c.judged.ensures profile root l v o b p few.1 few.0)
