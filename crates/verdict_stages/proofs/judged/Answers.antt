use Rattle.verdict_stages.proofs.InTurn.{handed_on, first_refuses, later_passes, found_none}
use Rattle.verdict_stages.proofs.judged.Goals as goal

pub returns-in_err-values : goal.returns-in_err-values
returns-in_err-values c = λ profile root l v o b p few small. handed_on c.from_residual.ensures.1 (first_refuses _ _ (rw c.in_err-values.was at v))

pub returns-in_err-usage_refusal : goal.returns-in_err-usage_refusal
returns-in_err-usage_refusal c = λ profile root l v o b p few small.
    handed_on c.from_residual-in_err-usage_refusal.ensures.1
    (later_passes _ _ (rw c.in_ok-values.was at v) (first_refuses _ _ (c.in_err-usage_refusal.ensures _ root o p few)))

pub returns-in_err-ids_refusal : goal.returns-in_err-ids_refusal
returns-in_err-ids_refusal c = λ profile root l v o b p few small.
    handed_on c.from_residual-in_err-ids_refusal.ensures.1
    (later_passes _ _ (rw c.in_ok-values.was at v)
    (later_passes _ _ (c.in_ok-usage_refusal.ensures _ root o p few) (first_refuses _ _ (c.in_err-ids_refusal.ensures root o b small))))

pub returns : goal.returns
returns c = λ profile root l v o b p few small.
    let passed = rw c.in_ok-values.was at v in
    later_passes _ _ passed
    (later_passes _ _ (c.in_ok-usage_refusal.ensures _ root o p few)
    (later_passes _ _ (c.in_ok-ids_refusal.ensures root o b small) (c.sums.ensures profile root l o b p few (found_none passed) small)))
