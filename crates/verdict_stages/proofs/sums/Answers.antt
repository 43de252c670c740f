use mathlib.Core.Path.{sym, ◌∙◌}
use native.Mathlib.Nat.{zero-add}
use Rattle.paper.specs.Payments.{payments as all_payments, total}
use Rattle.verdict_stages.proofs.Readable.{readable}
use Rattle.verdict_stages.proofs.InTurn.{handed_on, counts_refused, all_passed}
use Rattle.paper_acceptance.proofs.Proper.{named_proper}
use Rattle.verdict_stages.proofs.sums.Goals as goal

pub returns-in_err-counts_refusal : goal.returns-in_err-counts_refusal
unfolding total
returns-in_err-counts_refusal c = λ profile root l o b p few v small.
    let read = readable (named_proper profile) root v in
    let summed = c.sum_of-cents.ensures (all_payments root) o.payments_at (p ∙ sym (zero-add _)) few read.in_payments in
    handed_on c.from_residual.ensures.1 (counts_refused (c.in_err-counts_refusal.ensures root l o b p few small summed read))

pub returns : goal.returns
unfolding total
returns c = λ profile root l o b p few v small.
    let read = readable (named_proper profile) root v in
    let summed = c.sum_of-cents.ensures (all_payments root) o.payments_at (p ∙ sym (zero-add _)) few read.in_payments in
    all_passed (named_proper profile) (c.in_ok-counts_refusal.ensures root l o b p few small summed read) o b p few small v summed
