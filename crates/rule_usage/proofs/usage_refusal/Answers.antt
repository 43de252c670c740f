use native.Mathlib.Omega.{arith}
use Rattle.rule_usage.proofs.Walk.{at_start, none_left, refused, passed}
use Rattle.rule_usage.proofs.usage_refusal.Goals as goal

pub loop-k-init : goal.loop-k-init
loop-k-init c = (c.by_name-block.ensures, λ s root o e n. at_start c.args.payments o e)

pub returns-in_err-in_payment : goal.returns-in_err-in_payment
returns-in_err-in_payment c =
    let test = c.loop-k-test.true in
    let inv = c.loop-k.invariant in
    let children = c.by_name_again-block.ensures inv.0 in
    λ s root o e n. refused (inv.1 s root o e n) test (c.payment-payment.ensures (omega (arith, test, n))) children _ c.in_payment.ensures _ c.in_err-in_payment.was c.from_residual.ensures.1

pub loop-k-preserved : goal.loop-k-preserved
loop-k-preserved c =
    let test = c.loop-k-test.true in
    let inv = c.loop-k.invariant in
    let children = c.by_name_again-block.ensures inv.0 in
    (children, λ s root o e n. passed (inv.1 s root o e n) test (c.payment-payment.ensures (omega (arith, test, n))) children _ c.in_payment.ensures c.in_ok-in_payment.was)

pub returns : goal.returns
returns c = λ s root o e n. none_left (c.loop-k.invariant.1 s root o e n) c.loop-k-test.false
