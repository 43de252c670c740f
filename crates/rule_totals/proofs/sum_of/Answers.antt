use native.Mathlib.Omega.{arith}
use Rattle.rule_totals.proofs.Amounts.{summing, sum_goes, sum-ends}
use Rattle.rule_totals.proofs.sum_of.Goals as goal

pub returns-then-to-gt-MOST_PAYMENTS : goal.returns-then-to-gt-MOST_PAYMENTS
returns-then-to-gt-MOST_PAYMENTS c = λ ps a e f h. absurd (omega (arith, c.if-to-gt-MOST_PAYMENTS.true, f))

pub loop-k-init : goal.loop-k-init
loop-k-init c = (omega arith, λ ps a e f h. summing a e h)

pub overflow_add-sum : goal.overflow_add-sum
overflow_add-sum c = omega (arith, c.loop-k.invariant.0, c.amount-sum.ensures.0, c.loop-k-test.true, c.if-to-gt-MOST_PAYMENTS.false)

pub loop-k-preserved : goal.loop-k-preserved
loop-k-preserved c = (omega (arith, c.loop-k.invariant.0, c.amount-sum.ensures.0), λ ps a e f h. sum_goes (c.loop-k.invariant.1 ps a e f h) c.loop-k-test.true f c.payment.ensures c.amount-sum.ensures.1)

pub returns : goal.returns
returns c = λ ps a e f h. sum-ends (c.loop-k.invariant.1 ps a e f h) c.loop-k-test.false
