use native.Mathlib.Omega.{arith}
use Rattle.rule_limits.specs.Ordered.{payment_in}
use Rattle.rule_limits.proofs.payment.Goals as goal

pub returns-then-k-ge-MOST_PAYMENTS : goal.returns-then-k-ge-MOST_PAYMENTS
returns-then-k-ge-MOST_PAYMENTS c = λ h. absurd (omega arith)

pub returns : goal.returns
unfolding payment_in
returns c = λ h. let x = c.wide.ensures in let y = c.wide-2.ensures in let z = c.wide-3.ensures in cc
