use mathlib.Core.Path.{refl}
use lib.ListN.{length-set}
use native.Mathlib.Omega.{arith}
use Rattle.rule_limits.proofs.put_payment.Goals as goal

pub returns-then-k-ge-MOST_PAYMENTS : goal.returns-then-k-ge-MOST_PAYMENTS
returns-then-k-ge-MOST_PAYMENTS c = (refl, λ h o b n. absurd (omega arith))

pub returns : goal.returns
returns c = (simp length-set, λ h o b n. let x = c.narrow.ensures o in let y = c.narrow-2.ensures b in let z = c.narrow-3.ensures n in cc)
