use Prim.Native.Nat.{◌+◌, ◌*◌, ◌^◌, ◌≤◌}
use mathlib.Core.Path.{◌≡◌}
use mathlib.Core.List.{List}
use lib.ListN.{length}
use Rattle.paper.specs.Payments.{Payment}
use Rattle.paper.specs.Accepted.{All}
use Rattle.rule_limits.specs.Ordered.{PaymentsAt}
use Rattle.tree_leaves.specs.Readable.{ReadPayment}
use Rattle.rule_totals.proofs.Amounts.{Summing}
use Rattle.rule_totals.proofs.sum_of.Given as goal

-- so many amounts come to at most so many times 10^17
abbrev pub invariant-loop-k : goal.invariant-loop-k
invariant-loop-k l = (l.sum ≤ l.k * 10 ^ 17) × ((ps : List Payment) → PaymentsAt l.s l.tree l.order l.from ps → l.to ≡ l.from + length ps → l.to ≤ 64 → All ReadPayment ps → Summing l.s l.tree l.order ps l.sum l.k l.to)
