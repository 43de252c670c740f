use Prim.Native.Nat.{ℕ, ◌+◌, ◌≤◌}
use mathlib.Core.Path.{◌≡◌}
use mathlib.Core.List.{List, ◌++◌}
use lib.ListN.{length}
use Rattle.paper.specs.Payments.{Payment}
use Rattle.paper.specs.Accepted.{All}
use Rattle.rule_limits.specs.Ordered.{PaymentsAt}
use Rattle.rule_counts.specs.Counted.{InBlock, BehindBlock}
use Rattle.rule_counts.proofs.EachBlock.{Passing}
use Rattle.rule_counts.proofs.block_end.Given as goal

abbrev pub invariant-loop-at : goal.invariant-loop-at
invariant-loop-at l = (s tree : List ℕ) (ps rest : List Payment) → PaymentsAt s tree l.order l.from (ps ++ rest) → l.payments ≡ l.from + length (ps ++ rest) → l.payments ≤ 64 → All (InBlock l.k) ps → All (BehindBlock l.k) rest → Passing s tree l.order l.k ps rest l.from l.at l.payments
