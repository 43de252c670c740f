use mathlib.Core.Path.{refl, ap}
use native.Mathlib.Omega.{arith}
use lib.ListN.{set, length-set}
use Rattle.rule_limits.proofs.put_block.Goals as goal

pub returns-then-k-ge-MOST_BLOCKS : goal.returns-then-k-ge-MOST_BLOCKS
returns-then-k-ge-MOST_BLOCKS c = (refl, λ h w. absurd (omega arith))

pub returns : goal.returns
returns c = (simp length-set, λ h w. ap (set c.args.order.now c.args.k) (c.narrow.ensures w))
