use native.Mathlib.Omega.{arith}
use Rattle.leaf_remainders.proofs.Laws.{alone}
use Rattle.leaf_remainders.proofs.read_as.Goals as goal

pub returns-then-digit : goal.returns-then-digit
returns-then-digit c = (rw (alone _, ← c.digit.ensures, c.if-digit.true, c.above.ensures.0), omega arith)

pub returns-else-digit : goal.returns-else-digit
returns-else-digit c = (rw (alone _, ← c.digit.ensures, c.if-digit.false, c.above-else-digit.ensures.0), omega arith)
