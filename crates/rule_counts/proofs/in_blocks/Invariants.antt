use mathlib.Core.List.{List}
use Rattle.paper.specs.Form.{Element}
use Rattle.rule_counts.specs.Counted.{BlocksFrom}
use Rattle.rule_counts.proofs.EachBlock.{BlocksLeft}
use Rattle.rule_counts.proofs.in_blocks.Given as goal

abbrev pub invariant-loop-k : goal.invariant-loop-k
invariant-loop-k l = (bs : List Element) → BlocksFrom l.s l.tree l.order 0 0 l.blocks l.payments bs → BlocksLeft l.s l.tree l.order l.k l.from l.blocks l.payments bs
