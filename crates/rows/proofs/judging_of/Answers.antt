use Rattle.rows_contents.proofs.Judgings.{rows_judged}
use Rattle.rows.proofs.FromRoot.{judges_values}
use Rattle.rows.proofs.judging_of.Goals as goal

pub returns-then-judging : goal.returns-then-judging
returns-then-judging c = rw c.if-judging.true (judges_values _ _ c.of_values.ensures)

pub returns-else-judging : goal.returns-else-judging
returns-else-judging c = rw c.if-judging.false rows_judged
