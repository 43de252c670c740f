use Rattle.verdict_table.proofs.Laws.{nothing, held}
use Rattle.verdict_table.proofs.span_of.Goals as goal

pub returns-in_default : goal.returns-in_default
returns-in_default c = λ s o h. nothing h c.in_default.is

pub returns : goal.returns
returns c = λ s o h. rw c.saturating_sub.ensures (held h c.in-Some.is c.cell-start.ensures c.cell-close.ensures)
