use Rattle.tree.proofs.Laws.{at_cell, entry_at}
use Rattle.verdict_table.proofs.Laws.{the_row, own_inside}
use Rattle.verdict_table.proofs.numbers_of.Goals as goal

pub returns : goal.returns
returns c = λ w e p there b f.
    let own = there.own_is in
    let spans = c.spans_of-of.ensures _ p e (c.by_name-own.ensures _ p.own own) b in
    let at = c.cell.ensures in
    the_row w spans f there.number_is (c.amount-cents.ensures.1 p.own own f.amount) (at_cell (entry_at own) at) (own_inside own at) c.row.ensures
