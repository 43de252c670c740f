use Rattle.rows.proofs.FromRoot.{root_of_text, root_of_elements}
use Rattle.rows.proofs.rows_refusal.Goals as goal

pub returns-then-cell-le1 : goal.returns-then-cell-le1
returns-then-cell-le1 c = root_of_text _ _ _ _ _ c.rows.ensures c.places.ensures c.cell.ensures c.if-cell-le1.true c.text_in_group.ensures

pub returns : goal.returns
returns c = root_of_elements _ _ _ _ _ c.rows.ensures c.places.ensures c.cell.ensures _ c.judging_of.ensures c.if-cell-le1.false c.children.ensures
