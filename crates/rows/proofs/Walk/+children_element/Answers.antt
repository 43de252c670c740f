use mathlib.Core.Path.{◌∙◌, sym}
use Rattle.std.proofs.lemmas.Result.{err_from_is_err_and}
use Rattle.rows.proofs.Walking.{group_starts, no_way_back, child_not_found, child_refused, child_passed, group_ends, text_in_group, text_in_leaf, elements_in_group, elements_in_leaf, withdrawn}
use Rattle.rows.proofs.Walk.+children_element.Goals as goal

pub children-loop-child-init : goal.children-loop-child-init
children-loop-child-init t c = group_starts (c.from-row.ensures ∙ c.of_entry.ensures) c.of_entry-2.ensures c.of_entry-3.ensures c.cell-next.ensures

pub children-returns-then-after-child : goal.children-returns-then-after-child
children-returns-then-after-child t c = no_way_back c.loop-child.invariant c.loop-child-test.true c.cell-after.ensures c.if-after-child.true _

pub children-returns-in-Err : goal.children-returns-in-Err
children-returns-in-Err t c = child_not_found c.loop-child.invariant c.loop-child-test.true _ c.in-Err.ensures c.cell.ensures _ c.not_found.ensures

pub children-returns-in_err-element-in-Ok : goal.children-returns-in_err-element-in-Ok
children-returns-in_err-element-in-Ok t c =
    let p = err_from_is_err_and c.from_residual.result c.from_residual.ensures.1 in
    rw (p.1, p.2) (child_refused c.loop-child.invariant c.loop-child-test.true _ c.in-Ok.ensures _ c.element.ensures c.in_err-element-in-Ok.was)

pub children-loop-child-preserved : goal.children-loop-child-preserved
children-loop-child-preserved t c = child_passed c.loop-child.invariant c.loop-child-test.true _ c.in-Ok.ensures _ c.element.ensures c.in_ok-element-in-Ok.was c.cell-after.ensures c.if-after-child.false

pub children-returns : goal.children-returns
children-returns t c = group_ends c.loop-child.invariant c.loop-child-test.false c.cell-2.ensures _ c.ended.ensures

pub element-returns-then-is_withdrawn : goal.element-returns-then-is_withdrawn
element-returns-then-is_withdrawn t c = withdrawn _ _ _ _ _ _ _ _ (c.from-row.ensures ∙ c.of_entry.ensures) (sym c.is_withdrawn.ensures ∙ c.if-is_withdrawn.true) c.cell.ensures

pub element-returns-then-longest-eq0 : goal.element-returns-then-longest-eq0
element-returns-then-longest-eq0 t c = text_in_group _ _ _ _ _ _ _ _ (c.from-row.ensures ∙ c.of_entry.ensures) (c.from-longest.ensures ∙ c.of_entry-2.ensures) c.cell-2.ensures (sym c.is_withdrawn.ensures ∙ c.if-is_withdrawn.false) _ c.if-cell-i.true c.if-longest-eq0.true c.text_in_group.ensures

pub element-returns-then-cell-i : goal.element-returns-then-cell-i
element-returns-then-cell-i t c = text_in_leaf _ _ _ _ _ _ _ _ (c.from-row.ensures ∙ c.of_entry.ensures) (c.from-longest.ensures ∙ c.of_entry-2.ensures) c.cell-2.ensures (sym c.is_withdrawn.ensures ∙ c.if-is_withdrawn.false) _ c.if-cell-i.true c.if-longest-eq0.false c.leaf.ensures

pub element-returns-then-longest-eq0-2 : goal.element-returns-then-longest-eq0-2
element-returns-then-longest-eq0-2 t c = elements_in_group _ _ _ _ _ _ _ _ (c.from-row.ensures ∙ c.of_entry.ensures) (c.from-longest.ensures ∙ c.of_entry-2.ensures) c.cell-2.ensures (sym c.is_withdrawn.ensures ∙ c.if-is_withdrawn.false) _ c.if-cell-i.false c.if-longest-eq0-2.true c.children.ensures

pub element-returns : goal.element-returns
element-returns t c = elements_in_leaf _ _ _ _ _ _ _ _ (c.from-row.ensures ∙ c.of_entry.ensures) (c.from-longest.ensures ∙ c.of_entry-2.ensures) c.cell-2.ensures (sym c.is_withdrawn.ensures ∙ c.if-is_withdrawn.false) c.if-cell-i.false c.if-longest-eq0-2.false c.cell-3.ensures
