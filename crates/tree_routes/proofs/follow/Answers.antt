use Rattle.tree_routes.proofs.Laws.{rows_stop, rows_end}
use Rattle.tree_routes.proofs.AlongARoute.{sets_out, nowhere, arrived, one_row_on, leads_nowhere}
use Rattle.tree_routes.proofs.follow.Goals as goal

pub loop-row-init : goal.loop-row-init
loop-row-init c = λ s o y f. sets_out y f c.in_ok-reached.was

pub returns-in_err-reached : goal.returns-in_err-reached
returns-in_err-reached c = λ s o y f. rw c.from_residual.ensures (nowhere _ f c.in_err-reached.was)

pub returns-then-row-eq0 : goal.returns-then-row-eq0
returns-then-row-eq0 c = λ s o y f. arrived (rows_stop _ _ c.loop-row-test.true c.if-row-eq0.true) (c.loop-row.invariant s o y f)

pub returns-in_err-reached-2 : goal.returns-in_err-reached-2
returns-in_err-reached-2 c =
    λ s o y f.
    rw c.from_residual-in_err-reached-2.ensures
    (leads_nowhere c.loop-row-test.true c.if-row-eq0.false c.from.ensures (c.child.ensures s) (c.loop-row.invariant s o y f) c.in_err-reached-2.was)

pub loop-row-preserved : goal.loop-row-preserved
loop-row-preserved c =
    λ s o y f. one_row_on c.loop-row-test.true c.if-row-eq0.false c.from.ensures (c.child.ensures s) (c.loop-row.invariant s o y f) c.in_ok-reached-2.was

pub returns : goal.returns
returns c = λ s o y f. arrived (rows_end _ _ c.loop-row-test.false) (c.loop-row.invariant s o y f)
