use Rattle.verdict_stages.proofs.InTurn.{handed_on, rows_refused, rows_refused_first, found_none}
use Rattle.paper_acceptance.proofs.OneWalk.{rows_too}
use Rattle.rows.specs.Walk.{refusal_by}
use Rattle.verdict_stages.proofs.stages.Goals as goal
use Rattle.verdict_stages.proofs.stages.Goals.{in-Err+else-of_rows+in_ok-rows_refusal, in_default}

pub returns-then-of_rows : goal.returns-then-of_rows
unfolding refusal_by
returns-then-of_rows c = λ root l room. rows_refused_first _ (c.in-Err.ensures root l) (c.of_rows.ensures c.if-of_rows.true)

pub returns-in_err-rows_refusal : goal.returns-in_err-rows_refusal
unfolding refusal_by
returns-in_err-rows_refusal c = λ root l room. handed_on c.from_residual.ensures.1 (rows_refused _ (c.in_err-rows_refusal.ensures root l))

pub returns : goal.returns
unfolding refusal_by
returns c = λ root l room.
    elim c.match-values.branch [
      | in-Err+else-of_rows+in_ok-rows_refusal w ↦ c.limited.ensures c.args.profile root l room (found_none (w.in_ok-rows_refusal.ensures root l)) (rw w.values-is (w.in-Err.ensures root l))
      | in_default w ↦ c.limited.ensures c.args.profile root l room (rows_too _ root (found_none (w.in_default.ensures root l))) (rw w.values-is (c.rows_refusal-values.ensures root l))
    ]
