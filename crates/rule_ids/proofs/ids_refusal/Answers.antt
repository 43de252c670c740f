use Rattle.rule_ids.proofs.Repeats.{before_ids, no_id_left, id-refused, id_passed}
use Rattle.rule_ids.proofs.ids_refusal.Goals as goal

pub loop-k-init : goal.loop-k-init
loop-k-init c = λ root o e n. before_ids o e

pub returns-in_err-id_at : goal.returns-in_err-id_at
returns-in_err-id_at c = λ root o e n. id-refused (c.loop-k.invariant root o e n) _ c.loop-k-test.true n c.id_at.ensures _ c.in_err-id_at.was c.from_residual.ensures.1

pub loop-k-preserved : goal.loop-k-preserved
loop-k-preserved c = λ root o e n. id_passed (c.loop-k.invariant root o e n) _ c.loop-k-test.true n c.id_at.ensures c.in_ok-id_at.was

pub returns : goal.returns
returns c = λ root o e n. no_id_left (c.loop-k.invariant root o e n) c.loop-k-test.false
