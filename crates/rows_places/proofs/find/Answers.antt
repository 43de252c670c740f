use Rattle.rows_places.proofs.Places.{find_starts, find_goes, find_stops, find_ends}
use Rattle.rows_places.proofs.find.Goals as goal

pub loop-p-init : goal.loop-p-init
loop-p-init c = λ profile parent s h next r e. find_starts profile _ _ parent h.name _ _

pub returns-in-Some-clause-stands : goal.returns-in-Some-clause-stands
returns-in-Some-clause-stands c = λ profile parent s h next r e. find_stops profile _ _ parent h.name _ _ _ _ c.loop-p.auto.p c.loop-p-test.true (c.loop-p.invariant profile parent s h next r e) (c.in-Some.ensures profile parent s h next (r _ c.loop-p.auto.p c.loop-p-test.true) e)

pub loop-p-preserved : goal.loop-p-preserved
loop-p-preserved c = λ profile parent s h next r e. find_goes profile _ _ parent h.name _ _ _ c.loop-p.auto.p c.loop-p-test.true (c.loop-p.invariant profile parent s h next r e) (c.in_default.ensures profile parent s h next (r _ c.loop-p.auto.p c.loop-p-test.true) e)

pub returns-clause-stands : goal.returns-clause-stands
returns-clause-stands c = λ profile parent s h next r e. find_ends profile _ _ parent h.name _ _ _ c.loop-p-test.false (c.loop-p.invariant profile parent s h next r e)
