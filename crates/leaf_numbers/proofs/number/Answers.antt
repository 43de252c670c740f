use native.Mathlib.Omega.{arith}
use lib.ListN.{take, length-take}
use mathlib.Core.Path.{refl}
use Rattle.paper.specs.Values.{number, number_after}
use Rattle.leaf_numbers.proofs.Laws.{number_next, small_zero, small_goes, small_fits, spells_first}
use Rattle.leaf_numbers.proofs.number.Goals as goal

pub loop-b-init : goal.loop-b-init
unfolding number number_after
loop-b-init c = (refl, small_zero)

pub overflow_mul-n : goal.overflow_mul-n
overflow_mul-n c = omega (arith, small_fits c.loop-b.n c.loop-b.b-index c.loop-b.invariant.1 (omega (arith, length-take c.min.result c.args.s.now)))

pub overflow_add-n : goal.overflow_add-n
overflow_add-n c = omega (arith, small_fits c.loop-b.n c.loop-b.b-index c.loop-b.invariant.1 (omega (arith, length-take c.min.result c.args.s.now)))

pub loop-b-preserved : goal.loop-b-preserved
loop-b-preserved c = (number_next (take c.min.result c.args.s.now) c.loop-b.n c.loop-b.b-index c.above.result c.loop-b-test.true c.loop-b.invariant.0 c.above.ensures.0, small_goes c.loop-b.n c.loop-b.b-index c.above.result c.loop-b.invariant.1 c.above.ensures.1)

pub returns : goal.returns
returns c = spells_first _ _ _ _ c.min.ensures c.loop-b-test.false (omega (arith, length-take c.min.result c.args.s.now)) c.loop-b.invariant.0 c.loop-b.invariant.1
