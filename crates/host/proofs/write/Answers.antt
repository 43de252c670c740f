use mathlib.Core.Path.{◌∙◌}
use Rattle.host.proofs.Laws.{none_written, one_written, high_first}
use Rattle.host.proofs.write.Goals as goal

pub loop-i-init : goal.loop-i-init
loop-i-init c = none_written c.args.numbers.now c.args.table.now

pub loop-i-preserved : goal.loop-i-preserved
loop-i-preserved c =
    one_written c.args.numbers.now c.args.table.now c.loop-i.i c.loop-i-test.true c.loop-i.invariant
    (c.copy_from_slice.ensures.after ∙ c.to_be_bytes.ensures ∙ high_first _ (c.type_inv.numbers c.loop-i.i).fits)
