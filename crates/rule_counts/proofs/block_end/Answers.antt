use Rattle.rule_counts.proofs.EachBlock.{passing, block_over, block_goes, payments_over}
use Rattle.rule_counts.proofs.block_end.Goals as goal

pub loop-at-init : goal.loop-at-init
loop-at-init c = λ s tree ps rest a e f mine behind. passing a e mine

pub returns-then-payment-k : goal.returns-then-payment-k
returns-then-payment-k c = λ s tree ps rest a e f mine behind. block_over (c.loop-at.invariant s tree ps rest a e f mine behind) c.loop-at-test.true f c.payment.ensures c.if-payment-k.true

pub loop-at-preserved : goal.loop-at-preserved
loop-at-preserved c = λ s tree ps rest a e f mine behind. block_goes (c.loop-at.invariant s tree ps rest a e f mine behind) c.loop-at-test.true f c.payment.ensures behind c.if-payment-k.false

pub returns : goal.returns
returns c = λ s tree ps rest a e f mine behind. payments_over (c.loop-at.invariant s tree ps rest a e f mine behind) c.loop-at-test.false
