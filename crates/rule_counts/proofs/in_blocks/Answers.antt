use Rattle.rule_counts.proofs.EachBlock.{blocks_left, blocks_done, block_refused, block_passed}
use Rattle.rule_counts.proofs.in_blocks.Goals as goal

pub loop-k-init : goal.loop-k-init
loop-k-init c = λ bs w. blocks_left w

pub returns-in_err-in_block : goal.returns-in_err-in_block
returns-in_err-in_block c = λ bs w. block_refused (c.loop-k.invariant bs w) _ c.loop-k-test.true c.block.ensures c.block_end-to.ensures c.in_block.ensures _ c.in_err-in_block.was c.from_residual.ensures.1

pub loop-k-preserved : goal.loop-k-preserved
loop-k-preserved c = λ bs w. block_passed (c.loop-k.invariant bs w) _ c.loop-k-test.true c.block.ensures c.block_end-to.ensures c.in_block.ensures c.in_ok-in_block.was

pub returns : goal.returns
returns c = λ bs w. blocks_done (c.loop-k.invariant bs w) c.loop-k-test.false
