use native.Mathlib.Omega.{arith}
use Rattle.verdict_table.proofs.Filling.{start, one_filled, all_filled}
use Rattle.verdict_table.proofs.fill.Goals as goal

pub loop-k-init : goal.loop-k-init
loop-k-init c = (c.by_name-block.ensures, λ root w o e h. start o e h)

pub loop-k-preserved : goal.loop-k-preserved
loop-k-preserved c =
    let children = c.by_name_again-block.ensures c.loop-k.invariant.0 in (
      children,
      λ root w o e h.
          one_filled (c.loop-k.invariant.1 root w o e h) c.loop-k-test.true (c.payment-payment.ensures (omega arith))
          (λ p there f. c.numbers_of-numbers.ensures w c.routes-routes.ensures p there (children _ p.block there.block_is) f)
          c.copy_from_slice.ensures.after,
    )

pub returns : goal.returns
returns c = λ w root o e few h long. all_filled (c.loop-k.invariant.1 root w o e h) c.loop-k-test.false
