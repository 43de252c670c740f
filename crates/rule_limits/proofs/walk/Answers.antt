use mathlib.Core.Path.{refl, ◌∙◌}
use native.Mathlib.Omega.{arith}
use borrow.Author.Rules.{rules}
use Rattle.rule_limits.proofs.NestedWalk.{begins, enters, passes, leaves, Exit, left_at_end, left_at_block, left_at_payment}
use Rattle.rule_limits.proofs.walk.Goals as goal
use Rattle.rule_limits.proofs.walk.Goals.{else-blocks-2-test, then-blocks-2-test+then-blocks-eq-MOST_BLOCKS, then-blocks-2-test+else-blocks-eq-MOST_BLOCKS+then-loop-own-test+then-payments-eq-MOST_PAYMENTS}

pub blocks-2-init : goal.blocks-2-init
blocks-2-init c = (search rules, search rules, refl, refl, λ s root holder e l. begins e l c.cell-stop.ensures c.first_in-block.ensures)

pub loop-own-init : goal.loop-own-init
loop-own-init c =
    let outer = c.blocks-2.invariant in (
      search rules,
      search rules,
      refl,
      λ s root holder e l.
          enters (outer.4 s root holder e l) c.blocks-2-test.true (omega (arith, outer.0, c.if-blocks-eq-MOST_BLOCKS.false)) c.put_block.ensures.1 c.cell-after.ensures
          c.first_in-own.ensures,
    )

pub loop-own-smaller : goal.loop-own-smaller
loop-own-smaller c = omega (arith, c.next_in-own.ensures.0 c.loop-own-test.true)

pub loop-own-preserved : goal.loop-own-preserved
loop-own-preserved c =
    let inner = c.loop-own.invariant in (
      search rules,
      search rules,
      c.put_payment.ensures.0 ∙ inner.2,
      λ s root holder e l.
          passes (inner.3 s root holder e l) c.loop-own-test.true (omega (arith, c.blocks-2.invariant.0, c.if-blocks-eq-MOST_BLOCKS.false)) (omega (arith, inner.0, c.if-payments-eq-MOST_PAYMENTS.false))
          c.put_payment.ensures.1 c.next_in-own.ensures.1,
    )

pub blocks-2-smaller : goal.blocks-2-smaller
blocks-2-smaller c = omega (arith, c.next_in-block.ensures.0 c.blocks-2-test.true)

pub blocks-2-preserved : goal.blocks-2-preserved
blocks-2-preserved c =
    let inner = c.loop-own.invariant in (
      search rules,
      search rules,
      search rules,
      inner.2 ∙ (c.put_block.ensures.0 ∙ c.blocks-2.invariant.3),
      λ s root holder e l. leaves (inner.3 s root holder e l) c.loop-own-test.false c.next_in-block.ensures.1,
    )

-- The three ways out of the walk meet: at its end, and by the label.
pub returns-in-None : goal.returns-in-None
returns-in-None c =
    let inv = c.blocks-2.invariant in
    let left : Exit c.args.tree.now c.args.order.now c.blocks-2-test.order c.args.initiation c.blocks-2.blocks c.blocks-2-test.payments c.blocks-2-test.excess =
    elim c.blocks-2-test.branch [
      | else-blocks-2-test w ↦ left_at_end inv.0 inv.1 w.blocks-2-test.false inv.3 inv.4 w.order-is w.payments-is (w.excess-is ∙ inv.2)
      | then-blocks-2-test+then-blocks-eq-MOST_BLOCKS w ↦
          left_at_block inv.0 inv.1 w.blocks-2-test.true w.if-blocks-eq-MOST_BLOCKS.true inv.4 w.payments-is w.cell.ensures w.excess-is
      | then-blocks-2-test+else-blocks-eq-MOST_BLOCKS+then-loop-own-test+then-payments-eq-MOST_PAYMENTS w ↦
          left_at_payment inv.0 w.loop-own.invariant.0 w.loop-own-test.true w.if-payments-eq-MOST_PAYMENTS.true w.loop-own.invariant.3 w.payments-is
          w.cell-then-payments-eq-MOST_PAYMENTS.ensures w.excess-is
    ]
    in (((left.few_blocks, left.few_payments), tt), λ s root holder e l. left.when_within c.in-None.is s root holder e l)

pub returns-in-Some : goal.returns-in-Some
returns-in-Some c =
    let inv = c.blocks-2.invariant in
    let left : Exit c.args.tree.now c.args.order.now c.blocks-2-test.order c.args.initiation c.blocks-2.blocks c.blocks-2-test.payments c.blocks-2-test.excess =
    elim c.blocks-2-test.branch [
      | else-blocks-2-test w ↦ left_at_end inv.0 inv.1 w.blocks-2-test.false inv.3 inv.4 w.order-is w.payments-is (w.excess-is ∙ inv.2)
      | then-blocks-2-test+then-blocks-eq-MOST_BLOCKS w ↦
          left_at_block inv.0 inv.1 w.blocks-2-test.true w.if-blocks-eq-MOST_BLOCKS.true inv.4 w.payments-is w.cell.ensures w.excess-is
      | then-blocks-2-test+else-blocks-eq-MOST_BLOCKS+then-loop-own-test+then-payments-eq-MOST_PAYMENTS w ↦
          left_at_payment inv.0 w.loop-own.invariant.0 w.loop-own-test.true w.if-payments-eq-MOST_PAYMENTS.true w.loop-own.invariant.3 w.payments-is
          w.cell-then-payments-eq-MOST_PAYMENTS.ensures w.excess-is
    ]
    in ((tt, left.five _ c.in-Some.is), λ s root holder e l room. left.when_excess _ c.in-Some.is s root holder e l)
