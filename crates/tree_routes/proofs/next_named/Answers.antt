use borrow.Author.Rules.{rules}
use mathlib.Core.Path.{refl}
use Rattle.tree_routes.proofs.Laws.{passed, stands, stuck, none_left}
use Rattle.tree_routes.proofs.next_named.Goals as goal

pub loop-at-init : goal.loop-at-init
loop-at-init c = (search rules, λ s row ts y n all. record { left = ts; laid = all; as_many = refl })

pub returns-then-cell-name : goal.returns-then-cell-name
returns-then-cell-name c = (search rules, λ s row ts y n all. stands y n c.loop-at-test.true c.cell.ensures c.if-cell-name.true (c.loop-at.invariant.1 s row ts y n all))

pub returns-then-next-at : goal.returns-then-next-at
returns-then-next-at c = (search rules, λ s row ts y n all. stuck c.loop-at-test.true c.cell-next.ensures c.if-next-at.true (c.loop-at.invariant.1 s row ts y n all).laid)

pub loop-at-preserved : goal.loop-at-preserved
loop-at-preserved c = (search rules, λ s row ts y n all. passed y n c.loop-at-test.true c.cell.ensures c.if-cell-name.false c.cell-next.ensures (c.loop-at.invariant.1 s row ts y n all))

pub returns : goal.returns
returns c = (search rules, λ s row ts y n all. none_left c.loop-at-test.false (c.loop-at.invariant.1 s row ts y n all))
