use borrow.Author.Rules.{rules}
use native.Mathlib.Omega.{arith}
use mathlib.Core.Path.{refl}
use lib.ListN.{get_or-replicate}
use Rattle.std.specs.Prelude.{None}
use Rattle.std.proofs.lemmas.Grind.{common_steps}
use Rattle.tree.proofs.Laws.{few_enough, entry_at}
use Rattle.tree_routes.proofs.FirstOfEachName.{walk_begins, walk_passes, walk_puts, walk_never, walk_stuck, is_none, is_there, walk_ends}
use Rattle.tree_routes.proofs.by_name.Goals as goal
use Rattle.tree_routes.proofs.by_name.Goals.{then-name-lt59+then-is_none, then-name-lt59+else-is_none, else-name-lt59}

pub returns-then-i-ge-ELEMENTS : goal.returns-then-i-ge-ELEMENTS
returns-then-i-ge-ELEMENTS c = λ s t l. absurd (omega (arith, few_enough (entry_at l), c.if-i-ge-ELEMENTS.true))

pub loop-at-init : goal.loop-at-init
loop-at-init c = (search rules, walk_begins refl (λ n h. get_or-replicate 59 n None None h) c.cell-stop.ensures)

pub returns-then-next-at : goal.returns-then-next-at
returns-then-next-at c = λ s t l. walk_stuck c.loop-at-test.true c.cell-name.ensures c.cell-next.ensures c.if-next-at.true c.loop-at.invariant.1 l

pub loop-at-preserved : goal.loop-at-preserved
loop-at-preserved c =
    let w = c.loop-at.invariant.1 in (
      search rules,
      elim c.if-name-lt59.branch [
        | then-name-lt59+then-is_none v ↦
            walk_puts c.loop-at-test.true c.cell-name.ensures c.cell-next.ensures v.firsts-is (λ h. grind (arith, common_steps, v.ok.ensures.value, v.try_from.ensures)) (is_none v.is_none.ensures v.if-is_none.true) w
        | then-name-lt59+else-is_none v ↦
            rw v.firsts-is (walk_passes c.loop-at-test.true c.cell-name.ensures c.cell-next.ensures (is_there v.is_none.ensures v.if-is_none.false) w)
        | else-name-lt59 v ↦ rw v.firsts-is (walk_never c.loop-at-test.true c.cell-name.ensures c.cell-next.ensures v.if-name-lt59.false w)
      ],
    )

pub returns : goal.returns
returns c = walk_ends c.loop-at-test.false c.loop-at.invariant.1
