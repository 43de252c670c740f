use Prim.Native.Nat.{◌≤◌}
use lib.ListN.{length}
use mathlib.Core.Path.{◌≡◌, sym, ◌∙◌}
use mathlib.Core.Bool.{true}
use borrow.Author.Tests.{eqb-true, eqb-false}
use native.Mathlib.Omega.{arith}
use Rattle.paper.specs.Bytes.{value_character, every}
use Rattle.leaf_texts.proofs.Laws.{none_first}
use Rattle.leaf_values.proofs.Laws.{empty_judges, long_judges, outside_judges, spaces_judges, not_allowed_judges, fine_judges}
use Rattle.leaf_values.proofs.leaf.Goals as goal
use Rattle.leaf_values.proofs.leaf.Goals.{then-is_empty-via-then-is_empty, then-is_empty-via-else-is_empty+then-longest-s, then-spaces_alone-via-then-spaces_alone, then-spaces_alone-via-else-spaces_alone+then-not-right_for}

pub returns-then-is_empty : goal.returns-then-is_empty
returns-then-is_empty c k = elim c.then-is_empty.branch [
  | then-is_empty-via-then-is_empty w ↦ empty_judges _ _ _ _ _ (omega (arith, eqb-true (length c.args.s.now) 0 (sym c.is_empty.ensures ∙ w.if-is_empty.true)))
  | then-is_empty-via-else-is_empty+then-longest-s w ↦ long_judges _ _ _ _ _ w.if-longest-s.true
]

pub returns-then-at-s : goal.returns-then-at-s
returns-then-at-s c k = outside_judges _ _ _ _ _ (omega (arith, eqb-false (length c.args.s.now) 0 (sym c.is_empty.ensures ∙ c.if-is_empty.false))) c.if-longest-s.false _ (c.first_outside-at.ensures k) c.if-at-s.true

pub returns-then-spaces_alone : goal.returns-then-spaces_alone
returns-then-spaces_alone c k =
    let low : 1 ≤ length c.args.s.now = omega (arith, eqb-false (length c.args.s.now) 0 (sym c.is_empty.ensures ∙ c.if-is_empty.false)) in
    let inside : every value_character c.args.s.now ≡ true = none_first value_character c.args.s.now (rw (← c.first_outside-at.ensures k) c.if-at-s.false) in
    elim c.then-spaces_alone.branch [
      | then-spaces_alone-via-then-spaces_alone w ↦ spaces_judges _ _ _ _ _ low c.if-longest-s.false inside (sym c.spaces_alone.ensures ∙ w.if-spaces_alone.true)
      | then-spaces_alone-via-else-spaces_alone+then-not-right_for w ↦
          not_allowed_judges _ _ _ _ _ low c.if-longest-s.false inside (sym c.spaces_alone.ensures ∙ w.if-spaces_alone.false) (sym w.right_for.ensures ∙ w.if-not-right_for.true)
    ]

pub returns : goal.returns
returns c k = fine_judges _ _ _ _ _ (omega (arith, eqb-false (length c.args.s.now) 0 (sym c.is_empty.ensures ∙ c.if-is_empty.false))) c.if-longest-s.false (none_first value_character c.args.s.now (rw (← c.first_outside-at.ensures k) c.if-at-s.false)) (sym c.spaces_alone.ensures ∙ c.if-spaces_alone.false) (sym c.right_for.ensures ∙ c.if-not-right_for.false)
