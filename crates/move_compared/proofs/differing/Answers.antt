use Rattle.move_compared.proofs.Compared.{field_differs, field_agrees, no_field_differs}
use native.Mathlib.Omega.{arith}
use mathlib.Core.Path.{sym, ◌∙◌}
use Rattle.paper.specs.Answers.{perhaps}
use Rattle.move_compared.proofs.differing.Goals as goal

pub returns-then-not-same_field : goal.returns-then-not-same_field
unfolding perhaps
returns-then-not-same_field c =
    λ p q w g h.
    let e = c.same_field.ensures p q w g h (omega arith) (omega arith) in
    field_differs p q _ (omega arith) (omega arith) e c.if-not-same_field.true ∙ sym (c.loop-field.invariant p q w g h)

pub loop-field-preserved : goal.loop-field-preserved
loop-field-preserved c =
    λ p q w g h.
    let e = c.same_field.ensures p q w g h (omega arith) (omega arith) in
    c.loop-field.invariant p q w g h ∙ field_agrees p q _ (omega arith) (omega arith) e c.if-not-same_field.false

pub returns : goal.returns
unfolding perhaps
returns c =
    λ p q w g h. no_field_differs p q (omega arith) ∙ sym (c.loop-field.invariant p q w g h)
