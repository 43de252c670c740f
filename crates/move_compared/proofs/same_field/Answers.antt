use Rattle.move_compared.proofs.Compared.{remittance_field, batch_field, priority_field, cents_field, amount_element, plain_field}
use native.Mathlib.Omega.{arith}
use Rattle.paper.specs.Bytes.{bytes}
use Rattle.move_compared.proofs.same_field.Goals as goal

pub returns-then-field-eq17 : goal.returns-then-field-eq17
returns-then-field-eq17 c =
    λ p q w g h a b. remittance_field p q c.if-field-eq17.true (c.same_remittance.ensures p q g.own_is h.own_is)

pub returns-in-1 : goal.returns-in-1
unfolding bytes
returns-in-1 c =
    λ p q w g h a b.
    batch_field p q c.in-1.is (c.same_or.ensures _ _ (c.field-mine.ensures p w g) (c.field-theirs.ensures q w h))

pub returns-in-2 : goal.returns-in-2
unfolding bytes
returns-in-2 c =
    λ p q w g h a b.
    priority_field p q c.in-2.is (c.same_or-in-2.ensures _ _ (c.field-mine.ensures p w g) (c.field-theirs.ensures q w h))

pub returns-in-11 : goal.returns-in-11
returns-in-11 c =
    λ p q w g h a b.
    let e = c.in-11.is in
    let x = c.same_cents.ensures _ _ (c.field-mine.ensures p w g) (c.field-theirs.ensures q w h) in
    cents_field p q e (x (amount_element p e g.amount_is) (amount_element q e h.amount_is))

pub returns-in_default : goal.returns-in_default
returns-in_default c =
    λ p q w g h a b.
    plain_field p q a b (λ e. omega (arith, e)) (λ e. omega (arith, e)) (λ e. omega (arith, e)) (λ e. omega (arith, e))
    (c.same_given.ensures _ _ (c.field-mine.ensures p w g) (c.field-theirs.ensures q w h))
