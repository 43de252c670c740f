use native.Mathlib.Omega.{arith}
use Rattle.std.specs.Prelude.{Err}
use mathlib.Core.Path.{◌≡◌, sym}
use Rattle.paper.specs.Answers.{refusal_found, refusal_of, numbered}
use Rattle.paper.specs.Refusals.{refuse}
use Rattle.tree.proofs.Laws.{at_cell}
use Rattle.leaf_values.specs.Judgements.{told}
use Rattle.leaf_values.specs.declared.Unfit.TheVariants.{EmptyOrTooLong, NotInTheSet, NotAllowed}
use Rattle.rows_contents.proofs.Leaves.{judged_as, within_message, offset_in}
use Rattle.rows_contents.proofs.judged.Goals as goal

pub returns-in-Ok : goal.returns-in-Ok
unfolding refusal_found refusal_of numbered told refuse
returns-in-Ok c = λ r h next e p q n. sym (judged_as r h e p q n (c.currency.ensures h next e) c.cell.ensures (c.held.ensures h next e) c.in-Ok.ensures)

pub returns-in-Err-EmptyOrTooLong : goal.returns-in-Err-EmptyOrTooLong
unfolding refusal_found refusal_of numbered told refuse
returns-in-Err-EmptyOrTooLong c = λ r h next e p q n.
    let unfit : c.in-Err-EmptyOrTooLong.field-0 ≡ EmptyOrTooLong = rw c.in-Err-EmptyOrTooLong.is at c.in-Err-EmptyOrTooLong.field-0-is in
    let is : c.leaf-judgement.result ≡ Err c.in-Err-EmptyOrTooLong.field-0 = c.in-Err-EmptyOrTooLong.is in
    let told_as = rw (is, unfit) at (judged_as r h e p q n (c.currency.ensures h next e) c.cell.ensures (c.held.ensures h next e) c.leaf-judgement.ensures) in
    rw (at_cell e c.cell-at.ensures) (sym told_as)

pub returns-in-Err-NotInTheSet : goal.returns-in-Err-NotInTheSet
unfolding refusal_found refusal_of numbered told refuse
returns-in-Err-NotInTheSet c = λ r h next e p q n.
    let unfit : c.in-Err-NotInTheSet.field-0 ≡ NotInTheSet c.in-Err-NotInTheSet.behind = rw c.in-Err-NotInTheSet.is at c.in-Err-NotInTheSet.field-0-is in
    let is : c.leaf-judgement.result ≡ Err c.in-Err-NotInTheSet.field-0 = c.in-Err-NotInTheSet.is in
    let told_as = rw (is, unfit) at (judged_as r h e p q n (c.currency.ensures h next e) c.cell.ensures (c.held.ensures h next e) c.leaf-judgement.ensures) in
    rw (offset_in e c.cell-in-Err-NotInTheSet.ensures (within_message _ _ r h _ _ told_as) (omega arith) c.saturating_add.ensures) (sym told_as)

pub returns-in-Err-NotAllowed : goal.returns-in-Err-NotAllowed
unfolding refusal_found refusal_of numbered told refuse
returns-in-Err-NotAllowed c = λ r h next e p q n.
    let unfit : c.in-Err-NotAllowed.field-0 ≡ NotAllowed = rw c.in-Err-NotAllowed.is at c.in-Err-NotAllowed.field-0-is in
    let is : c.leaf-judgement.result ≡ Err c.in-Err-NotAllowed.field-0 = c.in-Err-NotAllowed.is in
    let told_as = rw (is, unfit) at (judged_as r h e p q n (c.currency.ensures h next e) c.cell.ensures (c.held.ensures h next e) c.leaf-judgement.ensures) in
    rw (at_cell e c.cell-at.ensures) (sym told_as)
