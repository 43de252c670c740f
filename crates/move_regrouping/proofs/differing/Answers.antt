use Rattle.move_regrouping.proofs.Laws.{part_of_20, no_part, empty_part, that_part, not_20}
use mathlib.Core.Path.{refl}
use borrow.Author.Rules.{rules}
use Rattle.move_regrouping.proofs.differing.Goals.{in_default-via-in-Err+in_default, in_default-via-in_default}
use Rattle.move_regrouping.proofs.differing.Goals as goal

pub returns-in-Err-FieldsDiffer : goal.returns-in-Err-FieldsDiffer
returns-in-Err-FieldsDiffer c =
    that_part (part_of_20 _ c.args.first.now c.args.second.now c.args.list.now c.regroup.ensures (rw (c.in-Err-FieldsDiffer.is, c.in-Err-FieldsDiffer.field-0-is))) (rw c.as_new.ensures at c.field.ensures)

pub returns-in_default : goal.returns-in_default
returns-in_default c =
    empty_part (no_part _ c.args.first.now c.args.second.now c.args.list.now c.regroup.ensures
    (λ k field e. elim c.in_default.branch [ in_default-via-in-Err+in_default w ↦ not_20 e w.in_default.is (λ t. search rules) | in_default-via-in_default w ↦ cc (e, w.in_default.is) ]))
    (record { bytes_are = refl; in_the_message = refl; at_its_place = search rules })
