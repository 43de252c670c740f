-- The part that `differing` hands back has the differing field's text as its bytes.
use Prim.Native.Nat.{ℕ}
use mathlib.Core.List.{List}
use mathlib.Core.Option.{some}
use mathlib.Core.Path.{◌≡◌, sym, subst}
use denote.Ref.{Bor}
use Rattle.paper.specs.Form.{Element}
use Rattle.paper.specs.Rows.{Profile, as_new}
use Rattle.paper.specs.Payments.{Payment, text_of, payments}
use Rattle.paper.specs.Refusals.{accepted_with, outcome_alone}
use Rattle.paper.specs.Fields.{field_element}
use Rattle.paper.specs.Regrouping.{RegroupingAnswer, answered, part_for, differing_part, At}
use Rattle.paper.specs.Answers.{regrouping_says}
use Rattle.paper.specs.declared.NotRegrouped.TheVariants as the
use Rattle.std.specs.Prelude.{Err}
use Rattle.paper_acceptance.proofs.Proper.{Proper, new_proper}
use Rattle.verdict_parts.specs.Parts.{HandsBack}
use Rattle.verdict_reader.proofs.Texts.{field_is_text}
use Rattle.move_regrouping.specs.Promises.{RegroupPromise, DifferingPromise}

-- Where the answer is 20, any part that keeps the promise of `differing` has the bytes of the text of the differing field's element, as the second message has it.
pub differing_is_text : {profile : Profile} → Proper profile → (first : List ℕ) {second handed : Bor (List ℕ)} (file : List ℕ) {root : Element} {p : Payment} {t : Element} (k field : ℕ)
    → DifferingPromise profile first second file handed → RegroupPromise profile first second.now file (Err (the.FieldsDiffer k field))
    → outcome_alone (as_new profile) second.now ≡ accepted_with root → At (payments root) k p → field_element field p ≡ some t → handed.now ≡ text_of t
unfolding differing_part part_for regrouping_says answered
differing_is_text {profile} proper first {second} {handed} file k field d r o a e =
    field_is_text (new_proper proper) k field (subst (λ (x : RegroupingAnswer). HandsBack second handed (part_for x (outcome_alone (as_new profile) second.now))) (sym r) d) o a e
