-- The part that `field` hands back has the field's text as its bytes.
use Prim.Native.Nat.{ℕ}
use mathlib.Core.List.{List}
use mathlib.Core.Option.{some}
use mathlib.Core.Path.{◌≡◌, ◌∙◌, subst}
use lib.ListN.{take, drop}
use denote.Ref.{Bor}
use Rattle.paper.specs.Form.{Element}
use Rattle.paper.specs.Rows.{Profile}
use Rattle.paper.specs.Payments.{Payment, text_of, payments}
use Rattle.paper.specs.Refusals.{Outcome, accepted_with, outcome_alone}
use Rattle.paper.specs.Fields.{field_element, field_part}
use Rattle.paper.specs.Regrouping.{At}
use Rattle.paper_acceptance.proofs.Proper.{Proper}
use Rattle.paper_acceptance.proofs.Leaves.{accepted_field_text}
use Rattle.verdict_reader.specs.Promises.{FieldPromise}

-- Of an accepted message, for a field that is there, any part that keeps the promise of `field` has the bytes of the text of the field's element.
pub field_is_text : {profile : Profile} → Proper profile → {message handed : Bor (List ℕ)} {root : Element} {p : Payment} {t : Element} (payment field : ℕ) → FieldPromise profile message payment field handed
    → outcome_alone profile message.now ≡ accepted_with root → At (payments root) payment p → field_element field p ≡ some t → handed.now ≡ text_of t
unfolding field_part
field_is_text {profile} proper {message} {handed} payment field f o a e =
    subst (λ (x : Outcome). handed.now ≡ take (field_part x payment field).size (drop (field_part x payment field).start message.now)) o f.bytes_are
    ∙ accepted_field_text profile proper message.now o payment field a e
