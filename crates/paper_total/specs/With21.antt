-- The verdict and the regrouping with refusal 21, the total of the amounts above 64 bits, which is refused no more. Kept for the theorems that no message reaches it and that every answer
-- without it is as with it (proofs/Unreached.antt). All that is not said here is today's.
use Rattle.std.specs.Prelude.{ℕ, ◌^◌, List, ltb, if◌then◌else◌}
use Rattle.std.proofs.Math.Option.{Option, none, some}
use Rattle.paper.specs.Form.{Element}
use Rattle.paper.specs.Computed.Reading.{read}
use Rattle.paper.specs.Rows.{Profile, as_new, head_of}
use Rattle.paper.specs.Payments.{header_sum, total}
use Rattle.paper.specs.Refusals.{Refusal, refuse, ◌or_else◌, rows_refusal, limits_refusal, values_refusal, usage_refusal, ids_refusal, counts_refusal, Outcome, unless_refused, of_reading, size_refusal, table_refusal, MessageAnswer, answer_to}
use Rattle.paper.specs.Regrouping.{RegroupingAnswer, of_outcomes, part_for}
use Rattle.paper.specs.Table.{Part}

-- 21: the total of the amounts above 64 bits, at row 7's `<`.
unfoldable pub at_of : Option Element → ℕ
at_of none = 0
at_of (some t) = (head_of t).at

unfoldable pub total_refusal : Element → Option Refusal
total_refusal root = if ltb (total root) (2 ^ 64) then none else refuse 21 7 (at_of (header_sum root))

-- the stages, in their order: 21 after 11 and before 12
unfoldable pub tree_refusal : Profile → Element → Option Refusal
tree_refusal profile root =
    rows_refusal profile root or_else limits_refusal root or_else values_refusal profile root or_else usage_refusal root or_else
    ids_refusal root or_else total_refusal root or_else counts_refusal root

unfoldable pub outcome_alone : Profile → List ℕ → Outcome
outcome_alone profile s = unless_refused (size_refusal s) (of_reading (tree_refusal profile) (read s))

unfoldable pub outcome : Profile → (table_length : ℕ) → List ℕ → Outcome
outcome profile n s = unless_refused (table_refusal n) (outcome_alone profile s)

unfoldable pub verdict : Profile → (table_length : ℕ) → List ℕ → MessageAnswer
verdict profile n s = answer_to (outcome profile n s)

unfoldable pub regrouping : Profile → (first second file : List ℕ) → RegroupingAnswer
regrouping profile first second file = of_outcomes (outcome_alone profile first) (outcome_alone (as_new profile) second) file

unfoldable pub differing_part : Profile → (first second file : List ℕ) → Part
differing_part profile first second file = part_for (regrouping profile first second file) (outcome_alone (as_new profile) second)
