-- The reader's promises, in a profile: demands 1 and 2, and the text of a field.
use Rattle.std.specs.Prelude.{ℕ, List, ◌≡◌, length, Result}
use Rattle.std.specs.Borrow.{Bor}
use Rattle.paper.specs.Rows.{Profile}
use Rattle.paper.specs.Refusals.{outcome_alone, outcome, verdict}
use Rattle.paper.specs.Table.{table_after}
use Rattle.paper.specs.Fields.{field_part}
use Rattle.paper.specs.Answers.{verdict_says}
use Rattle.paper.specs.declared.Accepted.{Accepted}
use Rattle.paper.specs.declared.Fault.{Fault}
use Rattle.verdict_parts.specs.Parts.{HandsBack}

-- `verdict`: the answer is the rules' verdict on the message and the table's length; the table afterwards is theirs.
pub record VerdictPromise (profile : Profile) (message before : List ℕ) (answer : Result Accepted Fault) (after : List ℕ) : Type 0 where
  pub answer_is : verdict_says answer ≡ verdict profile (length before) message
  pub table_is : after ≡ table_after (outcome profile (length before) message) before

-- `field`: the part of the message that is the text of a field of a payment.
abbrev pub FieldPromise : Profile → (message : Bor (List ℕ)) (payment field : ℕ) (handed : Bor (List ℕ)) → Type 0
FieldPromise profile message payment field handed = HandsBack message handed (field_part (outcome_alone profile message.now) payment field)
