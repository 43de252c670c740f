-- The rules' numbers, as the code has them.
use Rattle.std.specs.Prelude.{◌≡◌}
use Rattle.paper.specs.Refusals.{Refusal as PaperRefusal, MessageAnswer}
use Rattle.paper.specs.Regrouping.{RegroupingAnswer}
use Rattle.verdict_answers.specs.declared.Refusal.{Refusal}
use Rattle.verdict_answers.specs.declared.OfMessage.{OfMessage}
use Rattle.verdict_answers.specs.declared.OfRegrouping.{OfRegrouping}

pub record Numbers (p : PaperRefusal) (r : Refusal) : Type 0 where
  pub number_is : r.number ≡ p.number
  pub element_is : r.element ≡ p.element
  pub offset_is : r.offset ≡ p.offset

unfoldable pub as_answer : OfMessage → MessageAnswer
as_answer r =
    record { number = r.number; element = r.element; offset = r.offset; blocks = r.blocks; payments = r.payments; cents = r.cents }

unfoldable pub as_regrouping_answer : OfRegrouping → RegroupingAnswer
as_regrouping_answer r =
    record { whose = r.whose; number = r.number; element = r.element; offset = r.offset; k = r.k; field = r.field }
