use Rattle.verdict_parts.proofs.Spans.{found_part}
use Rattle.verdict_parts.proofs.field_in.Goals as goal

pub returns : goal.returns
returns c = λ root o l k.
    let known = c.args in
    found_part known.k known.field o l (c.payment-payment.ensures k) c.by_name-own.ensures c.by_name-block.ensures
    (λ s p own block. c.field_span-span.ensures s p c.routes-routes.ensures own block) c.part.ensures
