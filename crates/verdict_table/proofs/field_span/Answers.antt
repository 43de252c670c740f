use Rattle.verdict_table.proofs.field_span.Goals as goal

pub returns : goal.returns
returns c = λ s p e o b. c.span_of.ensures s _ (c.field_at.ensures s p e o b)
