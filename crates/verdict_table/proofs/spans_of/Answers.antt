use mathlib.Core.Path.{refl}
use Rattle.paper.specs.Fields.{plain, or_means, amount_field, remittance, fields, field_element}
use Rattle.tree_routes.proofs.WhatIsFound.{first_of_two}
use Rattle.form_names.specs.Names.{is_sought}
use Rattle.verdict_table.proofs.Laws.{kind_found}
use Rattle.verdict_table.proofs.spans_of.Goals as goal

pub returns : goal.returns
unfolding field_element fields plain or_means amount_field remittance is_sought
returns c = λ s p e o b.
    record {
      id = c.field_span.ensures s p e o b;
      creditor = c.field_span-2.ensures s p e o b;
      name = c.field_span-3.ensures s p e o b;
      ultimate = c.field_span-4.ensures s p e o b;
      kind = c.span_of.ensures s _ (kind_found p (rw c.or.ensures (first_of_two (c.first.ensures s _ p.own refl o) (c.first-2.ensures s _ p.block refl b))));
      debtor = c.field_span-5.ensures s p e o b;
      bic = c.field_span-6.ensures s p e o b;
      remittance = c.field_span-7.ensures s p e o b;
    }
