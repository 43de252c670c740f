use mathlib.Core.Path.{sym, ◌∙◌}
use Rattle.paper.specs.Bytes.{bytes}
use Rattle.paper.specs.Values.{iban, countries}
use Rattle.leaf_countries.proofs.Letters.{of_a_country_is}
use Rattle.leaf_accounts.proofs.Told.{shape_short, shape_told, check_told, rest_told, moved_split}
use Rattle.leaf_accounts.proofs.iban.Goals as goal

pub returns-in_default : goal.returns-in_default
unfolding iban bytes
returns-in_default c = rw (shape_short c.args.s.now c.in_default.ensures.cases)

pub returns-then-not-shaped : goal.returns-then-not-shaped
unfolding iban bytes
returns-then-not-shaped c = rw (shape_told c.args.s.now _ c.shaped.result c.in-Some.ensures.cases.1 c.shaped.ensures ∙ c.if-not-shaped.true)

pub returns-then-not-lies_from : goal.returns-then-not-lies_from
unfolding iban bytes
returns-then-not-lies_from c = rw (shape_told c.args.s.now _ c.shaped.result c.in-Some.ensures.cases.1 c.shaped.ensures ∙ c.if-not-shaped.false, check_told c.args.s.now c.number.result c.lies_from.result c.number.ensures c.lies_from.ensures ∙ c.if-not-lies_from.true)

pub returns-then-not-every : goal.returns-then-not-every
unfolding iban bytes
returns-then-not-every c = rw (shape_told c.args.s.now _ c.shaped.result c.in-Some.ensures.cases.1 c.shaped.ensures ∙ c.if-not-shaped.false, check_told c.args.s.now c.number.result c.lies_from.result c.number.ensures c.lies_from.ensures ∙ c.if-not-lies_from.false, rest_told c.args.s.now _ c.every.result c.in-Some.ensures.cases.2 c.every.ensures ∙ c.if-not-every.true)

pub returns-then-not-country : goal.returns-then-not-country
unfolding iban bytes
returns-then-not-country c = rw (shape_told c.args.s.now _ c.shaped.result c.in-Some.ensures.cases.1 c.shaped.ensures ∙ c.if-not-shaped.false, check_told c.args.s.now c.number.result c.lies_from.result c.number.ensures c.lies_from.ensures ∙ c.if-not-lies_from.false, rest_told c.args.s.now _ c.every.result c.in-Some.ensures.cases.2 c.every.ensures ∙ c.if-not-every.false, of_a_country_is countries c.args.s.now ∙ sym c.country.ensures ∙ c.if-not-country.true)

pub returns : goal.returns
unfolding iban bytes
returns c = rw (shape_told c.args.s.now _ c.shaped.result c.in-Some.ensures.cases.1 c.shaped.ensures ∙ c.if-not-shaped.false, check_told c.args.s.now c.number.result c.lies_from.result c.number.ensures c.lies_from.ensures ∙ c.if-not-lies_from.false, rest_told c.args.s.now _ c.every.result c.in-Some.ensures.cases.2 c.every.ensures ∙ c.if-not-every.false, of_a_country_is countries c.args.s.now ∙ sym c.country.ensures ∙ c.if-not-country.false, moved_split c.args.s.now _ _ _ _ c.in-Some.ensures.cases.1 c.in-Some.ensures.cases.2 c.remainder.ensures.0 c.remainder-2.ensures.0)
