use native.Mathlib.Omega.{arith}
use mathlib.Core.Path.{sym, ◌∙◌}
use borrow.Author.Tests.{eq-eqb, ne_eqb}
use Rattle.std.proofs.lemmas.Grind.{get_or_default_zero}
use Rattle.form_scans.proofs.TagLaws.{tag_stops, tag_closes, tag_amount, of_amount, amount_at}
use Rattle.form_scans.proofs.tag_end.Goals as goal

pub returns-in-62 : goal.returns-in-62
returns-in-62 c = λ n h e name depth lt room f g. let b = c.in-Some.ensures.lookup.1 ∙ get_or_default_zero _ _ _ h in tag_closes _ name depth lt room _ h g (sym b ∙ c.in-62.is) (of_amount name f ∙ ne_eqb _ 42 c.if-number-ne42.true)

pub returns-in-32 : goal.returns-in-32
returns-in-32 c = λ n h e name depth lt room f g. let b = c.in-Some.ensures.lookup.1 ∙ get_or_default_zero _ _ _ h in let a = of_amount name f ∙ eq-eqb _ 42 c.if-number-eq42.true in tag_amount _ name depth lt room _ h (sym b ∙ c.in-32.is) a (c.currency.ensures n depth lt (amount_at name _ lt a g))

pub returns-in_default-byte : goal.returns-in_default-byte
returns-in_default-byte c = λ n h e name depth lt room f g. let b = c.in-Some.ensures.lookup.1 ∙ get_or_default_zero _ _ _ h in let d = c.in-62.is in tag_stops _ name depth lt room _ h e (λ _. of_amount name f ∙ eq-eqb _ 42 c.if-number-ne42.false) (λ z. absurd (omega (arith, b, d, z)))

pub returns-in_default-byte-2 : goal.returns-in_default-byte-2
returns-in_default-byte-2 c = λ n h e name depth lt room f g. let b = c.in-Some.ensures.lookup.1 ∙ get_or_default_zero _ _ _ h in let d = c.in-32.is in tag_stops _ name depth lt room _ h e (λ z. absurd (omega (arith, b, d, z))) (λ _. of_amount name f ∙ ne_eqb _ 42 c.if-number-eq42.false)

pub returns-in_default-byte-3 : goal.returns-in_default-byte-3
returns-in_default-byte-3 c = λ n h e name depth lt room f g. let b = c.in-Some.ensures.lookup.1 ∙ get_or_default_zero _ _ _ h in tag_stops _ name depth lt room _ h e (λ z. absurd (omega (arith, b, z))) (λ z. absurd (omega (arith, b, z)))
