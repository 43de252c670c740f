use mathlib.Core.Path.{sym, ◌∙◌}
use native.Mathlib.Omega.{arith}
use Rattle.rows_places.proofs.Places.{by_first, by_nobody, by_second, by_neither}
use Rattle.rows_places.proofs.taken_by.Goals as goal

pub returns-then-named : goal.returns-then-named
returns-then-named c = λ profile parent s h next r e. by_first h.name r c.number-first.ensures (sym (c.named.ensures s h next e) ∙ c.if-named.true)

pub returns-then-number-lt3 : goal.returns-then-number-lt3
returns-then-number-lt3 c = λ profile parent s h next r e. by_nobody h.name r c.number-first.ensures (sym (c.named.ensures s h next e) ∙ c.if-named.false) (omega (arith, c.number.ensures))

pub returns-then-named-2 : goal.returns-then-named-2
returns-then-named-2 c = λ profile parent s h next r e. by_second h.name r c.number-first.ensures (sym (c.named.ensures s h next e) ∙ c.if-named.false) (omega (arith, c.number.ensures)) c.number-second.ensures (sym (c.named-2.ensures s h next e) ∙ c.if-named-2.true)

pub returns : goal.returns
returns c = λ profile parent s h next r e. by_neither h.name r c.number-first.ensures (sym (c.named.ensures s h next e) ∙ c.if-named.false) (omega (arith, c.number.ensures)) c.number-second.ensures (sym (c.named-2.ensures s h next e) ∙ c.if-named-2.false)
