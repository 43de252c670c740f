use native.Mathlib.Omega.{arith}
use borrow.Author.Rules.{rules}
use borrow.Author.Tests.{not-true, not-false, eqb-true, eqb-false}
use mathlib.Core.Bool.{false≢true}
use Rattle.form.proofs.child_at.Goals as goal

pub returns-then-s-at : goal.returns-then-s-at
returns-then-s-at c = record { there = λ e. absurd (false≢true e); not_there = λ _ h. let a = c.if-s-at.true in let b = h.within in absurd (omega (arith, a, b)) }

pub returns-else-s-at-eq60 : goal.returns-else-s-at-eq60
returns-else-s-at-eq60 c = record { there = λ e. absurd (c.if-s-at-eq60.false (eqb-true _ _ e)); not_there = λ _ h. c.if-s-at-eq60.false h.angled }

pub returns-then-s-at-eq60 : goal.returns-then-s-at-eq60
returns-then-s-at-eq60 c = record { there = λ e. record { angled = c.if-s-at-eq60.true; within = search rules; no_slash = eqb-false _ _ (not-true _ e) }; not_there = λ e h. h.no_slash (eqb-true _ _ (not-false _ e)) }
