use borrow.Author.Rules.{rules}
use borrow.Author.Tests.{le-ltb}
use native.Mathlib.Omega.{arith}
use mathlib.Core.Bool.{false≢true}
use mathlib.Core.Path.{sym, ap, ◌∙◌}
use lib.Dec.{leb}
use Rattle.form_ranks.proofs.Classes.{capital_from}
use Rattle.form_scans.proofs.capital_at.Goals as goal

pub returns-then-at-s : goal.returns-then-at-s
returns-then-at-s c = λ n. let f = capital_from _ ∙ ap (leb 7) (sym (c.rank.ensures n)) in record { there = λ e. (search rules, f ∙ e); not_there = λ e _. f ∙ e }

pub returns-else-at-s : goal.returns-else-at-s
returns-else-at-s c = λ n. record { there = λ e. absurd (false≢true (sym (le-ltb _ _ c.if-at-s.false) ∙ e)); not_there = λ _ h. absurd (omega arith) }
