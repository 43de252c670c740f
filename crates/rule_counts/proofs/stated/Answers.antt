use mathlib.Core.Path.{sym, ◌∙◌}
use Rattle.rule_limits.proofs.Refusing.{leaf_absent, leaf_right, leaf_wrong}
use Rattle.rule_counts.proofs.stated.Goals as goal

pub returns-in_default : goal.returns-in_default
returns-in_default g c = λ s o test number row h asks makes. leaf_absent test number row h _ c.in_default.is (makes 0 _ c.fault.ensures)

pub returns-then-right : goal.returns-then-right
returns-then-right g c = λ s o test number row h asks makes. leaf_right test number row h c.in-Some.is (λ t l is. sym (asks _ _ t c.right.ensures l is) ∙ c.if-right.true)

pub returns : goal.returns
returns g c = λ s o test number row h asks makes.
    leaf_wrong test number row h _ c.in-Some.is (λ t l is. sym (asks _ _ t c.right.ensures l is) ∙ c.if-right.false) c.cell.ensures (makes _ _ c.fault-2.ensures)
