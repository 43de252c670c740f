use native.Mathlib.Omega.{arith}
use mathlib.Core.Path.{refl, ◌∙◌}
use Rattle.paper.proofs.Findings.{found_later}
use Rattle.form_names.specs.Names.{is_sought}
use Rattle.rule_limits.proofs.Refusing.{leaves}
use Rattle.rule_counts.proofs.EachBlock.{block_is}
use Rattle.rule_counts.proofs.in_block.Goals as goal

pub returns-then-to-from : goal.returns-then-to-from
returns-then-to-from c = λ b ps l a e f owns read reads. absurd (omega arith)

pub returns-in_err-count_is : goal.returns-in_err-count_is
unfolding is_sought
returns-in_err-count_is c = λ b ps l a e f owns read reads.
    leaves _ _ (c.count_is.ensures _ (c.child-stated_count.ensures _ b refl l) read.count) c.in_err-count_is.was c.from_residual.ensures.1 ∙ block_is b ps _ e owns refl

pub returns : goal.returns
unfolding is_sought
returns c = λ b ps l a e f owns read reads.
    found_later _ _ _ _ (c.count_is.ensures _ (c.child-stated_count.ensures _ b refl l) read.count) c.in_ok-count_is.was
    (c.sum_is.ensures _ (c.child-stated_sum.ensures _ b refl l) read.sum) ∙ block_is b ps _ e owns (c.sum_of.ensures ps a e f reads)
