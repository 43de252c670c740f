use mathlib.Core.Path.{◌∙◌}
use Rattle.paper.specs.Payments.{blocks as all_blocks}
use Rattle.paper.proofs.Findings.{found_later}
use Rattle.rule_limits.proofs.Refusing.{leaves}
use Rattle.rule_counts.proofs.EachBlock.{all_from, whole_is}
use Rattle.rule_counts.proofs.counts_refusal.Goals as goal

pub returns-in_err-in_header : goal.returns-in_err-in_header
returns-in_err-in_header c = λ root l o bs ps few_payments few_blocks d read.
    leaves _ _ (c.in_header.ensures root l read.header_count read.header_sum) c.in_err-in_header.was c.from_residual.ensures.1 ∙ whole_is root ps d

pub returns : goal.returns
returns c = λ root l o bs ps few_payments few_blocks d read.
    found_later _ _ _ _ (c.in_header.ensures root l read.header_count read.header_sum) c.in_ok-in_header.was
    (c.in_blocks.ensures (all_blocks root) (all_from o bs ps few_payments few_blocks read)) ∙ whole_is root ps d
