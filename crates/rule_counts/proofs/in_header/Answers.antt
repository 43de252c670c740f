use mathlib.Core.Path.{refl}
use mathlib.Core.List.{[], ◌∷◌}
use Rattle.paper.specs.Bytes.{every}
use Rattle.paper.specs.Payments.{of_header}
use Rattle.paper.proofs.Findings.{found_later}
use Rattle.form_names.specs.Names.{is_sought}
use Rattle.tree_routes.specs.Finds.{rows_in}
use Rattle.rule_limits.proofs.Refusing.{leaves}
use Rattle.rule_totals.proofs.Amounts.{route_found}
use Rattle.rule_counts.specs.Counted.{header_refusal}
use Rattle.rule_counts.proofs.in_header.Goals as goal

pub returns-in_err-count_is : goal.returns-in_err-count_is
unfolding rows_in every is_sought of_header header_refusal
returns-in_err-count_is c = λ root l count sum.
    leaves _ _ (c.count_is.ensures _ (route_found (2 ∷ 3 ∷ 6 ∷ []) refl l (c.follow-stated_count.ensures _)) count) c.in_err-count_is.was c.from_residual.ensures.1

pub returns : goal.returns
unfolding rows_in every is_sought of_header header_refusal
returns c = λ root l count sum.
    found_later _ _ _ _ (c.count_is.ensures _ (route_found (2 ∷ 3 ∷ 6 ∷ []) refl l (c.follow-stated_count.ensures _)) count) c.in_ok-count_is.was
    (c.sum_is.ensures _ (route_found (2 ∷ 3 ∷ 7 ∷ []) refl l (c.follow-stated_sum.ensures _)) sum)
