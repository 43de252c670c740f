use mathlib.Core.Path.{refl}
use Rattle.paper.specs.Refusals.{usage_of}
use Rattle.paper.proofs.Findings.{found_later}
use Rattle.form_names.specs.Names.{is_sought}
use Rattle.rule_limits.proofs.Refusing.{leaves}
use Rattle.rule_usage.proofs.in_payment.Goals as goal

pub returns-in_err-in_both : goal.returns-in_err-in_both
unfolding usage_of is_sought
returns-in_err-in_both c =
    λ s p l b.
    let o = c.by_name-own.ensures s p.own l in
    leaves _ _ (c.in_both.ensures s p refl o b) c.in_err-in_both.was c.from_residual.ensures.1

pub returns-in_err-in_neither : goal.returns-in_err-in_neither
unfolding usage_of is_sought
returns-in_err-in_neither c =
    λ s p l b.
    let o = c.by_name-own.ensures s p.own l in
    found_later _ _ _ _ (c.in_both.ensures s p refl o b) c.in_ok-in_both.was
    (leaves _ _ (c.in_neither.ensures s p l o b) c.in_err-in_neither.was c.from_residual-in_err-in_neither.ensures.1)

pub returns-in_err-in_both-2 : goal.returns-in_err-in_both-2
unfolding usage_of is_sought
returns-in_err-in_both-2 c =
    λ s p l b.
    let o = c.by_name-own.ensures s p.own l in
    found_later _ _ _ _ (c.in_both.ensures s p refl o b) c.in_ok-in_both.was
    (found_later _ _ _ _ (c.in_neither.ensures s p l o b) c.in_ok-in_neither.was
    (leaves _ _ (c.in_both-2.ensures s p refl o b) c.in_err-in_both-2.was c.from_residual-in_err-in_both-2.ensures.1))

pub returns : goal.returns
unfolding usage_of is_sought
returns c =
    λ s p l b.
    let o = c.by_name-own.ensures s p.own l in
    found_later _ _ _ _ (c.in_both.ensures s p refl o b) c.in_ok-in_both.was
    (found_later _ _ _ _ (c.in_neither.ensures s p l o b) c.in_ok-in_neither.was
    (found_later _ _ _ _ (c.in_both-2.ensures s p refl o b) c.in_ok-in_both-2.was (c.in_both-3.ensures s p refl o b)))
