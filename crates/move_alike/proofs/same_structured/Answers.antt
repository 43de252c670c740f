use mathlib.Core.Path.{refl}
use Rattle.paper.specs.Bytes.{every}
use Rattle.form_names.specs.Names.{is_sought}
use Rattle.tree_routes.specs.Finds.{rows_in}
use Rattle.move_alike.proofs.Alike.{references_differ, no_reference, references_agree, none_there, one_there}
use Rattle.move_alike.specs.Alike.{issuer_of, reference_of}
use Rattle.move_alike.proofs.same_structured.Goals as goal

pub returns-then-not-same_given : goal.returns-then-not-same_given
unfolding rows_in every is_sought
returns-then-not-same_given c =
    λ p q b d.
    let e = c.same_given.ensures _ _ (c.remittance-reference1.ensures _ p refl b) (c.remittance-reference2.ensures _ q refl d) in
    references_differ (issuer_of p) (issuer_of q) (reference_of p) (reference_of q) e c.if-not-same_given.true

pub returns-then-is_none : goal.returns-then-is_none
unfolding rows_in every is_sought
returns-then-is_none c =
    λ p q b d.
    let f = c.remittance-reference1.ensures _ p refl b in
    let e = c.same_given.ensures _ _ f (c.remittance-reference2.ensures _ q refl d) in
    no_reference (issuer_of p) (issuer_of q) (reference_of p) (reference_of q) e c.if-not-same_given.false (none_there f c.is_none.ensures c.if-is_none.true)

pub returns : goal.returns
unfolding rows_in every is_sought
returns c =
    λ p q b d.
    let f = c.remittance-reference1.ensures _ p refl b in
    let e = c.same_given.ensures _ _ f (c.remittance-reference2.ensures _ q refl d) in
    let i = c.same_given-2.ensures _ _ (c.remittance-issuer1.ensures _ p refl b) (c.remittance-issuer2.ensures _ q refl d) in
    references_agree (issuer_of p) (issuer_of q) (reference_of p) (reference_of q) e c.if-not-same_given.false (one_there f c.is_none.ensures c.if-is_none.false) i
