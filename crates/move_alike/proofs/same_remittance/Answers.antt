use mathlib.Core.Path.{refl}
use Rattle.paper.specs.Bytes.{every}
use Rattle.form_names.specs.Names.{is_sought}
use Rattle.tree_routes.specs.Finds.{rows_in}
use Rattle.move_alike.proofs.Alike.{not_free, a_free_text, none_found}
use Rattle.tree_routes.proofs.WhatIsFound.{found_none}
use Rattle.move_alike.specs.Alike.{free_of, issuer_of, reference_of}
use Rattle.move_alike.proofs.same_remittance.Goals as goal
use Rattle.move_alike.proofs.same_remittance.Goals.{in_default-via-in-None+in_default, in_default-via-in_default}

pub returns-in-None-None : goal.returns-in-None-None
unfolding rows_in every is_sought
returns-in-None-None c =
    λ p q b d.
    let f = found_none (c.remittance-free1.ensures _ p refl b) c.in-None-None.is-0 in
    let g = found_none (c.remittance-free2.ensures _ q refl d) c.in-None-None.is-1 in
    not_free (issuer_of p) (issuer_of q) (reference_of p) (reference_of q) (free_of p) (free_of q) f g (c.same_structured.ensures p q b d)

pub returns-in_default : goal.returns-in_default
unfolding rows_in every is_sought
returns-in_default c =
    λ p q b d.
    let f = c.remittance-free1.ensures _ p refl b in
    let g = c.remittance-free2.ensures _ q refl d in
    let e = c.same_given.ensures _ _ f g in
    a_free_text (issuer_of p) (issuer_of q) (reference_of p) (reference_of q) (free_of p) (free_of q)
    (λ x y. let u = none_found f x in let v = none_found g y in
    elim c.in_default.branch [ in_default-via-in-None+in_default w ↦ cc (v, w.in_default.is-1) | in_default-via-in_default w ↦ cc (u, w.in_default.is-0) ])
    e
