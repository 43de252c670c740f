use mathlib.Core.List.{[]}
use mathlib.Core.Bool.{not}
use mathlib.Core.Path.{refl, sym, ap, ◌∙◌}
use native.Mathlib.Omega.{arith}
use Rattle.paper.specs.Refusals.{among_texts}
use Rattle.paper.specs.Answers.{refusal_of}
use Rattle.paper.specs.declared.Fault.TheVariants.{BlockIdRepeated}
use Rattle.form_names.specs.Names.{is_sought}
use Rattle.rule_limits.proofs.First.{stands_at}
use Rattle.rule_limits.proofs.Refusing.{leaf_absent, leaf_right, leaf_wrong}
use Rattle.rule_ids.specs.Ids.{with_ids, id_refusal}
use Rattle.rule_ids.proofs.id_at.Goals as goal

pub returns-in_default : goal.returns-in_default
unfolding is_sought id_refusal refusal_of
returns-in_default c =
    let s = c.args.s.now in
    λ bs b a e n l.
    let found = c.child.ensures s b refl (stands_at (c.block.ensures n) l) in
    leaf_absent (λ w. not (among_texts w (with_ids [] bs))) 11 11 found (BlockIdRepeated _) c.in_default.is refl

pub returns-then-among_earlier : goal.returns-then-among_earlier
unfolding is_sought id_refusal refusal_of
returns-then-among_earlier c =
    let s = c.args.s.now in
    λ bs b a e n l.
    let found = c.child.ensures s b refl (stands_at (c.block.ensures n) l) in
    leaf_wrong (λ w. not (among_texts w (with_ids [] bs))) 11 11 found (BlockIdRepeated _) c.in-Some.is
    (λ t k is. ap not (sym (c.among_earlier.ensures bs t a e (omega (arith, n)) k) ∙ c.if-among_earlier.true)) c.cell.ensures refl

pub returns : goal.returns
unfolding is_sought id_refusal refusal_of
returns c =
    let s = c.args.s.now in
    λ bs b a e n l.
    let found = c.child.ensures s b refl (stands_at (c.block.ensures n) l) in
    leaf_right (λ w. not (among_texts w (with_ids [] bs))) 11 11 found c.in-Some.is
    (λ t k is. ap not (sym (c.among_earlier.ensures bs t a e (omega (arith, n)) k) ∙ c.if-among_earlier.false))
