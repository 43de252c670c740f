use native.Mathlib.Omega.{arith}
use Rattle.paper.specs.Answers.{profile_named}
use Rattle.move_regrouping.proofs.Laws.{refused, when_accepted, first_refused, second_refused, both_accepted, err_before, ok_before, left_with}
use Rattle.move_regrouping.proofs.regroup.Goals as goal

pub returns-in_err-one : goal.returns-in_err-one
returns-in_err-one c =
    let w = err_before c.outcome-found1.result _ c.map_err.ensures.cases c.in_err-one.was in
    let g = left_with c.from_residual.result c.from_residual.ensures.1 in
    let d = c.outcome-found1.ensures (omega arith) (omega arith) in
    rw (g, w.2) (first_refused (profile_named c.args.profile) c.args.first.now c.args.second.now c.args.list.now w.0 (refused d w.1))

pub returns-in_err-other : goal.returns-in_err-other
returns-in_err-other c =
    let o = ok_before c.outcome-found1.result _ c.map_err.ensures.cases c.in_ok-one.was in
    let w = err_before c.outcome-found2.result _ c.map_err-2.ensures.cases c.in_err-other.was in
    let g = left_with c.from_residual-in_err-other.result c.from_residual-in_err-other.ensures.1 in
    let d = c.outcome-found1.ensures (omega arith) (omega arith) in
    let e = c.outcome-found2.ensures (omega arith) (omega arith) in
    when_accepted d o (λ root1 p i.
    rw (g, w.2) (second_refused (profile_named c.args.profile) c.args.first.now c.args.second.now c.args.list.now w.0 p (rw c.as_new.ensures at (refused e w.1))))

pub returns : goal.returns
returns c =
    let o = ok_before c.outcome-found1.result _ c.map_err.ensures.cases c.in_ok-one.was in
    let u = ok_before c.outcome-found2.result _ c.map_err-2.ensures.cases c.in_ok-other.was in
    let d = c.outcome-found1.ensures (omega arith) (omega arith) in
    let e = c.outcome-found2.ensures (omega arith) (omega arith) in
    when_accepted d o (λ root1 p i. when_accepted e u (λ root2 q j.
    both_accepted (profile_named c.args.profile) c.args.first.now c.args.second.now c.args.list.now c.listed.result p (rw c.as_new.ensures at q) (c.listed.ensures root1 root2 i j)))
