use Rattle.std.proofs.lemmas.Result.{err_from_is_err_and}
use native.Mathlib.Omega.{arith}
use Rattle.form_scans.proofs.Laws.{reached}
use Rattle.form.proofs.RootLaws.{refused, accepted, trailing}
use Rattle.form.proofs.form_of.Goals as goal

pub returns-in_err-p : goal.returns-in_err-p
returns-in_err-p c = λ _. let p = err_from_is_err_and c.from_residual.result c.from_residual.ensures.1 in rw (p.1, p.2) (refused c.root.ensures.1 c.in_err-p.was)

pub returns-then-end-s : goal.returns-then-end-s
returns-then-end-s c = λ l. accepted c.root.ensures.1 c.in_ok-p.was (c.white_end-end.ensures c.ranks-ranks.ensures (reached c.root.ensures.1 c.in_ok-p.was).within) c.if-end-s.true (let e = c.root.ensures.0 in omega (arith, e, l))

pub returns-else-end-s : goal.returns-else-end-s
returns-else-end-s c = λ _. trailing c.root.ensures.1 c.in_ok-p.was (c.white_end-end.ensures c.ranks-ranks.ensures (reached c.root.ensures.1 c.in_ok-p.was).within) c.if-end-s.false
