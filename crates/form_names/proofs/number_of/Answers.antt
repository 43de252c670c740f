use native.Mathlib.Omega.{arith}
use mathlib.Core.Path.{sym, ap, ◌∙◌}
use mathlib.Core.Bool.{not}
use Rattle.form_names.proofs.Laws.{compared, not_so_long, wrong_length, wrong_name, right_name}
use Rattle.form_names.proofs.number_of.Goals as goal

pub returns-then-size-lt1 : goal.returns-then-size-lt1
returns-then-size-lt1 c n = not_so_long c.args.w.now (λ l u. let h = c.if-size-lt1.true in omega (arith, l, h))

pub returns-then-size-gt16 : goal.returns-then-size-gt16
returns-then-size-gt16 c n = not_so_long c.args.w.now (λ l u. let h = c.if-size-gt16.true in omega (arith, u, h))

pub returns-then-from-size : goal.returns-then-from-size
returns-then-from-size c n = wrong_length n c.args.w.now _ _ c.slot-from.ensures.0 c.from.ensures c.if-from-size.true

pub returns-then-ne : goal.returns-then-ne
returns-then-ne c n =
    wrong_name n c.args.w.now _ _ c.slot-from.ensures.0 c.from.ensures c.if-from-size.false
    (sym (ap not c.if-ne.true) ∙ compared c.args.names.now c.args.w.now _ c.ne.ensures)

pub returns : goal.returns
returns c n =
    c.from-2.ensures
    ∙ right_name n c.args.w.now _ _ c.slot-from.ensures.0 c.from.ensures c.slot-from.ensures.1 (let h = c.if-size-lt1.false in omega (arith, h)) c.if-from-size.false
    (sym (ap not c.if-ne.false) ∙ compared c.args.names.now c.args.w.now _ c.ne.ensures)
