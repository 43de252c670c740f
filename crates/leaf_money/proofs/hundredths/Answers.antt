use native.Mathlib.Omega.{arith}
use mathlib.Core.Path.{sym}
use Rattle.leaf_money.proofs.Cents.{hundredths_none, hundredths_one, hundredths_two}
use Rattle.leaf_money.proofs.hundredths.Goals as goal

pub returns-in-empty : goal.returns-in-empty
returns-in-empty c = (sym (hundredths_none c.args.s.now (omega (arith, c.in-empty.len_below))), omega arith)

pub returns-in-len1 : goal.returns-in-len1
returns-in-len1 c = (rw c.above.ensures.0 (sym (hundredths_one c.args.s.now (omega (arith, c.in-len1.len_at_least, c.in-len1.len_below)))), omega arith)

pub returns-in-len2-up : goal.returns-in-len2-up
returns-in-len2-up c =
    let l = c.in-len2-up.len_at_least in
    (rw (c.above-in-len2-up.ensures.0, c.above-in-len2-up-2.ensures.0) (sym (hundredths_two c.args.s.now (λ e. omega (arith, l, e)) (λ e. omega (arith, l, e)))), omega arith)
