use native.Mathlib.Omega.{arith}
use mathlib.Core.Path.{refl}
use Rattle.paper.specs.Bytes.{letter_or_digit}
use Rattle.form_scans.proofs.Laws.{name_run, name_class}
use Rattle.form_scans.proofs.name_end.Goals as goal

pub returns-then-s-at : goal.returns-then-s-at
returns-then-s-at c = λ n h. let a = c.if-s-at.true in absurd (omega (arith, a, h))

pub returns-then-s-at-lt32 : goal.returns-then-s-at-lt32
returns-then-s-at-lt32 c = λ n h. let l = c.if-s-at-lt32.true in name_run (c.run_end.ensures n letter_or_digit name_class) (omega arith) (omega (arith, l, h)) (λ _. refl)

pub returns : goal.returns
returns c = λ n h. let l = c.if-s-at-lt32.false in name_run (c.run_end-2.ensures n letter_or_digit name_class) (omega (arith, l, h)) (omega arith) (λ u. absurd (omega (arith, u)))
