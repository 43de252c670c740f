use native.Mathlib.Omega.{arith}
use mathlib.Core.Path.{subst}
use Rattle.form_scans.specs.Scans.{CapitalAt}
use Rattle.form_scans.proofs.TagLaws.{three_read, one_missing, one_more}
use Rattle.form_scans.proofs.three_capitals.Goals as goal

pub returns-then-not-capital_at : goal.returns-then-not-capital_at
returns-then-not-capital_at c = λ n. one_missing (c.loop-k.invariant n) c.loop-k.auto.k c.loop-k-test.true (subst (CapitalAt c.args.s.now c.loop-k.k) c.if-not-capital_at.true (c.capital_at.ensures n))

pub loop-k-preserved : goal.loop-k-preserved
loop-k-preserved c = λ n. one_more (c.loop-k.invariant n) (subst (CapitalAt c.args.s.now c.loop-k.k) c.if-not-capital_at.false (c.capital_at.ensures n))

pub returns : goal.returns
returns c = λ n. three_read (λ j l u. c.loop-k.invariant n j l (omega (arith, u)))
