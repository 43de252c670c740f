use native.Mathlib.Omega.{arith}
use Rattle.paper.specs.Bytes.{white}
use Rattle.form_ranks.proofs.Classes.{white_from}
use Rattle.form_scans.proofs.Laws.{white_run}
use Rattle.form_scans.proofs.white_end.Goals as goal

pub returns-then-s-at : goal.returns-then-s-at
returns-then-s-at c = λ n h. let a = c.if-s-at.true in absurd (omega (arith, a, h))

pub returns : goal.returns
returns c = λ n h. white_run (c.run_end.ensures n white white_from)
