use native.Mathlib.Omega.{arith}
use Rattle.paper.specs.Bytes.{text_byte}
use Rattle.form_scans.proofs.Laws.{along_run, text_class}
use Rattle.form_scans.proofs.text_end.Goals as goal

pub returns-then-s-at : goal.returns-then-s-at
returns-then-s-at c = λ n h. let a = c.if-s-at.true in absurd (omega (arith, a, h))

pub returns : goal.returns
returns c = λ n h. let t = c.run_end.ensures n text_byte text_class in record { along = along_run t (omega arith) (λ b e. e); other = t.other }
