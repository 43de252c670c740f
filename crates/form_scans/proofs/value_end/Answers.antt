use native.Mathlib.Omega.{arith}
use Rattle.paper.specs.Bytes.{value_character}
use Rattle.form_scans.proofs.Laws.{along_run, value_is_text, value_class}
use Rattle.form_scans.proofs.value_end.Goals as goal

pub returns-then-s-at : goal.returns-then-s-at
returns-then-s-at c = λ n h. let a = c.if-s-at.true in absurd (omega (arith, a, h))

pub returns : goal.returns
returns c = λ n h. let t = c.run_end.ensures n value_character value_class in record { along = along_run t (omega arith) value_is_text; in_set = t.all }
