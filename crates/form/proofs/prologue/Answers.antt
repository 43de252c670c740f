use native.Mathlib.Omega.{arith}
use Rattle.paper.specs.Computed.Reading.{before}
use Rattle.paper.specs.Form.{declaration}
use Rattle.paper.specs.Bytes.{bytes}
use Rattle.form.proofs.RootLaws.{begins, begins_not, declared, undeclared}
use Rattle.form_scans.proofs.Laws.{went, first, via}
use mathlib.Core.Path.{sym, ◌∙◌}
use Rattle.form.proofs.prologue.Goals as goal

-- `form::prologue` meets its contract: the declaration, if the message begins with `<?`.
pub returns-then-not-starts_with : goal.returns-then-not-starts_with
returns-then-not-starts_with c = went (omega arith) (omega arith) tt (λ _. undeclared c.args.s.now (begins_not c.args.s.now (sym c.starts_with.ensures.value ∙ c.if-not-starts_with.true)))

pub returns : goal.returns
unfolding declaration bytes
returns c = let (l, e, f) = begins c.args.s.now (sym c.starts_with.ensures.value ∙ c.if-not-starts_with.false) in first (omega arith) (λ _. declared c.args.s.now l e f) (via (λ _. before) (c.word.ensures (omega arith)).reads)
