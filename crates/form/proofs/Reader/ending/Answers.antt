use Rattle.form.specs.Reads.{HeldAt}
use mathlib.Core.Path.{refl}
use Rattle.form.proofs.ContentLaws.{behind_children, text_alone}
use Rattle.form.proofs.Reader.ending.Goals as goal

pub returns-then-read-start : goal.returns-then-read-start
unfolding HeldAt
returns-then-read-start c = (refl, behind_children c.args.self.now.s.now c.args.start c.args.read.at c.args.p c.if-read-start.true)

pub returns : goal.returns
unfolding HeldAt
returns c = let v = c.value_end-values.ensures c.args.self.now.ranked c.requires in (refl, text_alone c.args.self.now.s.now c.args.start c.args.read.at c.args.p _ _ v (c.text_end-close.ensures c.args.self.now.ranked v.along.within) c.if-read-start.false c.known.ensures)
