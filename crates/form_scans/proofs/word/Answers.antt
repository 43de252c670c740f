use borrow.Author.Rules.{rules}
use mathlib.Core.Path.{refl, ◌∙◌}
use Rattle.form_scans.proofs.Laws.{word_next, word_stuck, word_short, word_end, word_to, word_stops}
use Rattle.form_scans.proofs.word.Goals as goal

pub loop-b-init : goal.loop-b-init
loop-b-init c = (search rules, λ h. h, λ q. refl)

pub returns-then-s-p : goal.returns-then-s-p
returns-then-s-p c = λ _. word_stops (λ q. c.loop-b.invariant.2 q ∙ word_short c.args.s.now c.args.w.now c.loop-b.b-index c.loop-b.p q (search rules) (search rules))

pub returns-then-s-p-2 : goal.returns-then-s-p-2
returns-then-s-p-2 c = λ _. word_stops (λ q. c.loop-b.invariant.2 q ∙ word_stuck c.args.s.now c.args.w.now c.loop-b.b-index c.loop-b.p q (search rules) (search rules) c.if-s-p-2.true)

pub loop-b-preserved : goal.loop-b-preserved
loop-b-preserved c = (search rules, λ _. search rules, λ q. c.loop-b.invariant.2 q ∙ word_next c.args.s.now c.args.w.now c.loop-b.b-index c.loop-b.p q (search rules) (search rules) c.if-s-p-2.false)

pub returns : goal.returns
returns c = λ h. word_to (search rules) (c.loop-b.invariant.1 h) (search rules) (λ q. c.loop-b.invariant.2 q ∙ word_end c.args.s.now c.args.w.now c.loop-b.b-index c.loop-b.p q (search rules))
