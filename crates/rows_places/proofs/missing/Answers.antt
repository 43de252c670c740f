use Prim.Native.Nat.{ℕ}
use mathlib.Core.Path.{sym, ap, ◌∙◌}
use mathlib.Core.Option.{some}
use Rattle.paper.specs.Answers.{perhaps}
use Rattle.rows_places.specs.Numbers.{of_entry}
use Rattle.rows_places.proofs.Places.{missing_goes, missing_stops, missing_ends}
use Rattle.rows_places.proofs.missing.Goals as goal

pub returns-then-number-ne1 : goal.returns-then-number-ne1
unfolding perhaps
returns-then-number-ne1 c = sym (c.loop-p.invariant ∙ missing_stops _ _ _ _ c.loop-p-test.true (λ e. c.if-number-ne1.true (c.number.ensures ∙ e)) ∙ ap some (sym (c.from.ensures ∙ c.of_entry.ensures ∙ ap (λ (e : ℕ). of_entry c.args.numbers.now.rows e 0) c.number-first.ensures)))

pub loop-p-preserved : goal.loop-p-preserved
loop-p-preserved c = c.loop-p.invariant ∙ missing_goes _ _ _ _ c.loop-p-test.true (sym c.number.ensures ∙ c.if-number-ne1.false)

pub returns : goal.returns
unfolding perhaps
returns c = sym (c.loop-p.invariant ∙ missing_ends _ _ _ _ c.loop-p-test.false)
