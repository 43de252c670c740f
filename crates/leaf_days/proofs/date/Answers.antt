use native.Mathlib.Omega.{arith}
use mathlib.Core.Path.{sym, ◌∙◌}
use Rattle.paper.specs.Bytes.{bytes}
use Rattle.paper.specs.Values.{date}
use Rattle.leaf_texts.proofs.Laws.{shaped_is}
use Rattle.leaf_numbers.proofs.Laws.{spelled_part}
use Rattle.leaf_days.proofs.Times.{date_long}
use Rattle.leaf_days.proofs.date.Goals as goal

pub returns-then-not-shaped : goal.returns-then-not-shaped
unfolding date bytes
returns-then-not-shaped c = rw (shaped_is "0000-00-00" c.args.s.now ∙ sym c.shaped.ensures ∙ c.if-not-shaped.true)

pub slice_bounds-number-end : goal.slice_bounds-number-end
unfolding bytes
slice_bounds-number-end c = omega (arith, date_long c.args.s.now (sym c.shaped.ensures ∙ c.if-not-shaped.false))

pub slice_bounds-number-end-2 : goal.slice_bounds-number-end-2
unfolding bytes
slice_bounds-number-end-2 c = omega (arith, date_long c.args.s.now (sym c.shaped.ensures ∙ c.if-not-shaped.false))

pub slice_bounds-number-end-3 : goal.slice_bounds-number-end-3
unfolding bytes
slice_bounds-number-end-3 c = omega (arith, date_long c.args.s.now (sym c.shaped.ensures ∙ c.if-not-shaped.false))

pub returns : goal.returns
unfolding date bytes
returns c = rw (shaped_is "0000-00-00" c.args.s.now ∙ sym c.shaped.ensures ∙ c.if-not-shaped.false, ← spelled_part c.args.s.now 0 4 _ (omega arith) c.number-year.ensures, ← spelled_part c.args.s.now 5 2 _ (omega arith) c.number-month.ensures, ← spelled_part c.args.s.now 8 2 _ (omega arith) c.number-day.ensures) c.true_day.ensures
