use native.Mathlib.Omega.{arith}
use mathlib.Core.Path.{sym, ◌∙◌}
use borrow.Author.Tests.{lt-leb, le-leb}
use Rattle.paper.specs.Bytes.{bytes}
use Rattle.paper.specs.Values.{piece, date_and_time}
use Rattle.leaf_texts.proofs.Laws.{shaped_is}
use Rattle.leaf_numbers.proofs.Laws.{spelled_part}
use Rattle.leaf_days.proofs.Times.{time_long}
use Rattle.leaf_days.proofs.date_and_time.Goals as goal

pub returns-then-not-shaped : goal.returns-then-not-shaped
unfolding date_and_time bytes
returns-then-not-shaped c = rw ((shaped_is "0000-00-00T00:00:00" c.args.s.now ∙ sym c.shaped.ensures) ∙ c.if-not-shaped.true)

pub slice_bounds-date-end : goal.slice_bounds-date-end
unfolding bytes
slice_bounds-date-end c = omega (arith, time_long c.args.s.now (sym c.shaped.ensures ∙ c.if-not-shaped.false))

pub returns-then-not-date : goal.returns-then-not-date
unfolding date_and_time bytes piece
returns-then-not-date c = rw ((shaped_is "0000-00-00T00:00:00" c.args.s.now ∙ sym c.shaped.ensures) ∙ c.if-not-shaped.false, (sym c.date.ensures) ∙ c.if-not-date.true)

pub slice_bounds-number-end : goal.slice_bounds-number-end
unfolding bytes
slice_bounds-number-end c = omega (arith, time_long c.args.s.now (sym c.shaped.ensures ∙ c.if-not-shaped.false))

pub returns-then-number-gt23 : goal.returns-then-number-gt23
unfolding date_and_time bytes piece
returns-then-number-gt23 c = rw ((shaped_is "0000-00-00T00:00:00" c.args.s.now ∙ sym c.shaped.ensures) ∙ c.if-not-shaped.false, (sym c.date.ensures) ∙ c.if-not-date.false, (sym (spelled_part c.args.s.now 11 2 _ (omega arith) c.number.ensures)), lt-leb _ _ c.if-number-gt23.true)

pub slice_bounds-number-end-2 : goal.slice_bounds-number-end-2
unfolding bytes
slice_bounds-number-end-2 c = omega (arith, time_long c.args.s.now (sym c.shaped.ensures ∙ c.if-not-shaped.false))

pub returns-then-number-gt59 : goal.returns-then-number-gt59
unfolding date_and_time bytes piece
returns-then-number-gt59 c = rw ((shaped_is "0000-00-00T00:00:00" c.args.s.now ∙ sym c.shaped.ensures) ∙ c.if-not-shaped.false, (sym c.date.ensures) ∙ c.if-not-date.false, (sym (spelled_part c.args.s.now 11 2 _ (omega arith) c.number.ensures)), le-leb _ _ c.if-number-gt23.false, (sym (spelled_part c.args.s.now 14 2 _ (omega arith) c.number-2.ensures)), lt-leb _ _ c.if-number-gt59.true)

pub slice_bounds-number-end-3 : goal.slice_bounds-number-end-3
unfolding bytes
slice_bounds-number-end-3 c = omega (arith, time_long c.args.s.now (sym c.shaped.ensures ∙ c.if-not-shaped.false))

pub returns : goal.returns
unfolding date_and_time bytes piece
returns c = rw ((shaped_is "0000-00-00T00:00:00" c.args.s.now ∙ sym c.shaped.ensures) ∙ c.if-not-shaped.false, (sym c.date.ensures) ∙ c.if-not-date.false, (sym (spelled_part c.args.s.now 11 2 _ (omega arith) c.number.ensures)), le-leb _ _ c.if-number-gt23.false, (sym (spelled_part c.args.s.now 14 2 _ (omega arith) c.number-2.ensures)), le-leb _ _ c.if-number-gt59.false, (sym (spelled_part c.args.s.now 17 2 _ (omega arith) c.number-3.ensures)))
