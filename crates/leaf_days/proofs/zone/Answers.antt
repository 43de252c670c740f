use native.Mathlib.Omega.{arith}
use mathlib.Core.Path.{sym, ◌∙◌}
use borrow.Author.Tests.{lt-leb, le-leb}
use Rattle.paper.specs.Bytes.{bytes}
use Rattle.paper.specs.Values.{zone}
use Rattle.leaf_numbers.proofs.Laws.{spelled_part}
use Rattle.leaf_days.proofs.Times.{signed_long}
use Rattle.leaf_days.proofs.zone.Goals as goal

pub returns-then-same : goal.returns-then-same
unfolding zone bytes
returns-then-same c = rw (sym c.same.ensures ∙ c.if-same.true)

pub returns-then-not-signed : goal.returns-then-not-signed
unfolding zone bytes
returns-then-not-signed c = rw (sym c.same.ensures ∙ c.if-same.false, sym c.signed.ensures ∙ c.if-not-signed.true)

pub slice_bounds-number-end : goal.slice_bounds-number-end
slice_bounds-number-end c = omega (arith, signed_long _ (sym c.signed.ensures ∙ c.if-not-signed.false))

pub slice_bounds-number-end-2 : goal.slice_bounds-number-end-2
slice_bounds-number-end-2 c = omega (arith, signed_long _ (sym c.signed.ensures ∙ c.if-not-signed.false))

pub returns-then-minutes-le59 : goal.returns-then-minutes-le59
unfolding zone bytes
returns-then-minutes-le59 c = rw (sym c.same.ensures ∙ c.if-same.false, sym c.signed.ensures ∙ c.if-not-signed.false, ← spelled_part c.args.s.now 4 2 _ (omega arith) c.number-minutes.ensures, le-leb _ _ c.if-minutes-le59.true, ← spelled_part c.args.s.now 1 2 _ (omega arith) c.number-hours.ensures)

pub returns-else-minutes-le59 : goal.returns-else-minutes-le59
unfolding zone bytes
returns-else-minutes-le59 c = rw (sym c.same.ensures ∙ c.if-same.false, sym c.signed.ensures ∙ c.if-not-signed.false, ← spelled_part c.args.s.now 4 2 _ (omega arith) c.number-minutes.ensures, lt-leb _ _ c.if-minutes-le59.false)
