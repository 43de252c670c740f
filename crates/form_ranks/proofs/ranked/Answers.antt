use borrow.Author.Tests.{le-leb, lt-leb}
use Rattle.paper.specs.Values.{lies_from}
use Rattle.form_ranks.proofs.ranked.Goals as goal

pub returns-then-low-r : goal.returns-then-low-r
unfolding lies_from
returns-then-low-r c = λ t. rw (← c.rank-r.ensures t, le-leb _ _ c.if-low-r.true)

pub returns-else-low-r : goal.returns-else-low-r
unfolding lies_from
returns-else-low-r c = λ t. rw (← c.rank-r.ensures t, lt-leb _ _ c.if-low-r.false)
