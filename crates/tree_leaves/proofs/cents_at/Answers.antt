use Rattle.paper.specs.Payments.{text_of}
use Rattle.tree_leaves.proofs.Readings.{cents-read, cents_under}
use Rattle.tree_leaves.proofs.cents_at.Goals as goal

pub returns : goal.returns
returns c =
    (cents_under _ _ _ c.money_cents.ensures c.unwrap_or.ensures, λ t l d. cents-read (text_of t) (c.text.ensures t l) c.money_cents.ensures c.unwrap_or.ensures d)
