use Rattle.paper.specs.Payments.{text_of}
use Rattle.tree_leaves.proofs.Readings.{count-read}
use Rattle.tree_leaves.proofs.count_at.Goals as goal

pub returns : goal.returns
returns c = λ t l d. count-read (text_of t) (c.text.ensures t l) c.count_number.ensures c.unwrap_or.ensures d
