use Rattle.std.proofs.Common.{rules, tests}
use mathlib.Core.Bool.{not}
use Rattle.std.proofs.lemmas.Iterator.{YieldsList-from_slice}
use Rattle.std.proofs.lemmas.Iterator.Search.{position_from_yields_List}
use Rattle.paper.specs.Bytes.{white}
use Rattle.leaf_values.proofs.Laws.{all_first}
use Rattle.rows_contents.proofs.Leaves.{first_not-position}
use Rattle.rows_contents.proofs.first_black.Goals as goal

pub returns-then-known-eq1 : goal.returns-then-known-eq1
returns-then-known-eq1 c k = all_first (k c.if-known-eq1.true)

pub returns : goal.returns
returns c _ =
    first_not-position white c.args.s.now c.position.result
    (position_from_yields_List (λ b. not (white b)) _ _ c.position.result c.position.ensures.ran (YieldsList-from_slice c.args.s.now cc) (λ x b q k. search (rules, tests, c.ranks-ranks.ensures)))
