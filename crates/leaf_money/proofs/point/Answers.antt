use Rattle.std.proofs.Common.{rules, tests}
use lib.Dec.{eqb}
use Rattle.std.proofs.lemmas.Iterator.{YieldsList-from_slice}
use Rattle.std.proofs.lemmas.Iterator.Search.{position_from_yields_List}
use Rattle.leaf_texts.proofs.Places.{place_or_end}
use Rattle.leaf_money.proofs.Cents.{point_is}
use Rattle.leaf_money.proofs.point.Goals as goal

pub returns : goal.returns
returns c =
    rw (point_is c.args.s.now)
    (place_or_end _ _ _ _
    (position_from_yields_List (λ b. eqb b 46) _ _ c.position.result c.position.ensures.ran (YieldsList-from_slice c.args.s.now cc) (λ x b q k. search (rules, tests)))
    c.unwrap_or.ensures)
