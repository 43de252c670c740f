use Rattle.std.proofs.Common.{rules, tests}
use lib.Dec.{ltb}
use Rattle.std.proofs.lemmas.Iterator.{YieldsList-from_slice}
use Rattle.std.proofs.lemmas.Iterator.Search.{position_from_yields_List}
use Rattle.form_ranks.specs.Ranks.{rank}
use Rattle.leaf_texts.proofs.Places.{place_or_end}
use Rattle.leaf_characters.proofs.Outside.{first_outside_is}
use Rattle.leaf_characters.proofs.first_outside.Goals as goal

pub returns : goal.returns
returns c =
    rw (first_outside_is c.args.s.now)
    (place_or_end _ _ _ _
    (position_from_yields_List (λ b. ltb (rank b) 3) _ _ c.position.result c.position.ensures.ran (YieldsList-from_slice c.args.s.now cc) (λ x b q k. search (rules, tests)))
    c.unwrap_or.ensures)
