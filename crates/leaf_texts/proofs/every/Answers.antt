use Rattle.std.proofs.Common.{rules, tests}
use Rattle.std.proofs.lemmas.Iterator.{YieldsList-from_slice}
use Rattle.std.proofs.lemmas.Iterator.Search.{all_from_yields_List}
use Rattle.leaf_texts.specs.Shapes.{fits_byte}
use Rattle.leaf_texts.proofs.Laws.{every_is}
use Rattle.leaf_texts.proofs.every.Goals as goal

pub returns : goal.returns
returns c =
    rw (every_is (fits_byte c.args.shape) c.args.s.now)
    (all_from_yields_List (fits_byte c.args.shape) _ _ _ c.all.ensures.ran (YieldsList-from_slice _ cc) (λ x b q k. search (rules, tests)))
