use Rattle.std.proofs.Common.{rules, tests, arith}
use Rattle.std.proofs.lemmas.Iterator.{YieldsList-from_slice, YieldsList-from_zip}
use Rattle.std.proofs.lemmas.Iterator.Search.{all_from_yields_List}
use Rattle.leaf_texts.specs.Shapes.{fits_byte}
use Rattle.leaf_texts.proofs.Laws.{pointwise_is}
use Rattle.leaf_texts.proofs.shaped.Goals as goal

pub returns-then-s-shape : goal.returns-then-s-shape
returns-then-s-shape c =
    rw (pointwise_is fits_byte c.args.shape.now c.args.s.now (omega (arith, c.if-s-shape.true)))
    (all_from_yields_List (λ x. fits_byte x.0 x.1) c.all.new.self _ _ c.all.ensures.ran (YieldsList-from_zip {s = c.zip.result} (YieldsList-from_slice c.args.shape.now cc) (YieldsList-from_slice c.args.s.now cc)) (λ x b q k. search (rules, tests)))
