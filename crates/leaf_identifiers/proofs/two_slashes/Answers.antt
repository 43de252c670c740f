use Rattle.std.proofs.Common.{rules, tests}
use lib.Dec.{eqb}
use mathlib.Core.Bool.{◌&&◌}
use Rattle.std.proofs.lemmas.Iterator.{YieldsList-from_slice, YieldsList-from_zip}
use Rattle.std.proofs.lemmas.Iterator.Adapters.{YieldsList-from_skip}
use Rattle.std.proofs.lemmas.Iterator.Search.{any_from_yields_List}
use Rattle.leaf_identifiers.proofs.Slashes.{slashes_is}
use Rattle.leaf_identifiers.proofs.two_slashes.Goals as goal

pub returns : goal.returns
returns c =
    rw (slashes_is c.args.s.now)
    (any_from_yields_List (λ x. eqb x.0 47 && eqb x.1 47) c.any.new.self _ _ c.any.ensures.ran
    (YieldsList-from_zip {s = c.zip.result} (YieldsList-from_slice c.args.s.now cc) (YieldsList-from_skip 1 (YieldsList-from_slice c.args.s.now cc) cc)) (λ x b q k. search (rules, tests)))
