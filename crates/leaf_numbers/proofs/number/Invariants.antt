use mathlib.Core.Path.{◌≡◌}
use lib.ListN.{take}
use Rattle.paper.specs.Values.{number}
use Rattle.leaf_numbers.proofs.Laws.{Small}
use Rattle.leaf_numbers.proofs.number.Given as goal

abbrev pub invariant-loop-b : goal.invariant-loop-b
invariant-loop-b l = (l.n ≡ number (take l.b-index l.first)) × Small l.n l.b-index
