use mathlib.Core.Path.{◌≡◌}
use Rattle.paper.specs.Refusals.{missing_of}
use Rattle.rows_places.specs.Numbers.{places_between}
use Rattle.rows_places.proofs.missing.Given as goal

abbrev pub invariant-loop-p : goal.invariant-loop-p
invariant-loop-p l = missing_of (places_between l.numbers.rows l.numbers.places l.from l.to) ≡ missing_of (places_between l.numbers.rows l.numbers.places l.p l.to)
