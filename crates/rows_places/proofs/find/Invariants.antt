use Prim.Native.Nat.{ℕ}
use mathlib.Core.List.{List}
use Rattle.paper.specs.Form.{Head}
use Rattle.paper.specs.Rows.{Profile}
use Rattle.tree.specs.Laid.{Entry}
use Rattle.rows_places.specs.Seek.{ResolvedBetween}
use Rattle.rows_places.proofs.Places.{SoFar}
use Rattle.rows_places.proofs.find.Given as goal

abbrev pub invariant-loop-p : goal.invariant-loop-p
invariant-loop-p l = (profile : Profile) (parent : ℕ) (s : List ℕ) (h : Head) (next : ℕ) → ResolvedBetween profile l.numbers.rows l.numbers.places parent l.from l.to → Entry s l.tree l.i h next → SoFar profile l.numbers.rows l.numbers.places parent h.name l.from l.to l.p
