-- The rows of a line's route behind the first.
use mathlib.Core.List.{List, [], ◌∷◌}
use Prim.Native.Nat.{ℕ}
use lib.ListN.{get_or}
use Rattle.tree_routes.specs.Finds.{rows_in}

abbrev pub later_rows : List ℕ → List ℕ
later_rows line = rows_in (get_or line 2 0 ∷ get_or line 3 0 ∷ get_or line 4 0 ∷ [])
