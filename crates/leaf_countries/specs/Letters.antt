-- The countries of a length as code takes them.
use Rattle.std.specs.Prelude.{ℕ, List, [], ◌∷◌, ◌++◌, eqb, if◌then◌else◌}
use Rattle.paper.specs.Values.{Country}

-- the letters of the countries whose accounts have this whole length
unfoldable pub letters_of : List Country → (size : ℕ) → List (List ℕ)
letters_of [] n = []
letters_of (c ∷ cs) n = (if eqb n c.size then c.letters ∷ [] else []) ++ letters_of cs n
