-- What is said of the regrouping list.
use Rattle.std.specs.Prelude.{ℕ, List, length, Some, None}
use Rattle.std.specs.Prelude as code
use Rattle.std.proofs.Math.Option.{Option, none, some}

-- not of the form, or so many ordinals
unfoldable pub how_many : Option (List ℕ) → code.Option ℕ
how_many none = None
how_many (some ordinals) = Some (length ordinals)
