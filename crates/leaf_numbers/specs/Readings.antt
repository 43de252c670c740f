-- What the numbers of the code say in the paper's words.
use Rattle.std.specs.Prelude.{ℕ, ◌<◌, ◌≡◌, List, take, if◌then◌else◌, Option, Some, None}
use Rattle.paper.specs.Values.{number, digits, money, cents}

-- The number that the first fifteen bytes of a text spell, and a bound for whoever computes with it.
pub record Spells (w : List ℕ) (n : ℕ) : Type 0 where
  pub spells : n ≡ number (take 15 w)
  pub bounded : n < 29000000000000000

-- A count of at most fifteen digits as a number; any other text is `None`.
unfoldable pub as_count : List ℕ → Option ℕ
as_count w = if digits 1 15 w then Some (number w) else None

-- Money in cents; a text that is no money is `None`.
unfoldable pub in_cents : List ℕ → Option ℕ
in_cents w = if money w then Some (cents w) else None
