-- The paper's shapes, with the shape a text of bytes as code holds it.
use Rattle.std.specs.Prelude.{ℕ, Bool, eqb, if◌then◌else◌}
use Rattle.paper.specs.Bytes.{is, capital, digit, capital_or_digit}

unfoldable pub fits_byte : (shape b : ℕ) → Bool
fits_byte c b =
    if is "0" c then digit b else
    if is "A" c then capital b else
    if is "X" c then capital_or_digit b else eqb b c
