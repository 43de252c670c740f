-- The ranks of bytes. White space is 2 and 3, text 1 and up, the characters of values 3 and up, letters and digits 5 and up, letters 6 and up, capitals 7
-- (proofs/Classes.antt).
use Rattle.std.specs.Prelude.{ℕ, ◌<◌, List, ◌≡◌, get_or, if◌then◌else◌}
use Rattle.paper.specs.Bytes.{is, one_of, capital, letter, digit, text_byte}

unfoldable pub rank : ℕ → ℕ
rank b =
    if capital b then 7 else
    if letter b then 6 else
    if digit b then 5 else
    if one_of "/-?:().,'+" b then 4 else
    if is " " b then 3 else
    if one_of "\t\n\r" b then 2 else
    if text_byte b then 1 else 0

-- The table holds the rank of each byte.
pub record RanksAre (table : List ℕ) : Type 0 where
  pub right : (b : ℕ) → b < 256 → get_or table b 0 ≡ rank b
