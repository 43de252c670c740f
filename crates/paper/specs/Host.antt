-- The payment host calls verdict and regrouping on byte slices (docs/RULES.md, 10).
use Rattle.std.specs.Prelude.{ℕ, ◌/◌, ◌%◌, List, [], ◌∷◌, not, length, eqb}
use Rattle.paper.specs.Bytes.{each}
use Rattle.paper.specs.Rows.{Profile, profile_by}
use Rattle.paper.specs.Refusals.{Outcome}
use Rattle.paper.specs.Table.{over, written}

-- The profile is a number: 1 is the instant one, any other the first. Whether the message is archived is a number: 0 is a new one, any other an archived one.
unfoldable pub profile_numbered : (profile archived : ℕ) → Profile
profile_numbered profile archived = profile_by (eqb profile 1) (not (eqb archived 0))

-- Table numbers as four bytes, high byte first.
unfoldable pub four_bytes : ℕ → List ℕ
four_bytes n = n / 16777216 ∷ n / 65536 % 256 ∷ n / 256 % 256 ∷ n % 256 ∷ []

-- One to three bytes left at the end make no number (so a table of 5,119 bytes has 1,279 numbers, and is too short),
unfoldable pub numbers_held : (table : List ℕ) → ℕ
numbers_held table = length table / 4

-- and stay, as all later bytes do.
unfoldable pub bytes_after : Outcome → (old : List ℕ) → List ℕ
bytes_after outcome old = over (each four_bytes (written outcome)) old
