-- A name's number: that of the lowest row that has it; 0 for every other name.
use Rattle.std.specs.Prelude.{ℕ, ◌+◌, ◌*◌, ◌-◌, ◌%◌, ◌≤◌, ◌<◌, List, [], ◌∷◌, Bool, true, ◌&&◌, not, ◌≡◌, length, get_or, take, drop, eqb, leb, ltb, if◌then◌else◌}
use Rattle.paper.specs.Bytes.{same}
use Rattle.paper.specs.Rows.{Row, every_row, name}

unfoldable pub number_in : List Row → List ℕ → ℕ
number_in [] w = 0
number_in (r ∷ rs) w = if same r.name w then r.row else number_in rs w

unfoldable pub name_number : List ℕ → ℕ
name_number w = number_in every_row w

-- The number is a row's.
unfoldable pub is_row : ℕ → Bool
is_row k = leb 1 k && leb k 58

-- The number is that of a row which is looked for by its number. Row 57 is not: it is found by its place alone, as the one row of its group.
unfoldable pub is_sought : ℕ → Bool
is_sought k = leb 1 k && leb k 58 && not (eqb k 57)

-- The slot of a name, by its length, its first byte and its sixth, or its last where it has no sixth.
unfoldable pub slot_of : List ℕ → ℕ
slot_of w = (5 * length w + 4 * get_or w 0 0 + 49 * get_or w (if ltb (length w) 6 then length w - 1 else 5) 0) % 128

-- Of each slot the table has eighteen bytes: a name, filled up to sixteen bytes, its number and its length.
abbrev pub number_of : List ℕ → (slot : ℕ) → ℕ
number_of table j = get_or table (18 * j + 16) 0

abbrev pub length_in : List ℕ → (slot : ℕ) → ℕ
length_in table j = get_or table (18 * j + 17) 0

abbrev pub name_of : List ℕ → (slot : ℕ) → List ℕ
name_of table j = take (length_in table j) (drop (18 * j) table)

-- The table holds in each slot a name with its number, or nothing; and every row's name in its slot.
pub record NamesAre (table : List ℕ) : Type 0 where
  pub long : 2304 ≤ length table
  pub right : (j : ℕ) → j < 128 → 1 ≤ length_in table j → name_number (name_of table j) ≡ number_of table j
  pub full : (k : ℕ) → is_row k ≡ true → (length_in table (slot_of (name k)) ≡ length (name k)) × (name_of table (slot_of (name k)) ≡ name k)
