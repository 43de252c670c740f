-- The numbers of a profile, laid out as crates/rows_places/specs/Numbers.antt says: an entry for each of its rows, in their order, and the places of its groups, one
-- group after the other. Both profiles have their places in one table, those of the groups that the instant one has instead or more behind the others; so their entries
-- differ in the lines of these rows alone.
use Rattle.std.specs.Prelude.{ℕ, suc, ◌+◌, List, [], ◌∷◌, ◌++◌, map, Bool, true, false, ◌&&◌, ◌||◌, eqb, length, get_or, if◌then◌else◌}
use Rattle.paper.specs.Rows.{Place, one, opt, plus, either, text, elements, Row, rows, instant_changes, instant_rows, every_row}
use Rattle.form_names.specs.Names.{name_number}

-- which entry is row k under a parent
unfoldable pub entry_of : List Row → (parent k : ℕ) → ℕ
entry_of [] parent k = 0
entry_of (r ∷ rs) parent k = if eqb r.row k && (eqb r.under 0 || eqb r.under parent) then 0 else suc (entry_of rs parent k)

module _ (profile : List Row) where
  unfoldable pub place_numbers : (parent : ℕ) → Place → List ℕ
  place_numbers parent (one k) = 0 ∷ entry_of profile parent k ∷ entry_of profile parent k ∷ []
  place_numbers parent (opt k) = 1 ∷ entry_of profile parent k ∷ entry_of profile parent k ∷ []
  place_numbers parent (plus k) = 2 ∷ entry_of profile parent k ∷ entry_of profile parent k ∷ []
  place_numbers parent (either ks) = 3 ∷ entry_of profile parent (get_or ks 0 0) ∷ entry_of profile parent (get_or ks 1 0) ∷ []

  -- the places of some rows
  unfoldable pub places_under : List Row → List (List ℕ)
  places_under [] = []
  places_under (r ∷ rs) = elim r.holds [ text longest ↦ places_under rs | elements places ↦ map (place_numbers r.row) places ++ places_under rs ]

-- the places of both profiles; row k is the same entry in both
unfoldable pub all_places : List (List ℕ)
all_places = places_under instant_rows every_row

-- the entries of some rows, where so many places stand before theirs
unfoldable pub entries : (before : ℕ) → List Row → List (List ℕ)
entries before [] = []
entries before (r ∷ rs) =
    elim r.holds [
      | text longest ↦ (r.row ∷ r.under ∷ name_number r.name ∷ longest ∷ 0 ∷ 0 ∷ []) ∷ entries before rs
      | elements places ↦
          (r.row ∷ r.under ∷ name_number r.name ∷ 0 ∷ before ∷ (before + length places) ∷ []) ∷ entries (before + length places) rs
    ]

-- an entry in place of the one of its row (under the same group), or behind them all where there is none; each of several
unfoldable pub with_entry : (entry : List ℕ) → List (List ℕ) → List (List ℕ)
with_entry e [] = e ∷ []
with_entry e (d ∷ ds) = if eqb (get_or d 0 0) (get_or e 0 0) && eqb (get_or d 1 0) (get_or e 1 0) then e ∷ ds else d ∷ with_entry e ds

unfoldable pub with_entries : (changes : List (List ℕ)) → List (List ℕ) → List (List ℕ)
with_entries [] ds = ds
with_entries (e ∷ changes) ds = with_entries changes (with_entry e ds)

-- The entries of the first profile, and three that are no row's; those of the instant one, whose changes have their places behind the first's 62.
unfoldable pub no_entry : List ℕ
no_entry = 0 ∷ 0 ∷ 0 ∷ 0 ∷ 0 ∷ 0 ∷ []

unfoldable pub entries_of : (instant : Bool) → List (List ℕ)
entries_of false = entries 0 rows ++ (no_entry ∷ no_entry ∷ no_entry ∷ [])
entries_of true = with_entries (entries 62 instant_changes) (entries 0 rows)
