-- The rows of a profile as numbers, so that code never searches them. An entry is a row with its place in these numbers, which has six of them: the row's number; the
-- row that it is under, or 0; its name's number; its longest length, 0 for a group; where its places start and end.
-- A place has three: its kind (0 `one`, 1 `opt`, 2 `plus`, 3 `either`) and the two entries that may take it, one of them twice where there is no choice.
use Rattle.std.specs.Prelude.{ℕ, zero, suc, ◌+◌, ◌-◌, ◌≤◌, ◌<◌, List, [], ◌∷◌, Bool, true, false, ◌&&◌, ◌≡◌, eqb, ltb, get_or, if◌then◌else◌}
use Rattle.paper.specs.Rows.{Place, one, opt, plus, either, name, Contents, text, elements, Row, Profile, row_of}
use Rattle.paper.specs.Refusals.{Left, from_here, again}
use Rattle.form_names.specs.Names.{name_number, is_row}

-- number k of line e in a table of so many lines of so many numbers; 0 where there is none
unfoldable pub number_at : (lines numbers : ℕ) → List (List ℕ) → (e k : ℕ) → ℕ
number_at lines numbers table e k = if ltb e lines && ltb k numbers then get_or (get_or table e []) k 0 else 0

-- number k of entry e, of 59; of place p, of 68
abbrev pub of_entry : List (List ℕ) → (e k : ℕ) → ℕ
of_entry rows e k = number_at 59 6 rows e k

abbrev pub of_place : List (List ℕ) → (p k : ℕ) → ℕ
of_place places p k = number_at 68 3 places p k

-- the row's number of the first entry of place p, and of its second
abbrev pub first_of : (rows places : List (List ℕ)) → (p : ℕ) → ℕ
first_of rows places p = of_entry rows (of_place places p 1) 0

abbrev pub second_of : (rows places : List (List ℕ)) → (p : ℕ) → ℕ
second_of rows places p = of_entry rows (of_place places p 2) 0

unfoldable pub of_kind : (kind first second : ℕ) → Place
of_kind kind k l = if eqb kind 0 then one k else if eqb kind 1 then opt k else if eqb kind 2 then plus k else either (k ∷ l ∷ [])

module _ (rows places : List (List ℕ)) where
  unfoldable pub place_at : ℕ → Place
  place_at p = of_kind (of_place places p 0) (first_of rows places p) (second_of rows places p)

  -- so many places from p on; those from p up to q
  unfoldable pub places_from : (n p : ℕ) → List Place
  places_from zero p = []
  places_from (suc n) p = place_at p ∷ places_from n (p + 1)

  unfoldable pub places_between : (p q : ℕ) → List Place
  places_between p q = places_from (q - p) p

  -- the places left up to q: from p on; or, once one of a `plus` at p has been seen, what is left of that and the ones behind it
  unfoldable pub places_left : (p : ℕ) → Bool → (q : ℕ) → Left
  places_left p false q = from_here (places_between p q)
  places_left p true q = again (first_of rows places p) (places_between (p + 1) q)

  -- the places of an entry that is a group
  unfoldable pub places_of : ℕ → List Place
  places_of e = places_between (of_entry rows e 4) (of_entry rows e 5)

  unfoldable pub holds_at : ℕ → Contents
  holds_at e = if eqb (of_entry rows e 3) 0 then elements (places_of e) else text (of_entry rows e 3)

-- The row that an entry stands for.
unfoldable pub row_at : (rows places : List (List ℕ)) → ℕ → Row
row_at rows places e =
    record { row = of_entry rows e 0; under = of_entry rows e 1; name = name (of_entry rows e 0); holds = holds_at rows places e }

-- Entry e stands for the profile's row of its number under this parent, and has the number of that row's name.
pub record StandsFor (profile : Profile) (rows places : List (List ℕ)) (parent e : ℕ) : Type 0 where
  pub row_there : is_row (of_entry rows e 0) ≡ true
  pub row_is : row_of profile parent (of_entry rows e 0) ≡ row_at rows places e
  pub name_number_is : of_entry rows e 2 ≡ name_number (name (of_entry rows e 0))

-- The numbers stand for a profile: entry 0 is row 1, and the entries at the places of an entry stand for that profile's rows under it.
pub record Stands (profile : Profile) (rows places : List (List ℕ)) : Type 0 where
  pub root_is : row_at rows places 0 ≡ row_of profile 0 1
  pub first_stands : (e p : ℕ) → of_entry rows e 4 ≤ p → p < of_entry rows e 5 → StandsFor profile rows places (of_entry rows e 0) (of_place places p 1)
  pub second_stands : (e p : ℕ) → of_entry rows e 4 ≤ p → p < of_entry rows e 5 → StandsFor profile rows places (of_entry rows e 0) (of_place places p 2)
