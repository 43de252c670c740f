-- What comes of a child, by its name and the places that are left.
use Rattle.std.specs.Prelude.{ℕ, ◌+◌, ◌≤◌, ◌<◌, List, Bool, true, ◌≡◌, Result, Ok, Err, Some, None}
use Rattle.std.specs.Prelude as code
use Rattle.std.proofs.Math.Option.{Option, none, some}
use Rattle.paper.specs.Form.{Head}
use Rattle.paper.specs.Rows.{Profile, name, row_of}
use Rattle.paper.specs.Refusals.{Left, rows_at, left_of, missing_of, never, early, found, named_in, seek_in, seek}
use Rattle.paper.specs.Refusals as refusals
use Rattle.tree.specs.Laid.{Entry}
use Rattle.rows_places.specs.Numbers.{of_entry, of_place, place_at, places_between, places_left, row_at, StandsFor}
use Rattle.rows_places.specs.declared.Standing.{Standing}
use Rattle.rows_places.specs.declared.Placed.{Placed}
use Rattle.rows_places.specs.declared.Unplaced.{Unplaced}
use Rattle.rows_places.specs.declared.Unplaced.TheVariants.{Never, Early}

-- what comes of a child that is sought behind some places that don't take it, of which the first missing row is known
unfoldable pub behind : Option ℕ → refusals.Sought → refusals.Sought
behind none q = q
behind (some first) never = never
behind (some first) (early k) = early first
behind (some first) (found k left) = early first

module _ (profile : Profile) (rows places : List (List ℕ)) (parent : ℕ) where
  -- The entries at place p stand for the profile's rows under this parent.
  pub record Resolved (p : ℕ) : Type 0 where
    pub first_stands : StandsFor profile rows places parent (of_place places p 1)
    pub second_stands : StandsFor profile rows places parent (of_place places p 2)

  abbrev pub ResolvedBetween : (from to : ℕ) → Type 0
  ResolvedBetween from to = (p : ℕ) → from ≤ p → p < to → Resolved p

  module _ (w : List ℕ) where
    -- An entry that is the profile's row under this parent, and has this name.
    pub record Known (e : ℕ) : Type 0 where
      pub row_is : row_of profile parent (of_entry rows e 0) ≡ row_at rows places e
      pub name_is : w ≡ name (of_entry rows e 0)

    -- Which entry at place p has the name.
    unfoldable pub Takes : (p : ℕ) → code.Option ℕ → Type 0
    Takes p None = named_in (rows_at (place_at rows places p)) w ≡ none
    Takes p (Some e) = (named_in (rows_at (place_at rows places p)) w ≡ some (of_entry rows e 0)) × Known e

    -- The first place from `from` up to `to` that takes the name.
    unfoldable pub StandsAt : (from to : ℕ) → code.Option Standing → Type 0
    StandsAt from to None = seek_in (places_between rows places from to) w ≡ never
    StandsAt from to (Some at) =
        (from ≤ at.place) × (at.place < to) × Known at.entry ×
        (seek_in (places_between rows places from to) w ≡
        behind (missing_of (places_between rows places from at.place))
        (found (of_entry rows at.entry 0) (left_of (place_at rows places at.place) (places_between rows places (at.place + 1) to))))

    -- What comes of a child of this name where so much is left; and what is left then.
    unfoldable pub Seeks : Left → (from to : ℕ) → Result Placed Unplaced → Type 0
    Seeks left from to (Err Never) = seek left w ≡ never
    Seeks left from to (Err (Early first)) = seek left w ≡ early first
    Seeks left from to (Ok placed) =
        (from ≤ placed.left.from) × (placed.left.seen ≡ true → placed.left.from < to) × (placed.left.to ≡ to) × Known placed.entry ×
        (seek left w ≡ found (of_entry rows placed.entry 0) (places_left rows places placed.left.from placed.left.seen to))

-- The promise of `seek_further`: what comes of element i, whatever its name, where the places from `from` up to `to` are left, and one of the `plus` at `from` may
-- have been seen.
abbrev pub SeekPromise : (tree : List ℕ) (rows places : List (List ℕ)) (i from : ℕ) (seen : Bool) (to : ℕ) → Result Placed Unplaced → Type 0
SeekPromise tree rows places i from seen to r =
    (profile : Profile) (parent : ℕ) (s : List ℕ) (h : Head) (next : ℕ) → ResolvedBetween profile rows places parent from to → (seen ≡ true → from < to)
    → Entry s tree i h next → Seeks profile rows places parent h.name (places_left rows places from seen to) from to r
