-- The numbers of both profiles stand for their rows, since a computed test says so of each.
use Prim.Native.Nat.{ℕ, zero, suc, ◌+◌, ◌-◌, ◌<◌, ◌≤◌}
use mathlib.Core.List.{List, [], ◌∷◌, map}
use mathlib.Core.Bool.{Bool, true, false}
use mathlib.Core.Path.{◌≡◌, refl, sym, ap}
use native.Mathlib.Omega.{arith}
use lib.Dec.{eqb, ltb}
use borrow.Author.Tests.{eqb-true, eqb-false, ltb-true, ltb-false}
use Rattle.paper.specs.Bytes.{bytes, same}
use Rattle.paper.specs.Answers.{profile_named}
use Rattle.paper.specs.declared.Profile as named
use Rattle.paper.specs.Rows.{Row, rows as the_rows, instant_changes, with_row, with_rows, instant_rows, every_row, Profile, for_new, for_archived, profile_by, first_profile, instant_profile, row_in, row_of, name_in, name, leaf, group, group_under}
use Rattle.form_names.specs.Names.{number_in, name_number, is_row}
use Rattle.rows_places.specs.Numbers.{number_at, of_entry, of_place, of_kind, place_at, places_from, places_between, places_of, holds_at, row_at, StandsFor, Stands}
use Rattle.rows_places.proofs.Places.{no_line}
use Rattle.rows_profile.specs.Profile.{entry_of, place_numbers, places_under, all_places, entries, with_entry, with_entries, no_entry, entries_of}

-- two functions that agree below n, by one equation of lists
unfoldable pub upto : ℕ → List ℕ
upto zero = []
upto (suc n) = n ∷ upto n

agree : {A : Type 0} (f g : ℕ → A) (n : ℕ) → map f (upto n) ≡ map g (upto n) → (i : ℕ) → i < n → f i ≡ g i
unfolding upto
agree f g zero e i h = absurd (omega arith)
agree {A} f g (suc n) e i h = go (eqb i n) refl (λ below. agree f g n tail i below)
  where
    tail : map f (upto n) ≡ map g (upto n)
    tail = cc

    head : f n ≡ g n
    head = cc

    go : (b : Bool) → eqb i n ≡ b → (i < n → f i ≡ g i) → f i ≡ g i
    go true p below = let q : i ≡ n = eqb-true i n p in rw q head
    go false p below = below (omega (arith, eqb-false i n p))

module _ (profile : Profile) (rows places : List (List ℕ)) where
  -- Of entry d under a parent: whether it is a row, which, and the number of its name; as it must be, and as it is.
  abbrev wanted : (parent d : ℕ) → Bool × Row × ℕ
  wanted parent d = (true, row_of profile parent (of_entry rows d 0), name_number (name (of_entry rows d 0)))

  abbrev said : ℕ → Bool × Row × ℕ
  said d = (is_row (of_entry rows d 0), row_at rows places d, of_entry rows d 2)

  -- how many places an entry has
  abbrev many : ℕ → ℕ
  many e = of_entry rows e 5 - of_entry rows e 4

  -- The test of the first entries at all places of all entries (k is 1), or of the second (2).
  module _ (k : ℕ) where
    abbrev there : (e j : ℕ) → ℕ
    there e j = of_place places (of_entry rows e 4 + j) k

    unfoldable pub Agree : Type 0
    Agree =
        map (λ e. map (λ j. wanted (of_entry rows e 0) (there e j)) (upto (many e))) (upto 59) ≡
        map (λ e. map (λ j. said (there e j)) (upto (many e))) (upto 59)

    stand : Agree → (e p : ℕ) → of_entry rows e 4 ≤ p → p < of_entry rows e 5 → StandsFor profile rows places (of_entry rows e 0) (of_place places p k)
    unfolding Agree
    stand test e p low high = go (ltb e 59) refl
      where
        at_p : of_entry rows e 4 + (p - of_entry rows e 4) ≡ p
        at_p = omega arith

        go : (b : Bool) → ltb e 59 ≡ b → StandsFor profile rows places (of_entry rows e 0) (of_place places p k)
        go true q =
            let inner = agree (λ d. map (λ j. wanted (of_entry rows d 0) (there d j)) (upto (many d))) (λ d. map (λ j. said (there d j)) (upto (many d))) 59 test e (ltb-true e 59 q) in
            let same_there = agree (λ j. wanted (of_entry rows e 0) (there e j)) (λ j. said (there e j)) (many e) inner (p - of_entry rows e 4) (omega arith) in
            let here : wanted (of_entry rows e 0) (of_place places p k) ≡ said (of_place places p k) = rw at_p at same_there in
            record { row_there = sym (ap (λ x. x.0) here); row_is = ap (λ x. x.1) here; name_number_is = sym (ap (λ x. x.2) here) }
        go false q = absurd (omega (arith, no_line 59 6 rows e 5 (ltb-false e 59 q)))

  pub record Tested : Type 0 where
    pub root_agrees : row_at rows places 0 ≡ row_of profile 0 1
    pub first_agree : Agree 1
    pub second_agree : Agree 2

  pub by_test : Tested → Stands profile rows places
  by_test t = record { root_is = t.root_agrees; first_stands = stand 1 t.first_agree; second_stands = stand 2 t.second_agree }

-- those of each profile
first_tested : Tested first_profile (entries_of false) all_places
unfolding upto Agree number_at of_kind place_at places_from places_between places_of holds_at row_at row_in row_of for_new first_profile the_rows instant_changes with_row with_rows instant_rows every_row leaf group group_under bytes same name_in name number_in name_number is_row entry_of place_numbers places_under all_places entries no_entry entries_of
first_tested = record { root_agrees = refl; first_agree = refl; second_agree = refl }

instant_tested : Tested instant_profile (entries_of true) all_places
unfolding upto Agree number_at of_kind place_at places_from places_between places_of holds_at row_at row_in row_of for_new instant_profile the_rows instant_changes with_row with_rows instant_rows every_row leaf group group_under bytes same name_in name number_in name_number is_row entry_of place_numbers places_under all_places entries with_entry with_entries entries_of
instant_tested = record { root_agrees = refl; first_agree = refl; second_agree = refl }

-- They stand for the rows, whichever of these are withdrawn.
stands_too : {profile : Profile} {rows places : List (List ℕ)} → Stands profile rows places → (withdrawn : List ℕ)
    → Stands (record { rows = profile.rows; withdrawn = withdrawn }) rows places
unfolding row_of
stands_too {profile} {rows} {places} st withdrawn =
    record {
      root_is = st.root_is;
      first_stands = λ e p low high. one (st.first_stands e p low high);
      second_stands = λ e p low high. one (st.second_stands e p low high);
    }
  where
    one : {parent e : ℕ} → StandsFor profile rows places parent e → StandsFor (record { rows = profile.rows; withdrawn = withdrawn }) rows places parent e
    one h = record { row_there = h.row_there; row_is = h.row_is; name_number_is = h.name_number_is }

pub rows_stand : (p : named.Profile) → Stands (profile_named p) (entries_of p.instant) all_places
unfolding profile_named profile_by for_new for_archived first_profile instant_profile
rows_stand p = go p.instant p.archived
  where
    go : (instant archived : Bool) → Stands (profile_by instant archived) (entries_of instant) all_places
    go false false = by_test first_profile (entries_of false) all_places first_tested
    go false true = stands_too (by_test first_profile (entries_of false) all_places first_tested) []
    go true false = by_test instant_profile (entries_of true) all_places instant_tested
    go true true = stands_too (by_test instant_profile (entries_of true) all_places instant_tested) []

-- the first entry is row 1, a group
pub first_entry : (instant : Bool) → of_entry (entries_of instant) 0 0 ≡ 1
unfolding number_at entries_of entries with_entry with_entries the_rows instant_changes leaf group group_under
first_entry false = refl
first_entry true = refl

pub first_group : (instant : Bool) → of_entry (entries_of instant) 0 3 ≡ 0
unfolding number_at entries_of entries with_entry with_entries the_rows instant_changes leaf group group_under
first_group false = refl
first_group true = refl
