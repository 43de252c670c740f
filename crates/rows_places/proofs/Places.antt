-- Laws about the places of an entry, step by step.
use Rattle.std.specs.Prelude.{if◌then◌else◌, Result, Ok, Err, Some, None}
use Prim.Native.Nat.{ℕ, zero, suc, ◌+◌, ◌-◌, ◌<◌, ◌≤◌}
use mathlib.Core.List.{List, [], ◌∷◌, ◌++◌}
use mathlib.Core.Bool.{Bool, true, false}
use mathlib.Core.Option.{Option, none, some}
use mathlib.Core.Path.{◌≡◌, refl, sym, ap, ◌∙◌}
use native.Mathlib.Omega.{arith}
use native.Mathlib.Nat.{add-zero}
use lib.Dec.{eqb, ltb}
use borrow.Author.Tests.{ne_eqb, eqb-false, le-ltb, ltb-true, ltb-false}
use Rattle.paper.specs.Bytes.{same}
use Rattle.paper.specs.Rows.{Place, one, opt, plus, either, Profile, name}
use Rattle.paper.specs.Answers.{perhaps}
use Rattle.paper.specs.Refusals.{Left, from_here, again, rows_at, required, left_of, first_row, missing_of, Sought, never, early, found, past, named_in, seek_in, seek}
use Rattle.paper.proofs.Laws.{same_says, false_not_true}
use Rattle.form_names.specs.Names.{name_number}
use Rattle.form_names.proofs.Laws.{same_number}
use Rattle.rows_places.specs.Numbers.{number_at, of_entry, of_place, first_of, second_of, of_kind, place_at, places_from, places_between, places_left, StandsFor}
use Rattle.rows_places.specs.Seek.{behind, Resolved, Known, Takes, StandsAt, Seeks}
use Rattle.rows_places.specs.declared.Placed.{Placed}
use Rattle.rows_places.specs.declared.Unplaced.{Unplaced}
use Rattle.rows_places.specs.declared.Unplaced.TheVariants.{Never, Early}

-- a table has no number in a line that it has not
pub no_line : (lines numbers : ℕ) (table : List (List ℕ)) (e k : ℕ) → lines ≤ e → number_at lines numbers table e k ≡ 0
unfolding number_at
no_line lines numbers table e k l = rw (le-ltb e lines l)

-- a place of each kind
module _ (kind k l : ℕ) where
  pub kind_optional : kind ≡ 1 → required (of_kind kind k l) ≡ false
  unfolding of_kind required
  kind_optional e = rw e

  pub kind_required : (kind ≡ 1 → ⊥) → required (of_kind kind k l) ≡ true
  unfolding of_kind required
  kind_required n = rw (ne_eqb _ _ n) (go (eqb kind 0) (eqb kind 2))
    where
      go : (a b : Bool) → required (if a then one k else (if b then plus k else either (k ∷ l ∷ []))) ≡ true
      go true b = refl
      go false true = refl
      go false false = refl

  pub kind_first : first_row (rows_at (of_kind kind k l)) ≡ k
  unfolding of_kind rows_at first_row
  kind_first = go (eqb kind 0) (eqb kind 1) (eqb kind 2)
    where
      go : (a b c : Bool) → first_row (rows_at (if a then one k else if b then opt k else if c then plus k else either (k ∷ l ∷ []))) ≡ k
      go true b c = refl
      go false true c = refl
      go false false true = refl
      go false false false = refl

  pub kind_plus : (ps : List Place) → kind ≡ 2 → left_of (of_kind kind k l) ps ≡ again k ps
  unfolding of_kind left_of
  kind_plus ps e = rw e

  pub kind_once : (ps : List Place) → (kind ≡ 2 → ⊥) → left_of (of_kind kind k l) ps ≡ from_here ps
  unfolding of_kind left_of
  kind_once ps n = rw (ne_eqb _ _ n) (go (eqb kind 0) (eqb kind 1))
    where
      go : (a b : Bool) → left_of (if a then one k else if b then opt k else either (k ∷ l ∷ [])) ps ≡ from_here ps
      go true b = refl
      go false true = refl
      go false false = refl

  pub kind_single : kind < 3 → rows_at (of_kind kind k l) ≡ k ∷ []
  unfolding of_kind rows_at
  kind_single h = go (eqb kind 0) (eqb kind 1) (eqb kind 2) refl refl refl
    where
      go : (a b c : Bool) → eqb kind 0 ≡ a → eqb kind 1 ≡ b → eqb kind 2 ≡ c
          → rows_at (if a then one k else if b then opt k else if c then plus k else either (k ∷ l ∷ [])) ≡ k ∷ []
      go true b c p q r = refl
      go false true c p q r = refl
      go false false true p q r = refl
      go false false false p q r = absurd (omega (arith, eqb-false kind 0 p, eqb-false kind 1 q, eqb-false kind 2 r))

  pub kind_choice : 3 ≤ kind → rows_at (of_kind kind k l) ≡ k ∷ l ∷ []
  unfolding of_kind rows_at
  kind_choice h = rw (ne_eqb kind 0 (λ e. omega arith), ne_eqb kind 1 (λ e. omega arith), ne_eqb kind 2 (λ e. omega arith))

module _ (rows places : List (List ℕ)) where
  -- one place more, at the front and at the end; and none
  pub between_more : (p q : ℕ) → p < q → places_between rows places p q ≡ place_at rows places p ∷ places_between rows places (p + 1) q
  unfolding places_between places_from
  between_more p q h =
      let e : q - p ≡ suc (q - (p + 1)) = omega arith in
      rw e

  pub between_none : (p q : ℕ) → q ≤ p → places_between rows places p q ≡ []
  unfolding places_between places_from
  between_none p q h =
      let e : q - p ≡ 0 = omega arith in
      rw e

  from_end : (n p : ℕ) → places_from rows places (suc n) p ≡ places_from rows places n p ++ (place_at rows places (p + n) ∷ [])
  unfolding places_from
  from_end zero p = rw add-zero
  from_end (suc n) p =
      let e : p + 1 + n ≡ p + suc n = omega arith in
      rw e at (ap (λ (l : List Place). place_at rows places p ∷ l) (from_end n (p + 1)))

  pub between_end : (p q : ℕ) → p ≤ q → places_between rows places p (q + 1) ≡ places_between rows places p q ++ (place_at rows places q ∷ [])
  unfolding places_between
  between_end p q h =
      let e : q + 1 - p ≡ suc (q - p) = omega arith in
      let f : p + (q - p) ≡ q = omega arith in
      rw e (rw f at (from_end (q - p) p))

  -- the first row that is missing, place by place
  module _ (p q : ℕ) where
    pub missing_goes : p < q → of_place places p 0 ≡ 1 → missing_of (places_between rows places p q) ≡ missing_of (places_between rows places (p + 1) q)
    unfolding missing_of place_at
    missing_goes h e = rw (between_more p q h, kind_optional _ _ _ e)

    pub missing_stops : p < q → (of_place places p 0 ≡ 1 → ⊥) → missing_of (places_between rows places p q) ≡ some (first_of rows places p)
    unfolding missing_of place_at
    missing_stops h n = rw (between_more p q h, kind_required _ _ _ n, kind_first (of_place places p 0) (first_of rows places p) (second_of rows places p))

    pub missing_ends : q ≤ p → missing_of (places_between rows places p q) ≡ none
    unfolding missing_of
    missing_ends h = rw (between_none p q h)

-- the name of an entry, compared by its number
module _ {profile : Profile} {rows places : List (List ℕ)} {parent : ℕ} (w : List ℕ) (e : ℕ) (st : StandsFor profile rows places parent e) where
  pub named_by : {t : Bool} → eqb (name_number w) (of_entry rows e 2) ≡ t → same w (name (of_entry rows e 0)) ≡ t
  named_by q = sym (same_number w (of_entry rows e 0) st.row_there) ∙ ap (λ (n : ℕ). eqb (name_number w) n) (sym st.name_number_is) ∙ q

  pub known_by : eqb (name_number w) (of_entry rows e 2) ≡ true → Known profile rows places parent w e
  known_by q = record { row_is = st.row_is; name_is = same_says w (name (of_entry rows e 0)) (named_by q) }

kind_begins : (kind k l : ℕ) → (ks : List ℕ) × (rows_at (of_kind kind k l) ≡ k ∷ ks)
kind_begins kind k l = go (ltb kind 3) refl
  where
    go : (b : Bool) → ltb kind 3 ≡ b → (ks : List ℕ) × (rows_at (of_kind kind k l) ≡ k ∷ ks)
    go true e = ([], kind_single kind k l (ltb-true kind 3 e))
    go false e = (l ∷ [], kind_choice kind k l (ltb-false kind 3 e))

-- the entry that takes a place
module _ {profile : Profile} {rows places : List (List ℕ)} {parent p : ℕ} (w : List ℕ) (r : Resolved profile rows places parent p) where
  pub by_first : {e : ℕ} → e ≡ of_place places p 1 → eqb (name_number w) (of_entry rows e 2) ≡ true → Takes profile rows places parent w p (Some e)
  unfolding Takes named_in place_at
  by_first {e} q s =
      let st : StandsFor profile rows places parent e = rw q r.first_stands in
      let b = kind_begins (of_place places p 0) (first_of rows places p) (second_of rows places p) in
      (rw (b.1, ← q, named_by w e st s), known_by w e st s)

  pub by_nobody : {e : ℕ} → e ≡ of_place places p 1 → eqb (name_number w) (of_entry rows e 2) ≡ false → of_place places p 0 < 3
      → Takes profile rows places parent w p None
  unfolding Takes named_in place_at
  by_nobody {e} q s h =
      let st : StandsFor profile rows places parent e = rw q r.first_stands in
      rw (kind_single (of_place places p 0) (first_of rows places p) (second_of rows places p) h, ← q, named_by w e st s)

  module _ {d : ℕ} (q : d ≡ of_place places p 1) (s : eqb (name_number w) (of_entry rows d 2) ≡ false) (h : 3 ≤ of_place places p 0) {e : ℕ} (q' : e ≡ of_place places p 2) where
    of_two : {t : Bool} → eqb (name_number w) (of_entry rows e 2) ≡ t
        → named_in (rows_at (place_at rows places p)) w ≡ (if t then some (of_entry rows e 0) else none)
    unfolding named_in place_at
    of_two s' =
        let st : StandsFor profile rows places parent d = rw q r.first_stands in
        let st' : StandsFor profile rows places parent e = rw q' r.second_stands in
        rw (kind_choice (of_place places p 0) (first_of rows places p) (second_of rows places p) h, ← q, ← q', named_by w d st s, named_by w e st' s')

    pub by_second : eqb (name_number w) (of_entry rows e 2) ≡ true → Takes profile rows places parent w p (Some e)
    unfolding Takes
    by_second s' = (of_two s', known_by w e (rw q' r.second_stands) s')

    pub by_neither : eqb (name_number w) (of_entry rows e 2) ≡ false → Takes profile rows places parent w p None
    unfolding Takes
    by_neither s' = of_two s'

-- a child behind places that don't take it
behind_one : (p : Place) (b : Bool) → required p ≡ b → (q : Sought) → past p q ≡ behind (if b then some (first_row (rows_at p)) else none) q
unfolding behind past
behind_one p true e never = refl
behind_one p true e (early k) = rw e
behind_one p true e (found k left) = rw e
behind_one p false e never = refl
behind_one p false e (early k) = rw e
behind_one p false e (found k left) = rw e

behind_known : (k : ℕ) (p : Place) (b : Bool) → required p ≡ b → (q : Sought) → behind (some k) (past p q) ≡ behind (some k) q
unfolding behind past
behind_known k p b e never = refl
behind_known k p true e (early j) = rw e
behind_known k p false e (early j) = rw e
behind_known k p true e (found j left) = rw e
behind_known k p false e (found j left) = rw e

behind-past : (ps : List Place) (p : Place) (q : Sought) → behind (missing_of ps) (past p q) ≡ behind (missing_of (ps ++ (p ∷ []))) q
unfolding missing_of behind
behind-past [] p q = behind_one p (required p) refl q
behind-past (o ∷ ps) p q = go (required o) (behind-past ps p q)
  where
    go : (b : Bool) → behind (missing_of ps) (past p q) ≡ behind (missing_of (ps ++ (p ∷ []))) q
        → behind (if b then some (first_row (rows_at o)) else missing_of ps) (past p q)
        ≡ behind (if b then some (first_row (rows_at o)) else missing_of (ps ++ (p ∷ []))) q
    go true e = behind_known (first_row (rows_at o)) p (required p) refl q
    go false e = e

-- the search for a child's place, place by place
module _ (w : List ℕ) where
  seek_none : (p : Place) (ps : List Place) → named_in (rows_at p) w ≡ none → seek_in (p ∷ ps) w ≡ past p (seek_in ps w)
  unfolding seek_in
  seek_none p ps e = rw (e, seek_in)

  seek_some : (p : Place) (ps : List Place) (k : ℕ) → named_in (rows_at p) w ≡ some k → seek_in (p ∷ ps) w ≡ found k (left_of p ps)
  unfolding seek_in
  seek_some p ps k e = rw (e, seek_in)

  seek_nothing : (o : Option ℕ) → behind o (seek_in [] w) ≡ never
  unfolding seek_in behind
  seek_nothing none = refl
  seek_nothing (some k) = refl

module _ (profile : Profile) (rows places : List (List ℕ)) (parent : ℕ) (w : List ℕ) where
  -- how far the search has come: the places from `from` up to p don't take the name
  abbrev pub SoFar : (from to p : ℕ) → Type 0
  SoFar from to p =
      seek_in (places_between rows places from to) w ≡
      behind (missing_of (places_between rows places from p)) (seek_in (places_between rows places p to) w)

  pub find_starts : (from to : ℕ) → SoFar from to from
  unfolding missing_of behind
  find_starts from to = rw (between_none rows places from from (omega arith))

  module _ (from to p : ℕ) where
    pub find_goes : from ≤ p → p < to → SoFar from to p → Takes profile rows places parent w p None → SoFar from to (p + 1)
    unfolding Takes
    find_goes l h e t =
        let one = ap (λ (ps : List Place). seek_in ps w) (between_more rows places p to h) ∙ seek_none w (place_at rows places p) (places_between rows places (p + 1) to) t in
        e ∙ ap (λ (q : Sought). behind (missing_of (places_between rows places from p)) q) one ∙
        behind-past (places_between rows places from p) (place_at rows places p) (seek_in (places_between rows places (p + 1) to) w) ∙
        ap (λ (ps : List Place). behind (missing_of ps) (seek_in (places_between rows places (p + 1) to) w)) (sym (between_end rows places from p l))

    pub find_stops : (d : ℕ) → from ≤ p → p < to → SoFar from to p → Takes profile rows places parent w p (Some d)
        → StandsAt profile rows places parent w from to (Some (record { place = p; entry = d }))
    unfolding Takes StandsAt
    find_stops d l h e t =
        let one = ap (λ (ps : List Place). seek_in ps w) (between_more rows places p to h) ∙
        seek_some w (place_at rows places p) (places_between rows places (p + 1) to) (of_entry rows d 0) t.0 in
        (l, h, t.1, e ∙ ap (λ (q : Sought). behind (missing_of (places_between rows places from p)) q) one)

    pub find_ends : to ≤ p → SoFar from to p → StandsAt profile rows places parent w from to None
    unfolding StandsAt
    find_ends h e = e ∙ ap (λ (ps : List Place). behind (missing_of (places_between rows places from p)) (seek_in ps w)) (between_none rows places p to h) ∙
        seek_nothing w (missing_of (places_between rows places from p))

-- what comes of a child whose place is known
abbrev pub placed_at : (entry from : ℕ) (seen : Bool) (to : ℕ) → Placed
placed_at entry from seen to = record { entry = entry; left = record { from = from; seen = seen; to = to } }

module _ (profile : Profile) (rows places : List (List ℕ)) (parent : ℕ) (w : List ℕ) (from to : ℕ) where
  pub seek_never : StandsAt profile rows places parent w from to None
      → Seeks profile rows places parent w (from_here (places_between rows places from to)) from to (Err Never)
  unfolding StandsAt Seeks seek
  seek_never s = s

  module _ (p d : ℕ) (at : StandsAt profile rows places parent w from to (Some (record { place = p; entry = d }))) where
    pub seek_early : (k : ℕ) → perhaps (Some k) ≡ missing_of (places_between rows places from p)
        → Seeks profile rows places parent w (from_here (places_between rows places from to)) from to (Err (Early k))
    unfolding StandsAt Seeks seek perhaps behind
    seek_early k m =
        at.3 ∙ ap (λ (o : Option ℕ). behind o (found (of_entry rows d 0) (left_of (place_at rows places p) (places_between rows places (p + 1) to)))) (sym m)

    module _ (m : perhaps None ≡ missing_of (places_between rows places from p)) where
      seek_found : seek_in (places_between rows places from to) w ≡ found (of_entry rows d 0) (left_of (place_at rows places p) (places_between rows places (p + 1) to))
      unfolding StandsAt perhaps behind
      seek_found = at.3 ∙ ap (λ (o : Option ℕ). behind o (found (of_entry rows d 0) (left_of (place_at rows places p) (places_between rows places (p + 1) to)))) (sym m)

      pub seek_plus : of_place places p 0 ≡ 2 → Seeks profile rows places parent w (from_here (places_between rows places from to)) from to (Ok (placed_at d p true to))
      unfolding StandsAt Seeks seek places_left place_at
      seek_plus k = (
        at.0,
        λ _. at.1,
        refl,
        at.2,
        seek_found ∙ ap (λ (l : Left). found (of_entry rows d 0) l)
            (kind_plus (of_place places p 0) (first_of rows places p) (second_of rows places p) (places_between rows places (p + 1) to) k),
      )

      pub seek_once : (of_place places p 0 ≡ 2 → ⊥) → Seeks profile rows places parent w (from_here (places_between rows places from to)) from to (Ok (placed_at d (p + 1) false to))
      unfolding StandsAt Seeks seek places_left place_at
      seek_once k = (
        omega (arith, at.0),
        λ f. false_not_true f,
        refl,
        at.2,
        seek_found ∙ ap (λ (l : Left). found (of_entry rows d 0) l)
            (kind_once (of_place places p 0) (first_of rows places p) (second_of rows places p) (places_between rows places (p + 1) to) k),
      )

  -- one of a `plus` may have been seen
  abbrev pub SoughtWhere : Bool → Result Placed Unplaced → Type 0
  SoughtWhere seen r = Seeks profile rows places parent w (places_left rows places from seen to) from to r

  pub seek_fresh : (r : Result Placed Unplaced) {seen : Bool} → seen ≡ false → Seeks profile rows places parent w (from_here (places_between rows places from to)) from to r
      → SoughtWhere seen r
  unfolding places_left
  seek_fresh r f s = rw f s

  module _ {seen : Bool} (m : seen ≡ true) (f : Resolved profile rows places parent from) (h : from < to) where
    pub seek_again : (d : ℕ) → d ≡ of_place places from 1 → eqb (name_number w) (of_entry rows d 2) ≡ true → SoughtWhere seen (Ok (placed_at d from seen to))
    unfolding Seeks seek places_left
    seek_again d q s =
        let st : StandsFor profile rows places parent d = rw q f.first_stands in
        rw m (omega arith, λ _. h, refl, known_by w d st s, rw (← q, named_by w d st s))

    pub seek_on : (d : ℕ) → d ≡ of_place places from 1 → eqb (name_number w) (of_entry rows d 2) ≡ false
        → (r : Result Placed Unplaced) → Seeks profile rows places parent w (from_here (places_between rows places (from + 1) to)) (from + 1) to r → SoughtWhere seen r
    unfolding Seeks seek places_left
    seek_on d q s r g = rw m (go r g)
      where
        skip : (if same w (name (first_of rows places from)) then found (first_of rows places from) (again (first_of rows places from) (places_between rows places (from + 1) to)) else
            seek_in (places_between rows places (from + 1) to) w) ≡ seek_in (places_between rows places (from + 1) to) w
        skip = let st : StandsFor profile rows places parent d = rw q f.first_stands in rw (← q, named_by w d st s)

        go : (r : Result Placed Unplaced) → Seeks profile rows places parent w (from_here (places_between rows places (from + 1) to)) (from + 1) to r → SoughtWhere true r
        go (Err Never) g = skip ∙ g
        go (Err (Early k)) g = skip ∙ g
        go (Ok placed) g = (omega (arith, g.0), g.1, g.2, g.3, skip ∙ g.4)
