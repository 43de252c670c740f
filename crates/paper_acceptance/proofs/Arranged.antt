-- A child finds its place exactly where the rows of the children are arranged as the places say, provided that no two rows of a group have one name.
use Rattle.std.specs.Prelude.{if◌then◌else◌}
use Prim.Native.Nat.{ℕ}
use native.Mathlib.Omega.{arith}
use mathlib.Core.List.Memᴰ
use mathlib.Core.List.{List, [], ◌∷◌, ◌++◌, Memᴰ}
use mathlib.Core.Bool.{Bool, true, false, ◌&&◌}
use mathlib.Core.Option.{Option, none, some}
use mathlib.Core.Path.{◌≡◌, refl, sym, subst}
use mathlib.Core.Logic.{◌⊎◌, inl, inr, ⊎_elim}
use Rattle.paper.specs.Bytes.{same}
use Rattle.paper.specs.Rows.{Place, one, opt, plus, either, name, Arranged, end, exactly_one, there, not_there, the_last, one_before, chosen}
use Rattle.paper.specs.Values.{among}
use Rattle.paper.specs.Accepted.{All}
use Rattle.paper.specs.Refusals.{Left, from_here, again, rows_at, required, left_of, missing_of, missing, Sought, never, early, found, past, named_in, seek_in, seek}
use Rattle.paper.proofs.Laws.{false_not_true, some_not_none, both_left, both_right, among_says, same_says, same_tests, same_differs, all_member}

-- Rows are arranged as what is left of an order says: where row k has been seen, they follow one of it.
pub data ArrangedLeft : Left → List ℕ → Type 0 where
  as_places : {ps : List Place} {ks : List ℕ} → Arranged ps ks → ArrangedLeft (from_here ps) ks
  behind_one : {k : ℕ} {ps : List Place} {ks : List ℕ} → Arranged (plus k ∷ ps) (k ∷ ks) → ArrangedLeft (again k ps) ks

-- one or more: the first is the last, or one before others
split_plus : {j i : ℕ} {ps : List Place} {ks : List ℕ} → Arranged (plus j ∷ ps) (i ∷ ks) → (i ≡ j) × (Arranged ps ks ⊎ Arranged (plus j ∷ ps) ks)
split_plus (the_last a) = (refl, inl a)
split_plus (one_before a) = (refl, inr a)

no_plus : {j : ℕ} {ps : List Place} {A : Type 0} → Arranged (plus j ∷ ps) [] → A
no_plus a = elim a [ ]

-- Nothing required is left exactly where no child is an arrangement.
nothing_missing_of : (ps : List Place) → missing_of ps ≡ none → Arranged ps []
unfolding missing_of required
nothing_missing_of [] e = end
nothing_missing_of (one k ∷ ps) e = some_not_none e
nothing_missing_of (opt k ∷ ps) e = not_there (nothing_missing_of ps e)
nothing_missing_of (plus k ∷ ps) e = some_not_none e
nothing_missing_of (either ks ∷ ps) e = some_not_none e

missing_of_nothing : {ps : List Place} → Arranged ps [] → missing_of ps ≡ none
unfolding missing_of required
missing_of_nothing end = refl
missing_of_nothing (not_there a) = missing_of_nothing a

pub nothing_missing : (left : Left) → missing left ≡ none → ArrangedLeft left []
unfolding missing
nothing_missing (from_here ps) e = as_places (nothing_missing_of ps e)
nothing_missing (again k ps) e = behind_one (the_last (nothing_missing_of ps e))

pub missing_nothing : {left : Left} → ArrangedLeft left [] → missing left ≡ none
unfolding missing
missing_nothing (as_places a) = missing_of_nothing a
missing_nothing (behind_one a) = ⊎_elim missing_of_nothing no_plus (split_plus a).1

-- a place that is taken, and one that is passed over
take_place : (p : Place) {ps : List Place} {k : ℕ} {ks : List ℕ} → Memᴰ k (rows_at p) → ArrangedLeft (left_of p ps) ks → Arranged (p ∷ ps) (k ∷ ks)
unfolding rows_at left_of
take_place (one j) {ps} {k} {ks} m (as_places a) = subst (λ (i : ℕ). Arranged (one j ∷ ps) (i ∷ ks)) (sym (Memᴰ.eq_of_singleton m)) (exactly_one a)
take_place (opt j) {ps} {k} {ks} m (as_places a) = subst (λ (i : ℕ). Arranged (opt j ∷ ps) (i ∷ ks)) (sym (Memᴰ.eq_of_singleton m)) (there a)
take_place (plus j) {ps} {k} {ks} m (behind_one a) = subst (λ (i : ℕ). Arranged (plus j ∷ ps) (i ∷ ks)) (sym (Memᴰ.eq_of_singleton m)) a
take_place (either js) m (as_places a) = chosen m a

pass_place : (p : Place) {ps : List Place} {ks : List ℕ} → required p ≡ false → Arranged ps ks → Arranged (p ∷ ps) ks
unfolding required
pass_place (one k) e a = false_not_true (sym e)
pass_place (opt k) e a = not_there a
pass_place (plus k) e a = false_not_true (sym e)
pass_place (either ks) e a = false_not_true (sym e)

early_or : (t : Bool) (a : ℕ) (q : Sought) {k : ℕ} {left : Left} → (if t then early a else q) ≡ found k left → (t ≡ false) × (q ≡ found k left)
early_or true a q e = let z : ◌≡◌ {A = ℕ} 0 1 = cc in absurd (omega arith)
early_or false a q e = (refl, e)

pub past_found : (p : Place) (q : Sought) {k : ℕ} {left : Left} → past p q ≡ found k left → (required p ≡ false) × (q ≡ found k left)
unfolding past
past_found p never e = let z : ◌≡◌ {A = ℕ} 0 1 = cc in absurd (omega arith)
past_found p (early j) e = early_or (required p) _ (early j) e
past_found p (found j l) e = early_or (required p) _ (found j l) e

pub named_in_says : (ks : List ℕ) (w : List ℕ) {k : ℕ} → named_in ks w ≡ some k → (w ≡ name k) × Memᴰ k ks
unfolding named_in
named_in_says [] w e = some_not_none (sym e)
named_in_says (j ∷ ks) w {k} e = go (same w (name j)) refl (λ f. named_in_says ks w f) e
  where
    go : (t : Bool) → same w (name j) ≡ t → (named_in ks w ≡ some k → (w ≡ name k) × Memᴰ k ks)
        → (if t then some j else named_in ks w) ≡ some k → (w ≡ name k) × Memᴰ k (j ∷ ks)
    go true s below f = let g : j ≡ k = cc in (subst (λ (i : ℕ). w ≡ name i) g (same_says w (name j) s), Memᴰ.head (sym g))
    go false s below f = let r = below f in (r.0, Memᴰ.tail r.1)

-- A child that finds its place is arranged there.
seek_in_arranged : (ps : List Place) (w : List ℕ) {k : ℕ} {left : Left} {ks : List ℕ} → seek_in ps w ≡ found k left → ArrangedLeft left ks
    → (w ≡ name k) × Arranged ps (k ∷ ks)
unfolding seek_in
seek_in_arranged [] w e a = let z : ◌≡◌ {A = ℕ} 0 1 = cc in absurd (omega arith)
seek_in_arranged (p ∷ ps) w {k} {left} {ks} e a = go (named_in (rows_at p) w) refl (λ f. seek_in_arranged ps w f a) e
  where
    go : (o : Option ℕ) → named_in (rows_at p) w ≡ o → (seek_in ps w ≡ found k left → (w ≡ name k) × Arranged ps (k ∷ ks))
        → (elim o as (λ _. Sought) [ some j ↦ found j (left_of p ps) | none ↦ past p (seek_in ps w) ]) ≡ found k left
        → (w ≡ name k) × Arranged (p ∷ ps) (k ∷ ks)
    go (some j) s below f =
        let g : j ≡ k = cc in
        let l : left_of p ps ≡ left = cc in
        let r = named_in_says (rows_at p) w (subst (λ (i : ℕ). named_in (rows_at p) w ≡ some i) g s) in
        (r.0, take_place p r.1 (subst (λ (x : Left). ArrangedLeft x ks) (sym l) a))
    go none s below f =
        let q = past_found p (seek_in ps w) f in
        let r = below q.1 in
        (r.0, pass_place p q.0 r.1)

one_further : {k : ℕ} {ps : List Place} {ks : List ℕ} → ArrangedLeft (again k ps) ks → ArrangedLeft (again k ps) (k ∷ ks)
one_further (behind_one a) = behind_one (one_before a)

pub seek_arranged : (left : Left) (w : List ℕ) {k : ℕ} {behind : Left} {ks : List ℕ} → seek left w ≡ found k behind → ArrangedLeft behind ks
    → (w ≡ name k) × ArrangedLeft left (k ∷ ks)
unfolding seek
seek_arranged (from_here ps) w e a = let r = seek_in_arranged ps w e a in (r.0, as_places r.1)
seek_arranged (again j ps) w {k} {behind} {ks} e a = go (same w (name j)) refl e
  where
    go : (t : Bool) → same w (name j) ≡ t → (if t then found j (again j ps) else seek_in ps w) ≡ found k behind
        → (w ≡ name k) × ArrangedLeft (again j ps) (k ∷ ks)
    go true s f =
        let g : j ≡ k = cc in
        let l : again j ps ≡ behind = cc in (
          subst (λ (i : ℕ). w ≡ name i) g (same_says w (name j) s),
          subst (λ (i : ℕ). ArrangedLeft (again j ps) (i ∷ ks)) g (one_further (subst (λ (x : Left). ArrangedLeft x ks) (sym l) a)),
        )
    go false s f = let r = seek_in_arranged ps w f a in (r.0, behind_one (the_last r.1))

-- the rows at places
unfoldable pub rows_of : List Place → List ℕ
rows_of [] = []
rows_of (p ∷ ps) = rows_at p ++ rows_of ps

-- No two of some rows have one name.
pub data Apart : List ℕ → Type 0 where
  apart_none : Apart []
  apart_more : {k : ℕ} {ks : List ℕ} → All (λ j. name k ≡ name j → ⊥) ks → Apart ks → Apart (k ∷ ks)

abbrev pub ApartLeft : Left → Type 0
ApartLeft (from_here ps) = Apart (rows_of ps)
ApartLeft (again k ps) = Apart (k ∷ rows_of ps)

apart_rest : (js : List ℕ) {ks : List ℕ} → Apart (js ++ ks) → Apart ks
apart_rest [] h = h
apart_rest (j ∷ js) (apart_more a h) = apart_rest js h

apart_first : {j k : ℕ} {ks : List ℕ} → Apart (j ∷ ks) → Memᴰ k ks → same (name k) (name j) ≡ false
apart_first {j} {k} (apart_more a h) m = same_differs (name k) (name j) (λ e. all_member a m (sym e))

named_in_skips : (js : List ℕ) {ks : List ℕ} {k : ℕ} → Memᴰ k ks → Apart (js ++ ks) → named_in js (name k) ≡ none
unfolding named_in
named_in_skips [] m h = refl
named_in_skips (j ∷ js) {ks} {k} m h = rw (apart_first h (Memᴰ.append_right js m)) (named_in_skips js m (apart_rest (j ∷ []) h))

named_in_finds : (js ks : List ℕ) {k : ℕ} → Memᴰ k js → Apart (js ++ ks) → named_in js (name k) ≡ some k
unfolding named_in
named_in_finds [] ks m h = absurd (Memᴰ.not-nil m)
named_in_finds (j ∷ js) ks {k} m h = ⊎_elim here (λ n. further_on n (named_in_finds js ks n (apart_rest (j ∷ []) h))) (Memᴰ.cases_cons m)
  where
    here : k ≡ j → (if same (name k) (name j) then some j else named_in js (name k)) ≡ some k
    here e = subst (λ (i : ℕ). (if same (name k) (name i) then some i else named_in js (name k)) ≡ some k) e (rw (same_tests (name k)))

    further_on : Memᴰ k js → named_in js (name k) ≡ some k → (if same (name k) (name j) then some j else named_in js (name k)) ≡ some k
    further_on n e = rw (apart_first h (Memᴰ.append_left ks n)) e

arranged_row : {ps : List Place} {k : ℕ} {ks : List ℕ} → Arranged ps (k ∷ ks) → Memᴰ k (rows_of ps)
unfolding rows_of rows_at
arranged_row (exactly_one a) = Memᴰ.head refl
arranged_row (there a) = Memᴰ.head refl
arranged_row (not_there a) = Memᴰ.tail (arranged_row a)
arranged_row (the_last a) = Memᴰ.head refl
arranged_row (one_before a) = Memᴰ.head refl
arranged_row (chosen m a) = Memᴰ.append_left _ m

apart_left : (p : Place) (ps : List Place) → Apart (rows_of (p ∷ ps)) → ApartLeft (left_of p ps)
unfolding rows_of rows_at left_of
apart_left (one k) ps h = apart_rest (k ∷ []) h
apart_left (opt k) ps h = apart_rest (k ∷ []) h
apart_left (plus k) ps h = h
apart_left (either ks) ps h = apart_rest ks h

-- Where a row's child is arranged, it finds its place, and the rest is arranged in what is left.
pub record Placed (sought : Sought) (k : ℕ) (ks : List ℕ) : Type 0 where
  pub behind : Left
  pub is_found : sought ≡ found k behind
  pub arranged : ArrangedLeft behind ks
  pub apart : ApartLeft behind

taken : (p : Place) (ps : List Place) {k : ℕ} {ks : List ℕ} → Memᴰ k (rows_at p) → Apart (rows_of (p ∷ ps)) → ArrangedLeft (left_of p ps) ks
    → Placed (seek_in (p ∷ ps) (name k)) k ks
unfolding seek_in rows_of
taken p ps m h a =
    record { behind = left_of p ps; is_found = rw (named_in_finds (rows_at p) (rows_of ps) m h, seek_in); arranged = a; apart = apart_left p ps h }

passed : (p : Place) (ps : List Place) {k : ℕ} {ks : List ℕ} → required p ≡ false → Memᴰ k (rows_of ps) → Apart (rows_of (p ∷ ps))
    → Placed (seek_in ps (name k)) k ks → Placed (seek_in (p ∷ ps) (name k)) k ks
unfolding seek_in rows_of past
passed p ps e m h q =
    record { behind = q.behind; is_found = rw (named_in_skips (rows_at p) m h, q.is_found, e, seek_in); arranged = q.arranged; apart = q.apart }

arranged_seek_in : {ps : List Place} {k : ℕ} {ks : List ℕ} → Arranged ps (k ∷ ks) → Apart (rows_of ps) → Placed (seek_in ps (name k)) k ks
unfolding rows_of rows_at left_of required
arranged_seek_in (exactly_one {k} {ps} a) h = taken (one k) ps (Memᴰ.head refl) h (as_places a)
arranged_seek_in (there {k} {ps} a) h = taken (opt k) ps (Memᴰ.head refl) h (as_places a)
arranged_seek_in (not_there {k} {ps} a) h = passed (opt k) ps refl (arranged_row a) h (arranged_seek_in a (apart_rest (k ∷ []) h))
arranged_seek_in (the_last {k} {ps} a) h = taken (plus k) ps (Memᴰ.head refl) h (behind_one (the_last a))
arranged_seek_in (one_before {k} {ps} a) h = taken (plus k) ps (Memᴰ.head refl) h (behind_one (one_before a))
arranged_seek_in (chosen {choice = c} {ps = ps} m a) h = taken (either c) ps m h (as_places a)

pub arranged_seek : {left : Left} {k : ℕ} {ks : List ℕ} → ArrangedLeft left (k ∷ ks) → ApartLeft left → Placed (seek left (name k)) k ks
unfolding seek
arranged_seek (as_places a) h = arranged_seek_in a h
arranged_seek {k = k} {ks = ks} (behind_one {k = j} {ps = ps} a) h = ⊎_elim behind_it one_more (split_plus a).1
  where
    behind_it : Arranged ps (k ∷ ks) → Placed (if same (name k) (name j) then found j (again j ps) else seek_in ps (name k)) k ks
    behind_it b = rw (apart_first h (arranged_row b)) (arranged_seek_in b (apart_rest (j ∷ []) h))

    one_more : Arranged (plus j ∷ ps) (k ∷ ks) → Placed (if same (name k) (name j) then found j (again j ps) else seek_in ps (name k)) k ks
    one_more b =
        let e = (split_plus b).0 in
        subst (λ (i : ℕ). Placed (if same (name k) (name i) then found i (again i ps) else seek_in ps (name k)) k ks) e
        (record {
          behind = again k ps;
          is_found = rw (same_tests (name k));
          arranged = behind_one (subst (λ (i : ℕ). Arranged (plus i ∷ ps) (k ∷ ks)) (sym e) b);
          apart = subst (λ (i : ℕ). Apart (i ∷ rows_of ps)) (sym e) h;
        })

-- A place that must be taken, and by one of some rows: each arrangement has one of these.
unfoldable pub all_among : (choice ks : List ℕ) → Bool
all_among choice [] = true
all_among choice (k ∷ ks) = among k choice && all_among choice ks

unfoldable pub must : (choice : List ℕ) → List Place → Bool
must choice [] = false
must choice (p ∷ ps) = if required p && all_among choice (rows_at p) then true else must choice ps

abbrev pub OneOf : (choice ks : List ℕ) → Type 0
OneOf choice ks = (k : ℕ) × Memᴰ k choice × Memᴰ k ks

among_choice : (choice : List ℕ) {k : ℕ} {ks : List ℕ} → all_among choice ks ≡ true → Memᴰ k ks → Memᴰ k choice
unfolding all_among
among_choice choice {ks = []} e m = absurd (Memᴰ.not-nil m)
among_choice choice {k} {ks = j ∷ ks} e m =
    ⊎_elim (λ q. subst (λ (i : ℕ). Memᴰ i choice) (sym q) (among_says j choice (both_left (among j choice) _ e)))
    (λ n. among_choice choice (both_right (among j choice) _ e) n) (Memᴰ.cases_cons m)

further : {choice ks : List ℕ} (j : ℕ) → OneOf choice ks → OneOf choice (j ∷ ks)
further j o = (o.0, o.1, Memᴰ.tail o.2)

here_or : (choice js : List ℕ) {j : ℕ} {ks : List ℕ} {b : Bool} → Memᴰ j js → (if all_among choice js then true else b) ≡ true → (b ≡ true → OneOf choice ks)
    → OneOf choice (j ∷ ks)
here_or choice js {j} {ks} {b} m e below = go (all_among choice js) refl e
  where
    go : (t : Bool) → all_among choice js ≡ t → (if t then true else b) ≡ true → OneOf choice (j ∷ ks)
    go true f e = (j, among_choice choice f m, Memᴰ.head refl)
    go false f e = further j (below e)

pub one_there : {ps : List Place} {ks : List ℕ} (choice : List ℕ) → must choice ps ≡ true → Arranged ps ks → OneOf choice ks
unfolding must required rows_at
one_there choice e end = false_not_true e
one_there choice e (exactly_one {k} a) = here_or choice (k ∷ []) (Memᴰ.head refl) e (λ f. one_there choice f a)
one_there choice e (there {k} a) = further k (one_there choice e a)
one_there choice e (not_there a) = one_there choice e a
one_there choice e (the_last {k} a) = here_or choice (k ∷ []) (Memᴰ.head refl) e (λ f. one_there choice f a)
one_there choice e (one_before {k} a) = further k (one_there choice e a)
one_there choice e (chosen {choice = js} m a) = here_or choice js m e (λ f. one_there choice f a)
