-- What a conforming element has: the children of a row conform to it, a row that must be there has a child, and so along a route of rows.
use Rattle.std.specs.Prelude.{if◌then◌else◌}
use Prim.Native.Nat.{ℕ}
use native.Mathlib.Omega.{arith}
use mathlib.Core.List.Memᴰ
use mathlib.Core.List.{List, [], ◌∷◌, ◌++◌, Memᴰ}
use mathlib.Core.Bool.{Bool, true, false, ◌&&◌}
use mathlib.Core.Option.{Option, none, some}
use mathlib.Core.Path.{◌≡◌, refl, sym, ◌∙◌, ap, subst}
use mathlib.Core.Logic.{⊎_elim}
use borrow.Author.Tests.{eqb-true}
use lib.Dec.{eqb}
use Rattle.paper.specs.Bytes.{white, same, Every}
use Rattle.paper.specs.Form.{Element, Elements, holding_text, holding_elements, []ᵉ, ◌∷ᵉ◌}
use Rattle.paper.specs.Rows.{Place, Contents, text, elements, Row, Profile, name, row_of, head_of, Arranged, end, exactly_one, there, not_there, the_last, one_before, chosen, Conforms, Conform}
use Rattle.paper.specs.Values.{among}
use Rattle.paper.specs.Payments.{listed, children, all_named, all_of, child, follow, text_of}
use Rattle.paper.specs.Refusals.{rows_at}
use Rattle.paper.specs.Accepted.{All, all_none, all_more, There}
use Rattle.paper.proofs.Laws.{false_not_true, some_not_none, both_left, both_right, same_says, same_tests, same_differs, all_member, all_map, among_says}
use Rattle.paper_acceptance.proofs.Arranged.{rows_of, Apart, apart_none, apart_more, must, one_there}
use Rattle.paper_acceptance.proofs.Rows.{RowsApart}
use Rattle.paper_acceptance.proofs.Apart.{unlike, unlike_says}

-- the rows of arranged children are rows of the places
deeper : (is : List ℕ) {js ks : List ℕ} → All (λ k. Memᴰ k js) ks → All (λ k. Memᴰ k (is ++ js)) ks
deeper is h = all_map (λ k m. Memᴰ.append_right is m) h

pub arranged_in : {ps : List Place} {ks : List ℕ} → Arranged ps ks → All (λ k. Memᴰ k (rows_of ps)) ks
unfolding rows_of rows_at
arranged_in end = all_none
arranged_in (exactly_one {k} a) = all_more (Memᴰ.head refl) (deeper (k ∷ []) (arranged_in a))
arranged_in (there {k} a) = all_more (Memᴰ.head refl) (deeper (k ∷ []) (arranged_in a))
arranged_in (not_there {k} a) = deeper (k ∷ []) (arranged_in a)
arranged_in (the_last {k} a) = all_more (Memᴰ.head refl) (deeper (k ∷ []) (arranged_in a))
arranged_in (one_before a) = all_more (Memᴰ.head refl) (arranged_in a)
arranged_in (chosen {choice = c} m a) = all_more (Memᴰ.append_left _ m) (deeper c (arranged_in a))

-- a row is one of a group's rows; one of some must be there; as tests
unfoldable pub takes : Row → ℕ → Bool
takes r k = elim r.holds [ text longest ↦ false | elements places ↦ among k (rows_of places) ]

unfoldable pub must_take : Row → (choice : List ℕ) → Bool
must_take r choice = elim r.holds [ text longest ↦ false | elements places ↦ must choice places ]

-- no row of a group is named as this one, as a test
unfoldable pub lacks : Row → ℕ → Bool
lacks r k = elim r.holds [ text longest ↦ true | elements places ↦ unlike k (rows_of places) ]

-- Along a route from row k under a parent: each row is taken by the one before, and each must be there, as tests.
unfoldable pub steps : Profile → (parent k : ℕ) → List ℕ → Bool
steps profile parent k [] = true
steps profile parent k (j ∷ js) = (eqb (row_of profile parent k).row k && takes (row_of profile parent k) j) && steps profile k j js

unfoldable pub must_steps : Profile → (parent k : ℕ) → List ℕ → Bool
must_steps profile parent k [] = true
must_steps profile parent k (j ∷ js) = must_take (row_of profile parent k) (j ∷ []) && must_steps profile k j js

-- Along a route a leaf stands at the end, or nothing: each row is taken by the one before, or has a name that none of that group's has.
unfoldable pub holds_text : Contents → Bool
holds_text (text longest) = true
holds_text (elements places) = false

unfoldable pub leaf_route : Profile → (parent k : ℕ) → List ℕ → Bool
leaf_route profile parent k [] = holds_text (row_of profile parent k).holds
leaf_route profile parent k (j ∷ js) =
    if takes (row_of profile parent k) j then eqb (row_of profile parent k).row k && leaf_route profile k j js else lacks (row_of profile parent k) j

-- rows of one name are one row
apart_same : {ks : List ℕ} {j k : ℕ} → Apart ks → Memᴰ j ks → Memᴰ k ks → name j ≡ name k → j ≡ k
apart_same apart_none m n e = absurd (Memᴰ.not-nil m)
apart_same {j = j} {k = k} (apart_more {k = i} a h) m n e =
    ⊎_elim (λ p. ⊎_elim (λ q. p ∙ sym q) (λ q. absurd (all_member a q (ap name (sym p) ∙ e))) (Memᴰ.cases_cons n))
    (λ p. ⊎_elim (λ q. absurd (all_member a p (ap name (sym q) ∙ sym e))) (λ q. apart_same h p q e) (Memᴰ.cases_cons n)) (Memᴰ.cases_cons m)

-- the first of some elements
some_first : (l : List Element) {u : Element} → Memᴰ u l → There (elim l as (λ _. Option Element) [ [] ↦ none | v ∷ vs ↦ some v ])
some_first [] m = absurd (Memᴰ.not-nil m)
some_first (v ∷ vs) m = record { it = v; is_it = refl }

module _ (profile : Profile) (Right : (holder : Option Element) (parent : ℕ) → Row → Element → Type 0) where
  -- all children that are named as row k conform to it
  named_conform : (ts : Elements) (holder : Element) (row k : ℕ) (ks js : List ℕ) → Apart js → Memᴰ k js → All (λ i. Memᴰ i js) ks → Conform profile Right ts holder row ks
      → All (λ u. Conforms profile Right u (some holder) row (row_of profile row k)) (all_named k (listed ts))
  unfolding all_named listed Conforms
  named_conform []ᵉ holder row k ks js a m h c = all_none
  named_conform (t ∷ᵉ ts) holder row k [] js a m h c = absurd c
  named_conform (t ∷ᵉ ts) holder row k (i ∷ ks) js a m (all_more n h) c = go (same (head_of t).name (name k)) refl (named_conform ts holder row k ks js a m h c.2)
    where
      go : (b : Bool) → same (head_of t).name (name k) ≡ b → All (λ u. Conforms profile Right u (some holder) row (row_of profile row k)) (all_named k (listed ts))
          → All (λ u. Conforms profile Right u (some holder) row (row_of profile row k)) (if b then t ∷ all_named k (listed ts) else all_named k (listed ts))
      go false e below = below
      go true e below =
          all_more (subst (λ (j : ℕ). Conforms profile Right t (some holder) row (row_of profile row j)) (apart_same a n m (sym c.0 ∙ same_says _ _ e)) c.1) below

  pub all_conform : (t : Element) (holder : Option Element) (parent : ℕ) (r : Row) (k : ℕ) → RowsApart r → takes r k ≡ true → Conforms profile Right t holder parent r
      → All (λ u. Conforms profile Right u (some t) r.row (row_of profile r.row k)) (all_of k t)
  unfolding all_of children all_named takes RowsApart Conforms
  all_conform (holding_text h w) holder parent r k a e c = all_none
  all_conform (holding_elements h ts) holder parent r k a e c = go r.holds a e c
    where
      go : (holds : Contents) → (elim holds as (λ _. Type 0) [ text longest ↦ Unit {0} | elements places ↦ Apart (rows_of places) ])
          → ◌≡◌ {A = Bool} (elim holds [ text longest ↦ false | elements places ↦ among k (rows_of places) ]) true
          → (elim holds as (λ _. Type 0) [
            | text longest ↦ ⊥
            | elements places ↦
                Right holder parent r (holding_elements h ts) × (ks : List ℕ) × Arranged places ks × Conform profile Right ts (holding_elements h ts) r.row ks
          ])
          → All (λ u. Conforms profile Right u (some (holding_elements h ts)) r.row (row_of profile r.row k)) (all_named k (listed ts))
      go (text longest) a e c = absurd c
      go (elements places) a e c =
          named_conform ts (holding_elements h ts) r.row k c.1 (rows_of places) a (among_says k (rows_of places) e) (arranged_in c.2) c.3

  child_conforms : (t : Element) (holder : Option Element) (parent : ℕ) (r : Row) (k : ℕ) (u : Element) → RowsApart r → takes r k ≡ true → Conforms profile Right t holder parent r
      → child k t ≡ some u → Conforms profile Right u (some t) r.row (row_of profile r.row k)
  unfolding child
  child_conforms t holder parent r k u a e c f = go (all_of k t) (all_conform t holder parent r k a e c) f
    where
      go : (l : List Element) → All (λ v. Conforms profile Right v (some t) r.row (row_of profile r.row k)) l
          → ◌≡◌ {A = Option Element} (elim l [ [] ↦ none | v ∷ vs ↦ some v ]) (some u) → Conforms profile Right u (some t) r.row (row_of profile r.row k)
      go [] h f = some_not_none (sym f)
      go (v ∷ vs) (all_more p h) f = let g : v ≡ u = cc in subst (λ (x : Element). Conforms profile Right x (some t) r.row (row_of profile r.row k)) g p

  -- In a conforming group, of some rows of which one must be there, one has a child that is found.
  named_there : (ts : Elements) (holder : Element) (row k : ℕ) (ks : List ℕ) → Memᴰ k ks → Conform profile Right ts holder row ks → (u : Element) × Memᴰ u (all_named k (listed ts))
  unfolding all_named listed Conforms
  named_there []ᵉ holder row k ks m c = absurd (Memᴰ.not-nil (subst (λ (l : List ℕ). Memᴰ k l) c m))
  named_there (t ∷ᵉ ts) holder row k [] m c = absurd c
  named_there (t ∷ᵉ ts) holder row k (i ∷ ks) m c = ⊎_elim here (λ n. further_on (same (head_of t).name (name k)) (named_there ts holder row k ks n c.2)) (Memᴰ.cases_cons m)
    where
      here : k ≡ i → (u : Element) × Memᴰ u (if same (head_of t).name (name k) then t ∷ all_named k (listed ts) else all_named k (listed ts))
      here e =
          let s : same (head_of t).name (name k) ≡ true = ap (λ (w : List ℕ). same w (name k)) (c.0 ∙ ap name (sym e)) ∙ same_tests (name k) in
          (t, rw s (Memᴰ.head refl))

      further_on : (b : Bool) → ((u : Element) × Memᴰ u (all_named k (listed ts)))
          → (u : Element) × Memᴰ u (if b then t ∷ all_named k (listed ts) else all_named k (listed ts))
      further_on true n = (n.0, Memᴰ.append_right (t ∷ []) n.1)
      further_on false n = n

  pub choice_there : (t : Element) (holder : Option Element) (parent : ℕ) (r : Row) (choice : List ℕ) → must_take r choice ≡ true → Conforms profile Right t holder parent r
      → (k : ℕ) × Memᴰ k choice × There (child k t)
  unfolding child all_of children must_take Conforms
  choice_there (holding_text h w) holder parent r choice e c = absurd (go r.holds e c)
    where
      go : (holds : Contents) → ◌≡◌ {A = Bool} (elim holds [ text longest ↦ false | elements places ↦ must choice places ]) true
          → (elim holds as (λ _. Type 0) [
            | text longest ↦ Right holder parent r (holding_text h w)
            | elements places ↦ Right holder parent r (holding_text h w) × Every white w × Arranged places []
          ]) → ⊥
      go (text longest) e c = let z : ◌≡◌ {A = ℕ} 0 1 = cc in omega (arith, z)
      go (elements places) e c = Memᴰ.not-nil (one_there choice e c.2).2
  choice_there (holding_elements h ts) holder parent r choice e c = go r.holds e c
    where
      go : (holds : Contents) → ◌≡◌ {A = Bool} (elim holds [ text longest ↦ false | elements places ↦ must choice places ]) true
          → (elim holds as (λ _. Type 0) [
            | text longest ↦ ⊥
            | elements places ↦
                Right holder parent r (holding_elements h ts) × (ks : List ℕ) × Arranged places ks × Conform profile Right ts (holding_elements h ts) r.row ks
          ])
          → (k : ℕ) × Memᴰ k choice × There (elim (all_named k (listed ts)) as (λ _. Option Element) [ [] ↦ none | v ∷ vs ↦ some v ])
      go (text longest) e c = absurd c
      go (elements places) e c =
          let n = one_there choice e c.2 in
          (n.0, n.1, some_first (all_named n.0 (listed ts)) (named_there ts (holding_elements h ts) r.row n.0 c.1 n.2 c.3).1)

  pub child_there : (t : Element) (holder : Option Element) (parent : ℕ) (r : Row) (k : ℕ) → must_take r (k ∷ []) ≡ true → Conforms profile Right t holder parent r → There (child k t)
  child_there t holder parent r k e c =
      let n = choice_there t holder parent r (k ∷ []) e c in
      subst (λ (j : ℕ). There (child j t)) (Memᴰ.eq_of_singleton n.1) n.2

  -- A row that has the name of none of a group's has no child there.
  none_named : (ts : Elements) (holder : Element) (row k : ℕ) (ks js : List ℕ) → All (λ j. name k ≡ name j → ⊥) js → All (λ i. Memᴰ i js) ks → Conform profile Right ts holder row ks
      → all_named k (listed ts) ≡ []
  unfolding all_named listed Conforms
  none_named []ᵉ holder row k ks js a h c = refl
  none_named (t ∷ᵉ ts) holder row k [] js a h c = absurd c
  none_named (t ∷ᵉ ts) holder row k (i ∷ ks) js a (all_more n h) c =
      rw (same_differs (head_of t).name (name k) (λ e. all_member a n (sym e ∙ c.0))) (none_named ts holder row k ks js a h c.2)

  pub child_absent : (t : Element) (holder : Option Element) (parent : ℕ) (r : Row) (k : ℕ) → lacks r k ≡ true → Conforms profile Right t holder parent r → child k t ≡ none
  unfolding child all_of children all_named lacks Conforms
  child_absent (holding_text h w) holder parent r k e c = refl
  child_absent (holding_elements h ts) holder parent r k e c = go r.holds e c
    where
      go : (holds : Contents) → ◌≡◌ {A = Bool} (elim holds [ text longest ↦ true | elements places ↦ unlike k (rows_of places) ]) true
          → (elim holds as (λ _. Type 0) [
            | text longest ↦ ⊥
            | elements places ↦
                Right holder parent r (holding_elements h ts) × (ks : List ℕ) × Arranged places ks × Conform profile Right ts (holding_elements h ts) r.row ks
          ])
          → ◌≡◌ {A = Option Element} (elim (all_named k (listed ts)) [ [] ↦ none | v ∷ vs ↦ some v ]) none
      go (text longest) e c = absurd c
      go (elements places) e c =
          rw (none_named ts (holding_elements h ts) r.row k c.1 (rows_of places) (unlike_says k (rows_of places) e) (arranged_in c.2) c.3)

  -- what conforms is right where it stands, and a leaf that conforms holds text
  pub right_conforms : (t : Element) (holder : Option Element) (parent : ℕ) (r : Row) → Conforms profile Right t holder parent r → Right holder parent r t
  unfolding Conforms
  right_conforms (holding_text h w) holder parent r c = go r.holds c
    where
      go : (holds : Contents)
          → (elim holds as (λ _. Type 0) [
            | text longest ↦ Right holder parent r (holding_text h w)
            | elements places ↦ Right holder parent r (holding_text h w) × Every white w × Arranged places []
          ]) → Right holder parent r (holding_text h w)
      go (text longest) c = c
      go (elements places) c = c.0
  right_conforms (holding_elements h ts) holder parent r c = go r.holds c
    where
      go : (holds : Contents)
          → (elim holds as (λ _. Type 0) [
            | text longest ↦ ⊥
            | elements places ↦
                Right holder parent r (holding_elements h ts) × (ks : List ℕ) × Arranged places ks × Conform profile Right ts (holding_elements h ts) r.row ks
          ]) → Right holder parent r (holding_elements h ts)
      go (text longest) c = absurd c
      go (elements places) c = c.0

  pub leaf_conforms : (t : Element) (holder : Option Element) (parent : ℕ) (r : Row) → holds_text r.holds ≡ true → Conforms profile Right t holder parent r
      → t ≡ holding_text (head_of t) (text_of t)
  unfolding Conforms head_of text_of holds_text
  leaf_conforms (holding_text h w) holder parent r e c = refl
  leaf_conforms (holding_elements h ts) holder parent r e c = absurd (go r.holds e c)
    where
      go : (holds : Contents) → holds_text holds ≡ true
          → (elim holds as (λ _. Type 0) [
            | text longest ↦ ⊥
            | elements places ↦
                Right holder parent r (holding_elements h ts) × (ks : List ℕ) × Arranged places ks × Conform profile Right ts (holding_elements h ts) r.row ks
          ]) → ⊥
      go (text longest) e c = c
      go (elements places) e c = false_not_true e

  -- An element that conforms to row k under a parent, whichever element holds it. Along a route: what stands at its end conforms.
  abbrev pub StandsAs : (parent k : ℕ) → Element → Type 0
  StandsAs parent k t = (holder : Option Element) × Conforms profile Right t holder parent (row_of profile parent k)

  unfoldable pub EndsAs : (parent k : ℕ) → List ℕ → Element → Type 0
  EndsAs parent k [] u = StandsAs parent k u
  EndsAs parent k (j ∷ js) u = EndsAs k j js u

  module _ (apart : (parent k : ℕ) → RowsApart (row_of profile parent k)) where
    pub step_all : (parent k j : ℕ) (t : Element) → (eqb (row_of profile parent k).row k && takes (row_of profile parent k) j) ≡ true → StandsAs parent k t → All (StandsAs k j) (all_of j t)
    step_all parent k j t e c =
        subst (λ (i : ℕ). All (λ u. (holder : Option Element) × Conforms profile Right u holder i (row_of profile i j)) (all_of j t))
        (eqb-true _ k (both_left (eqb (row_of profile parent k).row k) _ e))
        (all_map (λ u d. (some t, d))
        (all_conform t c.0 parent (row_of profile parent k) j (apart parent k) (both_right (eqb (row_of profile parent k).row k) _ e) c.1))

    pub step : (parent k j : ℕ) (t u : Element) → (eqb (row_of profile parent k).row k && takes (row_of profile parent k) j) ≡ true → StandsAs parent k t → child j t ≡ some u → StandsAs k j u
    step parent k j t u e c f = (
      some t,
      subst (λ (i : ℕ). Conforms profile Right u (some t) i (row_of profile i j)) (eqb-true _ k (both_left (eqb (row_of profile parent k).row k) _ e))
          (child_conforms t c.0 parent (row_of profile parent k) j u (apart parent k) (both_right (eqb (row_of profile parent k).row k) _ e) c.1 f),
    )

    pub follow_conforms : (parent k : ℕ) (route : List ℕ) (t u : Element) → steps profile parent k route ≡ true → StandsAs parent k t → follow route t ≡ some u → EndsAs parent k route u
    unfolding steps EndsAs follow
    follow_conforms parent k [] t u e c f = let g : t ≡ u = cc in subst (StandsAs parent k) g c
    follow_conforms parent k (j ∷ js) t u e c f = go (child j t) refl f (λ v d g. follow_conforms k j js v u (both_right one_step _ e) d g)
      where
        one_step : Bool
        one_step = eqb (row_of profile parent k).row k && takes (row_of profile parent k) j

        go : (o : Option Element) → child j t ≡ o → ◌≡◌ {A = Option Element} (elim o [ none ↦ none | some v ↦ follow js v ]) (some u)
            → ((v : Element) → StandsAs k j v → follow js v ≡ some u → EndsAs k j js u) → EndsAs k j js u
        go none p q below = some_not_none (sym q)
        go (some v) p q below = below v (step parent k j t v (both_left one_step _ e) c p) q

    pub follow_there : (parent k : ℕ) (route : List ℕ) (t : Element) → steps profile parent k route ≡ true → must_steps profile parent k route ≡ true → StandsAs parent k t → There (follow route t)
    unfolding steps must_steps follow
    follow_there parent k [] t e m c = record { it = t; is_it = refl }
    follow_there parent k (j ∷ js) t e m c =
        let one = child_there t c.0 parent (row_of profile parent k) j (both_left (must_take (row_of profile parent k) (j ∷ [])) _ m) c.1 in
        go one.is_it
        (follow_there k j js one.it (both_right (eqb (row_of profile parent k).row k && takes (row_of profile parent k) j) _ e)
        (both_right (must_take (row_of profile parent k) (j ∷ [])) _ m)
        (step parent k j t one.it (both_left (eqb (row_of profile parent k).row k && takes (row_of profile parent k) j) _ e) c one.is_it))
      where
        go : {o : Option Element} {v : Element} → o ≡ some v → There (follow js v) → There (elim o as (λ _. Option Element) [ none ↦ none | some w ↦ follow js w ])
        go e h = rw e h
