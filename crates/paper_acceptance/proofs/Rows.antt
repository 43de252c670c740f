-- The walk of refusals 3 and 4 (and, with a judgement at each element, of 6 to 8 and 28) refuses nothing exactly where the element conforms to its row, over any profile in
-- which no two rows of a group have one name.
use Rattle.std.specs.Prelude.{if◌then◌else◌}
use Prim.Native.Nat.{ℕ, ◌+◌}
use mathlib.Core.List.{List, [], ◌∷◌}
use mathlib.Core.Bool.{Bool, true, false}
use mathlib.Core.Option.{Option, none, some}
use mathlib.Core.Path.{◌≡◌, refl, ◌∙◌, ap, subst}
use Rattle.paper.specs.Bytes.{white, every, Every}
use Rattle.paper.specs.Form.{Head, Element, Elements, holding_text, holding_elements, []ᵉ, ◌∷ᵉ◌}
use Rattle.paper.specs.Rows.{Place, Contents, text, elements, Row, Profile, row_of, head_of, Arranged, Conforms, Conform}
use Rattle.paper.specs.Refusals.{Refusal, refuse, ◌or_else◌, Left, from_here, missing, ends, only_white, first_at, first_not, Sought, never, early, found, seek, Judgement, walk, walk_all}
use Rattle.paper.proofs.Laws.{some_not_none, every_says, every_tests}
use Rattle.paper_acceptance.proofs.Arranged.{ArrangedLeft, as_places, nothing_missing, missing_nothing, seek_arranged, rows_of, Apart, ApartLeft, arranged_seek}

-- the first of two that refuses: neither does
pub neither : (a b : Option Refusal) → a or_else b ≡ none → (a ≡ none) × (b ≡ none)
unfolding ◌or_else◌
neither none b e = (refl, e)
neither (some r) b e = some_not_none e

pub or_none : {a b : Option Refusal} → a ≡ none → b ≡ none → a or_else b ≡ none
unfolding ◌or_else◌
or_none p q = rw p q

pub refuses : {A : Type 0} (number element offset : ℕ) → refuse number element offset ≡ none → A
unfolding refuse
refuses number element offset e = some_not_none e

ends_arranged : (left : Left) (close : ℕ) → ends left close ≡ none → ArrangedLeft left []
unfolding ends
ends_arranged left close e = go (missing left) refl e
  where
    go : (o : Option ℕ) → missing left ≡ o → ◌≡◌ {A = Option Refusal} (elim o [ some first ↦ refuse 4 first close | none ↦ none ]) none → ArrangedLeft left []
    go none f g = nothing_missing left f
    go (some first) f g = refuses _ _ _ g

arranged_ends : (left : Left) (close : ℕ) → ArrangedLeft left [] → ends left close ≡ none
unfolding ends
arranged_ends left close a = rw (missing_nothing a, ends)

in_places : {ps : List Place} {ks : List ℕ} → ArrangedLeft (from_here ps) ks → Arranged ps ks
in_places (as_places a) = a

white_conforms : (row : ℕ) (ps : List Place) (h : Head) (w : List ℕ) → only_white row ps h w ≡ none → Every white w × Arranged ps []
unfolding only_white
white_conforms row ps h w e = go (every white w) refl e
  where
    go : (t : Bool) → every white w ≡ t → (if t then ends (from_here ps) h.close else refuse 3 row (h.start + first_not white w)) ≡ none → Every white w × Arranged ps []
    go true f g = (every_says white w f, in_places (ends_arranged (from_here ps) h.close g))
    go false f g = refuses _ _ _ g

conforms_white : (row : ℕ) (ps : List Place) (h : Head) (w : List ℕ) → Every white w × Arranged ps [] → only_white row ps h w ≡ none
unfolding only_white
conforms_white row ps h w c = rw (every_tests c.0) (arranged_ends (from_here ps) h.close (as_places c.1))

-- in a group no two rows have one name
unfoldable pub RowsApart : Row → Type 0
RowsApart r = elim r.holds [ text longest ↦ Unit {0} | elements places ↦ Apart (rows_of places) ]

module _ (profile : Profile) (judge : Judgement) (Right : (holder : Option Element) (parent : ℕ) → Row → Element → Type 0) where
  -- No refusal: it conforms.
  module _ (judges : (holder : Option Element) (parent : ℕ) (r : Row) (t : Element) → judge holder parent r t ≡ none → Right holder parent r t) where
    text_conforms : (holds : Contents) (holder : Option Element) (parent : ℕ) (r : Row) (h : Head) (w : List ℕ) → Right holder parent r (holding_text h w)
        → ◌≡◌ {A = Option Refusal} (elim holds [ text longest ↦ none | elements places ↦ only_white r.row places h w ]) none
        → elim holds as (λ _. Type 0) [
          | text longest ↦ Right holder parent r (holding_text h w)
          | elements places ↦ Right holder parent r (holding_text h w) × Every white w × Arranged places []
        ]
    text_conforms (text longest) holder parent r h w right e = right
    text_conforms (elements places) holder parent r h w right e = let c = white_conforms r.row places h w e in (right, c.0, c.1)

    elements_conform : (holds : Contents) (holder : Option Element) (parent : ℕ) (r : Row) (h : Head) (ts : Elements) → Right holder parent r (holding_elements h ts)
        → ((places : List Place) → walk_all profile judge ts (holding_elements h ts) r.row (from_here places) h.close ≡ none
        → (ks : List ℕ) × ArrangedLeft (from_here places) ks × Conform profile Right ts (holding_elements h ts) r.row ks)
        → ◌≡◌ {A = Option Refusal}
        (elim holds [
          | text longest ↦ refuse 3 r.row (first_at ts h.start)
          | elements places ↦ walk_all profile judge ts (holding_elements h ts) r.row (from_here places) h.close
        ]) none
        → elim holds as (λ _. Type 0) [
          | text longest ↦ ⊥
          | elements places ↦ Right holder parent r (holding_elements h ts) × (ks : List ℕ) × Arranged places ks × Conform profile Right ts (holding_elements h ts) r.row ks
        ]
    elements_conform (text longest) holder parent r h ts right below e = refuses _ _ _ e
    elements_conform (elements places) holder parent r h ts right below e = let c = below places e in (right, c.0, in_places c.1, c.2)

    child_conforms : (t : Element) (ts : Elements) (holder : Element) (row : ℕ) (left : Left) (close : ℕ) (q : Sought) → seek left (head_of t).name ≡ q
        → ((k : ℕ) → walk profile judge t (some holder) row (row_of profile row k) ≡ none → Conforms profile Right t (some holder) row (row_of profile row k))
        → ((behind : Left) → walk_all profile judge ts holder row behind close ≡ none
        → (ks : List ℕ) × ArrangedLeft behind ks × Conform profile Right ts holder row ks)
        → ◌≡◌ {A = Option Refusal}
        (elim q [
          | never ↦ refuse 3 row (head_of t).at
          | early first ↦ refuse 4 first (head_of t).at
          | found k behind ↦ walk profile judge t (some holder) row (row_of profile row k) or_else walk_all profile judge ts holder row behind close
        ]) none
        → (ks : List ℕ) × ArrangedLeft left ks × Conform profile Right (t ∷ᵉ ts) holder row ks
    unfolding Conforms
    child_conforms t ts holder row left close never s one others e = refuses _ _ _ e
    child_conforms t ts holder row left close (early first) s one others e = refuses _ _ _ e
    child_conforms t ts holder row left close (found k behind) s one others e =
        let n = neither _ _ e in
        let below = others behind n.1 in
        let a = seek_arranged left (head_of t).name s below.1 in
        (k ∷ below.0, a.1, (a.0, one k n.0, below.2))

    mutual
      unfolding walk Conforms

      pub walk_conforms : (t : Element) (holder : Option Element) (parent : ℕ) (r : Row) → walk profile judge t holder parent r ≡ none
          → Conforms profile Right t holder parent r
      walk_conforms (holding_text h w) holder parent r e =
          let n = neither _ _ e in text_conforms r.holds holder parent r h w (judges holder parent r (holding_text h w) n.0) n.1
      walk_conforms (holding_elements h ts) holder parent r e =
          let n = neither _ _ e in
          elements_conform r.holds holder parent r h ts (judges holder parent r (holding_elements h ts) n.0)
          (λ places f. walk_all_conforms ts (holding_elements h ts) r.row (from_here places) h.close f) n.1

      walk_all_conforms : (ts : Elements) (holder : Element) (row : ℕ) (left : Left) (close : ℕ) → walk_all profile judge ts holder row left close ≡ none
          → (ks : List ℕ) × ArrangedLeft left ks × Conform profile Right ts holder row ks
      walk_all_conforms []ᵉ holder row left close e = ([], ends_arranged left close e, refl)
      walk_all_conforms (t ∷ᵉ ts) holder row left close e =
          child_conforms t ts holder row left close (seek left (head_of t).name) refl (λ k f. walk_conforms t (some holder) row (row_of profile row k) f)
          (λ behind f. walk_all_conforms ts holder row behind close f) e

  -- It conforms: no refusal.
  module _ (judged : (holder : Option Element) (parent : ℕ) (r : Row) (t : Element) → Right holder parent r t → judge holder parent r t ≡ none)
      (apart : (parent k : ℕ) → RowsApart (row_of profile parent k)) where
    conforms_text : (holds : Contents) (holder : Option Element) (parent : ℕ) (r : Row) (h : Head) (w : List ℕ)
        → (elim holds as (λ _. Type 0) [
          | text longest ↦ Right holder parent r (holding_text h w)
          | elements places ↦ Right holder parent r (holding_text h w) × Every white w × Arranged places []
        ])
        → judge holder parent r (holding_text h w) or_else (elim holds [ text longest ↦ none | elements places ↦ only_white r.row places h w ]) ≡ none
    conforms_text (text longest) holder parent r h w c = or_none (judged holder parent r (holding_text h w) c) refl
    conforms_text (elements places) holder parent r h w c = or_none (judged holder parent r (holding_text h w) c.0) (conforms_white r.row places h w (c.1, c.2))

    conform_elements : (holds : Contents) (holder : Option Element) (parent : ℕ) (r : Row) (h : Head) (ts : Elements)
        → (elim holds as (λ _. Type 0) [ text longest ↦ Unit {0} | elements places ↦ Apart (rows_of places) ])
        → ((places : List Place) (ks : List ℕ) → Apart (rows_of places) → ArrangedLeft (from_here places) ks
        → Conform profile Right ts (holding_elements h ts) r.row ks
        → walk_all profile judge ts (holding_elements h ts) r.row (from_here places) h.close ≡ none)
        → (elim holds as (λ _. Type 0) [
          | text longest ↦ ⊥
          | elements places ↦ Right holder parent r (holding_elements h ts) × (ks : List ℕ) × Arranged places ks × Conform profile Right ts (holding_elements h ts) r.row ks
        ])
        → judge holder parent r (holding_elements h ts) or_else
        (elim holds [
          | text longest ↦ refuse 3 r.row (first_at ts h.start)
          | elements places ↦ walk_all profile judge ts (holding_elements h ts) r.row (from_here places) h.close
        ]) ≡ none
    conform_elements (text longest) holder parent r h ts a below c = absurd c
    conform_elements (elements places) holder parent r h ts a below c =
        or_none (judged holder parent r (holding_elements h ts) c.0) (below places c.1 a (as_places c.2) c.3)

    by_found : (t : Element) (ts : Elements) (holder : Element) (row close : ℕ) {q : Sought} {k : ℕ} {behind : Left} → q ≡ found k behind
        → walk profile judge t (some holder) row (row_of profile row k) or_else walk_all profile judge ts holder row behind close ≡ none
        → ◌≡◌ {A = Option Refusal}
        (elim q [
          | never ↦ refuse 3 row (head_of t).at
          | early first ↦ refuse 4 first (head_of t).at
          | found k behind ↦ walk profile judge t (some holder) row (row_of profile row k) or_else walk_all profile judge ts holder row behind close
        ]) none
    by_found t ts holder row close e n = rw e n

    conforms_child : (t : Element) (ts : Elements) (holder : Element) (row : ℕ) (left : Left) (close : ℕ) (ks : List ℕ)
        → ((r : Row) → RowsApart r → Conforms profile Right t (some holder) row r → walk profile judge t (some holder) row r ≡ none)
        → ((behind : Left) (others : List ℕ) → ApartLeft behind → ArrangedLeft behind others → Conform profile Right ts holder row others
        → walk_all profile judge ts holder row behind close ≡ none)
        → ApartLeft left → ArrangedLeft left ks → Conform profile Right (t ∷ᵉ ts) holder row ks → walk_all profile judge (t ∷ᵉ ts) holder row left close ≡ none
    unfolding Conforms walk
    conforms_child t ts holder row left close [] one others s a c = absurd c
    conforms_child t ts holder row left close (k ∷ ks) one others s a c =
        let p = arranged_seek a s in
        let e : seek left (head_of t).name ≡ found k p.behind = ap (λ (n : List ℕ). seek left n) c.0 ∙ p.is_found in
        by_found t ts holder row close e (or_none (one (row_of profile row k) (apart row k) c.1) (others p.behind ks p.apart p.arranged c.2))

    mutual
      unfolding walk Conforms RowsApart

      pub conforms_walk : (t : Element) (holder : Option Element) (parent : ℕ) (r : Row) → RowsApart r → Conforms profile Right t holder parent r
          → walk profile judge t holder parent r ≡ none
      conforms_walk (holding_text h w) holder parent r a c = conforms_text r.holds holder parent r h w c
      conforms_walk (holding_elements h ts) holder parent r a c =
          conform_elements r.holds holder parent r h ts a
          (λ places ks s b d. conform_walk ts (holding_elements h ts) r.row (from_here places) h.close ks s b d) c

      conform_walk : (ts : Elements) (holder : Element) (row : ℕ) (left : Left) (close : ℕ) (ks : List ℕ) → ApartLeft left → ArrangedLeft left ks
          → Conform profile Right ts holder row ks → walk_all profile judge ts holder row left close ≡ none
      conform_walk []ᵉ holder row left close ks s a c = arranged_ends left close (subst (λ (x : List ℕ). ArrangedLeft left x) c a)
      conform_walk (t ∷ᵉ ts) holder row left close ks s a c =
          conforms_child t ts holder row left close ks (λ r b d. conforms_walk t (some holder) row r b d)
          (λ behind others b d f. conform_walk ts holder row behind close others b d f) s a c
