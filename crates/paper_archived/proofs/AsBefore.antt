-- Where no element of a message is named as a row that is withdrawn, its outcome is as before; so every outcome for an archived message, of which no row is withdrawn, and that for a
-- new one in which no element is named as row 32. Of any other message the outcome is as before or a refusal by 28. Verdict, table and fields are functions of the outcome.
use Rattle.std.specs.Prelude.{if◌then◌else◌}
use Prim.Native.Nat.{ℕ}
use native.Mathlib.Omega.{arith}
use mathlib.Core.List.Memᴰ
use mathlib.Core.List.{List, [], ◌∷◌, Memᴰ}
use mathlib.Core.Bool.{Bool, true, false, ◌&&◌, ◌||◌}
use mathlib.Core.Option.{Option, none, some}
use mathlib.Core.Path.{◌≡◌, refl, sym, ap, subst}
use borrow.Author.Tests.{eqb-true}
use lib.Dec.{eqb}
use Rattle.paper.specs.Bytes.{same}
use Rattle.paper.specs.Form.{Head, Element, Elements, holding_text, holding_elements, []ᵉ, ◌∷ᵉ◌, IsMessage}
use Rattle.paper.specs.Computed.Reading.{Reading, root_is, stops_at, read}
use Rattle.paper.specs.Rows.{Place, Contents, text, elements, Row, Profile, for_new, for_archived, as_new, as_archived, name, row_in, row_of, head_of}
use Rattle.paper.specs.Values.{among}
use Rattle.paper.specs.Refusals.{Refusal, refuse, ◌or_else◌, Left, from_here, again, only_white, first_at, Sought, never, early, found, past, named_in, rows_at, left_of, seek_in, seek, Judgement, walk, walk_all, no_judgement, text_refusal, leaf_refusal, value_refusal, rows_refusal, values_refusal, tree_refusal, Outcome, refused_as, accepted_with, unless_refused, of_reading, size_refusal, table_refusal, outcome_alone, outcome}
use Rattle.paper.specs.Regrouping.{regrouping, differing_part}
use Rattle.paper.proofs.Laws.{both_left, same_says, among_not, or_else_none, outcomes_same}
use Rattle.paper_grammar.proofs.Sound.{sound}
use Rattle.paper_acceptance.proofs.Arranged.{named_in_says, past_found}
use Rattle.paper_acceptance.proofs.OneWalk.{Kept, as_found, of_its_own, if_kept, or_kept}
use Rattle.paper_archived.specs.Before as before
use Rattle.paper_archived.proofs.Without.{Nowhere, NowhereIn, WithoutRow32}

-- a message in which no element is named as a row that is withdrawn
unfoldable pub NoneWithdrawn : Profile → List ℕ → Type 0
NoneWithdrawn profile s = (root : Element) → IsMessage s root → (k : ℕ) → Memᴰ k profile.withdrawn → Nowhere (name k) root

-- a child that is found has the name of its row
seek_in_names : (ps : List Place) (w : List ℕ) {k : ℕ} {left : Left} → seek_in ps w ≡ found k left → w ≡ name k
unfolding seek_in
seek_in_names [] w e = let z : ◌≡◌ {A = ℕ} 0 1 = cc in absurd (omega (arith, z))
seek_in_names (p ∷ ps) w {k} {left} e = go (named_in (rows_at p) w) refl (λ f. seek_in_names ps w f) e
  where
    go : (o : Option ℕ) → named_in (rows_at p) w ≡ o → (seek_in ps w ≡ found k left → w ≡ name k)
        → (elim o as (λ _. Sought) [ some j ↦ found j (left_of p ps) | none ↦ past p (seek_in ps w) ]) ≡ found k left → w ≡ name k
    go none n below f = below (past_found p (seek_in ps w) f).1
    go (some j) n below f = let g : j ≡ k = cc in subst (λ (i : ℕ). w ≡ name i) g (named_in_says (rows_at p) w n).0

seek_names : (left : Left) (w : List ℕ) {k : ℕ} {behind : Left} → seek left w ≡ found k behind → w ≡ name k
unfolding seek
seek_names (from_here ps) w e = seek_in_names ps w e
seek_names (again j ps) w {k} {behind} e = go (same w (name j)) refl e
  where
    go : (t : Bool) → same w (name j) ≡ t → (if t then found j (again j ps) else seek_in ps w) ≡ found k behind → w ≡ name k
    go true s f = let g : j ≡ k = cc in subst (λ (i : ℕ). w ≡ name i) g (same_says w (name j) s)
    go false s f = seek_in_names ps w f

-- the row that is looked for is that of its number
pub row_is : (rs : List Row) (parent k : ℕ) → (row_in rs parent k).row ≡ k
unfolding row_in
row_is [] parent k = refl
row_is (r ∷ rs) parent k = go (eqb r.row k && (eqb r.under 0 || eqb r.under parent)) refl (row_is rs parent k)
  where
    go : (t : Bool) → (eqb r.row k && (eqb r.under 0 || eqb r.under parent)) ≡ t → (row_in rs parent k).row ≡ k → (if t then r else row_in rs parent k).row ≡ k
    go true e below = eqb-true r.row k (both_left (eqb r.row k) _ e)
    go false e below = below

-- what the old walk judges of an element: the text of a leaf
unfoldable at_leaf : (judge : (parent : ℕ) → Row → Head → List ℕ → Option Refusal) (parent : ℕ) → Row → Element → Option Refusal
at_leaf judge parent r (holding_text h w) = elim r.holds [ text longest ↦ judge parent r h w | elements places ↦ none ]
at_leaf judge parent r (holding_elements h ts) = none

-- The two walks are alike as their judgements are, by any relation that holds of what is equal, and of two that come one after the other if it holds of each. What is known of an element and
-- of all in it gives what is asked of its row.
record Relation (Alike : Option Refusal → Option Refusal → Type 0) : Type 0 where
  equal : (a b : Option Refusal) → a ≡ b → Alike a b
  in_turn : (a b c d : Option Refusal) → Alike a b → Alike c d → Alike (a or_else c) (b or_else d)

record Inherited (Known : Element → Type 0) (KnownIn : Elements → Type 0) : Type 0 where
  held : (h : Head) (ts : Elements) → Known (holding_elements h ts) → KnownIn ts
  first : (t : Element) (ts : Elements) → KnownIn (t ∷ᵉ ts) → Known t
  others : (t : Element) (ts : Elements) → KnownIn (t ∷ᵉ ts) → KnownIn ts

module _ {Alike : Option Refusal → Option Refusal → Type 0} (alike : Relation Alike) (profile : Profile) (judge : Judgement)
    (old : (parent : ℕ) → Row → Head → List ℕ → Option Refusal) {Known : Element → Type 0} {KnownIn : Elements → Type 0} (inherited : Inherited Known KnownIn) (Asked : Row → Type 0)
    (asked : (t : Element) (row k : ℕ) → Known t → (head_of t).name ≡ name k → Asked (row_in profile.rows row k))
    (agree : (holder : Option Element) (parent : ℕ) (r : Row) (t : Element) → Asked r → Alike (judge holder parent r t) (at_leaf old parent r t)) where
  text_same : (holds : Contents) (parent : ℕ) (r : Row) (h : Head) (w : List ℕ)
      → (elim holds [ text longest ↦ old parent r h w | elements places ↦ none ]) or_else
      (elim holds [ text longest ↦ none | elements places ↦ only_white r.row places h w ])
      ≡ (elim holds as (λ _. Option Refusal) [ text longest ↦ old parent r h w | elements places ↦ only_white r.row places h w ])
  unfolding ◌or_else◌
  text_same (text longest) parent r h w = or_else_none (old parent r h w)
  text_same (elements places) parent r h w = refl

  elements_alike : (holds : Contents) (r : Row) (h : Head) (ts : Elements) (holder : Element)
      → ((places : List Place) → Alike (walk_all profile judge ts holder r.row (from_here places) h.close) (before.walk_all profile.rows old ts r.row (from_here places) h.close))
      → Alike
      (elim holds [ text longest ↦ refuse 3 r.row (first_at ts h.start) | elements places ↦ walk_all profile judge ts holder r.row (from_here places) h.close ])
      (elim holds [ text longest ↦ refuse 3 r.row (first_at ts h.start) | elements places ↦ before.walk_all profile.rows old ts r.row (from_here places) h.close ])
  elements_alike (text longest) r h ts holder below = alike.equal _ _ refl
  elements_alike (elements places) r h ts holder below = below places

  child_alike : (t : Element) (ts : Elements) (holder : Element) (row close : ℕ) (left : Left) (q : Sought) → seek left (head_of t).name ≡ q → Known t
      → ((k : ℕ) → Asked (row_in profile.rows row k)
      → Alike (walk profile judge t (some holder) row (row_in profile.rows row k)) (before.walk profile.rows old t row (row_in profile.rows row k)))
      → ((behind : Left) → Alike (walk_all profile judge ts holder row behind close) (before.walk_all profile.rows old ts row behind close))
      → Alike
      (elim q [
        | never ↦ refuse 3 row (head_of t).at
        | early first ↦ refuse 4 first (head_of t).at
        | found k behind ↦ walk profile judge t (some holder) row (row_in profile.rows row k) or_else walk_all profile judge ts holder row behind close
      ])
      (elim q [
        | never ↦ refuse 3 row (head_of t).at
        | early first ↦ refuse 4 first (head_of t).at
        | found k behind ↦ before.walk profile.rows old t row (row_in profile.rows row k) or_else before.walk_all profile.rows old ts row behind close
      ])
  child_alike t ts holder row close left never s known one others = alike.equal _ _ refl
  child_alike t ts holder row close left (early first) s known one others = alike.equal _ _ refl
  child_alike t ts holder row close left (found k behind) s known one others =
      alike.in_turn _ _ _ _ (one k (asked t row k known (seek_names left (head_of t).name s))) (others behind)

  mutual
    unfolding walk before.walk row_of at_leaf ◌or_else◌

    walks_alike : (t : Element) (holder : Option Element) (parent : ℕ) (r : Row) → Asked r → Known t
        → Alike (walk profile judge t holder parent r) (before.walk profile.rows old t parent r)
    walks_alike (holding_text h w) holder parent r a known =
        subst (λ (o : Option Refusal). Alike (walk profile judge (holding_text h w) holder parent r) o) (text_same r.holds parent r h w)
        (alike.in_turn _ _ _ _ (agree holder parent r (holding_text h w) a) (alike.equal _ _ refl))
    walks_alike (holding_elements h ts) holder parent r a known =
        alike.in_turn _ none _ _ (agree holder parent r (holding_elements h ts) a)
        (elements_alike r.holds r h ts (holding_elements h ts)
        (λ places. all_alike ts (holding_elements h ts) r.row (from_here places) h.close (inherited.held h ts known)))

    all_alike : (ts : Elements) (holder : Element) (row : ℕ) (left : Left) (close : ℕ) → KnownIn ts
        → Alike (walk_all profile judge ts holder row left close) (before.walk_all profile.rows old ts row left close)
    all_alike []ᵉ holder row left close known = alike.equal _ _ refl
    all_alike (t ∷ᵉ ts) holder row left close known =
        child_alike t ts holder row close left (seek left (head_of t).name) refl (inherited.first t ts known)
        (λ k a. walks_alike t (some holder) row (row_in profile.rows row k) a (inherited.first t ts known))
        (λ behind. all_alike ts holder row behind close (inherited.others t ts known))

-- judgements that are those of the leaves
leaf_judged : (parent : ℕ) (r : Row) (t : Element) → leaf_refusal parent r t ≡ at_leaf text_refusal parent r t
unfolding leaf_refusal at_leaf
leaf_judged parent r (holding_text h w) = refl
leaf_judged parent r (holding_elements h ts) = refl

values_agree : (withdrawn : List ℕ) (holder : Option Element) (parent : ℕ) (r : Row) (t : Element) → (Memᴰ r.row withdrawn → ⊥)
    → value_refusal withdrawn holder parent r t ≡ at_leaf text_refusal parent r t
unfolding value_refusal
values_agree withdrawn holder parent r t n = rw (among_not r.row withdrawn n) (leaf_judged parent r t)

rows_agree : (holder : Option Element) (parent : ℕ) (r : Row) (t : Element) → no_judgement holder parent r t ≡ at_leaf before.no_judgement parent r t
unfolding no_judgement before.no_judgement at_leaf
rows_agree holder parent r (holding_elements h ts) = refl
rows_agree holder parent r (holding_text h w) = go r.holds
  where
    go : (holds : Contents) → ◌≡◌ {A = Option Refusal} none (elim holds [ text longest ↦ none | elements places ↦ none ])
    go (text longest) = refl
    go (elements places) = refl

-- what is equal; and where nothing need be known
equally : Relation (λ a b. a ≡ b)
equally = record { equal = λ a b e. e; in_turn = λ a b c d e f. rw (e, f) }

anything : Inherited (λ t. Unit {0}) (λ ts. Unit {0})
anything = record { held = λ h ts k. tt; first = λ t ts k. tt; others = λ t ts k. tt }

-- 3 and 4 are as before, whatever is withdrawn.
rows_same : (profile : Profile) (root : Element) → rows_refusal profile root ≡ before.rows_refusal profile.rows root
unfolding rows_refusal before.rows_refusal row_of
rows_same profile root =
    walks_alike equally profile no_judgement before.no_judgement anything (λ r. Unit {0}) (λ t row k known e. tt) (λ holder parent r t a. rows_agree holder parent r t) root none 0 (row_in profile.rows 0 1) tt tt

-- So are the values where no element is named as a row that is withdrawn, and row 1 is not.
module _ (profile : Profile) (one_stays : Memᴰ 1 profile.withdrawn → ⊥) where
  not_named : (t : Element) (n : List ℕ) → Nowhere n t → (head_of t).name ≡ n → ⊥
  unfolding Nowhere head_of
  not_named (holding_text h w) n c = c
  not_named (holding_elements h ts) n c = c.0

  stays : (row k : ℕ) → (Memᴰ k profile.withdrawn → ⊥) → Memᴰ (row_in profile.rows row k).row profile.withdrawn → ⊥
  stays row k n m = n (subst (λ (i : ℕ). Memᴰ i profile.withdrawn) (row_is profile.rows row k) m)

  none_named : Inherited (λ t. (k : ℕ) → Memᴰ k profile.withdrawn → Nowhere (name k) t) (λ ts. (k : ℕ) → Memᴰ k profile.withdrawn → NowhereIn (name k) ts)
  unfolding Nowhere
  none_named = record { held = λ h ts c k m. (c k m).1; first = λ t ts c k m. (c k m).0; others = λ t ts c k m. (c k m).1 }

  values_same : (root : Element) → ((k : ℕ) → Memᴰ k profile.withdrawn → Nowhere (name k) root) → values_refusal profile root ≡ before.values_refusal profile.rows root
  unfolding values_refusal before.values_refusal row_of
  values_same root c =
      walks_alike equally profile (value_refusal profile.withdrawn) text_refusal none_named (λ r. Memᴰ r.row profile.withdrawn → ⊥)
      (λ t row k c e. stays row k (λ m. not_named t (name k) (c k m) e)) (values_agree profile.withdrawn) root none 0 (row_in profile.rows 0 1) (stays 0 1 one_stays) c

  alone_same : (s : List ℕ) → NoneWithdrawn profile s → outcome_alone profile s ≡ before.outcome_alone profile.rows s
  unfolding outcome_alone before.outcome_alone tree_refusal before.tree_refusal NoneWithdrawn
  alone_same s c =
      outcomes_same (tree_refusal profile) (before.tree_refusal profile.rows) s (λ root e. rw (rows_same profile root, values_same root (c root (sound s root e))))

-- Every outcome for an archived message is as before,
pub archived_alone_as_before : (profile : Profile) (s : List ℕ) → outcome_alone (as_archived profile) s ≡ before.outcome_alone profile.rows s
unfolding as_archived for_archived NoneWithdrawn
archived_alone_as_before profile s =
    alone_same (as_archived profile) (λ m. Memᴰ.not-nil m) s (λ root form k m. absurd (Memᴰ.not-nil m))

pub archived_as_before : (profile : Profile) (n : ℕ) (s : List ℕ) → outcome (as_archived profile) n s ≡ before.outcome profile.rows n s
unfolding outcome before.outcome
archived_as_before profile n s = ap (unless_refused (table_refusal n)) (archived_alone_as_before profile s)

-- and for a new one in which no element is named as row 32.
pub new_alone_as_before : (profile : Profile) (s : List ℕ) → WithoutRow32 s → outcome_alone (as_new profile) s ≡ before.outcome_alone profile.rows s
unfolding as_new for_new NoneWithdrawn WithoutRow32
new_alone_as_before profile s c =
    alone_same (as_new profile) (λ m. let e = Memᴰ.eq_of_singleton m in omega (arith, e)) s
    (λ root form k m. subst (λ (i : ℕ). Nowhere (name i) root) (sym (Memᴰ.eq_of_singleton m)) (c root form))

pub new_as_before : (profile : Profile) (n : ℕ) (s : List ℕ) → WithoutRow32 s → outcome (as_new profile) n s ≡ before.outcome profile.rows n s
unfolding outcome before.outcome
new_as_before profile n s c = ap (unless_refused (table_refusal n)) (new_alone_as_before profile s c)

-- Whatever a message holds, its outcome is as before or a refusal by 28.
unless_twenty_eight : Relation (Kept (28 ∷ []))
unless_twenty_eight = record { equal = λ a b e. as_found e; in_turn = λ a b c d h k. or_kept a h k }

values_unless : (withdrawn : List ℕ) (holder : Option Element) (parent : ℕ) (r : Row) (t : Element)
    → Kept (28 ∷ []) (value_refusal withdrawn holder parent r t) (at_leaf text_refusal parent r t)
unfolding value_refusal refuse
values_unless withdrawn holder parent r t = if_kept (among r.row withdrawn) (of_its_own (Memᴰ.head refl)) (as_found (leaf_judged parent r t))

tree_unless : (profile : Profile) (root : Element) → Kept (28 ∷ []) (tree_refusal profile root) (before.tree_refusal profile.rows root)
unfolding tree_refusal before.tree_refusal values_refusal before.values_refusal row_of
tree_unless profile root =
    or_kept _ (as_found (rows_same profile root))
    (or_kept _ (as_found refl)
    (or_kept _
    (walks_alike unless_twenty_eight profile (value_refusal profile.withdrawn) text_refusal anything (λ r. Unit {0}) (λ t row k known e. tt) (λ holder parent r t a. values_unless profile.withdrawn holder parent r t) root none 0 (row_in profile.rows 0 1) tt tt)
    (as_found refl)))

pub data AsBeforeOr28 (now old : Outcome) : Type 0 where
  as_before : now ≡ old → AsBeforeOr28 now old
  by_28 : {x : Refusal} → now ≡ refused_as x → x.number ≡ 28 → AsBeforeOr28 now old

or_refused_before : (o : Option Refusal) {now old : Outcome} → AsBeforeOr28 now old → AsBeforeOr28 (unless_refused o now) (unless_refused o old)
unfolding unless_refused
or_refused_before none h = h
or_refused_before (some x) h = as_before refl

pub alone_unless_28 : (profile : Profile) (s : List ℕ) → AsBeforeOr28 (outcome_alone profile s) (before.outcome_alone profile.rows s)
unfolding outcome_alone before.outcome_alone of_reading unless_refused
alone_unless_28 profile s = or_refused_before (size_refusal s) (of_read (read s))
  where
    of_tree : (root : Element) {a b : Option Refusal} → Kept (28 ∷ []) a b → AsBeforeOr28 (unless_refused a (accepted_with root)) (unless_refused b (accepted_with root))
    of_tree root (as_found e) = as_before (ap (λ (o : Option Refusal). unless_refused o (accepted_with root)) e)
    of_tree root (of_its_own m) = by_28 refl (Memᴰ.eq_of_singleton m)

    of_read : (r : Reading) → AsBeforeOr28 (of_reading (tree_refusal profile) r) (of_reading (before.tree_refusal profile.rows) r)
    of_read (stops_at n) = as_before refl
    of_read (root_is root) = of_tree root (tree_unless profile root)

pub unless_28 : (profile : Profile) (n : ℕ) (s : List ℕ) → AsBeforeOr28 (outcome profile n s) (before.outcome profile.rows n s)
unfolding outcome before.outcome
unless_28 profile n s = or_refused_before (table_refusal n) (alone_unless_28 profile s)

-- A regrouping whose second message has no row 32 is as before, if the first is archived or has none either.
pub archived_regrouping_as_before : (profile : Profile) (first second file : List ℕ) → WithoutRow32 second
    → regrouping (as_archived profile) first second file ≡ before.regrouping profile.rows first second file
unfolding regrouping before.regrouping as_new as_archived for_new for_archived
archived_regrouping_as_before profile first second file c = rw (archived_alone_as_before profile first, new_alone_as_before profile second c)

pub new_regrouping_as_before : (profile : Profile) (first second file : List ℕ) → WithoutRow32 first → WithoutRow32 second
    → regrouping (as_new profile) first second file ≡ before.regrouping profile.rows first second file
unfolding regrouping before.regrouping as_new for_new
new_regrouping_as_before profile first second file b c = rw (new_alone_as_before profile first b, new_alone_as_before profile second c)

-- So is the part that is handed back for 20.
pub archived_differing_as_before : (profile : Profile) (first second file : List ℕ) → WithoutRow32 second
    → differing_part (as_archived profile) first second file ≡ before.differing_part profile.rows first second file
unfolding differing_part before.differing_part as_new as_archived for_new for_archived
archived_differing_as_before profile first second file c = rw (archived_regrouping_as_before profile first second file c, new_alone_as_before profile second c)

pub new_differing_as_before : (profile : Profile) (first second file : List ℕ) → WithoutRow32 first → WithoutRow32 second
    → differing_part (as_new profile) first second file ≡ before.differing_part profile.rows first second file
unfolding differing_part before.differing_part as_new for_new
new_differing_as_before profile first second file b c = rw (new_regrouping_as_before profile first second file b c, new_alone_as_before profile second c)
