-- What is found by rows in a laid-out tree: the elements of a row's name, one after the other, and what stands at the end of a route.
use Prim.Native.Nat.{ℕ, ◌+◌, ◌≤◌, ◌<◌}
use mathlib.Core.List.{List, [], ◌∷◌}
use mathlib.Core.Option.{Option, none, some}
use mathlib.Core.Bool.{true, false}
use mathlib.Core.Path.{◌≡◌, refl, sym, ap, ◌∙◌, subst}
use native.Mathlib.Numerals.{add-one}
use native.Mathlib.Omega.{arith}
use lib.ListN.{length, get_or, drop, drop_of_length-le}
use lib.Seq.{drop-cons}
use borrow.Author.Tests.{eq-eqb, ne_eqb}
use Rattle.paper.specs.Bytes.{same}
use Rattle.paper.specs.Form.{Element, Elements, []ᵉ, ◌∷ᵉ◌}
use Rattle.paper.specs.Rows.{head_of, name}
use Rattle.paper.specs.Payments.{listed, children, all_named, all_of, child, follow}
use Rattle.paper.proofs.Laws.{follow_one}
use Rattle.form_names.specs.Names.{name_number, is_sought}
use Rattle.tree.specs.Laid.{Laid, LaidAll, laid_text, laid_elements, laid_none, laid_more}
use Rattle.tree.proofs.Laws.{Cell, named, next_cell, entry_of}
use Rattle.tree_routes.specs.Finds.{Finds, found_at, found_nothing, Next, no_more, one_more, rows_in, onward}
use Rattle.std.specs.Prelude.{Some, None}

-- one element of several, by its name
module _ (k : ℕ) (t : Element) (ts : Elements) where
  pub all_takes : same (head_of t).name (name k) ≡ true → all_named k (listed (t ∷ᵉ ts)) ≡ t ∷ all_named k (listed ts)
  unfolding all_named listed
  all_takes e = rw e

  pub all_passes : same (head_of t).name (name k) ≡ false → all_named k (listed (t ∷ᵉ ts)) ≡ all_named k (listed ts)
  unfolding all_named listed
  all_passes e = rw e

pub all_ends : (k : ℕ) → all_named k (listed []ᵉ) ≡ []
unfolding all_named listed
all_ends k = refl

-- the first of those of a row's name is the child of that row
module _ (k : ℕ) (t : Element) where
  pub child_none : all_of k t ≡ [] → child k t ≡ none
  unfolding child
  child_none e = rw (child, e)

  pub child_first : {u : Element} {us : List Element} → all_of k t ≡ u ∷ us → child k t ≡ some u
  unfolding child
  child_first e = rw (child, e)

-- Elements laid out one after the other, some passed over: these are left, and of the row's name there are as many among them.
pub record Left (s tree : List ℕ) (k : ℕ) (ts : List Element) (i stop : ℕ) : Type 0 where
  pub left : Elements
  pub laid : LaidAll s tree left i stop
  pub as_many : all_named k ts ≡ all_named k (listed left)

module _ {s tree : List ℕ} where
  pub goes_on : {ts : Elements} {i stop : ℕ} → LaidAll s tree ts i stop → i ≤ stop
  goes_on (laid_none e) = omega arith
  goes_on (laid_more l all) = omega (arith, (entry_of l).numbers.after_it, goes_on all)

  module _ {k : ℕ} {ts : List Element} {i stop : ℕ} where
    -- the element at i has another name, or this one
    module _ {r number : ℕ} (y : is_sought k ≡ true) (n : number ≡ name_number (name k)) (h : i < stop) (c : Cell tree i 1 r) where
      pub passed : (r ≡ number → ⊥) → {next : ℕ} → Cell tree i 4 next → Left s tree k ts i stop → Left s tree k ts next stop
      passed d {next} f l = go l.laid l.as_many
        where
          go : {us : Elements} → LaidAll s tree us i stop → all_named k ts ≡ all_named k (listed us) → Left s tree k ts next stop
          go (laid_none p) q = absurd (omega arith)
          go (laid_more {t} {ts = us} one all) q =
              let x : same (head_of t).name (name k) ≡ false = sym (named (entry_of one) k y c n) ∙ ne_eqb r number d in
              record {
                left = us;
                laid = subst (λ (m : ℕ). LaidAll s tree us m stop) (sym (next_cell (entry_of one) f)) all;
                as_many = q ∙ all_passes k t us x;
              }

      pub stands : r ≡ number → Left s tree k ts i stop → Next s tree k (all_named k ts) i stop
      stands e l = go l.laid l.as_many
        where
          go : {us : Elements} → LaidAll s tree us i stop → all_named k ts ≡ all_named k (listed us) → Next s tree k (all_named k ts) i stop
          go (laid_none p) q = absurd (omega arith)
          go (laid_more {t} {ts = us} one all) q =
              let x : same (head_of t).name (name k) ≡ true = sym (named (entry_of one) k y c n) ∙ eq-eqb r number e in
              let z : all_named k ts ≡ t ∷ all_named k (listed us) = q ∙ all_takes k t us x in
              subst (λ (l : List Element). Next s tree k l i stop) (sym z) (one_more h one all)

    pub none_left : stop ≤ i → Left s tree k ts i stop → Next s tree k (all_named k ts) i stop
    none_left h l = go l.laid l.as_many
      where
        go : {us : Elements} → LaidAll s tree us i stop → all_named k ts ≡ all_named k (listed us) → Next s tree k (all_named k ts) i stop
        go (laid_none p) q = subst (λ (l : List Element). Next s tree k l i stop) (sym (q ∙ all_ends k)) (no_more p)
        go (laid_more one all) q = absurd (omega (arith, (entry_of one).numbers.after_it, goes_on all))

  -- an element ends after it begins
  pub stuck : {A : Type 0} {ts : Elements} {i stop next : ℕ} → i < stop → Cell tree i 4 next → next ≤ i → LaidAll s tree ts i stop → A
  stuck h c b (laid_none p) = absurd (omega arith)
  stuck h c b (laid_more one all) = absurd (omega (arith, (entry_of one).numbers.after_it, next_cell (entry_of one) c))

-- the children of an element are laid out after it
pub record Inside (s tree : List ℕ) (t : Element) (i next : ℕ) : Type 0 where
  pub inner : Elements
  pub inner_are : children t ≡ listed inner
  pub inner_laid : LaidAll s tree inner (i + 1) next

pub inside : {s tree : List ℕ} {t : Element} {i next : ℕ} → Laid s tree t i next → Inside s tree t i next
unfolding children listed
inside (laid_text e n w) = record { inner = []ᵉ; inner_are = refl; inner_laid = laid_none (sym n) }
inside (laid_elements {ts = ts} e n all) = record { inner = ts; inner_are = refl; inner_laid = all }

pub all_inside : {s tree : List ℕ} {t : Element} {i next : ℕ} (k : ℕ) (l : Inside s tree t i next) → all_of k t ≡ all_named k (listed l.inner)
unfolding all_of
all_inside k l = ap (all_named k) l.inner_are

module _ {s tree : List ℕ} {t : Element} {i next stop : ℕ} (l : Laid s tree t i next) (c : Cell tree i 4 stop) where
  pub ends_at : stop ≡ next
  ends_at = next_cell (entry_of l) c

  pub ends_after : {A : Type 0} → stop ≤ i → A
  ends_after h = absurd (omega (arith, ends_at, (entry_of l).numbers.after_it))

  pub laid_inside : LaidAll s tree (inside l).inner (i + 1) stop
  laid_inside = subst (λ (m : ℕ). LaidAll s tree (inside l).inner (i + 1) m) (sym ends_at) (inside l).inner_laid

  pub first_inside : {k r : ℕ} → ((ts : Elements) → LaidAll s tree ts (i + 1) stop → Next s tree k (all_named k (listed ts)) r stop)
      → Next s tree k (all_of k t) r next
  first_inside {k} {r} f =
      let y : Next s tree k (all_named k (listed (inside l).inner)) r next =
      subst (λ (m : ℕ). Next s tree k (all_named k (listed (inside l).inner)) r m) ends_at (f (inside l).inner laid_inside) in
      subst (λ (us : List Element). Next s tree k us r next) (sym (all_inside k (inside l))) y

-- of what follows an element, the first of a row's name
pub next_after : {s tree : List ℕ} {k : ℕ} {t : Element} {ts : Elements} {i next stop r after : ℕ} → Laid s tree t i next → LaidAll s tree ts next stop
    → Cell tree i 4 after → ((us : Elements) → LaidAll s tree us after stop → Next s tree k (all_named k (listed us)) r stop)
    → Next s tree k (all_named k (listed ts)) r stop
next_after {s} {tree} {ts = ts} {stop = stop} l all c f = f ts (subst (λ (m : ℕ). LaidAll s tree ts m stop) (sym (ends_at l c)) all)

-- the first of those of a row's name, where one is left and where none is
pub record First (s tree : List ℕ) (k : ℕ) (ts : List Element) (i stop : ℕ) : Type 0 where
  pub one : Element
  pub one_next : ℕ
  pub one_laid : Laid s tree one i one_next
  pub later : Elements
  pub later_laid : LaidAll s tree later one_next stop
  pub first_is : ts ≡ one ∷ all_named k (listed later)

module _ {s tree : List ℕ} {k i stop : ℕ} where
  pub next_one : {ts : List Element} → Next s tree k ts i stop → i < stop → First s tree k ts i stop
  next_one (no_more e) h = absurd (omega arith)
  next_one (one_more {t} {ts} {next = next} b l all) h =
      record { one = t; one_next = next; one_laid = l; later = ts; later_laid = all; first_is = refl }

  pub next_none : {ts : List Element} → Next s tree k ts i stop → stop ≤ i → ts ≡ []
  next_none (no_more e) h = refl
  next_none (one_more b l all) h = absurd (omega arith)

  pub finds_none : (t : Element) → Next s tree k (all_of k t) i stop → stop ≤ i → Finds s tree (child k t) None
  finds_none t n h = rw (child_none k t (next_none n h)) found_nothing

  pub finds_one : (t : Element) → Next s tree k (all_of k t) i stop → i < stop → Finds s tree (child k t) (Some i)
  finds_one t n h =
      let f = next_one n h in
      rw (child_first k t f.first_is) (found_at (record { next = f.one_next; laid = f.one_laid }))

-- a route followed from an element that may be absent, no row, and one row before others
pub onward_none : (route : List ℕ) → onward route none ≡ none
unfolding onward
onward_none route = refl

pub onward_some : (route : List ℕ) (t : Element) → onward route (some t) ≡ follow route t
unfolding onward
onward_some route t = refl

pub follow_here : (t : Element) → follow [] t ≡ some t
unfolding follow
follow_here t = refl

pub follow_step : (k : ℕ) (ks : List ℕ) (t : Element) → follow (k ∷ ks) t ≡ onward ks (child k t)
unfolding follow onward
follow_step k ks t = go (child k t)
  where
    go : (o : Option Element) → ◌≡◌ {A = Option Element} (elim o [ none ↦ none | some u ↦ follow ks u ]) (onward ks o)
    go none = refl
    go (some u) = refl

pub onward_step : (k : ℕ) (ks : List ℕ) (o : Option Element) → onward (k ∷ ks) o ≡ onward ks (onward (k ∷ []) o)
onward_step k ks none = onward_none (k ∷ ks) ∙ sym (ap (onward ks) (onward_none (k ∷ [])) ∙ onward_none ks)
onward_step k ks (some t) =
    onward_some (k ∷ ks) t ∙ (follow_step k ks t ∙ sym (ap (onward ks) (onward_some (k ∷ []) t ∙ follow_one k t)))

-- the rows of a route from a number on
module _ (route : List ℕ) (j : ℕ) where
  pub rows_go_on : j < length route → (get_or route j 0 ≡ 0 → ⊥) → rows_in (drop j route) ≡ get_or route j 0 ∷ rows_in (drop (j + 1) route)
  unfolding rows_in
  rows_go_on h n = rw (drop-cons route j 0 h, add-one j, ne_eqb (get_or route j 0) 0 n)

  pub rows_stop : j < length route → get_or route j 0 ≡ 0 → rows_in (drop j route) ≡ []
  unfolding rows_in
  rows_stop h e = rw (drop-cons route j 0 h, eq-eqb (get_or route j 0) 0 e)

  pub rows_end : length route ≤ j → rows_in (drop j route) ≡ []
  unfolding rows_in
  rows_end h = rw (drop_of_length-le route h)
