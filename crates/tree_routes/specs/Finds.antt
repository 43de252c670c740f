-- Where an element stands in the laid-out tree, found by rows.
use Rattle.std.specs.Prelude.{ℕ, ◌<◌, List, [], ◌∷◌, true, ◌≡◌, get_or, eqb, if◌then◌else◌, Some, None}
use Rattle.std.specs.Prelude as code
use Rattle.std.proofs.Math.Option.{Option, none, some}
use Rattle.paper.specs.Form.{Element, Elements}
use Rattle.paper.specs.Rows.{name}
use Rattle.paper.specs.Payments.{listed, all_named, child, follow}
use Rattle.form_names.specs.Names.{name_number, is_sought}
use Rattle.tree.specs.Laid.{Laid, LaidAll, LaidAt}

-- An element that may be absent: where it stands in the tree, or nothing.
pub data Finds (s tree : List ℕ) : Option Element → code.Option ℕ → Type 0 where
  found_at : {t : Element} {i : ℕ} → LaidAt s tree i t → Finds s tree (some t) (Some i)
  found_nothing : Finds s tree none None

-- Those named as row k among elements that are laid out up to `stop`: none is left, or the first stands at i, and more elements are laid out after it.
pub data Next (s tree : List ℕ) (k : ℕ) : List Element → (i stop : ℕ) → Type 0 where
  no_more : {i stop : ℕ} → i ≡ stop → Next s tree k [] i stop
  one_more : {t : Element} {ts : Elements} {i next stop : ℕ} → i < stop → Laid s tree t i next → LaidAll s tree ts next stop
      → Next s tree k (t ∷ all_named k (listed ts)) i stop

-- the rows of a route, which ends before its first 0; and the route followed from an element that may be absent
unfoldable pub rows_in : List ℕ → List ℕ
rows_in [] = []
rows_in (k ∷ ks) = if eqb k 0 then [] else k ∷ rows_in ks

unfoldable pub onward : (route : List ℕ) → Option Element → Option Element
onward route none = none
onward route (some t) = follow route t

-- These are the first children of each name of an element.
pub record ByName (s tree : List ℕ) (t : Element) (children : List (code.Option ℕ)) : Type 0 where
  pub finds : (k : ℕ) → is_sought k ≡ true → Finds s tree (child k t) (get_or children (name_number (name k)) None)

-- These are the first children of each name of whatever element is laid out at i.
abbrev pub ChildrenOf : (tree : List ℕ) (i : ℕ) (children : List (code.Option ℕ)) → Type 0
ChildrenOf tree i children = (s : List ℕ) (t : Element) → LaidAt s tree i t → ByName s tree t children
