-- What is read from an entry of the tree; the numbers of the rows' names.
use Rattle.std.specs.Prelude.{if◌then◌else◌}
use Prim.Native.Nat.{ℕ, ◌<◌}
use mathlib.Core.List.{List}
use mathlib.Core.Bool.{Bool, true, ◌&&◌, not}
use mathlib.Core.Path.{◌≡◌, refl, sym, ap, ◌∙◌}
use native.Mathlib.Omega.{arith}
use lib.Dec.{eqb, leb}
use borrow.Author.Tests.{eqb-true, eqb-false, ne_eqb, not-true}
use Rattle.paper.specs.Bytes.{bytes, same}
use Rattle.paper.specs.Form.{Head, Element}
use Rattle.paper.specs.Rows.{leaf, group, group_under, rows, instant_changes, every_row, name_in, name, head_of}
use Rattle.form_names.specs.Names.{number_in, name_number, is_row, is_sought}
use Rattle.paper.proofs.Laws.{both_left, both_right}
use Rattle.form_names.proofs.Laws.{each_number, row_says, same_number}
use Rattle.tree.specs.Laid.{cell_of, Entry, Laid, laid_text, laid_elements, LaidAt}

-- a row that is looked for is a row, and not row 57
pub sought_row : (k : ℕ) → is_sought k ≡ true → is_row k ≡ true
unfolding is_sought is_row
sought_row k y = both_left (leb 1 k && leb k 58) (not (eqb k 57)) y

pub not_57 : (k : ℕ) → is_sought k ≡ true → k ≡ 57 → ⊥
unfolding is_sought
not_57 k y = eqb-false k 57 (not-true (eqb k 57) (both_right (leb 1 k && leb k 58) (not (eqb k 57)) y))

-- a number of the entry, as `cell` answers it
abbrev pub Cell : (tree : List ℕ) (i k r : ℕ) → Type 0
Cell tree i k r = i < 4700 → k < 6 → r ≡ cell_of tree i k

module _ {s tree : List ℕ} {i next : ℕ} {h : Head} (e : Entry s tree i h next) where
  pub few_enough : i < 4700
  few_enough = omega (arith, e.numbers.few, e.numbers.after_it)

  pub at_cell : {r : ℕ} → Cell tree i 0 r → r ≡ h.at
  at_cell c = c few_enough (omega arith) ∙ e.numbers.at_is

  pub name_cell : {r : ℕ} → Cell tree i 1 r → r ≡ name_number h.name
  name_cell c = c few_enough (omega arith) ∙ e.numbers.name_is

  pub start_cell : {r : ℕ} → Cell tree i 2 r → r ≡ h.start
  start_cell c = c few_enough (omega arith) ∙ e.numbers.start_is

  pub close_cell : {r : ℕ} → Cell tree i 3 r → r ≡ h.close
  close_cell c = c few_enough (omega arith) ∙ e.numbers.close_is

  pub next_cell : {r : ℕ} → Cell tree i 4 r → r ≡ next
  next_cell c = c few_enough (omega arith) ∙ e.numbers.next_is

  pub known_cell : {r : ℕ} → Cell tree i 5 r → r ≡ cell_of tree i 5
  known_cell c = c few_enough (omega arith)

  -- the name, compared by its number with that of a row's name
  pub named : {r n : ℕ} (k : ℕ) → is_sought k ≡ true → Cell tree i 1 r → n ≡ name_number (name k) → eqb r n ≡ same h.name (name k)
  named {n} k y c f = ap (λ z. eqb z n) (name_cell c) ∙ (ap (λ z. eqb (name_number h.name) z) f ∙ same_number h.name k (sought_row k y))

-- an element that is laid out has its head's entry
pub entry_of : {s tree : List ℕ} {t : Element} {i next : ℕ} → Laid s tree t i next → Entry s tree i (head_of t) next
unfolding head_of
entry_of (laid_text e n w) = e
entry_of (laid_elements e n all) = e

pub entry_at : {s tree : List ℕ} {t : Element} {i : ℕ} (l : LaidAt s tree i t) → Entry s tree i (head_of t) l.next
entry_at l = entry_of l.laid

-- No element is laid out behind the last.
pub none_behind : {s tree : List ℕ} {t : Element} → LaidAt s tree 4700 t → ⊥
none_behind l = let f = few_enough (entry_at l) in omega (arith, f)

-- The rows whose names earlier rows have; every other row is the first of its name.
unfoldable later : ℕ → Bool
later k = if eqb k 14 then true else if eqb k 15 then true else if eqb k 21 then true else if eqb k 25 then true else if eqb k 33 then true else if eqb k 35 then true else eqb k 57

unfoldable first_or_later : ℕ → Bool
first_or_later k = if later k then true else eqb k (name_number (name k))

firsts : each_number first_or_later 58 1 ≡ true
unfolding each_number first_or_later later name_number number_in name rows instant_changes every_row group same name_in bytes leaf group_under
firsts = refl

module _ (k : ℕ) (a : k ≡ 14 → ⊥) (b : k ≡ 15 → ⊥) (c : k ≡ 21 → ⊥) (d : k ≡ 25 → ⊥) (e : k ≡ 33 → ⊥) (f : k ≡ 35 → ⊥) (g : k ≡ 57 → ⊥) where
  not_later : first_or_later k ≡ eqb k (name_number (name k))
  unfolding first_or_later later
  not_later = rw (ne_eqb k 14 a, ne_eqb k 15 b, ne_eqb k 21 c, ne_eqb k 25 d, ne_eqb k 33 e, ne_eqb k 35 f, ne_eqb k 57 g)

  pub its_own : is_row k ≡ true → k ≡ name_number (name k)
  its_own r = eqb-true k (name_number (name k)) (sym not_later ∙ row_says first_or_later firsts k r)

-- the others
module _ where
  pub row_14 : 6 ≡ name_number (name 14)
  unfolding name_number number_in name rows instant_changes every_row group same name_in bytes leaf group_under
  row_14 = refl

  pub row_15 : 7 ≡ name_number (name 15)
  unfolding name_number number_in name rows instant_changes every_row group same name_in bytes leaf group_under
  row_15 = refl

  pub row_21 : 19 ≡ name_number (name 21)
  unfolding name_number number_in name rows instant_changes every_row group same name_in bytes leaf group_under
  row_21 = refl

  pub row_25 : 9 ≡ name_number (name 25)
  unfolding name_number number_in name rows instant_changes every_row group same name_in bytes leaf group_under
  row_25 = refl

  pub row_33 : 27 ≡ name_number (name 33)
  unfolding name_number number_in name rows instant_changes every_row group same name_in bytes leaf group_under
  row_33 = refl

  pub row_35 : 9 ≡ name_number (name 35)
  unfolding name_number number_in name rows instant_changes every_row group same name_in bytes leaf group_under
  row_35 = refl
