-- The number of a name, and when two names have one number; the table compared with a name.
use Rattle.std.specs.Prelude.{if◌then◌else◌}
use Prim.Native.Nat.{ℕ, zero, suc, ◌+◌, ◌*◌, ◌-◌, ◌%◌, ◌≤◌, ◌<◌}
use mathlib.Core.List.{List, [], ◌∷◌}
use mathlib.Core.Bool.{Bool, true, false, ◌&&◌, not, false≢true}
use mathlib.Core.Path.{◌≡◌, refl, sym, ap, ◌∙◌}
use native.Mathlib.Omega.{arith}
use lib.ListN.{length, get_or, take, drop}
use lib.Dec.{eqb, leb}
use borrow.Author.Tests.{lt-ltb, le-ltb, eqb-true, eqb-false, leb-true, le-leb}
use borrow.Rule.Slice.PartMut.{mid_of}
use Rattle.std.specs.Cmp.Lexicographic.{pointwise}
use Rattle.leaf_texts.proofs.Laws.{same_is}
use Rattle.paper.specs.Bytes.{bytes, same}
use Rattle.paper.specs.Rows.{Row, leaf, group, group_under, rows, instant_changes, every_row, name_in, name}
use Rattle.paper.proofs.Laws.{both_left, both_right, same_says, same_tests}
use Rattle.form_names.specs.Names.{number_in, name_number, is_row, slot_of, length_in, number_of, name_of, NamesAre}

-- A part of the table, compared with a name by `!=`.
not_not : (b : Bool) → not (not b) ≡ b
not_not true = refl
not_not false = refl

pub compared : (table w : List ℕ) (a : ℕ) {r : Bool} → r ≡ not (pointwise eqb (mid_of a (a + length w - a) table) w)
    → not r ≡ same (take (length w) (drop a table)) w
compared table w a {r} e =
    let z : a + length w - a ≡ length w = omega arith in
    let f = rw z at e in
    ap not f ∙ (not_not _ ∙ sym (same_is (take (length w) (drop a table)) w))

-- The slot of a name of less than six bytes, and of one of more.
module _ (w : List ℕ) {a b : ℕ} where
  pub slot_short : length w < 6 → a ≡ get_or w 0 0 → b ≡ get_or w (length w - 1) 0 → (5 * length w + 4 * a + 49 * b) % 128 ≡ slot_of w
  unfolding slot_of
  slot_short h e f = rw (e, f, lt-ltb (length w) 6 h)

  pub slot_long : 6 ≤ length w → a ≡ get_or w 0 0 → b ≡ get_or w 5 0 → (5 * length w + 4 * a + 49 * b) % 128 ≡ slot_of w
  unfolding slot_of
  slot_long h e f = rw (e, f, le-ltb (length w) 6 h)

-- A test of every row of a list, and of every number from one on.
unfoldable pub each_row : (Row → Bool) → List Row → Bool
each_row p [] = true
each_row p (r ∷ rs) = p r && each_row p rs

-- what a row's number and name must be: a row's, and that row's
unfoldable pub named_right : Row → Bool
named_right r = is_row r.row && same (name r.row) r.name

-- A name has number 0, or is that row's whose number it has.
pub data Numbered (w : List ℕ) : ℕ → Type 0 where
  of_no_row : Numbered w 0
  of_row : {k : ℕ} → is_row k ≡ true → w ≡ name k → Numbered w k

numbered_in : (rs : List Row) → each_row named_right rs ≡ true → (w : List ℕ) → Numbered w (number_in rs w)
unfolding each_row number_in
numbered_in [] t w = of_no_row
numbered_in (r ∷ rs) t w = go (same r.name w) refl (numbered_in rs (both_right (named_right r) (each_row named_right rs) t) w)
  where
    go : (b : Bool) → same r.name w ≡ b → Numbered w (number_in rs w) → Numbered w (if b then r.row else number_in rs w)
    go true e ih =
        let n = both_left (named_right r) (each_row named_right rs) t in
        let n' : (is_row r.row && same (name r.row) r.name) ≡ true = unfold named_right in n in
        of_row (both_left (is_row r.row) _ n') (sym (same_says r.name w e) ∙ sym (same_says (name r.row) r.name (both_right (is_row r.row) _ n')))
    go false e ih = ih

-- each row of both profiles has the name that its number has
pub rows_right : each_row named_right every_row ≡ true
unfolding each_row named_right is_row name rows instant_changes every_row group same name_in bytes leaf group_under
rows_right = refl

pub numbered : (w : List ℕ) → Numbered w (name_number w)
unfolding name_number
numbered w = numbered_in every_row rows_right w

-- The name of a row has a number that is a row's.
numbered_row : (w : List ℕ) (n : ℕ) → Numbered w n → (n ≡ 0 → ⊥) → w ≡ name n
numbered_row w zero of_no_row h = absurd (h refl)
numbered_row w n (of_row r e) h = e

-- A test of every row's number.
unfoldable pub each_number : (ℕ → Bool) → (so_many from : ℕ) → Bool
each_number p zero k = true
each_number p (suc n) k = p k && each_number p n (suc k)

pub each_says : (p : ℕ → Bool) (n from : ℕ) → each_number p n from ≡ true → (k : ℕ) → from ≤ k → k < from + n → p k ≡ true
unfolding each_number
each_says p zero from t k l h = absurd (omega arith)
each_says p (suc n) from t k l h = go (eqb from k) refl (λ l' h'. each_says p n (suc from) (both_right (p from) (each_number p n (suc from)) t) k l' h')
  where
    go : (b : Bool) → eqb from k ≡ b → (suc from ≤ k → k < suc from + n → p k ≡ true) → p k ≡ true
    go true e ih = ap p (sym (eqb-true from k e)) ∙ both_left (p from) (each_number p n (suc from)) t
    go false e ih = let d = eqb-false from k e in ih (omega (arith, d, l)) (omega (arith, h))

pub row_between : (k : ℕ) → is_row k ≡ true → (1 ≤ k) × (k < 59)
unfolding is_row
row_between k r = let h = leb-true k 58 (both_right (leb 1 k) (leb k 58) r) in (leb-true 1 k (both_left (leb 1 k) (leb k 58) r), omega (arith, h))

pub row_says : (p : ℕ → Bool) → each_number p 58 1 ≡ true → (k : ℕ) → is_row k ≡ true → p k ≡ true
row_says p t k r = let h = row_between k r in each_says p 58 1 t k h.0 (omega (arith, h.1))

-- every name's number is below 59
pub number_below : (w : List ℕ) → name_number w < 59
number_below w = go (name_number w) (numbered w)
  where
    go : (m : ℕ) → Numbered w m → m < 59
    go zero of_no_row = omega arith
    go m (of_row r e) = (row_between m r).1

-- the number of a row's name is not 0, and that row has the same name
numbers_there : each_number (λ k. leb 1 (name_number (name k))) 58 1 ≡ true
unfolding each_number name_number number_in name rows instant_changes every_row group same name_in bytes leaf group_under
numbers_there = refl

pub number_there : (k : ℕ) → is_row k ≡ true → 1 ≤ name_number (name k)
number_there k r = leb-true 1 (name_number (name k)) (row_says (λ k. leb 1 (name_number (name k))) numbers_there k r)

-- Two names are one where they have one number and it is a row's: names are compared by their numbers.
pub same_number : (w : List ℕ) (k : ℕ) → is_row k ≡ true → eqb (name_number w) (name_number (name k)) ≡ same w (name k)
same_number w k r = go (eqb (name_number w) (name_number (name k))) refl (same w (name k)) refl
  where
    go : (a : Bool) → eqb (name_number w) (name_number (name k)) ≡ a → (b : Bool) → same w (name k) ≡ b → a ≡ b
    go true e true f = refl
    go false e false f = refl
    go true e false f =
        let n = eqb-true (name_number w) (name_number (name k)) e in
        let p = number_there k r in
        let u : w ≡ name (name_number w) = numbered_row w (name_number w) (numbered w) (λ z. omega (arith, n, p, z)) in
        let v : name k ≡ name (name_number (name k)) = numbered_row (name k) (name_number (name k)) (numbered (name k)) (λ z. omega (arith, p, z)) in
        let x : w ≡ name k = u ∙ ap name n ∙ sym v in
        sym (same_tests (name k)) ∙ (ap (λ z. same z (name k)) (sym x) ∙ f)
    go false e true f =
        let x = same_says w (name k) f in
        absurd (eqb-false (name_number w) (name_number (name k)) e (ap name_number x))

decided : (b c d : Bool) → b ≡ true → (if b then c else d) ≡ true → c ≡ true
decided true c d e f = f
decided false c d e f = absurd (false≢true e)

-- What a test of the whole table says of it.
unfoldable pub slot_right : List ℕ → ℕ → Bool
slot_right table j = if leb 1 (length_in table j) then eqb (name_number (name_of table j)) (number_of table j) else true

unfoldable pub row_there : List ℕ → ℕ → Bool
row_there table k = eqb (length_in table (slot_of (name k))) (length (name k)) && same (name_of table (slot_of (name k))) (name k)

unfoldable pub table_right : List ℕ → Bool
table_right table = leb 2304 (length table) && (each_number (slot_right table) 128 0 && each_number (row_there table) 58 1)

pub names_are : (table : List ℕ) → table_right table ≡ true → NamesAre table
unfolding table_right row_there slot_right
names_are table t =
    let rest = both_right (leb 2304 (length table)) _ t in
    record {
      long = leb-true 2304 (length table) (both_left (leb 2304 (length table)) _ t);
      right = λ j h l.
          let e = each_says (slot_right table) 128 0 (both_left _ (each_number (row_there table) 58 1) rest) j (omega arith) (omega (arith, h)) in
          let e' : (if leb 1 (length_in table j) then eqb (name_number (name_of table j)) (number_of table j) else true) ≡ true = e in
          eqb-true _ _ (decided (leb 1 (length_in table j)) _ true (le-leb 1 (length_in table j) l) e');
      full = λ k r.
          let e = row_says (row_there table) (both_right (each_number (slot_right table) 128 0) _ rest) k r in
          let e' : (eqb (length_in table (slot_of (name k))) (length (name k)) && same (name_of table (slot_of (name k))) (name k)) ≡ true = e in
          (eqb-true _ _ (both_left _ (same (name_of table (slot_of (name k))) (name k)) e'), same_says _ _ (both_right (eqb (length_in table (slot_of (name k))) (length (name k))) _ e'));
    }

-- A name that does not stand in its slot has number 0.
module _ {table : List ℕ} (n : NamesAre table) (w : List ℕ) where
  pub not_there : (length_in table (slot_of w) ≡ length w → name_of table (slot_of w) ≡ w → ⊥) → 0 ≡ name_number w
  not_there h = go (name_number w) (numbered w)
    where
      go : (m : ℕ) → Numbered w m → 0 ≡ m
      go zero of_no_row = refl
      go m (of_row {k} r e) =
          let f = n.full m r in
          absurd (h (ap (λ z. length_in table (slot_of z)) e ∙ (f.0 ∙ ap length (sym e))) (ap (λ z. name_of table (slot_of z)) e ∙ (f.1 ∙ sym e)))

-- no row's name is longer than sixteen bytes, and none is empty
names_fit : each_number (λ k. leb 1 (length (name k)) && leb (length (name k)) 16) 58 1 ≡ true
unfolding each_number name rows instant_changes every_row group name_in bytes leaf group_under
names_fit = refl

pub not_so_long : (w : List ℕ) → (1 ≤ length w → length w ≤ 16 → ⊥) → 0 ≡ name_number w
not_so_long w h = go (name_number w) (numbered w)
  where
    go : (m : ℕ) → Numbered w m → 0 ≡ m
    go zero of_no_row = refl
    go m (of_row {k} r e) =
        let f = row_says (λ k. leb 1 (length (name k)) && leb (length (name k)) 16) names_fit m r in
        let l = leb-true 1 (length (name m)) (both_left _ (leb (length (name m)) 16) f) in
        let u = leb-true (length (name m)) 16 (both_right (leb 1 (length (name m))) _ f) in
        let z = ap length e in
        absurd (h (omega (arith, l, z)) (omega (arith, u, z)))

-- What its slot says of a name: it has another length, is another name, is this name.
module _ {table : List ℕ} (n : NamesAre table) (w : List ℕ) (j m : ℕ) (e : j ≡ slot_of w) (f : m ≡ length_in table j) where
  pub wrong_length : (m ≡ length w → ⊥) → 0 ≡ name_number w
  wrong_length h = not_there n w (λ l _. h (f ∙ (ap (length_in table) e ∙ l)))

  pub wrong_name : m ≡ length w → false ≡ same (take (length w) (drop (18 * j) table)) w → 0 ≡ name_number w
  wrong_name l h =
      not_there n w
      (λ g x.
      let p : take (length w) (drop (18 * j) table) ≡ w = ap (λ z. take (length w) (drop (18 * z) table)) e ∙ (ap (λ z. take z (drop (18 * slot_of w) table)) (sym g) ∙ x) in
      false≢true (h ∙ (ap (λ z. same z w) p ∙ same_tests w)))

  pub right_name : j < 128 → 1 ≤ length w → m ≡ length w → true ≡ same (take (length w) (drop (18 * j) table)) w → number_of table j ≡ name_number w
  right_name b o l h =
      let x : length_in table j ≡ length w = sym f ∙ l in
      sym (n.right j b (omega (arith, o, x))) ∙ ap name_number (ap (λ z. take z (drop (18 * j) table)) x ∙ same_says _ w (sym h))
