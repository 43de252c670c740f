-- Laws about elements that hold text: in a group, and in a leaf.
use Rattle.std.specs.Prelude.{if◌then◌else◌, Result, Ok, Err, Some, None, MatchOption, position}
use Rattle.std.specs.Prelude as code
use Rattle.std.specs.List.{position_or_len}
use Rattle.std.proofs.lemmas.List.Recursion.{is_position_or_len}
use Prim.Native.Nat.{ℕ, suc, ◌+◌, ◌-◌, ◌<◌, ◌≤◌, min}
use mathlib.Core.List.{List, [], ◌∷◌}
use mathlib.Core.Bool.{Bool, true, false, not, cond}
use mathlib.Core.Option.{Option, none}
use mathlib.Core.Path.{◌≡◌, refl, sym, ap, ◌∙◌}
use native.Mathlib.Omega.{arith}
use lib.Dec.{eqb, ltb}
use lib.ListN.{length, drop, length-take, length-drop}
use borrow.Author.Tests.{eqb-true, eqb-false, ne_eqb, ltb-true, ltb-false}
use Rattle.paper.specs.Bytes.{bytes, white, value_character, Every, every}
use Rattle.paper.specs.Form.{Head}
use Rattle.paper.specs.Rows.{Place, Row, longest_of}
use Rattle.paper.specs.Values.{right_for, lies_from, allowed}
use Rattle.paper.specs.Refusals.{from_here, Refusal, refuse, first_not, ends, only_white, text_refusal}
use Rattle.paper.proofs.Laws.{number_of, offset_of}
use Rattle.leaf_texts.proofs.Laws.{none_first, one_first}
use Rattle.tree.specs.Laid.{between, Entry}
use Rattle.tree.proofs.Laws.{Cell, start_cell, known_cell}
use Rattle.leaf_values.specs.Judgements.{told, Judges}
use Rattle.leaf_values.specs.declared.Unfit.{Unfit}
use Rattle.leaf_values.specs.declared.Unfit.TheVariants.{EmptyOrTooLong, NotInTheSet, NotAllowed}

-- the first byte that is not of a kind lies within the text
first_within : (p : ℕ → Bool) (w : List ℕ) → first_not p w ≤ length w
unfolding first_not
first_within p [] = omega arith
first_within p (b ∷ w) = go (p b) (first_within p w)
  where
    go : (c : Bool) → first_not p w ≤ length w → (if c then suc (first_not p w) else 0) ≤ suc (length w)
    go true h = omega arith
    go false h = omega arith

-- the first byte that is not of a kind, as the library finds it
first_not-len : (p : ℕ → Bool) (w : List ℕ) → first_not p w ≡ position_or_len (λ b. not (p b)) w
unfolding first_not
first_not-len p w = is_position_or_len (first_not p) (λ b. not (p b)) refl (λ b v. step b v (p b)) w
  where
    step : (b : ℕ) (v : List ℕ) (t : Bool) → (if t then suc (first_not p v) else 0) ≡ cond (not t) 0 (1 + first_not p v)
    step b v true = omega arith
    step b v false = refl

pub first_not-position : (p : ℕ → Bool) (w : List ℕ) (r : code.Option ℕ) → r ≡ position (λ b. not (p b)) w
    → MatchOption r (length w ≡ first_not p w) (λ i. (i < length w) × (i ≡ first_not p w))
first_not-position p w r e = rw (e, ← first_not-len p w) (go (ltb (first_not p w) (length w)) refl)
  where
    go : (t : Bool) → ltb (first_not p w) (length w) ≡ t
        → MatchOption (cond t (Some (first_not p w)) None) (length w ≡ first_not p w) (λ i. (i < length w) × (i ≡ first_not p w))
    go true h = (ltb-true _ _ h, refl)
    go false h = omega (arith, ltb-false _ _ h, first_within p w)

-- an offset in the text of an element, so far behind its start
pub offset_in : {s tree : List ℕ} {i next : ℕ} {h : Head} → Entry s tree i h next → {start behind : ℕ} → Cell tree i 2 start → behind ≤ length s
    → length s < 9223372036854775808 → {offset : ℕ} → offset ≡ min (start + behind) 18446744073709551615 → offset ≡ h.start + behind
offset_in entry start_is inside small e = omega (arith, e, start_cell entry start_is, entry.written.start_first, entry.written.close_inside, inside, small)

-- what is known of the text of an element
module _ {s tree : List ℕ} {i next : ℕ} {h : Head} (entry : Entry s tree i h next) {t : List ℕ} (text_is : t ≡ between h.start h.close s) {known : ℕ}
    (known_is : Cell tree i 5 known) where
  pub white_there : known ≡ 1 → Every white t
  white_there k = rw text_is (entry.numbers.white_known (sym (known_cell entry known_is) ∙ k))

  pub values_there : known ≡ 3 → Every value_character t
  values_there k = rw text_is (entry.numbers.values_known (sym (known_cell entry known_is) ∙ k))

-- text in a group
module _ (ps : List Place) (h : Head) (row : ℕ) {t w : List ℕ} (text_is : t ≡ w) where
  pub black_refused : {black row' offset : ℕ} → (black < length t) × (black ≡ first_not white t) → row' ≡ row → offset ≡ h.start + black
      → refuse 3 row' offset ≡ only_white row ps h w
  unfolding only_white
  black_refused k p q =
      let f : first_not white w < length w = rw text_is at (rw k.1 at k.0) in
      rw (p, q, k.1, text_is, one_first white w f)

  pub white_ends : {o : Option Refusal} → length t ≡ first_not white t → o ≡ ends (from_here ps) h.close → o ≡ only_white row ps h w
  unfolding only_white
  white_ends l e =
      let g : length t ≤ first_not white t = omega arith in
      let f : length w ≤ first_not white w = rw text_is at g in
      rw (none_first white w f) e

pub part_within : (from to : ℕ) (s : List ℕ) → length (between from to s) ≤ length s
part_within from to s = omega (arith, length-take (to - from) (drop from s), length-drop from s)

-- a rule that is not row 42's asks for no currency
any_currency : (parent row : ℕ) (c d w : List ℕ) → (row ≡ 42 → ⊥) → allowed parent row c w ≡ allowed parent row d w
unfolding allowed right_for
any_currency parent row c d w n = rw (ne_eqb row 42 n)

leaf_any : (parent : ℕ) (r : Row) (h : Head) (c w : List ℕ) → (r.row ≡ 42 → ⊥)
    → text_refusal parent r h w ≡ text_refusal parent r (record { name = h.name; currency = c; at = h.at; start = h.start; close = h.close }) w
unfolding text_refusal
leaf_any parent r h c w n = rw (any_currency parent r.row h.currency c w n)

-- refusal 7 is at the first character that is not in the set
seven_first : (parent : ℕ) (r : Row) (h : Head) (w : List ℕ) (row k : ℕ) → text_refusal parent r h w ≡ refuse 7 row (h.start + k) → k ≡ first_not value_character w
unfolding text_refusal refuse number_of offset_of
seven_first parent r h w row k e =
    go (not (lies_from 1 (longest_of r.holds) (length w))) (not (every value_character w)) (not (allowed parent r.row h.currency w)) e
  where
    go : (a b c : Bool)
        → (if a then refuse 6 r.row h.at else if b then refuse 7 r.row (h.start + first_not value_character w) else if c then refuse 8 r.row h.at else none)
        ≡ refuse 7 row (h.start + k) → k ≡ first_not value_character w
    go true b c e = absurd (omega (arith, ap number_of e))
    go false true c e = omega (arith, ap offset_of e)
    go false false true e = absurd (omega (arith, ap number_of e))
    go false false false e = absurd (omega (arith, ap number_of e))

pub within_message : (parent row : ℕ) (r : Row) (h : Head) (s : List ℕ) (k : ℕ) → text_refusal parent r h (between h.start h.close s) ≡ told row h (Err (NotInTheSet k))
    → k ≤ length s
unfolding told
within_message parent row r h s k e =
    omega
    (arith, seven_first parent r h (between h.start h.close s) row k e, first_within value_character (between h.start h.close s), part_within h.start h.close s)

-- what is told of a leaf does not look at its currency
told_any : (row : ℕ) (h : Head) (c : List ℕ) (j : Result Unit Unfit)
    → told row (record { name = h.name; currency = c; at = h.at; start = h.start; close = h.close }) j ≡ told row h j
unfolding told
told_any row h c (Ok tt) = refl
told_any row h c (Err EmptyOrTooLong) = refl
told_any row h c (Err (NotInTheSet k)) = refl
told_any row h c (Err NotAllowed) = refl

-- a leaf in the message, judged by its text and, where it is of row 42, its currency
module _ {s tree : List ℕ} {i next parent row longest : ℕ} (r : Row) (h : Head) (entry : Entry s tree i h next) (row_is : r.row ≡ row)
    (longest_is : longest_of r.holds ≡ longest) (named : row ≡ 42 → h.name ≡ bytes "InstdAmt") {c : List ℕ} (currency_is : h.name ≡ bytes "InstdAmt" → c ≡ h.currency) where
  judged_text : (j : Result Unit Unfit) → Judges parent row longest c (between h.start h.close s) j → text_refusal parent r h (between h.start h.close s) ≡ told row h j
  judged_text j d = go (eqb row 42) refl
    where
      go : (b : Bool) → eqb row 42 ≡ b → text_refusal parent r h (between h.start h.close s) ≡ told row h j
      go true q = d.judged r h row_is longest_is (sym (currency_is (named (eqb-true row 42 q))))
      go false q =
          leaf_any parent r h c (between h.start h.close s) (λ f. eqb-false row 42 q (sym row_is ∙ f)) ∙
          d.judged (r) (record { name = h.name; currency = c; at = h.at; start = h.start; close = h.close }) row_is longest_is refl ∙ told_any row h c j

  pub judged_as : {known : ℕ} {t : List ℕ} {j : Result Unit Unfit} → Cell tree i 5 known → t ≡ between h.start h.close s
      → ((known ≡ 3 → Every value_character t) → Judges parent row longest c t j) → text_refusal parent r h (between h.start h.close s) ≡ told row h j
  judged_as {j = j} known_is text_is judges = judged_text j (rw text_is at (judges (values_there entry text_is known_is)))
