-- Laws that the proofs of the leaf cite.
use Rattle.std.specs.Prelude.{Ok, Err}
use Prim.Native.Nat.{ℕ, ◌<◌, ◌≤◌}
use mathlib.Core.Path.{◌≡◌, refl}
use mathlib.Core.List.{List, [], ◌∷◌}
use mathlib.Core.Bool.{Bool, true, false}
use native.Mathlib.Omega.{arith}
use lib.ListN.{length}
use borrow.Author.Tests.{le-leb, lt-leb, ne_eqb}
use Rattle.paper.specs.Bytes.{is, Every, every_none, every_more, every, value_character}
use Rattle.paper.specs.Values.{among, lies_from, right_for, spaces_alone, allowed}
use Rattle.paper.specs.Refusals.{first_not, text_refusal}
use Rattle.leaf_texts.proofs.Laws.{one_first}
use Rattle.leaf_values.specs.Judgements.{told, Judges}
use Rattle.leaf_values.specs.declared.Unfit.TheVariants.{EmptyOrTooLong, NotInTheSet, NotAllowed}

-- where every byte is of a kind, none is the first that is not
pub all_first : {p : ℕ → Bool} {w : List ℕ} → Every p w → length w ≡ first_not p w
unfolding first_not
all_first every_none = refl
all_first (every_more e h) = rw (e, all_first h)

module _ (parent row longest : ℕ) (currency w : List ℕ) where
  pub empty_judges : length w < 1 → Judges parent row longest currency w (Err EmptyOrTooLong)
  unfolding text_refusal lies_from told
  empty_judges k = record { judged = λ r h e f g. rw (e, lt-leb 1 (length w) k) }

  pub long_judges : longest < length w → Judges parent row longest currency w (Err EmptyOrTooLong)
  unfolding text_refusal lies_from told
  long_judges k = record { judged = λ r h e f g. rw (e, f, le-leb 1 (length w) (omega arith), lt-leb (length w) longest k) }

  module _ (low : 1 ≤ length w) (high : length w ≤ longest) where
    pub outside_judges : (i : ℕ) → i ≡ first_not value_character w → i < length w → Judges parent row longest currency w (Err (NotInTheSet i))
    unfolding text_refusal lies_from told
    outside_judges i q k =
        record {
          judged = λ r h e f g.
              rw (e, f, le-leb 1 (length w) low, le-leb (length w) longest high, one_first value_character w (omega arith), ← q);
        }

    module _ (inside : every value_character w ≡ true) where
      pub spaces_judges : every (is " ") w ≡ true → Judges parent row longest currency w (Err NotAllowed)
      unfolding text_refusal lies_from told allowed spaces_alone
      spaces_judges s =
          record { judged = λ r h e f g. rw (e, f, le-leb 1 (length w) low, le-leb (length w) longest high, inside, s) }

      pub not_allowed_judges :
          every (is " ") w ≡ false → right_for parent row currency w ≡ false → Judges parent row longest currency w (Err NotAllowed)
      unfolding text_refusal lies_from told allowed spaces_alone
      not_allowed_judges s a =
          record { judged = λ r h e f g. rw (e, f, g, le-leb 1 (length w) low, le-leb (length w) longest high, inside, s, a) }

      pub fine_judges :
          every (is " ") w ≡ false → right_for parent row currency w ≡ true → Judges parent row longest currency w (Ok tt)
      unfolding text_refusal lies_from told allowed spaces_alone
      fine_judges s a =
          record { judged = λ r h e f g. rw (e, f, g, le-leb 1 (length w) low, le-leb (length w) longest high, inside, s, a) }

-- a row that has no rule of its own
pub free :
    (parent row : ℕ) (currency w : List ℕ) → (row ≡ 4 → ⊥) → (row ≡ 11 → ⊥) → (row ≡ 39 → ⊥) → (row ≡ 40 → ⊥) → (row ≡ 12 → ⊥) → (row ≡ 13 → ⊥) → (row ≡ 17 → ⊥) → (row ≡ 19 → ⊥) → (row ≡ 33 → ⊥) → (row ≡ 36 → ⊥) → (row ≡ 21 → ⊥) → (row ≡ 23 → ⊥) → (row ≡ 5 → ⊥) → (row ≡ 57 → ⊥) → (row ≡ 58 → ⊥) → (row ≡ 6 → ⊥) → (row ≡ 14 → ⊥) → (row ≡ 7 → ⊥) → (row ≡ 15 → ⊥) → (row ≡ 42 → ⊥) → (row ≡ 31 → ⊥) → (row ≡ 28 → ⊥) →
    right_for parent row currency w ≡ among row (9 ∷ 25 ∷ 35 ∷ 49 ∷ 54 ∷ 55 ∷ [])
unfolding right_for among
free parent row currency w n4 n11 n39 n40 n12 n13 n17 n19 n33 n36 n21 n23 n5 n57 n58 n6 n14 n7 n15 n42 n31 n28 =
    rw (ne_eqb row 4 n4, ne_eqb row 11 n11, ne_eqb row 39 n39, ne_eqb row 40 n40, ne_eqb row 12 n12, ne_eqb row 13 n13, ne_eqb row 17 n17, ne_eqb row 19 n19, ne_eqb row 33 n33, ne_eqb row 36 n36, ne_eqb row 21 n21, ne_eqb row 23 n23, ne_eqb row 5 n5, ne_eqb row 57 n57, ne_eqb row 58 n58, ne_eqb row 6 n6, ne_eqb row 14 n14, ne_eqb row 7 n7, ne_eqb row 15 n15, ne_eqb row 42 n42, ne_eqb row 31 n31, ne_eqb row 28 n28)
