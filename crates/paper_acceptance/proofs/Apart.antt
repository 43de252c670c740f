-- In no group of a profile have two rows one name: one computed test over its rows.
use Rattle.std.specs.Prelude.{if◌then◌else◌}
use Prim.Native.Nat.{ℕ}
use mathlib.Core.List.{List, [], ◌∷◌}
use mathlib.Core.Bool.{Bool, true, false, ◌&&◌, ◌||◌, not}
use mathlib.Core.Path.{◌≡◌, sym, ap, ◌∙◌}
use lib.Dec.{eqb}
use borrow.Author.Tests.{not-true}
use Rattle.paper.specs.Bytes.{same}
use Rattle.paper.specs.Rows.{Contents, text, elements, Row, Profile, name, row_in, row_of}
use Rattle.paper.specs.Accepted.{All, all_none, all_more}
use Rattle.paper.proofs.Laws.{false_not_true, both_left, both_right, same_tests}
use Rattle.paper_acceptance.proofs.Arranged.{rows_of, Apart, apart_none, apart_more}
use Rattle.paper_acceptance.proofs.Rows.{RowsApart}

-- a row's name is unlike those of some rows; those of some rows are unlike each other
unfoldable pub unlike : ℕ → List ℕ → Bool
unlike k [] = true
unlike k (j ∷ ks) = not (same (name k) (name j)) && unlike k ks

unfoldable pub all_unlike : List ℕ → Bool
all_unlike [] = true
all_unlike (k ∷ ks) = unlike k ks && all_unlike ks

pub unlike_says : (k : ℕ) (ks : List ℕ) → unlike k ks ≡ true → All (λ j. name k ≡ name j → ⊥) ks
unfolding unlike
unlike_says k [] e = all_none
unlike_says k (j ∷ ks) e = all_more (differ (not-true alike (both_left (not alike) _ e))) (unlike_says k ks (both_right (not alike) _ e))
  where
    alike : Bool
    alike = same (name k) (name j)

    differ : same (name k) (name j) ≡ false → name k ≡ name j → ⊥
    differ f g = false_not_true (sym f ∙ ap (λ (n : List ℕ). same (name k) n) (sym g) ∙ same_tests _)

all_unlike_says : (ks : List ℕ) → all_unlike ks ≡ true → Apart ks
unfolding all_unlike
all_unlike_says [] e = apart_none
all_unlike_says (k ∷ ks) e = apart_more (unlike_says k ks (both_left (unlike k ks) _ e)) (all_unlike_says ks (both_right (unlike k ks) _ e))

unfoldable pub test_holds : Contents → Bool
test_holds (text longest) = true
test_holds (elements places) = all_unlike (rows_of places)

unfoldable pub test_rows : List Row → Bool
test_rows [] = true
test_rows (r ∷ rs) = test_holds r.holds && test_rows rs

holds_apart : (holds : Contents) → test_holds holds ≡ true → elim holds as (λ _. Type 0) [ text longest ↦ Unit {0} | elements places ↦ Apart (rows_of places) ]
unfolding test_holds
holds_apart (text longest) e = tt
holds_apart (elements places) e = all_unlike_says (rows_of places) e

rows_in_apart : (rs : List Row) (parent k : ℕ) → test_rows rs ≡ true → RowsApart (row_in rs parent k)
unfolding row_in test_rows RowsApart
rows_in_apart [] parent k e = tt
rows_in_apart (r ∷ rs) parent k e =
    go (eqb r.row k && (eqb r.under 0 || eqb r.under parent)) (rows_in_apart rs parent k (both_right (test_holds r.holds) _ e))
  where
    go : (t : Bool) → RowsApart (row_in rs parent k) → RowsApart (if t then r else row_in rs parent k)
    go true below = holds_apart r.holds (both_left (test_holds r.holds) _ e)
    go false below = below

pub tested_apart : (profile : Profile) → test_rows profile.rows ≡ true → (parent k : ℕ) → RowsApart (row_of profile parent k)
unfolding row_of
tested_apart profile e parent k = rows_in_apart profile.rows parent k e
