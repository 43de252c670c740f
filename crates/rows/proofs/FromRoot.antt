-- What the walk from the root promises, since its numbers stand for the rows of the profile.
use Rattle.std.specs.Prelude.{if◌then◌else◌, Result}
use Prim.Native.Nat.{ℕ, ◌<◌, ◌≤◌}
use mathlib.Core.List.{List, [], ◌∷◌}
use mathlib.Core.Bool.{Bool, true, false}
use mathlib.Core.Option.{none}
use mathlib.Core.Path.{◌≡◌, refl, sym, ap, ◌∙◌}
use native.Mathlib.Omega.{arith}
use Rattle.paper.specs.Form.{Head, Element}
use Rattle.paper.specs.Rows.{Row, Profile, for_new, for_archived, profile_by, row_of}
use Rattle.paper.specs.Values.{among}
use Rattle.paper.specs.Refusals.{Judgement, walk, only_white, no_judgement, value_refusal, rows_refusal, values_refusal}
use Rattle.paper.specs.Answers.{profile_named, refusal_found}
use Rattle.paper.specs.declared.Fault.{Fault}
use Rattle.paper.specs.declared.Profile as named
use Rattle.tree.specs.Laid.{between, Entry}
use Rattle.tree.proofs.Laws.{Cell}
use Rattle.rows_places.specs.Numbers.{of_entry, places_of}
use Rattle.rows_contents.specs.Judged.{withdrawn_by, judgement}
use Rattle.rows_contents.specs.declared.Judging.{Judging}
use Rattle.rows_contents.specs.declared.Judging.TheVariants.{Rows, ArchivedValues, NewValues}
use Rattle.rows_contents.proofs.Judgings.{rows_judged, values_judged, new_values_judged}
use Rattle.rows_profile.specs.Profile.{all_places, entries_of}
use Rattle.rows_standing.proofs.Stands.{rows_stand, first_entry, first_group}
use Rattle.rows.specs.Walk.{refusal_by, JudgesFor, Walks, WalksAll, WalkPromise}
use Rattle.rows.proofs.Walking.{text_in_group, elements_in_group}

-- what is judged in a profile
withdrawn_in : (instant archived : Bool) → ◌≡◌ {A = List ℕ} (if archived then [] else 32 ∷ []) (profile_by instant archived).withdrawn
unfolding profile_by for_new for_archived
withdrawn_in instant true = refl
withdrawn_in instant false = refl

pub judges_values : (p : named.Profile) (j : Judging) → judgement j ≡ value_refusal (if p.archived then [] else 32 ∷ []) → judgement j ≡ value_refusal (profile_named p).withdrawn
unfolding profile_named
judges_values p j e = e ∙ ap value_refusal (withdrawn_in p.instant p.archived)

-- some judging is that of a profile
record Judge (p : named.Profile) (judging : Bool) : Type 0 where
  by : Judging
  judges : JudgesFor p judging by

judge : (p : named.Profile) (judging : Bool) → Judge p judging
judge p false = record { by = Rows; judges = rows_judged }
judge p true = go p.archived refl
  where
    by_values : {b : Bool} (j : Judging) → p.archived ≡ b → judgement j ≡ value_refusal (if b then [] else 32 ∷ []) → judgement j ≡ value_refusal (profile_named p).withdrawn
    by_values j e f = judges_values p j (f ∙ ap (λ (b : Bool). value_refusal (if b then [] else 32 ∷ [])) (sym e))

    go : (b : Bool) → p.archived ≡ b → Judge p true
    go true e = record { by = ArchivedValues; judges = by_values ArchivedValues e values_judged }
    go false e = record { by = NewValues; judges = by_values NewValues e new_values_judged }

from_root : (profile : Profile) (judging : Bool) (root : Element)
    → walk profile (if judging then value_refusal profile.withdrawn else no_judgement) root none 0 (row_of profile 0 1) ≡ refusal_by judging profile root
unfolding refusal_by rows_refusal values_refusal
from_root profile true root = refl
from_root profile false root = refl

-- row 1 is not withdrawn
one_stays : (j : Judging) → among 1 (withdrawn_by j) ≡ false
unfolding among withdrawn_by
one_stays Rows = refl
one_stays ArchivedValues = refl
one_stays NewValues = refl

module _ (profile : named.Profile) (s tree : List ℕ) {rows places : List (List ℕ)} (judging : Bool) (f : Result Unit Fault)
    (p : rows ≡ entries_of profile.instant) (q : places ≡ all_places) where
  one : of_entry rows 0 0 ≡ 1
  one = ap (λ r. of_entry r 0 0) p ∙ first_entry profile.instant

  whole_walk : (j : Judging) → JudgesFor profile judging j → Walks s tree rows places j 0 0 0 f → WalkPromise profile s tree judging f
  whole_walk j judges w root l =
      let walks : Walks s tree (entries_of profile.instant) all_places j 0 0 0 f = rw (p, q) at w in
      let first : of_entry (entries_of profile.instant) 0 0 ≡ 1 = first_entry profile.instant in
      walks (profile_named profile) (rows_stand profile) root l.next l.laid (λ e. absurd (omega (arith, e, first))) none
      ∙ ap (λ (r : Row). walk (profile_named profile) (judgement j) root none 0 r) (rows_stand profile).root_is
      ∙ ap (λ (m : Judgement). walk (profile_named profile) m root none 0 (row_of (profile_named profile) 0 1)) judges
      ∙ from_root (profile_named profile) judging root

  group : of_entry rows 0 3 ≡ 0
  group = ap (λ r. of_entry r 0 3) p ∙ first_group profile.instant

  module _ {following : ℕ} (following_is : Cell tree 0 4 following) where
    stays : (j : Judging) → among (of_entry rows 0 0) (withdrawn_by j) ≡ false
    stays j = rw one (one_stays j)

    pub root_of_text : following ≤ 1
        → ((h : Head) (n : ℕ) → Entry s tree 0 h n → refusal_found f ≡ only_white (of_entry rows 0 0) (places_of rows places 0) h (between h.start h.close s))
        → WalkPromise profile s tree judging f
    root_of_text l w =
        let j = judge profile judging in
        whole_walk j.by j.judges (text_in_group s tree rows places j.by 0 0 0 refl refl following_is (stays j.by) f (omega (arith, l)) group w)

    pub root_of_elements : (j : Judging) → JudgesFor profile judging j → 1 < following → WalksAll s tree rows places j 0 0 f → WalkPromise profile s tree judging f
    root_of_elements j judges l w =
        whole_walk j judges (elements_in_group s tree rows places j 0 0 0 refl refl following_is (stays j) f (omega (arith, l)) group w)
