-- Laws about what a walk judges: which rows are withdrawn, and the judgement of an element that is in none of these, by what its row holds.
use Prim.Native.Nat.{ℕ}
use mathlib.Core.List.{List, [], ◌∷◌}
use mathlib.Core.Bool.{true, false}
use mathlib.Core.Option.{Option, none}
use mathlib.Core.Path.{◌≡◌, refl, sym, ap}
use Rattle.paper.specs.Form.{Head, Element, Elements, holding_text, holding_elements}
use Rattle.paper.specs.Rows.{Place, Contents, text, elements, Row, head_of}
use Rattle.paper.specs.Values.{among, lies_from}
use Rattle.paper.specs.Refusals.{Refusal, refuse, Judgement, no_judgement, text_refusal, leaf_refusal, value_refusal}
use Rattle.paper.proofs.Laws.{some_not_none}
use Rattle.rows_contents.specs.Judged.{withdrawn_by, at_text, at_leaf, judgement}
use Rattle.rows_contents.specs.declared.Judging.{Judging}
use Rattle.rows_contents.specs.declared.Judging.TheVariants.{Rows, ArchivedValues, NewValues}

-- what the three judge
pub rows_judged : judgement Rows ≡ no_judgement
unfolding judgement withdrawn_by at_leaf among no_judgement
rows_judged = refl

pub values_judged : judgement ArchivedValues ≡ value_refusal []
unfolding judgement withdrawn_by at_leaf value_refusal
values_judged = refl

pub new_values_judged : judgement NewValues ≡ value_refusal (32 ∷ [])
unfolding judgement withdrawn_by at_leaf value_refusal
new_values_judged = refl

module _ (judging : Judging) (holder : Option Element) (parent : ℕ) (r : Row) where
  pub withdrawn_refused : (t : Element) → among r.row (withdrawn_by judging) ≡ true → judgement judging holder parent r t ≡ refuse 28 r.row (head_of t).at
  unfolding judgement
  withdrawn_refused t w = rw w

  module _ (stays : among r.row (withdrawn_by judging) ≡ false) where
    at_any : (j : Judging) (t : Element) → leaf_refusal parent r t ≡ none → at_leaf j parent r t ≡ none
    unfolding at_leaf
    at_any Rows t e = refl
    at_any ArchivedValues t e = e
    at_any NewValues t e = e

    -- a group is not judged by what it holds, nor is a leaf that holds elements
    pub group_judged : (t : Element) (ps : List Place) → r.holds ≡ elements ps → judgement judging holder parent r t ≡ none
    unfolding judgement leaf_refusal
    group_judged t ps e = rw stays (at_any judging t (no_leaf t))
      where
        no_leaf : (t : Element) → leaf_refusal parent r t ≡ none
        no_leaf (holding_elements h ts) = refl
        no_leaf (holding_text h w) =
            ap (λ (o : Contents). elim o as (λ _. Option Refusal) [ text longest ↦ text_refusal parent r h w | elements places ↦ none ]) e

    pub elements_judged : (h : Head) (ts : Elements) → judgement judging holder parent r (holding_elements h ts) ≡ none
    unfolding judgement leaf_refusal
    elements_judged h ts = rw stays (at_any judging (holding_elements h ts) refl)

    pub leaf_judged : (h : Head) (w : List ℕ) (n : ℕ) → r.holds ≡ text n → judgement judging holder parent r (holding_text h w) ≡ at_text judging parent r h w
    unfolding judgement leaf_refusal at_leaf at_text
    leaf_judged h w n e = rw stays (go judging)
      where
        its_text : leaf_refusal parent r (holding_text h w) ≡ text_refusal parent r h w
        its_text = ap (λ (o : Contents). elim o as (λ _. Option Refusal) [ text longest ↦ text_refusal parent r h w | elements places ↦ none ]) e

        go : (j : Judging) → at_leaf j parent r (holding_text h w) ≡ at_text j parent r h w
        go Rows = refl
        go ArchivedValues = its_text
        go NewValues = its_text

-- No two ways of judging judge alike: an empty leaf is told apart by 6, and a row that is withdrawn by 28.
abbrev head : Head
head = record { name = []; currency = []; at = 0; start = 0; close = 0 }

abbrev empty_leaf : Row
empty_leaf = record { row = 4; under = 0; name = []; holds = text 1 }

abbrev withdrawn_group : Row
withdrawn_group = record { row = 32; under = 0; name = []; holds = elements [] }

pub one_judging : (a b : Judging) → judgement a ≡ judgement b → a ≡ b
unfolding judgement withdrawn_by among at_leaf leaf_refusal text_refusal lies_from refuse
one_judging Rows Rows e = refl
one_judging Rows ArchivedValues e = some_not_none (sym (ap (λ (m : Judgement). m none 0 empty_leaf (holding_text head [])) e))
one_judging Rows NewValues e = some_not_none (sym (ap (λ (m : Judgement). m none 0 empty_leaf (holding_text head [])) e))
one_judging ArchivedValues Rows e = some_not_none (ap (λ (m : Judgement). m none 0 empty_leaf (holding_text head [])) e)
one_judging ArchivedValues ArchivedValues e = refl
one_judging ArchivedValues NewValues e = some_not_none (sym (ap (λ (m : Judgement). m none 0 withdrawn_group (holding_text head [])) e))
one_judging NewValues Rows e = some_not_none (ap (λ (m : Judgement). m none 0 empty_leaf (holding_text head [])) e)
one_judging NewValues ArchivedValues e = some_not_none (ap (λ (m : Judgement). m none 0 withdrawn_group (holding_text head [])) e)
one_judging NewValues NewValues e = refl
