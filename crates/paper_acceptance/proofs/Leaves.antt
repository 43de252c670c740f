-- In a message that keeps the rows the pairs of the table and the fields are leaves, but for the fifth pair, which is a group. So the part of a field has the field's text.
use Rattle.std.specs.Prelude.{if◌then◌else◌}
use Prim.Native.Nat.{ℕ, zero, suc}
use mathlib.Core.List.{List, [], ◌∷◌, map}
use mathlib.Core.Bool.{Bool, true, false, ◌&&◌}
use mathlib.Core.Option.{Option, none, some}
use mathlib.Core.Path.{◌≡◌, refl, sym, ap, ◌∙◌, subst}
use lib.ListN.{take, drop, get_or}
use lib.Dec.{eqb}
use Rattle.paper.specs.Bytes.{same}
use Rattle.paper.specs.Form.{Head, Element, holding_text}
use Rattle.paper.specs.Rows.{Profile, row_of}
use Rattle.paper.specs.Payments.{Payment, text_of, child, follow, payments, in_payment, in_block, either_of, inherited}
use Rattle.paper.specs.Refusals.{accepted_with, among_texts, outcome_alone}
use Rattle.paper.specs.Table.{part_of, pairs, first_pairs, last_pairs}
use Rattle.paper.specs.Fields.{Field, plain, or_means, amount_field, remittance, fields, field_element, field_of}
use Rattle.paper.specs.Accepted.{All, all_none, all_more, EachWith, each_none, each_more, AnyElement, RowsKept, Accepted}
use Rattle.paper.specs.Regrouping.{At, at_first, at_later}
use Rattle.paper.proofs.Laws.{false_not_true, some_not_none, both, both_left, both_right, all_member, all_from}
use Rattle.paper_acceptance.proofs.Routes.{takes, lacks, leaf_route, child_absent, step, leaf_conforms}
use Rattle.paper_acceptance.proofs.Proper.{Proper, one_route, block_leaf_routes, payment_leaf_routes}
use Rattle.paper_acceptance.proofs.Present.{As, PaymentAs, payments_as}
use Rattle.paper_acceptance.proofs.Accepts.{accepted_from}
use Rattle.paper_acceptance.proofs.Texts.{Stands, PaymentInPlace, payments_in_place, pairs_stand, fields_stand, part_is_text}

-- of an element that may be absent: if it is there, it is a leaf
pub data LeafOrNone : Option Element → Type 0 where
  nothing_there : LeafOrNone none
  a_leaf : {h : Head} {w : List ℕ} → LeafOrNone (some (holding_text h w))

either_leaf : {o q : Option Element} → LeafOrNone o → LeafOrNone q → LeafOrNone (either_of o q)
unfolding either_of
either_leaf nothing_there k = k
either_leaf a_leaf k = a_leaf

-- the pairs of the table that are leaves
unfoldable pub leaf_pairs : List Bool
leaf_pairs = true ∷ true ∷ true ∷ true ∷ false ∷ true ∷ true ∷ true ∷ []

-- a route whose test says so leads to a leaf, if it leads anywhere
module _ (profile : Profile) (proper : Proper profile) where
  route_leaf : (parent k : ℕ) (route : List ℕ) (t : Element) → leaf_route profile parent k route ≡ true → As profile proper AnyElement parent k t → LeafOrNone (follow route t)
  unfolding leaf_route follow
  route_leaf parent k [] t e c =
      subst (λ (u : Element). LeafOrNone (some u)) (sym (leaf_conforms profile AnyElement t c.0 parent (row_of profile parent k) e c.1)) a_leaf
  route_leaf parent k (j ∷ js) t e c = go (takes (row_of profile parent k) j) refl e (λ u f d. route_leaf k j js u f d)
    where
      below : (o : Option Element) → ((u : Element) → o ≡ some u → LeafOrNone (follow js u)) → LeafOrNone (elim o as (λ _. Option Element) [ none ↦ none | some u ↦ follow js u ])
      below none f = nothing_there
      below (some u) f = f u refl

      go : (b : Bool) → takes (row_of profile parent k) j ≡ b
          → (if b then eqb (row_of profile parent k).row k && leaf_route profile k j js else lacks (row_of profile parent k) j) ≡ true
          → ((u : Element) → leaf_route profile k j js ≡ true → As profile proper AnyElement k j u → LeafOrNone (follow js u))
          → LeafOrNone (elim (child j t) as (λ _. Option Element) [ none ↦ none | some u ↦ follow js u ])
      go true f e ih =
          let its_own = both_left (eqb (row_of profile parent k).row k) _ e in
          below (child j t) (λ u g. ih u (both_right (eqb (row_of profile parent k).row k) _ e) (step profile AnyElement proper.apart parent k j t u (both its_own f) c g))
      go false f e ih = rw (child_absent profile AnyElement t c.0 parent (row_of profile parent k) j e c.1) nothing_there

  module _ (p : Payment) (c : PaymentAs profile proper AnyElement p) where
    own_leaf : (route : List ℕ) → among_texts route payment_leaf_routes ≡ true → LeafOrNone (in_payment route p)
    unfolding in_payment
    own_leaf route m = route_leaf 10 37 route p.own (one_route (leaf_route profile 10 37) payment_leaf_routes proper.payment_leaves route m) c.own_as

    block_leaf : (route : List ℕ) → among_texts route block_leaf_routes ≡ true → LeafOrNone (in_block route p)
    unfolding in_block
    block_leaf route m = route_leaf 2 10 route p.block (one_route (leaf_route profile 2 10) block_leaf_routes proper.block_leaves route m) c.block_as

    inherited_leaf : (route : List ℕ) → among_texts route payment_leaf_routes ≡ true → among_texts route block_leaf_routes ≡ true → LeafOrNone (inherited route p)
    unfolding inherited
    inherited_leaf route m n = either_leaf (own_leaf route m) (block_leaf route n)

    fields_leaves : All (λ f. LeafOrNone f.element) (fields p)
    unfolding fields plain or_means amount_field remittance among_texts same
    fields_leaves =
        all_more (block_leaf _ refl)
        (all_more (inherited_leaf _ refl refl)
        (all_more (inherited_leaf _ refl refl)
        (all_more (either_leaf (block_leaf _ refl) (block_leaf _ refl))
        (all_more (block_leaf _ refl)
        (all_more (block_leaf _ refl)
        (all_more (either_leaf (block_leaf _ refl) (block_leaf _ refl))
        (all_more (inherited_leaf _ refl refl)
        (all_more (own_leaf _ refl)
        (all_more (own_leaf _ refl)
        (all_more (own_leaf _ refl)
        (all_more (own_leaf _ refl)
        (all_more (own_leaf _ refl)
        (all_more (own_leaf _ refl)
        (all_more (own_leaf _ refl)
        (all_more (own_leaf _ refl)
        (all_more (either_leaf (own_leaf _ refl) (own_leaf _ refl)) all_none))))))))))))))))

    -- of the pairs of the table, all but the fifth
    pairs_leaves : EachWith (λ b o. b ≡ true → LeafOrNone o) leaf_pairs (pairs p)
    unfolding leaf_pairs pairs first_pairs last_pairs among_texts same
    pairs_leaves =
        each_more (λ _. own_leaf _ refl)
        (each_more (λ _. own_leaf _ refl)
        (each_more (λ _. own_leaf _ refl)
        (each_more (λ _. inherited_leaf _ refl refl)
        (each_more (λ e. false_not_true e)
        (each_more (λ _. block_leaf _ refl)
        (each_more (λ _. own_leaf _ refl)
        (each_more (λ _. either_leaf (own_leaf _ refl) (own_leaf _ refl)) each_none)))))))

-- The pairs of the table are of fields 10, 14, 13, 8, of all that row 16 holds, and of fields 6, 12 and 17.
pub pairs_are_fields : (p : Payment)
    → pairs p ≡
    field_element 10 p ∷ field_element 14 p ∷ field_element 13 p ∷ field_element 8 p ∷ inherited (16 ∷ []) p ∷ field_element 6 p ∷ field_element 12 p ∷ field_element 17 p ∷ []
unfolding pairs first_pairs last_pairs field_element fields plain or_means amount_field remittance
pairs_are_fields p = refl

-- The bytes of the part that an element holds are its text; of one that is absent nothing is said.
pub record HasText (s : List ℕ) (o : Option Element) : Type 0 where
  pub bytes_are : (t : Element) → o ≡ some t → take (part_of o).size (drop (part_of o).start s) ≡ text_of t

nothing_has : {s : List ℕ} → HasText s none
nothing_has = record { bytes_are = λ t e. some_not_none (sym e) }

leaf_has : {s : List ℕ} {o : Option Element} → Stands s o → LeafOrNone o → HasText s o
leaf_has i nothing_there = nothing_has
leaf_has {s} i (a_leaf {h} {w}) = record { bytes_are = λ t e. let g : holding_text h w ≡ t = cc in (part_is_text i).bytes_are h w refl ∙ own_text ∙ ap text_of g }
  where
    own_text : w ≡ text_of (holding_text h w)
    own_text = unfold text_of in refl

-- So it is, in an accepted message, of each payment's fields and of its pairs but the fifth.
pub record PaymentTexts (s : List ℕ) (p : Payment) : Type 0 where
  pub of_pairs : EachWith (λ b o. b ≡ true → HasText s o) leaf_pairs (pairs p)
  pub of_fields : All (λ f. HasText s f.element) (fields p)

pairs_have : {s : List ℕ} {bs : List Bool} {os : List (Option Element)} → All (Stands s) os → EachWith (λ b o. b ≡ true → LeafOrNone o) bs os
    → EachWith (λ b o. b ≡ true → HasText s o) bs os
pairs_have all_none each_none = each_none
pairs_have (all_more i h) (each_more l k) = each_more (λ e. leaf_has i (l e)) (pairs_have h k)

fields_have : {s : List ℕ} {fs : List Field} → All (λ f. Stands s f.element) fs → All (λ f. LeafOrNone f.element) fs → All (λ f. HasText s f.element) fs
fields_have all_none all_none = all_none
fields_have (all_more i h) (all_more l k) = all_more (leaf_has i l) (fields_have h k)

pub accepted_texts : (profile : Profile) → Proper profile → {s : List ℕ} {root : Element} → outcome_alone profile s ≡ accepted_with root → All (PaymentTexts s) (payments root)
unfolding accepted_from RowsKept
accepted_texts profile proper {s} {root} o =
    all_from (λ p m. texts p (all_member (payments_in_place accepted.form) m) (all_member (payments_as profile proper AnyElement root (none, accepted.tree.but_counts.rows)) m))
  where
    accepted : Accepted profile s
    accepted = accepted_from profile proper s root o

    texts : (p : Payment) → PaymentInPlace s p → PaymentAs profile proper AnyElement p → PaymentTexts s p
    texts p i c = record { of_pairs = pairs_have (pairs_stand p i) (pairs_leaves profile proper p c); of_fields = fields_have (fields_stand p i) (fields_leaves profile proper p c) }

-- What holds of each field of a payment, and of nothing, holds of the field that a number asks for.
of_field : (P : Option Element → Type 0) → P none → (field : ℕ) (p : Payment) → All (λ f. P f.element) (fields p) → P (field_element field p)
unfolding field_element
of_field P z field p h = picked field (all_more z (elements_of h))
  where
    elements_of : {fs : List Field} → All (λ f. P f.element) fs → All P (map (λ f. f.element) fs)
    elements_of all_none = all_none
    elements_of (all_more h k) = all_more h (elements_of k)

    picked : (n : ℕ) {os : List (Option Element)} → All P os → P (get_or os n none)
    picked n all_none = z
    picked zero (all_more h k) = h
    picked (suc n) (all_more h k) = picked n k

-- the payment at a place, and the part of its field
at_place : {P : Payment → Type 0} {ps : List Payment} {k : ℕ} {p : Payment} → All P ps → At ps k p → P p
at_place (all_more h k) at_first = h
at_place (all_more h k) (at_later a) = at_place k a
at_place all_none a = elim a [ ]

field_part_is : {ps : List Payment} {k : ℕ} {p : Payment} (field : ℕ) → At ps k p → field_of ps k field ≡ part_of (field_element field p)
unfolding field_of
field_part_is field at_first = refl
field_part_is field (at_later a) = field_part_is field a

-- The part of a field, by the payment's and the field's number: its bytes are the text of the field's element.
pub accepted_field_text : (profile : Profile) → Proper profile → (s : List ℕ) {root : Element} → outcome_alone profile s ≡ accepted_with root → (k field : ℕ) {p : Payment} {t : Element}
    → At (payments root) k p → field_element field p ≡ some t
    → take (field_of (payments root) k field).size (drop (field_of (payments root) k field).start s) ≡ text_of t
accepted_field_text profile proper s o k field {p} {t} a e =
    rw (field_part_is field a) ((of_field (HasText s) nothing_has field p (at_place (accepted_texts profile proper o) a).of_fields).bytes_are t e)
