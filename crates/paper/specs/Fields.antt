-- Seventeen fields of a payment (docs/RULES.md, 8).
use Rattle.std.specs.Prelude.{ℕ, zero, suc, List, [], ◌∷◌, map, Bool, true, false, ◌&&◌, get_or, eqb, if◌then◌else◌}
use Rattle.std.proofs.Math.Option.{Option, none, some}
use Rattle.paper.specs.Bytes.{bytes, same}
use Rattle.paper.specs.Form.{Element}
use Rattle.paper.specs.Values.{cents}
use Rattle.paper.specs.Payments.{Payment, text_of, payments, in_payment, in_block, inherited, either_of}
use Rattle.paper.specs.Refusals.{Outcome, refused_as, accepted_with}
use Rattle.paper.specs.Table.{Part, part_of}

-- What a field comes to. Remittance has its kind: a free text, or a reference, perhaps with an issuer.
pub data Value : Type 0 where
  absent : Value
  a_text : List ℕ → Value
  in_cents : ℕ → Value
  free_text : List ℕ → Value
  reference : (issuer : Option (List ℕ)) → List ℕ → Value

-- A field: the element that has its text, if there is one, and its value.
pub record Field : Type 0 where
  pub element : Option Element
  pub value : Value

-- a field whose value is its text; where absence means a text; the amount
unfoldable pub text_value : Option Element → Value
text_value none = absent
text_value (some t) = a_text (text_of t)

unfoldable pub text_value_or : List ℕ → Option Element → Value
text_value_or otherwise none = a_text otherwise
text_value_or otherwise (some t) = a_text (text_of t)

unfoldable pub cents_value : Option Element → Value
cents_value none = absent
cents_value (some t) = in_cents (cents (text_of t))

unfoldable pub issuer_text : Option Element → Option (List ℕ)
issuer_text none = none
issuer_text (some t) = some (text_of t)

unfoldable pub remittance_value : (free issuer ref : Option Element) → Value
remittance_value (some t) issuer ref = free_text (text_of t)
remittance_value none issuer none = absent
remittance_value none issuer (some t) = reference (issuer_text issuer) (text_of t)

unfoldable pub plain : Option Element → Field
plain o = record { element = o; value = text_value o }

unfoldable pub or_means : List ℕ → Option Element → Field
or_means otherwise o = record { element = o; value = text_value_or otherwise o }

unfoldable pub amount_field : Option Element → Field
amount_field o = record { element = o; value = cents_value o }

unfoldable pub remittance : (free issuer ref : Option Element) → Field
remittance free issuer ref = record { element = either_of free ref; value = remittance_value free issuer ref }

unfoldable pub fields : Payment → List Field
fields p =
    or_means (bytes "true") (in_block (13 ∷ []) p) ∷  -- 1 batch booking, absent means true
    or_means (bytes "NORM") (inherited (16 ∷ 17 ∷ []) p) ∷  -- 2 priority, absent means NORM
    plain (inherited (16 ∷ 20 ∷ 21 ∷ []) p) ∷  -- 3 category purpose
    plain (either_of (in_block (22 ∷ 23 ∷ []) p) (in_block (22 ∷ 58 ∷ []) p)) ∷  -- 4 execution date: the date, or the date and time
    plain (in_block (24 ∷ 25 ∷ []) p) ∷  -- 5 debtor's name
    plain (in_block (26 ∷ 27 ∷ 28 ∷ []) p) ∷  -- 6 debtor's IBAN
    plain (either_of (in_block (29 ∷ 30 ∷ 31 ∷ []) p) (in_block (29 ∷ 30 ∷ 32 ∷ 33 ∷ []) p)) ∷  -- 7 debtor's agent: BIC or NOTPROVIDED
    plain (inherited (34 ∷ 35 ∷ []) p) ∷  -- 8 ultimate debtor
    plain (in_payment (38 ∷ 39 ∷ []) p) ∷  -- 9 instruction id
    plain (in_payment (38 ∷ 40 ∷ []) p) ∷  -- 10 end-to-end id
    amount_field (in_payment (41 ∷ 42 ∷ []) p) ∷  -- 11 amount in cents
    plain (in_payment (43 ∷ 30 ∷ 31 ∷ []) p) ∷  -- 12 creditor's agent
    plain (in_payment (44 ∷ 25 ∷ []) p) ∷  -- 13 creditor's name
    plain (in_payment (45 ∷ 27 ∷ 28 ∷ []) p) ∷  -- 14 creditor's IBAN
    plain (in_payment (46 ∷ 35 ∷ []) p) ∷  -- 15 ultimate creditor
    plain (in_payment (47 ∷ 21 ∷ []) p) ∷  -- 16 purpose
    -- 17 remittance: its kind with its text, or with issuer and reference
    remittance (in_payment (48 ∷ 49 ∷ []) p) (in_payment (48 ∷ 50 ∷ 51 ∷ 52 ∷ 54 ∷ []) p) (in_payment (48 ∷ 50 ∷ 51 ∷ 55 ∷ []) p) ∷ []

unfoldable pub values_of : Payment → List Value
values_of p = map (λ f. f.value) (fields p)

-- Asked for a field's text, the reader hands back that part of the lent message. Refused message, unknown payment or field, or no such element: the empty part
-- at 0.
unfoldable pub field_element : (field : ℕ) → Payment → Option Element
field_element field p = get_or (none ∷ map (λ f. f.element) (fields p)) field none

unfoldable pub field_of : List Payment → (payment field : ℕ) → Part
field_of [] payment field = part_of none
field_of (p ∷ ps) zero field = part_of (field_element field p)
field_of (p ∷ ps) (suc payment) field = field_of ps payment field

unfoldable pub field_part : Outcome → (payment field : ℕ) → Part
field_part (refused_as r) payment field = part_of none
field_part (accepted_with root) payment field = field_of (payments root) payment field

-- Texts are equal by bytes; absent differs from present.
unfoldable pub same_issuer : Option (List ℕ) → Option (List ℕ) → Bool
same_issuer none none = true
same_issuer none (some w) = false
same_issuer (some v) none = false
same_issuer (some v) (some w) = same v w

unfoldable pub same_value : Value → Value → Bool
same_value absent v = elim v [ absent ↦ true | a_text w ↦ false | in_cents n ↦ false | free_text w ↦ false | reference i w ↦ false ]
same_value (a_text u) v = elim v [ absent ↦ false | a_text w ↦ same u w | in_cents n ↦ false | free_text w ↦ false | reference i w ↦ false ]
same_value (in_cents m) v = elim v [ absent ↦ false | a_text w ↦ false | in_cents n ↦ eqb m n | free_text w ↦ false | reference i w ↦ false ]
same_value (free_text u) v = elim v [ absent ↦ false | a_text w ↦ false | in_cents n ↦ false | free_text w ↦ same u w | reference i w ↦ false ]
same_value (reference j u) v =
    elim v [ absent ↦ false | a_text w ↦ false | in_cents n ↦ false | free_text w ↦ false | reference i w ↦ same u w && same_issuer j i ]

-- the lowest field, from n on, in which two payments differ
unfoldable pub differ_from : ℕ → List Value → List Value → Option ℕ
differ_from n [] [] = none
differ_from n [] (w ∷ ws) = some n
differ_from n (v ∷ vs) [] = some n
differ_from n (v ∷ vs) (w ∷ ws) = if same_value v w then differ_from (suc n) vs ws else some n
