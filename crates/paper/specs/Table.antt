-- The table after acceptance (docs/RULES.md, 7).
use Rattle.std.specs.Prelude.{ℕ, ◌*◌, ◌-◌, ◌/◌, ◌%◌, List, [], ◌∷◌, ◌++◌, Bool, true, false, ◌≡◌, length, take, drop}
use Rattle.std.proofs.Math.Option.{Option, none, some}
use Rattle.paper.specs.Sizes.{numbers_per_payment}
use Rattle.paper.specs.Bytes.{each}
use Rattle.paper.specs.Form.{Element}
use Rattle.paper.specs.Rows.{head_of}
use Rattle.paper.specs.Payments.{Payment, payments, in_payment, in_block, inherited, either_of, amount_of}
use Rattle.paper.specs.Accepted.{EachWith, There}
use Rattle.paper.specs.Refusals.{Outcome, refused_as, accepted_with}

-- A part of the message: its start and its length. The part that an element holds; of one that is absent 0, 0.
pub record Part : Type 0 where
  pub start : ℕ
  pub size : ℕ

unfoldable pub part_of : Option Element → Part
part_of none = record { start = 0; size = 0 }
part_of (some t) = record { start = (head_of t).start; size = (head_of t).close - (head_of t).start }

unfoldable pub start_and_length : Option Element → List ℕ
start_and_length o = (part_of o).start ∷ (part_of o).size ∷ []

-- What the pairs among a payment's numbers tell of: six before its amount,
unfoldable pub first_pairs : Payment → List (Option Element)
first_pairs p =
    in_payment (38 ∷ 40 ∷ []) p ∷  -- numbers 1 and 2: the end-to-end id
    in_payment (45 ∷ 27 ∷ 28 ∷ []) p ∷  -- 3 and 4: the creditor's IBAN
    in_payment (44 ∷ 25 ∷ []) p ∷  -- 5 and 6: the creditor's name
    inherited (34 ∷ 35 ∷ []) p ∷  -- 7 and 8: the ultimate debtor's name
    inherited (16 ∷ []) p ∷  -- 9 and 10: all that row 16 holds
    in_block (26 ∷ 27 ∷ 28 ∷ []) p ∷ []  -- 11 and 12: the debtor's IBAN

-- and two at the end.
unfoldable pub last_pairs : Payment → List (Option Element)
last_pairs p =
    in_payment (43 ∷ 30 ∷ 31 ∷ []) p ∷  -- 16 and 17: the creditor's BIC
    either_of (in_payment (48 ∷ 49 ∷ []) p) (in_payment (48 ∷ 50 ∷ 51 ∷ 55 ∷ []) p) ∷ []  -- 18 and 19: the text of Ustrd or Ref

unfoldable pub pairs : Payment → List (Option Element)
pairs p = first_pairs p ++ last_pairs p

-- No pair may be absent but three: the ultimate debtor's name, the creditor's BIC and the text of Ustrd or Ref. (That it is so in an accepted message is proved:
-- crates/paper_acceptance/proofs/Present.antt, `no_other_absent`.)
unfoldable pub must_be_there : List Bool
must_be_there = true ∷ true ∷ true ∷ false ∷ true ∷ true ∷ false ∷ false ∷ []

unfoldable pub PairsThere : Payment → Type 0
PairsThere p = EachWith (λ must o. must ≡ true → There o) must_be_there (pairs p)

unfoldable pub numbers_of : Payment → List ℕ
numbers_of p =
    p.block_number ∷  -- number 0: the payment's block, from 0
    (each start_and_length (first_pairs p) ++  -- 1 to 12
    (amount_of p.own / 100 ∷  -- 13: whole euros
    amount_of p.own % 100 ∷  -- 14: cents, 0 to 99
    (head_of p.own).at ∷  -- 15: the offset of the payment's `<`
    each start_and_length (last_pairs p)))  -- 16 to 19

-- Payment k has the table's numbers 20k to 20k+19. (That these are its numbers after acceptance is proved: crates/verdict_reader/proofs/Agreement.antt, `accepted_fills`.)
unfoldable pub payment_numbers : (k : ℕ) (table : List ℕ) → List ℕ
payment_numbers k table = take numbers_per_payment (drop (numbers_per_payment * k) table)

-- The numbers that are written; after a refusal there are none.
unfoldable pub written : Outcome → List ℕ
written (refused_as r) = []
written (accepted_with root) = each numbers_of (payments root)

-- what is written first, over what was there
unfoldable pub over : (front old : List ℕ) → List ℕ
over front old = front ++ drop (length front) old

-- All later numbers keep their old values. (The outcome is that of the message with a table as long as this one: 14 comes first.)
unfoldable pub table_after : Outcome → (old : List ℕ) → List ℕ
table_after outcome old = over (written outcome) old
