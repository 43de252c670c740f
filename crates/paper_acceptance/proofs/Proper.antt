-- What must be so of a profile for the theorems about messages: no two rows of a group have one name; some routes lead to an element, whatever the message, and others to
-- a leaf, if they lead to anything; leaves that are read as numbers are as long as they should be; the rows of the debtor's agent are what they are. These are computed tests, made
-- here once for each list of rows.
use Prim.Native.Nat.{ℕ}
use mathlib.Core.List.{List, [], ◌∷◌}
use mathlib.Core.Bool.{Bool, true, false, ◌&&◌, ◌||◌, not}
use mathlib.Core.Path.{◌≡◌, refl, ap, ◌∙◌}
use lib.Dec.{eqb}
use Rattle.paper.specs.Bytes.{bytes, same}
use Rattle.paper.specs.Rows.{either, leaf, group, group_under, rows, instant_changes, with_row, with_rows, instant_rows, every_row, Profile, for_new, for_archived, profile_by, first_profile, instant_profile, as_new, as_archived, name_in, name, row_in, row_of}
use Rattle.paper.specs.Values.{among}
use Rattle.paper.specs.Refusals.{rows_at, required, among_texts}
use Rattle.paper.specs.Answers.{profile_named}
use Rattle.paper.specs.Host.{profile_numbered}
use Rattle.paper.specs.declared.Profile as named
use Rattle.paper.proofs.Laws.{false_not_true, both_left, both_right, same_says}
use Rattle.paper_acceptance.proofs.Arranged.{rows_of, all_among, must}
use Rattle.paper_acceptance.proofs.Rows.{RowsApart}
use Rattle.paper_acceptance.proofs.Apart.{unlike, all_unlike, test_holds, test_rows, tested_apart}
use Rattle.paper_acceptance.proofs.Routes.{takes, must_take, lacks, steps, must_steps, holds_text, leaf_route}

-- from row k under a parent the route leads to an element, whatever the message
abbrev pub leads : Profile → (parent k : ℕ) → List ℕ → Bool
leads profile parent k route = steps profile parent k route && must_steps profile parent k route

-- where the first of a route is there, so is its end
abbrev pub leads_on : Profile → (parent k : ℕ) → List ℕ → Bool
leads_on profile parent k route = elim route [ [] ↦ true | j ∷ js ↦ steps profile parent k (j ∷ []) && leads profile k j js ]

-- each of some routes; one of them
unfoldable pub each_route : (List ℕ → Bool) → List (List ℕ) → Bool
each_route test [] = true
each_route test (route ∷ routes) = test route && each_route test routes

pub one_route : (test : List ℕ → Bool) (routes : List (List ℕ)) → each_route test routes ≡ true → (route : List ℕ) → among_texts route routes ≡ true → test route ≡ true
unfolding each_route among_texts
one_route test [] e route m = false_not_true m
one_route test (first ∷ routes) e route m = go (same route first) refl m (λ n. one_route test routes (both_right (test first) _ e) route n)
  where
    go : (b : Bool) → same route first ≡ b → (b || among_texts route routes) ≡ true → (among_texts route routes ≡ true → test route ≡ true) → test route ≡ true
    go true f m below = ap test (same_says route first f) ∙ both_left (test first) _ e
    go false f m below = below m

-- Routes that lead to an element: of the header; of a block its id, count and sum, its date's group, the debtor's name, account and agent; of a payment its end-to-end id,
-- amount, and the creditor's name and account.
abbrev pub root_routes : List (List ℕ)
root_routes = (2 ∷ 3 ∷ 6 ∷ []) ∷ (2 ∷ 3 ∷ 7 ∷ []) ∷ []

abbrev pub block_routes : List (List ℕ)
block_routes = (11 ∷ []) ∷ (14 ∷ []) ∷ (15 ∷ []) ∷ (22 ∷ []) ∷ (24 ∷ 25 ∷ []) ∷ (26 ∷ 27 ∷ 28 ∷ []) ∷ (29 ∷ 30 ∷ []) ∷ []

abbrev pub payment_routes : List (List ℕ)
payment_routes = (38 ∷ 40 ∷ []) ∷ (41 ∷ 42 ∷ []) ∷ (44 ∷ 25 ∷ []) ∷ (45 ∷ 27 ∷ 28 ∷ []) ∷ []

-- Routes that lead to an element where their first row is there: to the ultimate debtor's name, in a block and in a payment, and to the creditor's BIC.
abbrev pub block_optional_routes : List (List ℕ)
block_optional_routes = (34 ∷ 35 ∷ []) ∷ []

abbrev pub payment_optional_routes : List (List ℕ)
payment_optional_routes = (34 ∷ 35 ∷ []) ∷ (43 ∷ 30 ∷ 31 ∷ []) ∷ []

-- Routes to leaves: of the fields and of the table's pairs, in a block and in a payment.
abbrev pub block_leaf_routes : List (List ℕ)
block_leaf_routes =
    (13 ∷ []) ∷ (16 ∷ 17 ∷ []) ∷ (16 ∷ 20 ∷ 21 ∷ []) ∷ (22 ∷ 23 ∷ []) ∷ (22 ∷ 58 ∷ []) ∷ (24 ∷ 25 ∷ []) ∷ (26 ∷ 27 ∷ 28 ∷ []) ∷
    (29 ∷ 30 ∷ 31 ∷ []) ∷ (29 ∷ 30 ∷ 32 ∷ 33 ∷ []) ∷ (34 ∷ 35 ∷ []) ∷ []

abbrev pub payment_leaf_routes : List (List ℕ)
payment_leaf_routes =
    (16 ∷ 17 ∷ []) ∷ (16 ∷ 20 ∷ 21 ∷ []) ∷ (34 ∷ 35 ∷ []) ∷ (38 ∷ 39 ∷ []) ∷ (38 ∷ 40 ∷ []) ∷ (41 ∷ 42 ∷ []) ∷ (43 ∷ 30 ∷ 31 ∷ []) ∷
    (44 ∷ 25 ∷ []) ∷ (45 ∷ 27 ∷ 28 ∷ []) ∷ (46 ∷ 35 ∷ []) ∷ (47 ∷ 21 ∷ []) ∷ (48 ∷ 49 ∷ []) ∷ (48 ∷ 50 ∷ 51 ∷ 55 ∷ []) ∷ []

pub record Proper (profile : Profile) : Type 0 where
  pub apart : (parent k : ℕ) → RowsApart (row_of profile parent k)
  -- to the blocks and the payments
  pub to_order : steps profile 0 1 (2 ∷ []) ≡ true
  pub to_blocks : steps profile 1 2 (10 ∷ []) ≡ true
  pub to_payments : steps profile 2 10 (37 ∷ []) ≡ true
  -- to what must be there
  pub root_leads : each_route (leads profile 0 1) root_routes ≡ true
  pub block_leads : each_route (leads profile 2 10) block_routes ≡ true
  pub payment_leads : each_route (leads profile 10 37) payment_routes ≡ true
  pub date_or_time : must_take (row_of profile 10 22) (23 ∷ 58 ∷ []) ≡ true
  pub not_provided : leads profile 30 32 (33 ∷ []) ≡ true
  -- to what is there with the group that holds it
  pub block_leads_on : each_route (leads_on profile 2 10) block_optional_routes ≡ true
  pub payment_leads_on : each_route (leads_on profile 10 37) payment_optional_routes ≡ true
  pub to_remittance : steps profile 10 37 (48 ∷ []) ≡ true
  pub free_or_reference : must_take (row_of profile 37 48) (49 ∷ 50 ∷ []) ≡ true
  pub to_reference : leads_on profile 37 48 (50 ∷ 51 ∷ 55 ∷ []) ≡ true
  -- to leaves
  pub block_leaves : each_route (leaf_route profile 2 10) block_leaf_routes ≡ true
  pub payment_leaves : each_route (leaf_route profile 10 37) payment_leaf_routes ≡ true
  -- leaves that are read as numbers
  pub header_count_is : row_of profile 3 6 ≡ leaf 6 "NbOfTxs" 15
  pub header_sum_is : row_of profile 3 7 ≡ leaf 7 "CtrlSum" 18
  pub block_count_is : row_of profile 10 14 ≡ leaf 14 "NbOfTxs" 15
  pub block_sum_is : row_of profile 10 15 ≡ leaf 15 "CtrlSum" 18
  pub amount_is : row_of profile 41 42 ≡ leaf 42 "InstdAmt" 18
  -- the debtor's agent: one of two, and what each of them says
  pub agent_is : row_of profile 29 30 ≡ group_under 29 30 "FinInstnId" (either (31 ∷ 32 ∷ []) ∷ [])
  pub bic_is : row_of profile 30 31 ≡ leaf 31 "BICFI" 11
  pub not_provided_is : row_of profile 32 33 ≡ leaf 33 "Id" 35

module _ {profile : Profile} (proper : Proper profile) where
  pub root_route : (route : List ℕ) → among_texts route root_routes ≡ true → leads profile 0 1 route ≡ true
  root_route = one_route (leads profile 0 1) root_routes proper.root_leads

  pub block_route : (route : List ℕ) → among_texts route block_routes ≡ true → leads profile 2 10 route ≡ true
  block_route = one_route (leads profile 2 10) block_routes proper.block_leads

  pub payment_route : (route : List ℕ) → among_texts route payment_routes ≡ true → leads profile 10 37 route ≡ true
  payment_route = one_route (leads profile 10 37) payment_routes proper.payment_leads

  -- the debtor's agent holds a BIC or row 32
  pub bic_or_not : must_take (row_of profile 29 30) (31 ∷ 32 ∷ []) ≡ true
  unfolding must_take must all_among required rows_at among group_under
  bic_or_not = rw proper.agent_is

  pub to_not_provided : steps profile 29 30 (32 ∷ []) ≡ true
  unfolding steps takes rows_of rows_at among group_under
  to_not_provided = rw proper.agent_is

pub first_proper : Proper first_profile
unfolding for_new first_profile rows instant_changes every_row name_in name row_in row_of leaf group group_under bytes same takes must_take lacks must all_among required rows_of rows_at among steps must_steps each_route holds_text leaf_route unlike all_unlike test_holds test_rows
first_proper =
    record {
      apart = tested_apart first_profile refl;
      to_order = refl;
      to_blocks = refl;
      to_payments = refl;
      root_leads = refl;
      block_leads = refl;
      payment_leads = refl;
      date_or_time = refl;
      not_provided = refl;
      block_leads_on = refl;
      payment_leads_on = refl;
      to_remittance = refl;
      free_or_reference = refl;
      to_reference = refl;
      block_leaves = refl;
      payment_leaves = refl;
      header_count_is = refl;
      header_sum_is = refl;
      block_count_is = refl;
      block_sum_is = refl;
      amount_is = refl;
      agent_is = refl;
      bic_is = refl;
      not_provided_is = refl;
    }

pub instant_proper : Proper instant_profile
unfolding for_new instant_profile rows instant_changes with_row with_rows instant_rows every_row name_in name row_in row_of leaf group group_under bytes same takes must_take lacks must all_among required rows_of rows_at among steps must_steps each_route holds_text leaf_route unlike all_unlike test_holds test_rows
instant_proper =
    record {
      apart = tested_apart instant_profile refl;
      to_order = refl;
      to_blocks = refl;
      to_payments = refl;
      root_leads = refl;
      block_leads = refl;
      payment_leads = refl;
      date_or_time = refl;
      not_provided = refl;
      block_leads_on = refl;
      payment_leads_on = refl;
      to_remittance = refl;
      free_or_reference = refl;
      to_reference = refl;
      block_leaves = refl;
      payment_leaves = refl;
      header_count_is = refl;
      header_sum_is = refl;
      block_count_is = refl;
      block_sum_is = refl;
      amount_is = refl;
      agent_is = refl;
      bic_is = refl;
      not_provided_is = refl;
    }

-- The tests look at the rows alone: a profile is as proper for archived messages as for new ones.
module _ {profile : Profile} (proper : Proper profile) where
  pub whatever_withdrawn : (withdrawn : List ℕ) → Proper (record { rows = profile.rows; withdrawn = withdrawn })
  unfolding row_of steps must_steps each_route leaf_route
  whatever_withdrawn withdrawn =
      record {
        apart = proper.apart;
        to_order = proper.to_order;
        to_blocks = proper.to_blocks;
        to_payments = proper.to_payments;
        root_leads = proper.root_leads;
        block_leads = proper.block_leads;
        payment_leads = proper.payment_leads;
        date_or_time = proper.date_or_time;
        not_provided = proper.not_provided;
        block_leads_on = proper.block_leads_on;
        payment_leads_on = proper.payment_leads_on;
        to_remittance = proper.to_remittance;
        free_or_reference = proper.free_or_reference;
        to_reference = proper.to_reference;
        block_leaves = proper.block_leaves;
        payment_leaves = proper.payment_leaves;
        header_count_is = proper.header_count_is;
        header_sum_is = proper.header_sum_is;
        block_count_is = proper.block_count_is;
        block_sum_is = proper.block_sum_is;
        amount_is = proper.amount_is;
        agent_is = proper.agent_is;
        bic_is = proper.bic_is;
        not_provided_is = proper.not_provided_is;
      }

  pub new_proper : Proper (as_new profile)
  unfolding as_new for_new
  new_proper = whatever_withdrawn (32 ∷ [])

  pub archived_proper : Proper (as_archived profile)
  unfolding as_archived for_archived
  archived_proper = whatever_withdrawn []

-- whichever profile is named, by a caller of the code or by numbers
pub any_proper : (instant archived : Bool) → Proper (profile_by instant archived)
unfolding profile_by as_archived first_profile instant_profile for_new
any_proper true true = archived_proper instant_proper
any_proper true false = instant_proper
any_proper false true = archived_proper first_proper
any_proper false false = first_proper

pub named_proper : (p : named.Profile) → Proper (profile_named p)
unfolding profile_named
named_proper p = any_proper p.instant p.archived

pub numbered_proper : (profile archived : ℕ) → Proper (profile_numbered profile archived)
unfolding profile_numbered
numbered_proper profile archived = any_proper (eqb profile 1) (not (eqb archived 0))
