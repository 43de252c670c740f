-- What the instant profile leaves as it was: a row that the first profile has keeps its name; and in a message that the first profile accepts field 4 is the date of row 23, since
-- no row 58 stands there, whether it is new or archived. (All else that is said of the first profile speaks of its rows and of what is withdrawn.)
use Rattle.std.specs.Prelude.{if◌then◌else◌}
use Prim.Native.Nat.{ℕ}
use mathlib.Core.List.{List, [], ◌∷◌, ◌++◌}
use mathlib.Core.Bool.{Bool, true, false}
use mathlib.Core.Option.{Option, none, some}
use mathlib.Core.Path.{◌≡◌, refl, ap, ◌∙◌}
use lib.Dec.{eqb}
use lib.ListN.{get_or}
use Rattle.paper.specs.Bytes.{bytes, same}
use Rattle.paper.specs.Form.{Element}
use Rattle.paper.specs.Rows.{Row, leaf, group, group_under, rows, instant_changes, every_row, Profile, for_new, for_archived, profile_by, first_profile, name_in, name, row_in, row_of}
use Rattle.paper.specs.Values.{among}
use Rattle.paper.specs.Payments.{Payment, child, follow, payments, in_block, either_of}
use Rattle.paper.specs.Refusals.{rows_at, accepted_with, outcome_alone}
use Rattle.paper.specs.Fields.{absent, text_value, plain, or_means, amount_field, remittance, fields, values_of, field_element}
use Rattle.paper.specs.Accepted.{All, AnyElement, RowsKept}
use Rattle.paper.proofs.Laws.{all_map, either_none}
use Rattle.paper_acceptance.proofs.Arranged.{rows_of}
use Rattle.paper_acceptance.proofs.Apart.{unlike}
use Rattle.paper_acceptance.proofs.Routes.{takes, lacks, child_absent, step}
use Rattle.paper_acceptance.proofs.Proper.{Proper, first_proper, whatever_withdrawn}
use Rattle.paper_acceptance.proofs.Present.{As, PaymentAs, payments_as}
use Rattle.paper_acceptance.proofs.Accepts.{accepted_from}

named_first : (rs more : List Row) (k : ℕ) → (name_in rs k ≡ [] → ⊥) → name_in (rs ++ more) k ≡ name_in rs k
unfolding name_in
named_first [] more k n = absurd (n refl)
named_first (r ∷ rs) more k n = go (eqb r.row k) n (λ m. named_first rs more k m)
  where
    go : (b : Bool) → ((if b then r.name else name_in rs k) ≡ [] → ⊥) → ((name_in rs k ≡ [] → ⊥) → name_in (rs ++ more) k ≡ name_in rs k)
        → (if b then r.name else name_in (rs ++ more) k) ≡ (if b then r.name else name_in rs k)
    go true n below = refl
    go false n below = below n

pub name_as_before : (k : ℕ) → (name_in rows k ≡ [] → ⊥) → name k ≡ name_in rows k
unfolding name every_row
name_as_before k n = named_first rows instant_changes k n

-- the first profile's rows, whichever of them are withdrawn
abbrev first_with : List ℕ → Profile
first_with withdrawn = record { rows = rows; withdrawn = withdrawn }

proper_with : (withdrawn : List ℕ) → Proper (first_with withdrawn)
unfolding for_new first_profile
proper_with withdrawn = whatever_withdrawn first_proper withdrawn

-- a block of the first profile has no date and time
no_time : (withdrawn : List ℕ) (b : Element) → As (first_with withdrawn) (proper_with withdrawn) AnyElement 2 10 b → follow (22 ∷ 58 ∷ []) b ≡ none
unfolding follow rows instant_changes every_row name_in name row_in row_of leaf group group_under bytes same takes lacks rows_of rows_at among unlike
no_time withdrawn b c = go (child 22 b) refl
  where
    none_there : (u : Element) → child 22 b ≡ some u → child 58 u ≡ none
    none_there u e =
        let d = step (first_with withdrawn) AnyElement (proper_with withdrawn).apart 2 10 22 b u refl c e in
        child_absent (first_with withdrawn) AnyElement u d.0 10 (row_of (first_with withdrawn) 10 22) 58 refl d.1

    go : (o : Option Element) → child 22 b ≡ o → ◌≡◌ {A = Option Element} (elim o [ none ↦ none | some u ↦ elim (child 58 u) [ none ↦ none | some v ↦ some v ] ]) none
    go none e = refl
    go (some u) e = rw (none_there u e)

pub record DateAsBefore (p : Payment) : Type 0 where
  pub element_is : field_element 4 p ≡ in_block (22 ∷ 23 ∷ []) p
  pub value_is : get_or (values_of p) 3 absent ≡ text_value (in_block (22 ∷ 23 ∷ []) p)

as_before : (withdrawn : List ℕ) (p : Payment) → PaymentAs (first_with withdrawn) (proper_with withdrawn) AnyElement p → DateAsBefore p
unfolding in_block field_element values_of fields plain or_means amount_field remittance
as_before withdrawn p c =
    let e : either_of (in_block (22 ∷ 23 ∷ []) p) (in_block (22 ∷ 58 ∷ []) p) ≡ in_block (22 ∷ 23 ∷ []) p =
    ap (either_of (in_block (22 ∷ 23 ∷ []) p)) (no_time withdrawn p.block c.block_as) ∙ either_none (in_block (22 ∷ 23 ∷ []) p) in
    record { element_is = e; value_is = ap text_value e }

in_first : (withdrawn : List ℕ) (s : List ℕ) {root : Element} → outcome_alone (first_with withdrawn) s ≡ accepted_with root → All DateAsBefore (payments root)
unfolding accepted_from RowsKept
in_first withdrawn s {root} o =
    all_map (as_before withdrawn)
    (payments_as (first_with withdrawn) (proper_with withdrawn) AnyElement root
    (none, (accepted_from (first_with withdrawn) (proper_with withdrawn) s root o).tree.but_counts.rows))

pub date_as_before : (archived : Bool) (s : List ℕ) {root : Element} → outcome_alone (profile_by false archived) s ≡ accepted_with root → All DateAsBefore (payments root)
unfolding profile_by for_new for_archived
date_as_before true s o = in_first [] s o
date_as_before false s o = in_first (32 ∷ []) s o
