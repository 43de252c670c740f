-- The verdict accepts a message, with a root, exactly where the table is long enough, the message is not too long, its reading gives that root, and the root's tree is
-- accepted.
use Rattle.std.specs.Prelude.{if◌then◌else◌}
use Prim.Native.Nat.{ℕ, ◌≤◌}
use native.Mathlib.Omega.{arith}
use mathlib.Core.List.{List, [], ◌∷◌, map}
use mathlib.Core.Bool.{Bool, true, false}
use mathlib.Core.Option.{Option, none, some}
use mathlib.Core.Path.{◌≡◌, refl, sym, ◌∙◌, ap, subst}
use mathlib.Core.Logic.{◌↔◌}
use borrow.Author.Tests.{ltb-false, le-ltb}
use lib.ListN.{length}
use lib.Dec.{ltb}
use Rattle.paper.specs.Sizes.{largest_message, least_table}
use Rattle.paper.specs.Bytes.{same}
use Rattle.paper.specs.Form.{Element}
use Rattle.paper.specs.Computed.Reading.{Reading, root_is, stops_at, read}
use Rattle.paper.specs.Rows.{Profile}
use Rattle.paper.specs.Payments.{Payment, all_of, blocks}
use Rattle.paper.specs.Refusals.{Refusal, refuse, Outcome, accepted_with, unless_refused, of_reading, tree_refusal, outcome_alone, outcome, size_refusal, table_refusal, among_texts}
use Rattle.paper.specs.Accepted.{All, all_none, all_more, AnyElement, RowsKept, AcceptedTree}
use Rattle.paper.proofs.Laws.{both_left, all_map}
use Rattle.paper_acceptance.proofs.Rows.{neither, or_none, refuses}
use Rattle.paper_acceptance.proofs.Routes.{steps, step_all}
use Rattle.paper_acceptance.proofs.Proper.{Proper, payment_route}
use Rattle.paper_acceptance.proofs.Present.{As, stands, PaymentAs, blocks_as, payments_as}
use Rattle.paper_acceptance.proofs.Stages.{HasAmount, own_elements, rows_kept, limits_kept, values_right, usage_kept, ids_apart, counts_true}

-- where the rows are kept, each payment has its amount
module _ (profile : Profile) (proper : Proper profile) (root : Element) (kept : RowsKept profile root) where
  has_amount : (t : Element) → As profile proper AnyElement 10 37 t → HasAmount t
  unfolding among_texts same
  has_amount t c = stands profile proper AnyElement 10 37 (41 ∷ 42 ∷ []) t (payment_route proper _ refl) c

  own_all : {ps : List Payment} → All (PaymentAs profile proper AnyElement) ps → All HasAmount (map (λ p. p.own) ps)
  own_all all_none = all_none
  own_all (all_more {a = p} c h) = all_more (has_amount p.own c.own_as) (own_all h)

  pub amounts_there : All HasAmount (own_elements root)
  unfolding RowsKept
  amounts_there = own_all (payments_as profile proper AnyElement root (none, kept))

  pub block_amounts_there : All (λ b. All HasAmount (all_of 37 b)) (blocks root)
  unfolding RowsKept steps
  block_amounts_there =
      all_map (λ b c. all_map has_amount (step_all profile AnyElement proper.apart 2 10 37 b (both_left _ _ proper.to_payments) c))
      (blocks_as profile proper AnyElement root (none, kept))

module _ (profile : Profile) (proper : Proper profile) where
  -- all stages over the tree
  pub no_refusal_accepted : (root : Element) → tree_refusal profile root ≡ none → AcceptedTree profile root
  unfolding tree_refusal
  no_refusal_accepted root e =
      let a = neither _ _ e in
      let b = neither _ _ a.1 in
      let c = neither _ _ b.1 in
      let d = neither _ _ c.1 in
      let f = neither _ _ d.1 in
      let kept = (rows_kept profile proper.apart root).0 a.0 in
      record {
        but_counts = record {
          rows = kept;
          limits = (limits_kept root).0 b.0;
          values = (values_right profile proper.apart root).0 c.0;
          usage = (usage_kept root).0 d.0;
          ids = (ids_apart root).0 f.0;
        };
        counts = (counts_true root (amounts_there profile proper root kept) (block_amounts_there profile proper root kept)).0 f.1;
      }

  pub accepted_no_refusal : (root : Element) → AcceptedTree profile root → tree_refusal profile root ≡ none
  unfolding tree_refusal
  accepted_no_refusal root t =
      let r = t.but_counts in
      let kept = r.rows in
      or_none ((rows_kept profile proper.apart root).1 kept)
      (or_none ((limits_kept root).1 r.limits)
      (or_none ((values_right profile proper.apart root).1 r.values)
      (or_none ((usage_kept root).1 r.usage)
      (or_none ((ids_apart root).1 r.ids)
      ((counts_true root (amounts_there profile proper root kept) (block_amounts_there profile proper root kept)).1 t.counts)))))

not_refused : (o : Option Refusal) {later : Outcome} {root : Element} → unless_refused o later ≡ accepted_with root → (o ≡ none) × (later ≡ accepted_with root)
unfolding unless_refused
not_refused none e = (refl, e)
not_refused (some r) e = let z : ◌≡◌ {A = ℕ} 0 1 = cc in absurd (omega arith)

pub unless_none : {o : Option Refusal} {later : Outcome} → o ≡ none → unless_refused o later ≡ later
unfolding unless_refused
unless_none e = rw e

-- a limit that is kept
pub within : (low high : ℕ) (number element offset : ℕ) → (if ltb high low then refuse number element offset else none) ≡ none ↔ low ≤ high
within low high number element offset = ((λ e. go (ltb high low) refl e), (λ l. rw (le-ltb high low l)))
  where
    go : (t : Bool) → ltb high low ≡ t → (if t then refuse number element offset else none) ≡ none → low ≤ high
    go true p q = refuses _ _ _ q
    go false p q = ltb-false high low p

pub size_kept : (s : List ℕ) → size_refusal s ≡ none ↔ length s ≤ largest_message
unfolding size_refusal
size_kept s = within (length s) largest_message 1 0 largest_message

pub table_kept : (n : ℕ) → table_refusal n ≡ none ↔ least_table ≤ n
unfolding table_refusal
table_kept n = within least_table n 14 0 0

module _ (profile : Profile) (proper : Proper profile) where
  reading_accepted : (r : Reading) (root : Element) → of_reading (tree_refusal profile) r ≡ accepted_with root ↔ (r ≡ root_is root) × AcceptedTree profile root
  unfolding of_reading
  reading_accepted (stops_at n) root =
      ((λ e. let z : ◌≡◌ {A = ℕ} 0 1 = cc in absurd (omega arith)), (λ p. let e = p.0 in let z : ◌≡◌ {A = ℕ} 0 1 = cc in absurd (omega arith)))
  reading_accepted (root_is t) root = (there, back)
    where
      there : unless_refused (tree_refusal profile t) (accepted_with t) ≡ accepted_with root → (root_is t ≡ root_is root) × AcceptedTree profile root
      there e =
          let p = not_refused (tree_refusal profile t) e in
          let f = p.1 in
          let g : t ≡ root = cc in
          (ap root_is g, subst (λ (u : Element). AcceptedTree profile u) g (no_refusal_accepted profile proper t p.0))

      back : (root_is t ≡ root_is root) × AcceptedTree profile root → unless_refused (tree_refusal profile t) (accepted_with t) ≡ accepted_with root
      back p =
          let f = p.0 in
          let g : t ≡ root = cc in
          unless_none (accepted_no_refusal profile proper t (subst (λ (u : Element). AcceptedTree profile u) (sym g) p.1)) ∙ ap accepted_with g

  pub accepted_alone : (s : List ℕ) (root : Element)
      → outcome_alone profile s ≡ accepted_with root ↔ (length s ≤ largest_message) × (read s ≡ root_is root) × AcceptedTree profile root
  unfolding outcome_alone
  accepted_alone s root = (
    (λ e. let p = not_refused _ e in let q = (reading_accepted (read s) root).0 p.1 in ((size_kept s).0 p.0, q.0, q.1)),
    (λ h. unless_none ((size_kept s).1 h.0) ∙ (reading_accepted (read s) root).1 (h.1, h.2)),
  )

  pub accepted_with_table : (n : ℕ) (s : List ℕ) (root : Element) → outcome profile n s ≡ accepted_with root ↔ (least_table ≤ n) × (outcome_alone profile s ≡ accepted_with root)
  unfolding outcome
  accepted_with_table n s root =
      ((λ e. let p = not_refused _ e in ((table_kept n).0 p.0, p.1)), (λ h. unless_none ((table_kept n).1 h.0) ∙ h.1))
