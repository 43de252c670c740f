-- The promises of the reader determine its answers; and demands 1 and 2 as the promise of `verdict` has them, in whichever profile is named (crates/paper_acceptance/proofs/Proper.antt,
-- `named_proper`).
use Rattle.std.specs.Prelude.{Result, Ok, Err}
use Prim.Native.Nat.{ℕ, ◌*◌, ◌≤◌}
use mathlib.Core.List.{List, Memᴰ}
use mathlib.Core.Path.{◌≡◌, refl, sym, ap, ◌∙◌, subst}
use mathlib.Core.Logic.{◌↔◌}
use lib.ListN.{length, drop}
use borrow.Author.Tests.{eqb-false}
use denote.Ref.{Bor}
use Rattle.paper.specs.Sizes.{numbers_per_payment, least_table, largest_message}
use Rattle.paper.specs.Form.{Element, FirstImpossible}
use Rattle.paper.specs.Rows.{Profile}
use Rattle.paper.specs.Payments.{Payment, blocks, payments, total}
use Rattle.paper.specs.Refusals.{Outcome, refused_as, accepted_with, MessageAnswer, accepted, refused, answer_to, outcome, verdict}
use Rattle.paper.specs.Accepted.{All, Accepted}
use Rattle.paper.specs.Order.{Stage, order, numbers, StageHolds, FirstNot}
use Rattle.paper.specs.Table.{over, written, numbers_of, payment_numbers, table_after, PairsThere}
use Rattle.paper.specs.Regrouping.{At}
use Rattle.paper.specs.Answers.{verdict_says, refusal_of, numbered}
use Rattle.paper.specs.declared.Fault.{Fault}
use Rattle.paper.specs.declared.Fault.TheVariants.{NotOfTheForm}
use Rattle.paper.specs.declared.Accepted.{Accepted as Answer}
use Rattle.verdict_table.proofs.Numbers.{payment_begins, later_stay}
use Rattle.paper_acceptance.proofs.Proper.{Proper}
use Rattle.paper_acceptance.proofs.Present.{no_other_absent, FieldsThere, fields_there}
use Rattle.paper_acceptance.proofs.Absent.{PairsExactly, accepted-pairs}
use Rattle.paper_acceptance.proofs.Outcome.{accepted_alone, accepted_with_table}
use Rattle.paper_acceptance.proofs.Accepts.{accepts_with_table}
use Rattle.paper_acceptance.proofs.Order as the_order
use Rattle.verdict_answers.proofs.Agreement.{one_verdict, no_zero}
use Rattle.verdict_reader.specs.Promises.{VerdictPromise, FieldPromise}

-- two answers that keep the promise of `verdict`, and what they leave in the table, are the same
pub answers_agree : {profile : Profile} {message before after other : List ℕ} (v w : Result Answer Fault) → VerdictPromise profile message before v after → VerdictPromise profile message before w other → v ≡ w
answers_agree v w a b = one_verdict v w (a.answer_is ∙ sym b.answer_is)

pub tables_agree : {profile : Profile} {message before after other : List ℕ} {v w : Result Answer Fault} → VerdictPromise profile message before v after → VerdictPromise profile message before w other → after ≡ other
tables_agree a b = a.table_is ∙ sym b.table_is

-- two parts that keep the promise of `field` have the same bytes and lie at the same place
pub fields_agree : (profile : Profile) {message a b : Bor (List ℕ)} (payment field : ℕ) → FieldPromise profile message payment field a → FieldPromise profile message payment field b
    → (a.now ≡ b.now) × (a.ref_ptr.0 ≡ b.ref_ptr.0) × (a.ref_ptr.1 ≡ b.ref_ptr.1)
fields_agree profile payment field h g = (h.bytes_are ∙ sym g.bytes_are, h.in_the_message ∙ sym g.in_the_message, h.at_its_place ∙ sym g.at_its_place)

pub data IsAccepted : Result Answer Fault → Type 0 where
  is_accepted : {of : Answer} → IsAccepted (Ok of)

-- Number 0 is acceptance.
accepted_zero : {v : Result Answer Fault} → IsAccepted v → (verdict_says v).number ≡ 0
unfolding verdict_says accepted
accepted_zero is_accepted = refl

zero_accepted : (v : Result Answer Fault) → (verdict_says v).number ≡ 0 → IsAccepted v
unfolding verdict_says refused
zero_accepted (Ok of) e = is_accepted
zero_accepted (Err f) e = absurd (eqb-false (refusal_of f).number 0 (no_zero f) e)

module _ {profile : Profile} (proper : Proper profile) {s before after : List ℕ} {v : Result Answer Fault} (a : VerdictPromise profile s before v after) where
  number_is : (verdict_says v).number ≡ (verdict profile (length before) s).number
  number_is = ap (λ (m : MessageAnswer). m.number) a.answer_is

  -- Demand 2: a message is accepted exactly when the table is long enough and the rules hold of it.
  pub accepted_exactly : IsAccepted v ↔ (least_table ≤ length before) × Accepted profile s
  accepted_exactly =
      let z = the_order.accepted_zero profile proper (length before) s in
      ((λ i. z.0 (sym number_is ∙ accepted_zero i)), (λ h. zero_accepted v (number_is ∙ z.1 h)))

  -- Otherwise the refusal is the first by the order of the checks: its number is one of the first stage that does not hold.
  pub refused_by : (stage : Stage) → Memᴰ (verdict_says v).number (numbers stage) ↔ FirstNot (StageHolds profile (length before) s) order stage
  refused_by stage =
      let z = the_order.refused_by profile proper (length before) s stage in (
        (λ m. z.0 (subst (λ (n : ℕ). Memᴰ n (numbers stage)) number_is m)),
        (λ f. subst (λ (n : ℕ). Memᴰ n (numbers stage)) (sym number_is) (z.1 f)),
      )

  -- Refused with 2 at k exactly when the table is long enough, the message is not too long and k is its first impossible byte.
  pub form_refused : (k : ℕ) → (v ≡ Err (NotOfTheForm k)) ↔ (least_table ≤ length before) × (length s ≤ largest_message) × FirstImpossible s k
  unfolding verdict_says refusal_of numbered
  form_refused k =
      let z = the_order.form_refused profile proper (length before) s k in
      ((λ e. z.0 (sym a.answer_is ∙ ap verdict_says e)), (λ h. one_verdict v (Err (NotOfTheForm k)) (a.answer_is ∙ z.1 h)))

-- Demand 1: after a refusal the table keeps its old numbers.
pub refused_keeps : {profile : Profile} {s before after : List ℕ} {f : Fault} → VerdictPromise profile s before (Err f) after → after ≡ before
unfolding verdict answer_to verdict_says refused accepted table_after over written
refused_keeps {profile} {s} {before} {after} {f} a = go (outcome profile (length before) s) a.answer_is a.table_is
  where
    go : (o : Outcome) → refused (refusal_of f) ≡ answer_to o → after ≡ table_after o before → after ≡ before
    go (refused_as r) e t = t
    go (accepted_with root) e t = absurd (eqb-false (refusal_of f).number 0 (no_zero f) (ap (λ (m : MessageAnswer). m.number) e))

-- On acceptance the answer holds blocks, payments and total cents, and the table each payment: payment k from number 20k on, and behind the last what was there. Of a
-- payment's pairs none is absent but those that may be; each is there exactly where the outermost element of its route is. Nor is one of the fields absent that must be there.
pub record Filled (profile : Profile) (s before after : List ℕ) (b p c : ℕ) : Type 0 where
  pub root : Element
  pub outcome_is : outcome profile (length before) s ≡ accepted_with root
  pub blocks_are : b ≡ length (blocks root)
  pub payments_are : p ≡ length (payments root)
  pub cents_are : c ≡ total root
  pub table_is : after ≡ table_after (accepted_with root) before
  pub begins : (k : ℕ) {one : Payment} → At (payments root) k one → payment_numbers k after ≡ numbers_of one
  pub later : drop (numbers_per_payment * length (payments root)) after ≡ drop (numbers_per_payment * length (payments root)) before
  pub pairs : All PairsThere (payments root)
  pub pairs_exactly : All PairsExactly (payments root)
  pub fields : All FieldsThere (payments root)

pub accepted_fills : {profile : Profile} → Proper profile → {s before after : List ℕ} {of : Answer} → VerdictPromise profile s before (Ok of) after → Filled profile s before after of.blocks of.payments of.cents
unfolding verdict verdict_says answer_to accepted
accepted_fills {profile} proper {s} {before} {after} {of} a =
    let h = (accepted_exactly proper a).0 is_accepted in
    let r = (accepts_with_table profile proper (length before) s h.0).1 h.1 in
    let t = (accepted_with_table profile proper (length before) s r.0).0 r.1 in
    let e : accepted of.blocks of.payments of.cents ≡ answer_to (accepted_with r.0) = a.answer_is ∙ ap answer_to r.1 in
    let filled : after ≡ table_after (accepted_with r.0) before = a.table_is ∙ ap (λ (o : Outcome). table_after o before) r.1 in
    record {
      root = r.0;
      outcome_is = r.1;
      blocks_are = ap (λ (m : MessageAnswer). m.blocks) e;
      payments_are = ap (λ (m : MessageAnswer). m.payments) e;
      cents_are = ap (λ (m : MessageAnswer). m.cents) e;
      table_is = filled;
      begins = λ k i. ap (payment_numbers k) filled ∙ payment_begins r.0 before i;
      later = ap (drop (numbers_per_payment * length (payments r.0))) filled ∙ later_stay r.0 before;
      pairs = no_other_absent profile proper r.0 ((accepted_alone profile proper s r.0).0 t.1).2;
      pairs_exactly = accepted-pairs profile proper s t.1;
      fields = fields_there profile proper r.0 ((accepted_alone profile proper s r.0).0 t.1).2.but_counts.rows;
    }
