-- The part where a field of a payment stands, handed back.
use Rattle.std.specs.Prelude.{Option}
use Prim.Native.Nat.{ℕ, zero, suc, ◌+◌, ◌≤◌, ◌<◌}
use native.Mathlib.Omega.{arith}
use mathlib.Core.List.{List, [], ◌∷◌}
use mathlib.Core.Path.{◌≡◌, refl, sym, ◌∙◌, subst}
use denote.Ref.{Bor}
use lib.ListN.{length}
use Rattle.paper.specs.Form.{Element}
use Rattle.paper.specs.Payments.{Payment, payments}
use Rattle.paper.specs.Table.{Part, part_of}
use Rattle.paper.specs.Fields.{field_element, field_of}
use Rattle.tree_routes.specs.Finds.{ByName, ChildrenOf}
use Rattle.rule_limits.specs.declared.PaymentAt.{PaymentAt}
use Rattle.rule_limits.specs.Ordered.{IsPayment, PaymentsAt, more_payments, payment_in, Ordered}
use Rattle.rule_limits.proofs.First.{payment_there}
use Rattle.verdict_table.specs.Rows.{SpanIs}
use Rattle.verdict_table.specs.declared.Span.{Span}
use Rattle.verdict_parts.specs.Parts.{HandsBack}

-- the k-th payment, where it stands, and its fields
pub record Kth (s tree order : List ℕ) (k : ℕ) (ps : List Payment) : Type 0 where
  pub p : Payment
  pub stands : IsPayment s tree (payment_in order k) p
  pub fields : (field : ℕ) → field_of ps k field ≡ part_of (field_element field p)

kth_from : {s tree order : List ℕ} (j k : ℕ) (ps : List Payment) → PaymentsAt s tree order j ps → k < length ps
    → (p : Payment) × IsPayment s tree (payment_in order (j + k)) p × ((field : ℕ) → field_of ps k field ≡ part_of (field_element field p))
unfolding field_of
kth_from j k [] t h = absurd (omega arith)
kth_from {s} {tree} {order} j zero (p ∷ ps) (more_payments at t) h =
    let e : j ≡ j + 0 = omega arith in (p, subst (λ (m : ℕ). IsPayment s tree (payment_in order m) p) e at, λ field. refl)
kth_from {s} {tree} {order} j (suc k) (p ∷ ps) (more_payments at t) h =
    let r = kth_from (j + 1) k ps t (omega arith) in
    let e : j + 1 + k ≡ j + suc k = omega arith in
    (r.0, subst (λ (m : ℕ). IsPayment s tree (payment_in order m) r.0) e r.1, r.2)

pub kth : {s tree order : List ℕ} {root : Element} (k : ℕ) → Ordered s tree order root → k < length (payments root) → Kth s tree order k (payments root)
kth {s} {tree} {order} {root} k o h =
    let r = kth_from 0 k (payments root) o.payments_at h in
    let e : 0 + k ≡ k = omega arith in
    record { p = r.0; stands = subst (λ (m : ℕ). IsPayment s tree (payment_in order m) r.0) e r.1; fields = r.2 }

-- a span's part, handed back
span_part : {message handed : Bor (List ℕ)} {r : Span} {part : Part} → SpanIs message.now part r
    → (r.start + r.size ≤ length message.now → HandsBack message handed (record { start = r.start; size = r.size })) → HandsBack message handed part
span_part {message} {handed} {r} {part} is h =
    let b = h is.inside in
    record {
      bytes_are = b.bytes_are ∙ rw (is.start_is, is.size_is);
      in_the_message = b.in_the_message;
      at_its_place = b.at_its_place ∙ rw is.start_is;
    }

pub found_part : (k field : ℕ) {message handed : Bor (List ℕ)} {tree order : List ℕ} {own block : List (Option ℕ)} {root : Element} {there : PaymentAt} {r : Span}
    → Ordered message.now tree order root → k < length (payments root) → there ≡ payment_in order k
    → ChildrenOf tree there.own own → ChildrenOf tree there.block block
    → ((s : List ℕ) (p : Payment) → ByName s tree p.own own → ByName s tree p.block block → SpanIs s (part_of (field_element field p)) r)
    → (r.start + r.size ≤ length message.now → HandsBack message handed (record { start = r.start; size = r.size }))
    → HandsBack message handed (field_of (payments root) k field)
found_part k field {message} {handed} o l e own block span part =
    let q = kth k o l in
    let p = q.p in
    let t = payment_there e q.stands in
    let is = span message.now p (own message.now p.own t.own_is) (block message.now p.block t.block_is) in
    subst (λ (x : Part). HandsBack message handed x) (sym (q.fields field)) (span_part is part)
