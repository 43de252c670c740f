-- The amount of a payment, and the exact sum of amounts, payment after payment.
use Prim.Native.Nat.{ℕ, ◌+◌, ◌≤◌, ◌<◌}
use mathlib.Core.List.{List, [], ◌∷◌, map}
use mathlib.Core.Option.{Option, some}
use mathlib.Core.Bool.{true}
use mathlib.Core.Path.{◌≡◌, refl, sym, ap, ◌∙◌, subst}
use native.Mathlib.Omega.{arith}
use lib.ListN.{length}
use Rattle.paper.specs.Bytes.{every}
use Rattle.paper.specs.Form.{Element}
use Rattle.paper.specs.Values.{cents, money}
use Rattle.paper.specs.Payments.{Payment, text_of, follow, instructed_amount, amount_of, sum_of}
use Rattle.paper.specs.Accepted.{All, all_more}
use Rattle.paper.proofs.Laws.{amount_is, no_amount}
use Rattle.form_names.specs.Names.{is_sought}
use Rattle.tree.specs.Laid.{LaidAt}
use Rattle.tree_routes.specs.Finds.{Finds, found_at, onward}
use Rattle.std.specs.Prelude.{Some, None}
use Rattle.std.specs.Prelude as code
use Rattle.tree_routes.proofs.Laws.{onward_some}
use Rattle.tree_routes.proofs.WhatIsFound.{found_none, found_some}
use Rattle.rule_limits.specs.declared.PaymentAt.{PaymentAt}
use Rattle.rule_limits.specs.Ordered.{PaymentsAt, payment_in}
use Rattle.rule_limits.proofs.First.{FirstPayment, first_payment, no_payment_left, payment_there, one_fewer}
use Rattle.tree_leaves.specs.Readable.{ReadMoney, ReadPayment}

-- what `follow` finds from an element that is laid out
pub route_found : {s tree : List ℕ} {i : ℕ} {f : code.Option ℕ} (route : List ℕ) {t : Element} → every is_sought route ≡ true → LaidAt s tree i t
    → ((o : Option Element) → every is_sought route ≡ true → Finds s tree o (Some i) → Finds s tree (onward route o) f) → Finds s tree (follow route t) f
route_found {s} {tree} {f = f} route {t} rows l h =
    subst (λ (o : Option Element). Finds s tree o f) (onward_some route t) (h (some t) rows (found_at l))

-- the amount of a payment, by what was found
module _ {s tree : List ℕ} {f : code.Option ℕ} where
  pub amount_absent : (t : Element) → Finds s tree (instructed_amount t) f → f ≡ None → 0 ≡ amount_of t
  amount_absent t found e = sym (no_amount t (found_none found e))

  pub amount_there : (t : Element) {i r : ℕ} → Finds s tree (instructed_amount t) f → f ≡ Some i
      → ((u : Element) → LaidAt s tree i u → money (text_of u) ≡ true → r ≡ cents (text_of u))
      → ReadMoney (instructed_amount t) → r ≡ amount_of t
  amount_there t found e h read =
      let u = found_some found e in
      h u.it u.laid (read u.it u.is_it) ∙ sym (amount_is t u.is_it)

-- the first of a list and the others have what all have
module _ {A : Type 0} {P : A → Type 0} {a : A} {rest : List A} where
  head_has : All P (a ∷ rest) → P a
  head_has (all_more p h) = p

  tail_have : All P (a ∷ rest) → All P rest
  tail_have (all_more p h) = h

  pub first_has : {l : List A} → l ≡ a ∷ rest → All P l → P a
  first_has e h = head_has (subst (All P) e h)

  pub others_have : {l : List A} → l ≡ a ∷ rest → All P l → All P rest
  others_have e h = tail_have (subst (All P) e h)

-- the sum of the amounts of some payments
abbrev pub amounts : List Payment → ℕ
amounts ps = sum_of (map (λ p. p.own) ps)

amounts_more : (p : Payment) (ps : List Payment) → amounts (p ∷ ps) ≡ amount_of p.own + amounts ps
unfolding sum_of
amounts_more p ps = refl

amounts_none : amounts [] ≡ 0
unfolding sum_of
amounts_none = refl

-- Payment k is next, up to payment n, and those before it come to a sum.
pub record Summing (s tree order : List ℕ) (ps : List Payment) (done k n : ℕ) : Type 0 where
  rest : List Payment
  rest_at : PaymentsAt s tree order k rest
  rest_many : n ≡ k + length rest
  rest_read : All ReadPayment rest
  sum_is : amounts ps ≡ done + amounts rest

-- what `amount` answers
abbrev pub AmountAt : (s tree : List ℕ) (own r : ℕ) → Type 0
AmountAt s tree own r = (t : Element) → LaidAt s tree own t → ReadMoney (instructed_amount t) → r ≡ amount_of t

module _ {s tree order : List ℕ} {ps : List Payment} where
  pub summing : {k n : ℕ} → PaymentsAt s tree order k ps → n ≡ k + length ps → All ReadPayment ps → Summing s tree order ps 0 k n
  summing at e h = record { rest = ps; rest_at = at; rest_many = e; rest_read = h; sum_is = omega arith }

  module _ {done k n r : ℕ} {q : PaymentAt} (w : Summing s tree order ps done k n) (h : k < n) (few : n ≤ 64) (here : k < 64 → q ≡ payment_in order k)
      (says_amount : AmountAt s tree q.own r) where
    with_one : (f : FirstPayment s tree order k w.rest) → amounts ps ≡ done + (r + amounts f.others)
    with_one f =
        let p = f.one in
        let laid = (payment_there (here (omega arith)) f.one_there).own_is in
        let x : r ≡ amount_of p.own = says_amount p.own laid (first_has f.first_is w.rest_read).amount in
        let y : amounts w.rest ≡ amount_of p.own + amounts f.others = ap amounts f.first_is ∙ amounts_more p f.others in
        w.sum_is ∙ ap (λ (m : ℕ). done + m) (y ∙ ap (λ (m : ℕ). m + amounts f.others) (sym x))

    pub sum_goes : Summing s tree order ps (done + r) (k + 1) n
    sum_goes =
        let f = first_payment w.rest_at w.rest_many h in
        let x : done + (r + amounts f.others) ≡ done + r + amounts f.others = omega arith in
        record {
          rest = f.others;
          rest_at = f.others_at;
          rest_many = one_fewer k w.rest_many f.first_is;
          rest_read = others_have f.first_is w.rest_read;
          sum_is = with_one f ∙ x;
        }

  pub sum-ends : {done k n : ℕ} → Summing s tree order ps done k n → n ≤ k → done ≡ amounts ps
  sum-ends {done} w h =
      let x : amounts w.rest ≡ 0 = ap amounts (no_payment_left w.rest_at w.rest_many h) ∙ amounts_none in
      omega (arith, w.sum_is, x)
