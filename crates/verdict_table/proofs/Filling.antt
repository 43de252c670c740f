-- The table is filled a payment at a time: the numbers of those before, and then what was there.
use Prim.Native.Nat.{ℕ, ◌+◌, ◌*◌, ◌-◌, ◌≤◌, ◌<◌}
use native.Mathlib.Omega.{arith}
use mathlib.Core.List.{List, [], ◌∷◌, ◌++◌, append_assoc, append-nil}
use mathlib.Core.Path.{◌≡◌, refl, sym, ap, ◌∙◌, subst}
use lib.ListN.{length, take, drop, length-append}
use borrow.Rule.Slice.PartMut.{put_mid}
use lib.Seq.{take_at, drop_at, drop-drop}
use Rattle.paper.proofs.Laws.{each_more}
use Rattle.verdict_table.proofs.Numbers.{all_numbers_length}
use Rattle.paper.specs.Sizes.{numbers_per_payment}
use Rattle.paper.specs.Bytes.{each}
use Rattle.paper.specs.Form.{Element}
use Rattle.paper.specs.Payments.{Payment, payments}
use Rattle.paper.specs.Table.{numbers_of}
use Rattle.paper.specs.Accepted.{All, all_more}
use Rattle.rule_limits.specs.declared.PaymentAt.{PaymentAt}
use Rattle.rule_limits.specs.Ordered.{IsPayment, PaymentsAt, payment_in, Ordered}
use Rattle.rule_limits.proofs.First.{first_payment, no_payment_left, payment_there, one_fewer}
use Rattle.verdict_table.specs.Rows.{Fitting}

-- a row written behind those so far, over what was there
pub one_row : (done row old : List ℕ) (n size : ℕ) {table : List ℕ} → length done ≡ n → table ≡ done ++ drop n old
    → put_mid n (n + size - n) table row ≡ (done ++ row) ++ drop (n + size) old
one_row done row old n size {table} e is =
    let so_many : n + size - n ≡ size = omega arith in
    let a : take n table ≡ done = ap (take n) is ∙ take_at done (drop n old) n e in
    let b : drop (n + size - n) (drop n table) ≡ drop (n + size) old =
    rw so_many (ap (drop size) (ap (drop n) is ∙ drop_at done (drop n old) n e) ∙ drop-drop size n old) in
    rw (a, b) (sym (append_assoc done row (drop (n + size) old)))

-- Filled up to payment k.
pub record Filled (s tree order old : List ℕ) (root : Element) (many k : ℕ) (table : List ℕ) : Type 0 where
  pub done : List Payment
  pub rest : List Payment
  pub split : payments root ≡ done ++ rest
  pub at_done : length done ≡ k
  pub stand : PaymentsAt s tree order k rest
  pub each_fits : All Fitting rest
  pub as_many : many ≡ k + length rest
  pub holds : table ≡ each numbers_of done ++ drop (numbers_per_payment * k) old

rest_fits : {p : Payment} {ps : List Payment} → All Fitting (p ∷ ps) → Fitting p × All Fitting ps
rest_fits (all_more f h) = (f, h)

module _ {s tree order old : List ℕ} {root : Element} {many : ℕ} where
  pub start : Ordered s tree order root → many ≡ length (payments root) → All Fitting (payments root) → Filled s tree order old root many 0 old
  unfolding each
  start o e h =
      record { done = []; rest = payments root; split = refl; at_done = refl; stand = o.payments_at; each_fits = h; as_many = omega (arith, e); holds = refl }

  module _ {k : ℕ} {table : List ℕ} (f : Filled s tree order old root many k table) where
    pub all_filled : many ≤ k → table ≡ each numbers_of (payments root) ++ drop (numbers_per_payment * length (payments root)) old
    all_filled h =
        let none_left : f.rest ≡ [] = no_payment_left f.stand f.as_many h in
        let all_done : payments root ≡ f.done = f.split ∙ (ap (λ (ps : List Payment). f.done ++ ps) none_left ∙ append-nil f.done) in
        rw (all_done, f.at_done) f.holds

    -- one more payment, whose numbers were written in their place
    pub one_filled : {there : PaymentAt} {row written : List ℕ} → k < many → there ≡ payment_in order k
        → ((p : Payment) → IsPayment s tree there p → Fitting p → row ≡ numbers_of p) → written ≡ row
        → Filled s tree order old root many (k + 1) (put_mid (numbers_per_payment * k) (numbers_per_payment * k + numbers_per_payment - numbers_per_payment * k) table written)
    one_filled {row = row} l o r e =
        let first = first_payment f.stand f.as_many l in
        let p = first.one in
        let fits = rest_fits (subst (All Fitting) first.first_is f.each_fits) in
        let is = e ∙ r p (payment_there o first.one_there) fits.0 in
        let next_row : numbers_per_payment * k + numbers_per_payment ≡ numbers_per_payment * (k + 1) = omega arith in
        record {
          done = f.done ++ (p ∷ []);
          rest = first.others;
          split = f.split ∙ (ap (λ (ps : List Payment). f.done ++ ps) first.first_is ∙ sym (append_assoc f.done (p ∷ []) first.others));
          at_done = length-append f.done (p ∷ []) ∙ omega (arith, f.at_done);
          stand = first.others_at;
          each_fits = fits.1;
          as_many = one_fewer k f.as_many first.first_is;
          holds =
              rw is
              (one_row (each numbers_of f.done) (numbers_of p) old (numbers_per_payment * k) numbers_per_payment
              (all_numbers_length f.done ∙ ap (λ (m : ℕ). numbers_per_payment * m) f.at_done) f.holds ∙
              ap (λ (x : List ℕ). x ++ drop (numbers_per_payment * k + numbers_per_payment) old) (sym (each_more numbers_of f.done p)) ∙
              ap (λ (m : ℕ). each numbers_of (f.done ++ (p ∷ [])) ++ drop m old) next_row);
        }
