-- The first of the blocks and of the payments that stand in the order from one on; and that none is left.
use Prim.Native.Nat.{ℕ, suc, ◌+◌, ◌≤◌, ◌<◌}
use mathlib.Core.List.{List, [], ◌∷◌}
use mathlib.Core.Path.{◌≡◌, refl, sym, ap, ◌∙◌, subst}
use native.Mathlib.Omega.{arith}
use lib.ListN.{length, get_or}
use Rattle.paper.specs.Form.{Element}
use Rattle.paper.specs.Payments.{Payment}
use Rattle.tree.specs.Laid.{LaidAt}
use Rattle.rule_limits.specs.declared.PaymentAt.{PaymentAt}
use Rattle.rule_limits.specs.Ordered.{BlocksAt, no_blocks, more_blocks, IsPayment, PaymentsAt, no_payments, more_payments, payment_in}

pub record FirstBlock (s tree order : List ℕ) (k : ℕ) (bs : List Element) : Type 0 where
  pub one : Element
  pub one_laid : LaidAt s tree (get_or order k 0) one
  pub others : List Element
  pub others_at : BlocksAt s tree order (k + 1) others
  pub first_is : bs ≡ one ∷ others

pub record FirstPayment (s tree order : List ℕ) (k : ℕ) (ps : List Payment) : Type 0 where
  pub one : Payment
  pub one_there : IsPayment s tree (payment_in order k) one
  pub others : List Payment
  pub others_at : PaymentsAt s tree order (k + 1) others
  pub first_is : ps ≡ one ∷ others

module _ {s tree order : List ℕ} {n : ℕ} where
  pub first_block : {k : ℕ} {bs : List Element} → BlocksAt s tree order k bs → n ≡ k + length bs → k < n → FirstBlock s tree order k bs
  first_block no_blocks e h = absurd (omega arith)
  first_block (more_blocks {b = b} {bs} l rest) e h = record { one = b; one_laid = l; others = bs; others_at = rest; first_is = refl }

  pub no_block_left : {k : ℕ} {bs : List Element} → BlocksAt s tree order k bs → n ≡ k + length bs → n ≤ k → bs ≡ []
  no_block_left no_blocks e h = refl
  no_block_left (more_blocks l rest) e h = absurd (omega arith)

  pub first_payment : {k : ℕ} {ps : List Payment} → PaymentsAt s tree order k ps → n ≡ k + length ps → k < n → FirstPayment s tree order k ps
  first_payment no_payments e h = absurd (omega arith)
  first_payment (more_payments {p = p} {ps} l rest) e h = record { one = p; one_there = l; others = ps; others_at = rest; first_is = refl }

  pub no_payment_left : {k : ℕ} {ps : List Payment} → PaymentsAt s tree order k ps → n ≡ k + length ps → n ≤ k → ps ≡ []
  no_payment_left no_payments e h = refl
  no_payment_left (more_payments l rest) e h = absurd (omega arith)

-- an element, and a payment, stands where a function says
pub stands_at : {s tree : List ℕ} {t : Element} {i j : ℕ} → i ≡ j → LaidAt s tree j t → LaidAt s tree i t
stands_at {s} {tree} {t} e l = subst (λ (k : ℕ). LaidAt s tree k t) (sym e) l

pub payment_there : {s tree : List ℕ} {p : Payment} {q r : PaymentAt} → q ≡ r → IsPayment s tree r p → IsPayment s tree q p
payment_there {s} {tree} {p} e l = subst (λ (r : PaymentAt). IsPayment s tree r p) (sym e) l

-- one fewer is left after the first
pub one_fewer : (k : ℕ) {n : ℕ} {A : Type 0} {l rest : List A} {a : A} → n ≡ k + length l → l ≡ a ∷ rest → n ≡ k + 1 + length rest
one_fewer k {A = A} {rest = rest} e f = e ∙ ap (λ (m : List A). k + length m) f ∙ (let x : k + suc (length rest) ≡ k + 1 + length rest = omega arith in x)
