-- Where the blocks and payments stand, as numbers in a lent buffer: number k, below 16, is the element of block k; for payment k the three numbers from
-- 16 + 3k on are its own element, its block's element and its block's number.
use Rattle.std.specs.Prelude.{ℕ, ◌+◌, ◌*◌, ◌≤◌, List, [], ◌∷◌, ◌≡◌, length, get_or, Result, Ok, Err, IfOk, IfErr}
use Rattle.std.proofs.Math.Option.{none}
use Rattle.paper.specs.Form.{Element}
use Rattle.paper.specs.Payments.{Payment, blocks, payments}
use Rattle.paper.specs.Refusals.{refuse, limits_refusal}
use Rattle.paper.specs.Answers.{refusal_of}
use Rattle.paper.specs.declared.Fault.{Fault}
use Rattle.paper.specs.declared.Fault.TheVariants.{TooMany}
use Rattle.tree.specs.Laid.{LaidAt}
use Rattle.rule_limits.specs.declared.Many.{Many}
use Rattle.rule_limits.specs.declared.PaymentAt.{PaymentAt}

-- The payment stands there.
pub record IsPayment (s tree : List ℕ) (r : PaymentAt) (p : Payment) : Type 0 where
  pub own_is : LaidAt s tree r.own p.own
  pub block_is : LaidAt s tree r.block p.block
  pub number_is : r.number ≡ p.block_number

-- These blocks stand there, from block k on.
pub data BlocksAt (s tree order : List ℕ) : (k : ℕ) → List Element → Type 0 where
  no_blocks : {k : ℕ} → BlocksAt s tree order k []
  more_blocks : {k : ℕ} {b : Element} {bs : List Element} → LaidAt s tree (get_or order k 0) b → BlocksAt s tree order (k + 1) bs
      → BlocksAt s tree order k (b ∷ bs)

-- payment k, and these payments from payment k on
unfoldable pub payment_in : (order : List ℕ) → ℕ → PaymentAt
payment_in order k = record { own = get_or order (16 + 3 * k) 0; block = get_or order (17 + 3 * k) 0; number = get_or order (18 + 3 * k) 0 }

pub data PaymentsAt (s tree order : List ℕ) : (k : ℕ) → List Payment → Type 0 where
  no_payments : {k : ℕ} → PaymentsAt s tree order k []
  more_payments : {k : ℕ} {p : Payment} {ps : List Payment} → IsPayment s tree (payment_in order k) p → PaymentsAt s tree order (k + 1) ps
      → PaymentsAt s tree order k (p ∷ ps)

pub record Ordered (s tree order : List ℕ) (root : Element) : Type 0 where
  pub blocks_at : BlocksAt s tree order 0 (blocks root)
  pub payments_at : PaymentsAt s tree order 0 (payments root)

-- Refusal 5 as the answer says it: nothing is in excess, with the numbers of blocks and payments, all in order; or the first element in excess.
pub data Limited (s tree order : List ℕ) (root : Element) : Result Many Fault → Type 0 where
  is_within : {b p : ℕ} → limits_refusal root ≡ none → length (blocks root) ≡ b → length (payments root) ≡ p → Ordered s tree order root
      → Limited s tree order root (Ok (record { blocks = b; payments = p }))
  is_excess : {element offset : ℕ} → limits_refusal root ≡ refuse 5 element offset → Limited s tree order root (Err (TooMany element offset))

-- at most 16 blocks and 64 payments
abbrev pub Few : Result Many Fault → Type 0
Few r = IfOk r (λ many. (many.blocks ≤ 16) × (many.payments ≤ 64))

-- a refusal is 5
abbrev pub FiveAlone : Result Many Fault → Type 0
FiveAlone r = IfErr r (λ fault. (refusal_of fault).number ≡ 5)
