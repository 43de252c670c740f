-- What is said of the payments that a list pairs.
use Rattle.std.specs.Prelude.{ℕ, ◌≤◌, ◌<◌, List, ◌≡◌, Bool, true, false, Result, Ok, Err, length, get_or, set}
use Rattle.paper.specs.Form.{Element}
use Rattle.paper.specs.Payments.{Payment, payments}
use Rattle.paper.specs.Accepted.{All}
use Rattle.paper.specs.Regrouping.{RegroupingAnswer, answered}
use Rattle.tree.specs.Laid.{LaidAt}
use Rattle.tree_routes.specs.Finds.{ByName, ChildrenOf}
use Rattle.rule_limits.specs.Ordered.{IsPayment, payment_in, PaymentsAt}
use Rattle.tree_leaves.specs.Readable.{ReadMoney}
use Rattle.move_alike.specs.Alike.{amount_in}
use Rattle.move_pairs.specs.declared.InBlock.{InBlock}
use Rattle.move_pairs.specs.declared.Unpaired.{Unpaired}
use Rattle.move_pairs.specs.declared.Unpaired.TheVariants.{OrdinalTooLarge, NamedBefore, FieldsDiffer}
use Rattle.paper.specs.declared.NotRegrouped.{NotRegrouped}
use Rattle.paper.specs.declared.NotRegrouped.TheVariants as whole

-- So many payments stand in this order, no more than a message may have, and their amounts are money.
pub record InOrder (s tree order : List ℕ) (n : ℕ) (root : Element) : Type 0 where
  pub number_is : length (payments root) ≡ n
  pub few : n ≤ 64
  pub stand : PaymentsAt s tree order 0 (payments root)
  pub amounts : All (λ p. ReadMoney (amount_in p)) (payments root)

-- The first children of its block are known.
abbrev pub Known : (tree : List ℕ) → InBlock → Type 0
Known tree r = ChildrenOf tree r.block r.children

-- The payment stands there, its block's first children are known, and its amount is money.
pub record IsThere (s tree : List ℕ) (r : InBlock) (p : Payment) : Type 0 where
  pub own_is : LaidAt s tree r.own p.own
  pub block_is : ByName s tree p.block r.children
  pub amount_is : ReadMoney (amount_in p)

-- It is payment k of the order, whichever that is, if its amount is money.
abbrev pub Taken : (tree order : List ℕ) (k : ℕ) → InBlock → Type 0
Taken tree order k r = (s : List ℕ) (p : Payment) → k < 64 → IsPayment s tree (payment_in order k) p → ReadMoney (amount_in p) → IsThere s tree r p

-- The marks after payment o is marked too, and whether it was marked before.
abbrev pub Marked : (marks : List Bool) (o : ℕ) (after : List Bool) (before : Bool) → Type 0
Marked marks o after before = o < 64 → (before ≡ get_or marks o false) × (after ≡ set marks o true)

-- the answer that they come to
unfoldable pub pairs_say : Result Unit Unpaired → RegroupingAnswer
pairs_say (Ok tt) = answered 0 0 0
pairs_say (Err (OrdinalTooLarge k)) = answered 18 k 0
pairs_say (Err (NamedBefore k)) = answered 19 k 0
pairs_say (Err (FieldsDiffer k field)) = answered 20 k field

-- the same, of two messages and a list
abbrev pub not_regrouped : Unpaired → NotRegrouped
not_regrouped (OrdinalTooLarge k) = whole.OrdinalTooLarge k
not_regrouped (NamedBefore k) = whole.NamedBefore k
not_regrouped (FieldsDiffer k field) = whole.FieldsDiffer k field
