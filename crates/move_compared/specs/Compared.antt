-- What is said where two payments are compared.
use Rattle.std.specs.Prelude.{ℕ, ◌-◌, List, Option, get_or}
use Rattle.paper.specs.Payments.{Payment}
use Rattle.paper.specs.Fields.{Value, absent, values_of}
use Rattle.tree_routes.specs.Finds.{ByName}
use Rattle.tree_leaves.specs.Readable.{ReadMoney}
use Rattle.move_alike.specs.Alike.{amount_in}

-- A payment whose first children are known, and its block's, and whose amount is money.
pub record Stands (s tree : List ℕ) (own block : List (Option ℕ)) (p : Payment) : Type 0 where
  pub own_is : ByName s tree p.own own
  pub block_is : ByName s tree p.block block
  pub amount_is : ReadMoney (amount_in p)

-- a field of a payment
abbrev pub value_at : (field : ℕ) → Payment → Value
value_at field p = get_or (values_of p) (field - 1) absent
