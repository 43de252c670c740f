-- Blocks and payments of a message, and what a payment takes from its block (docs/RULES.md, 5).
use Rattle.std.specs.Prelude.{ℕ, suc, ◌+◌, List, [], ◌∷◌, ◌++◌, map, if◌then◌else◌}
use Rattle.std.proofs.Math.Option.{Option, none, some}
use Rattle.paper.specs.Bytes.{same}
use Rattle.paper.specs.Form.{Element, Elements, holding_text, holding_elements, []ᵉ, ◌∷ᵉ◌}
use Rattle.paper.specs.Rows.{name, head_of}
use Rattle.paper.specs.Values.{cents}

unfoldable pub text_of : Element → List ℕ
text_of (holding_text h w) = w
text_of (holding_elements h ts) = []

unfoldable pub listed : Elements → List Element
listed []ᵉ = []
listed (t ∷ᵉ ts) = t ∷ listed ts

unfoldable pub children : Element → List Element
children (holding_text h w) = []
children (holding_elements h ts) = listed ts

-- of some elements all that are named as row k; of an element all such children, and the first of them
unfoldable pub all_named : ℕ → List Element → List Element
all_named k [] = []
all_named k (t ∷ ts) = if same (head_of t).name (name k) then t ∷ all_named k ts else all_named k ts

unfoldable pub all_of : ℕ → Element → List Element
all_of k t = all_named k (children t)

unfoldable pub child : ℕ → Element → Option Element
child k t = elim (all_of k t) [ [] ↦ none | u ∷ us ↦ some u ]

-- what stands at the end of a route of rows, from child to child
unfoldable pub follow : List ℕ → Element → Option Element
follow [] t = some t
follow (k ∷ ks) t = elim (child k t) [ none ↦ none | some u ↦ follow ks u ]

-- the blocks of a message (row 2 has them), and a leaf of its header
unfoldable pub blocks : Element → List Element
blocks root = elim (child 2 root) [ none ↦ [] | some initiation ↦ all_of 10 initiation ]

unfoldable pub of_header : ℕ → Element → Option Element
of_header k root = follow (2 ∷ 3 ∷ k ∷ []) root

-- Leaves that later rules ask for: the header's count and sum, a block's id, count and sum, a payment's instructed amount. (In a message that keeps the rows
-- none is absent: crates/paper_acceptance/proofs/Present.antt, `leaves_there`.)
abbrev pub header_count : Element → Option Element
header_count root = of_header 6 root

abbrev pub header_sum : Element → Option Element
header_sum root = of_header 7 root

abbrev pub block_id : Element → Option Element
block_id b = child 11 b

abbrev pub block_count : Element → Option Element
block_count b = child 14 b

abbrev pub block_sum : Element → Option Element
block_sum b = child 15 b

abbrev pub instructed_amount : Element → Option Element
instructed_amount t = follow (41 ∷ 42 ∷ []) t

-- A payment: its own element, its block and that block's number, from 0.
pub record Payment : Type 0 where
  pub own : Element
  pub block : Element
  pub block_number : ℕ

unfoldable pub payments_of : (block_number : ℕ) → Element → List Payment
payments_of n b = map (λ t. record { own = t; block = b; block_number = n }) (all_of 37 b)

unfoldable pub payments_from : ℕ → List Element → List Payment
payments_from n [] = []
payments_from n (b ∷ bs) = payments_of n b ++ payments_from (suc n) bs

unfoldable pub payments : Element → List Payment
payments root = payments_from 0 (blocks root)

-- the first of two that stands there
unfoldable pub either_of : Option Element → Option Element → Option Element
either_of (some t) other = some t
either_of none other = other

-- what stands at a route in the payment itself; in its block; in the payment or else in its block
unfoldable pub in_payment : List ℕ → Payment → Option Element
in_payment route p = follow route p.own

unfoldable pub in_block : List ℕ → Payment → Option Element
in_block route p = follow route p.block

unfoldable pub inherited : List ℕ → Payment → Option Element
inherited route p = either_of (in_payment route p) (in_block route p)

-- The instructed amount of a payment's element, in cents, and those of several together. (An absent one would count 0; `Accepted` asks that it is there.)
unfoldable pub amount_of : Element → ℕ
amount_of t = elim (instructed_amount t) [ none ↦ 0 | some u ↦ cents (text_of u) ]

unfoldable pub sum_of : List Element → ℕ
sum_of [] = 0
sum_of (t ∷ ts) = amount_of t + sum_of ts

unfoldable pub total : Element → ℕ
total root = sum_of (map (λ p. p.own) (payments root))
