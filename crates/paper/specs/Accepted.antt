-- Acceptance (docs/RULES.md, 5), said without any order of checks. It speaks of a message; that the lent table is long enough is asked beside it.
use Rattle.std.specs.Prelude.{ℕ, ◌+◌, ◌≤◌, true, ◌≡◌, ◌⊎◌, length}
use mathlib.Core.List.{List, [], ◌∷◌, map, Memᴰ}
use Rattle.std.proofs.Math.Option.{Option, none, some}
use Rattle.paper.specs.Sizes.{largest_message, most_blocks, most_payments}
use Rattle.paper.specs.Bytes.{value_character, Every}
use Rattle.paper.specs.Form.{Head, Element, holding_text, holding_elements, IsMessage}
use Rattle.paper.specs.Rows.{text, elements, Row, Profile, row_of, longest_of, Conforms}
use Rattle.paper.specs.Values.{allowed, number, cents}
use Rattle.paper.specs.Payments.{Payment, text_of, all_of, blocks, header_count, header_sum, block_id, block_count, block_sum, instructed_amount, payments, in_payment, in_block}

-- Each of a list; each of a list with its own of another; no two of a list alike.
pub data All {A : Type 0} (P : A → Type 0) : List A → Type 0 where
  all_none : All P []
  all_more : {a : A} {rest : List A} → P a → All P rest → All P (a ∷ rest)

pub data EachWith {A B : Type 0} (R : A → B → Type 0) : List A → List B → Type 0 where
  each_none : EachWith R [] []
  each_more : {a : A} {b : B} {l : List A} {m : List B} → R a b → EachWith R l m → EachWith R (a ∷ l) (b ∷ m)

pub data Distinct {A : Type 0} : List A → Type 0 where
  distinct_none : Distinct []
  distinct_more : {a : A} {rest : List A} → (Memᴰ a rest → ⊥) → Distinct rest → Distinct (a ∷ rest)

-- something stands there; it stands there, and its text means this (that it is a leaf, and holds text, is said by the rows)
pub record There (o : Option Element) : Type 0 where
  pub it : Element
  pub is_it : o ≡ some it

pub record Says {A : Type 0} (means : List ℕ → A) (o : Option Element) (a : A) : Type 0 where
  pub leaf : Element
  pub stands_there : o ≡ some leaf
  pub says : means (text_of leaf) ≡ a

-- What makes an element right where it stands: for the rows alone, nothing; for the values, that its row is not withdrawn and that of a leaf the text is right by its length,
-- its characters and its value. (That a leaf holds text is said by the rows.)
pub record AnyElement (holder : Option Element) (parent : ℕ) (r : Row) (t : Element) : Type 0 where

pub record RightText (parent : ℕ) (r : Row) (h : Head) (w : List ℕ) : Type 0 where
  pub not_empty : 1 ≤ length w
  pub not_too_long : length w ≤ longest_of r.holds
  pub characters : Every value_character w
  pub value : allowed parent r.row h.currency w ≡ true

unfoldable pub RightLeaf : (parent : ℕ) → Row → Element → Type 0
RightLeaf parent r (holding_text h w) = elim r.holds [ text longest ↦ RightText parent r h w | elements places ↦ Unit {0} ]
RightLeaf parent r (holding_elements h ts) = Unit {0}

pub record RightElement (withdrawn : List ℕ) (holder : Option Element) (parent : ℕ) (r : Row) (t : Element) : Type 0 where
  pub not_withdrawn : Memᴰ r.row withdrawn → ⊥
  pub leaf : RightLeaf parent r t

-- Rows and values: the root conforms to row 1.
unfoldable pub RowsKept : (profile : Profile) → Element → Type 0
RowsKept profile root = Conforms profile AnyElement root none 0 (row_of profile 0 1)

unfoldable pub ValuesRight : (profile : Profile) → Element → Type 0
ValuesRight profile root = Conforms profile (RightElement profile.withdrawn) root none 0 (row_of profile 0 1)

-- Limits: so many blocks and payments.
pub record LimitsKept (root : Element) : Type 0 where
  pub few_blocks : length (blocks root) ≤ most_blocks
  pub few_payments : length (payments root) ≤ most_payments

-- Usage: row 16 stands in the payment or in its block, and none of 16, 36, 34 stands in both.
unfoldable pub NotBoth : ℕ → Payment → Type 0
NotBoth k p = There (in_payment (k ∷ []) p) → There (in_block (k ∷ []) p) → ⊥

pub record Used (p : Payment) : Type 0 where
  pub somewhere : There (in_payment (16 ∷ []) p) ⊎ There (in_block (16 ∷ []) p)
  pub type_once : NotBoth 16 p
  pub charges_once : NotBoth 36 p
  pub ultimate_debtor_once : NotBoth 34 p

unfoldable pub UsageKept : Element → Type 0
UsageKept root = All Used (payments root)

-- Block ids: each block has one, and no two are alike, byte for byte.
pub record IdsApart (root : Element) : Type 0 where
  pub ids : List (List ℕ)
  pub has_its_own : EachWith (λ b id. Says (λ w. w) (block_id b) id) (blocks root) ids
  pub distinct : Distinct ids

-- All that is asked but the counts and sums.
pub record RightButCounts (profile : Profile) (root : Element) : Type 0 where
  pub rows : RowsKept profile root
  pub limits : LimitsKept root
  pub values : ValuesRight profile root
  pub usage : UsageKept root
  pub ids : IdsApart root

-- The exact sum in cents of the instructed amounts of some payments' elements: each has its amount, and these are added.
pub data Sum : List Element → ℕ → Type 0 where
  sum_none : Sum [] 0
  sum_more : {t : Element} {ts : List Element} {amount rest : ℕ} → Says cents (instructed_amount t) amount → Sum ts rest
      → Sum (t ∷ ts) (amount + rest)

-- A count and a sum that are stated are the true number of some payments' elements and the exact sum of their amounts in cents.
pub record Truthful (stated_count stated_sum : Option Element) (ts : List Element) : Type 0 where
  pub count_is : Says number stated_count (length ts)
  pub sum : ℕ
  pub is_sum : Sum ts sum
  pub sum_is : Says cents stated_sum sum

-- Those of the header are those of the whole message, those of each block those of its payments.
pub record CountsTrue (root : Element) : Type 0 where
  pub of_message : Truthful (header_count root) (header_sum root) (map (λ p. p.own) (payments root))
  pub of_blocks : All (λ b. Truthful (block_count b) (block_sum b) (all_of 37 b)) (blocks root)

pub record AcceptedTree (profile : Profile) (root : Element) : Type 0 where
  pub but_counts : RightButCounts profile root
  pub counts : CountsTrue root

-- A message is accepted.
pub record Accepted (profile : Profile) (s : List ℕ) : Type 0 where
  pub size : length s ≤ largest_message
  pub root : Element
  pub form : IsMessage s root
  pub tree : AcceptedTree profile root
