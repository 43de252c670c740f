-- What the walk of 6 to 8 leaves right: the leaves of the header and of the blocks, and the amounts, of a message in which it refuses nothing.
use Prim.Native.Nat.{ℕ, ◌≤◌}
use Prim.Native.String.{String}
use native.Mathlib.Omega.{arith}
use mathlib.Core.List.{List, [], ◌∷◌}
use mathlib.Core.Bool.{true, not}
use mathlib.Core.Option.{Option, none, some}
use mathlib.Core.Path.{◌≡◌, refl, ap, subst, ◌∙◌}
use borrow.Author.Tests.{leb-true}
use lib.Dec.{leb}
use Rattle.paper.specs.Bytes.{bytes, same}
use Rattle.paper.specs.Form.{Head, Element}
use Rattle.paper.specs.Rows.{Contents, text, elements, Row, leaf, Profile, row_of, head_of, Conforms}
use Rattle.paper.specs.Values.{among, lies_from, money, cents, amount, right_for, allowed, spaces_alone}
use Rattle.paper.specs.Payments.{Payment, child, follow, blocks, of_header, payments, text_of, instructed_amount, amount_of}
use Rattle.paper.specs.Refusals.{values_refusal, among_texts}
use Rattle.paper.specs.Accepted.{All, RightText, RightLeaf, RightElement, ValuesRight}
use Rattle.paper.proofs.Laws.{both_left, both_right, all_map, amount_is, no_amount, follow_one}
use Rattle.paper_acceptance.proofs.Routes.{holds_text, right_conforms, leaf_conforms, EndsAs}
use Rattle.paper_acceptance.proofs.Proper.{leads, Proper, payment_route}
use Rattle.paper_acceptance.proofs.Present.{As, ends_as, PaymentAs, blocks_as, payments_as}
use Rattle.paper_acceptance.proofs.Stages.{values_right}

-- a value that is allowed is right for its row
pub right_value : (parent row : ℕ) (currency w : List ℕ) → allowed parent row currency w ≡ true → right_for parent row currency w ≡ true
unfolding allowed
right_value parent row currency w e = both_right (not (spaces_alone w)) _ e

-- a right text of a row that is known, and what that row holds
pub known : {parent : ℕ} {r q : Row} {h : Head} {w : List ℕ} → r ≡ q → RightText parent r h w → RightText parent q h w
known {parent} {h = h} {w = w} e c = subst (λ (r : Row). RightText parent r h w) e c

pub holds_of : {r : Row} (row : ℕ) (name : String) (longest : ℕ) → r ≡ leaf row name longest → r.holds ≡ text longest
unfolding leaf
holds_of row name longest e = ap (λ (r : Row). r.holds) e

-- a right amount: it is money, and lies within row 42's limits
amount_read : {h : Head} {w : List ℕ} → RightText 41 (leaf 42 "InstdAmt" 18) h w → amount w ≡ true
unfolding right_for leaf bytes among
amount_read {h} {w} r = both_left (amount w) (same h.currency (bytes "EUR")) (right_value _ _ _ w r.value)

pub amount_money : (w : List ℕ) → amount w ≡ true → money w ≡ true
unfolding amount
amount_money w e = both_left (money w) _ e

amount_small : (w : List ℕ) → amount w ≡ true → cents w ≤ 99999999999
unfolding amount lies_from
amount_small w e = leb-true (cents w) 99999999999 (both_right (leb 1 (cents w)) _ (both_right (money w) _ e))

-- a payment of no more than row 42's limit
abbrev pub SmallAmount : Payment → Type 0
SmallAmount p = amount_of p.own ≤ 99999999999

module _ (profile : Profile) (proper : Proper profile) where
  abbrev pub Right : (holder : Option Element) (parent : ℕ) → Row → Element → Type 0
  Right = RightElement profile.withdrawn

  abbrev pub RightAs : (parent k : ℕ) → Element → Type 0
  RightAs parent k t = As profile proper Right parent k t

  -- a leaf that conforms has a text that is right
  pub leaf_text : (t : Element) (parent : ℕ) (r : Row) (longest : ℕ) → r.holds ≡ text longest
      → (holder : Option Element) × Conforms profile Right t holder parent r → RightText parent r (head_of t) (text_of t)
  unfolding RightLeaf holds_text
  leaf_text t parent r longest holds c =
      go r.holds holds
      (subst (λ (u : Element). RightLeaf parent r u)
      (leaf_conforms profile Right t c.0 parent r (ap holds_text holds) c.1)
      (right_conforms profile Right t c.0 parent r c.1).leaf)
    where
      go : (holds : Contents) → holds ≡ text longest
          → (elim holds as (λ _. Type 0) [ text longest ↦ RightText parent r (head_of t) (text_of t) | elements places ↦ Unit {0} ]) → RightText parent r (head_of t) (text_of t)
      go (text n) e c = c
      go (elements places) e c = let z : ◌≡◌ {A = ℕ} 0 1 = cc in absurd (omega (arith, z))

  -- a leaf of a block, and the amount of a payment
  pub block_leaf_right : (b : Element) → RightAs 2 10 b → (k longest : ℕ) (t : Element) → leads profile 2 10 (k ∷ []) ≡ true → (row_of profile 10 k).holds ≡ text longest
      → child k b ≡ some t → RightText 10 (row_of profile 10 k) (head_of t) (text_of t)
  unfolding EndsAs
  block_leaf_right b c k longest t taken holds e =
      leaf_text t 10 (row_of profile 10 k) longest holds (ends_as profile proper Right 2 10 (k ∷ []) b t taken c (follow_one k b ∙ e))

  pub amount_right : (t : Element) → RightAs 10 37 t → (longest : ℕ) (u : Element) → (row_of profile 41 42).holds ≡ text longest → follow (41 ∷ 42 ∷ []) t ≡ some u
      → RightText 41 (row_of profile 41 42) (head_of u) (text_of u)
  unfolding EndsAs among_texts same
  amount_right t c longest u holds e =
      leaf_text u 41 (row_of profile 41 42) longest holds (ends_as profile proper Right 10 37 (41 ∷ 42 ∷ []) t u (payment_route proper _ refl) c e)

  module _ (root : Element) (right : values_refusal profile root ≡ none) where
    root_right : RightAs 0 1 root
    unfolding ValuesRight
    root_right = (none, (values_right profile proper.apart root).0 right)

    pub header_right : (k longest : ℕ) (t : Element) → leads profile 0 1 (2 ∷ 3 ∷ k ∷ []) ≡ true → (row_of profile 3 k).holds ≡ text longest → of_header k root ≡ some t
        → RightText 3 (row_of profile 3 k) (head_of t) (text_of t)
    unfolding of_header EndsAs
    header_right k longest t taken holds e =
        leaf_text t 3 (row_of profile 3 k) longest holds (ends_as profile proper Right 0 1 (2 ∷ 3 ∷ k ∷ []) root t taken root_right e)

    pub blocks_right : All (RightAs 2 10) (blocks root)
    blocks_right = blocks_as profile proper Right root root_right

    pub payments_right : All (PaymentAs profile proper Right) (payments root)
    payments_right = payments_as profile proper Right root root_right

    -- The amounts that stand there are right, and no payment has more than row 42's limit.
    pub amounts_right : All (λ (p : Payment). (u : Element) → instructed_amount p.own ≡ some u → amount (text_of u) ≡ true) (payments root)
    amounts_right =
        all_map (λ p c u e. amount_read (known proper.amount_is (amount_right p.own c.own_as 18 u (holds_of _ _ _ proper.amount_is) e))) payments_right

    pub small_amounts : All SmallAmount (payments root)
    small_amounts = all_map (λ p c. go p c (instructed_amount p.own) refl) amounts_right
      where
        go : (p : Payment) → ((u : Element) → instructed_amount p.own ≡ some u → amount (text_of u) ≡ true) → (o : Option Element) → instructed_amount p.own ≡ o
            → SmallAmount p
        go p c none e = let z = no_amount p.own e in omega (arith, z)
        go p c (some u) e = let n = amount_is p.own e in let l = amount_small (text_of u) (c u e) in omega (arith, n, l)
