-- Refusals of a message (docs/RULES.md, 6). Stages run in this order, each over the whole message, if the earlier ones found nothing.
use Rattle.std.specs.Prelude.{ℕ, suc, ◌+◌, List, [], ◌∷◌, Bool, true, false, ◌||◌, not, length, eqb, ltb, if◌then◌else◌}
use Rattle.std.proofs.Math.Option.{Option, none, some}
use Rattle.paper.specs.Sizes.{largest_message, least_table, most_blocks, most_payments}
use Rattle.paper.specs.Bytes.{white, value_character, every, same}
use Rattle.paper.specs.Form.{Head, Element, Elements, holding_text, holding_elements, []ᵉ, ◌∷ᵉ◌}
use Rattle.paper.specs.Computed.Reading.{Reading, root_is, stops_at, read}
use Rattle.paper.specs.Rows.{Place, one, opt, plus, either, text, elements, Row, Profile, name, row_of, longest_of, head_of}
use Rattle.paper.specs.Values.{among, lies_from, allowed, number, cents}
use Rattle.paper.specs.Payments.{Payment, text_of, all_of, blocks, header_count, header_sum, block_id, block_count, block_sum, payments, in_payment, in_block, sum_of, total}

-- A refusal's number, element and offset. `none` is no refusal.
pub record Refusal : Type 0 where
  pub number : ℕ
  pub element : ℕ
  pub offset : ℕ

unfoldable pub refuse : (number element offset : ℕ) → Option Refusal
refuse number element offset = some (record { number = number; element = element; offset = offset })

-- the first of two that refuses
unfoldable pub ◌or_else◌ : Option Refusal → Option Refusal → Option Refusal
◌or_else◌ (some r) later = some r
◌or_else◌ none later = later

infixr 20 ◌or_else◌
-- 14: the table has under 1,280 numbers. 1: over 32,768 bytes.
unfoldable pub table_refusal : (table_length : ℕ) → Option Refusal
table_refusal n = if ltb n least_table then refuse 14 0 0 else none

unfoldable pub size_refusal : List ℕ → Option Refusal
size_refusal s = if ltb largest_message (length s) then refuse 1 0 largest_message else none

-- the place of the first byte that is not of a kind; the length where there is none
unfoldable pub first_not : (ℕ → Bool) → List ℕ → ℕ
first_not p [] = 0
first_not p (b ∷ s) = if p b then suc (first_not p s) else 0

-- 3 and 4, one walk in the order of the file, in a profile. At each element, before what it holds, it asks a judgement, which is none for 3 and 4.
-- What is left of a group's order: some places; or, where row k, one or more, has been seen, further ones of it and then some places.
pub data Left : Type 0 where
  from_here : List Place → Left
  again : ℕ → List Place → Left

-- The rows that may take a place, whether one of them must, and what is left when one has.
unfoldable pub rows_at : Place → List ℕ
rows_at (one k) = k ∷ []
rows_at (opt k) = k ∷ []
rows_at (plus k) = k ∷ []
rows_at (either ks) = ks

unfoldable pub required : Place → Bool
required (one k) = true
required (opt k) = false
required (plus k) = true
required (either ks) = true

unfoldable pub left_of : Place → List Place → Left
left_of (one k) ps = from_here ps
left_of (opt k) ps = from_here ps
left_of (plus k) ps = again k ps
left_of (either ks) ps = from_here ps

-- the first row that is missing (of a choice, its first), if something required is left
unfoldable pub first_row : List ℕ → ℕ
first_row [] = 0
first_row (k ∷ ks) = k

unfoldable pub missing_of : List Place → Option ℕ
missing_of [] = none
missing_of (p ∷ ps) = if required p then some (first_row (rows_at p)) else missing_of ps

unfoldable pub missing : Left → Option ℕ
missing (from_here ps) = missing_of ps
missing (again k ps) = missing_of ps

-- the end tag of a group with so much left; text in a group
unfoldable pub ends : Left → (close : ℕ) → Option Refusal
ends left close = elim (missing left) [ some first ↦ refuse 4 first close | none ↦ none ]

unfoldable pub only_white : (row : ℕ) → List Place → Head → List ℕ → Option Refusal
only_white row places h w =
    if every white w then ends (from_here places) h.close else refuse 3 row (h.start + first_not white w)

-- where the first of some elements stands
unfoldable pub first_at : Elements → ℕ → ℕ
first_at []ᵉ otherwise = otherwise
first_at (t ∷ᵉ ts) otherwise = (head_of t).at

-- A child of this name: no place left takes it; or it comes too early, a required row not yet seen; or it is row k, with so much left behind it.
pub data Sought : Type 0 where
  never : Sought
  early : (first : ℕ) → Sought
  found : (k : ℕ) → Left → Sought

unfoldable pub past : Place → Sought → Sought
past p never = never
past p (early first) = if required p then early (first_row (rows_at p)) else early first
past p (found k left) = if required p then early (first_row (rows_at p)) else found k left

unfoldable pub named_in : List ℕ → (name : List ℕ) → Option ℕ
named_in [] w = none
named_in (k ∷ ks) w = if same w (name k) then some k else named_in ks w

unfoldable pub seek_in : List Place → (name : List ℕ) → Sought
seek_in [] w = never
seek_in (p ∷ ps) w = elim (named_in (rows_at p) w) [ some k ↦ found k (left_of p ps) | none ↦ past p (seek_in ps w) ]

unfoldable pub seek : Left → (name : List ℕ) → Sought
seek (from_here ps) w = seek_in ps w
seek (again k ps) w = if same w (name k) then found k (again k ps) else seek_in ps w

-- What is judged of an element as a row: by the element that holds it (the root has none) and that one's row (0 for the root), and by itself.
abbrev pub Judgement : Type 0
Judgement = (holder : Option Element) (parent : ℕ) → Row → Element → Option Refusal

module _ (profile : Profile) (judge : Judgement) where
  unfoldable mutual
    pub walk : Element → (holder : Option Element) (parent : ℕ) → Row → Option Refusal
    walk (holding_text h w) holder parent r =
        judge holder parent r (holding_text h w) or_else
        elim r.holds [ text longest ↦ none | elements places ↦ only_white r.row places h w ]
    walk (holding_elements h ts) holder parent r =
        judge holder parent r (holding_elements h ts) or_else
        elim r.holds [
          | text longest ↦ refuse 3 r.row (first_at ts h.start)
          | elements places ↦ walk_all ts (holding_elements h ts) r.row (from_here places) h.close
        ]

    pub walk_all : Elements → (holder : Element) (row : ℕ) → Left → (close : ℕ) → Option Refusal
    walk_all []ᵉ holder row left close = ends left close
    walk_all (t ∷ᵉ ts) holder row left close =
        elim (seek left (head_of t).name) [
          | never ↦ refuse 3 row (head_of t).at
          | early first ↦ refuse 4 first (head_of t).at
          | found k behind ↦ walk t (some holder) row (row_of profile row k) or_else walk_all ts holder row behind close
        ]

-- 3 and 4: nothing is judged.
unfoldable pub no_judgement : Judgement
no_judgement holder parent r t = none

unfoldable pub rows_refusal : Profile → Element → Option Refusal
rows_refusal profile root = walk profile no_judgement root none 0 (row_of profile 0 1)

-- 5: the 17th block or the 65th payment, whichever comes first.
unfoldable pub sixty_fifth : (payments_before : ℕ) → List Element → Option Refusal
sixty_fifth n [] = none
sixty_fifth n (t ∷ ts) = if eqb n most_payments then refuse 5 37 (head_of t).at else sixty_fifth (suc n) ts

unfoldable pub too_many : (blocks_before payments_before : ℕ) → List Element → Option Refusal
too_many b n [] = none
too_many b n (t ∷ ts) =
    if eqb b most_blocks then refuse 5 10 (head_of t).at else
    (sixty_fifth n (all_of 37 t) or_else too_many (suc b) (n + length (all_of 37 t)) ts)

unfoldable pub limits_refusal : Element → Option Refusal
limits_refusal root = too_many 0 0 (blocks root)

-- 6 to 8 and 28: the walk that tries each leaf 6, 7, 8: it is empty or too long; a character is not in the set; the value is not allowed. An element of a row that is withdrawn is
-- 28, whatever it holds.
unfoldable pub text_refusal : (parent : ℕ) → Row → Head → List ℕ → Option Refusal
text_refusal parent r h w =
    if not (lies_from 1 (longest_of r.holds) (length w)) then refuse 6 r.row h.at else
    if not (every value_character w) then refuse 7 r.row (h.start + first_not value_character w) else
    if not (allowed parent r.row h.currency w) then refuse 8 r.row h.at else none

unfoldable pub leaf_refusal : (parent : ℕ) → Row → Element → Option Refusal
leaf_refusal parent r (holding_text h w) = elim r.holds [ text longest ↦ text_refusal parent r h w | elements places ↦ none ]
leaf_refusal parent r (holding_elements h ts) = none  -- in a leaf the walk refuses them: 3

unfoldable pub value_refusal : (withdrawn : List ℕ) → Judgement
value_refusal withdrawn holder parent r t =
    if among r.row withdrawn then refuse 28 r.row (head_of t).at else leaf_refusal parent r t

unfoldable pub values_refusal : Profile → Element → Option Refusal
values_refusal profile root = walk profile (value_refusal profile.withdrawn) root none 0 (row_of profile 0 1)

-- 9 and 10: one walk over payments, in each 16, 36, 34.
unfoldable pub in_both : ℕ → Payment → Option Refusal
in_both k p =
    elim (in_payment (k ∷ []) p) [
      | none ↦ none
      | some t ↦ elim (in_block (k ∷ []) p) [ none ↦ none | some u ↦ refuse 9 k (head_of t).at ]
    ]

unfoldable pub in_neither : ℕ → Payment → Option Refusal
in_neither k p =
    elim (in_payment (k ∷ []) p) [
      | some t ↦ none
      | none ↦ elim (in_block (k ∷ []) p) [ some u ↦ none | none ↦ refuse 10 k (head_of p.own).at ]
    ]

unfoldable pub usage_of : Payment → Option Refusal
usage_of p = in_both 16 p or_else in_neither 16 p or_else in_both 36 p or_else in_both 34 p

unfoldable pub usage : List Payment → Option Refusal
usage [] = none
usage (p ∷ ps) = usage_of p or_else usage ps

unfoldable pub usage_refusal : Element → Option Refusal
usage_refusal root = usage (payments root)

-- From here on leaves are asked that stand there, since 3 and 4 refused nothing. An absent id, count or sum would be refused at 0.
-- 11: a block id equal, byte for byte, to an earlier block's.
unfoldable pub among_texts : List ℕ → List (List ℕ) → Bool
among_texts w [] = false
among_texts w (v ∷ vs) = same w v || among_texts w vs

unfoldable pub repeated : (earlier : List (List ℕ)) → List Element → Option Refusal
repeated earlier [] = none
repeated earlier (b ∷ bs) =
    elim (block_id b) [
      | none ↦ refuse 11 11 0
      | some id ↦ if among_texts (text_of id) earlier then refuse 11 11 (head_of id).at else repeated (text_of id ∷ earlier) bs
    ]

unfoldable pub ids_refusal : Element → Option Refusal
ids_refusal root = repeated [] (blocks root)

-- 12 and 13: one walk: header count, header sum, then each block's count and sum. Header numbers cover the whole message.
unfoldable pub unless : (List ℕ → Bool) → (refusal row : ℕ) → Option Element → Option Refusal
unless right refusal row none = refuse refusal row 0
unless right refusal row (some t) = if right (text_of t) then none else refuse refusal row (head_of t).at

unfoldable pub block_counts : List Element → Option Refusal
block_counts [] = none
block_counts (b ∷ bs) =
    unless (λ w. eqb (number w) (length (all_of 37 b))) 12 14 (block_count b) or_else
    unless (λ w. eqb (cents w) (sum_of (all_of 37 b))) 13 15 (block_sum b) or_else block_counts bs

unfoldable pub counts_refusal : Element → Option Refusal
counts_refusal root =
    unless (λ w. eqb (number w) (length (payments root))) 12 6 (header_count root) or_else
    unless (λ w. eqb (cents w) (total root)) 13 7 (header_sum root) or_else block_counts (blocks root)

-- the stages over the tree of a message of the form
unfoldable pub tree_refusal : Profile → Element → Option Refusal
tree_refusal profile root =
    rows_refusal profile root or_else limits_refusal root or_else values_refusal profile root or_else usage_refusal root or_else
    ids_refusal root or_else counts_refusal root

-- What comes of a message: a refusal, or acceptance, with the root of the message's tree.
pub data Outcome : Type 0 where
  refused_as : Refusal → Outcome
  accepted_with : Element → Outcome

unfoldable pub unless_refused : Option Refusal → Outcome → Outcome
unless_refused (some r) otherwise = refused_as r
unless_refused none otherwise = otherwise

-- 2: the form, at the offset where the reading stops. Otherwise the stages over the tree decide, in the verdict `tree_refusal` of a profile.
unfoldable pub of_reading : (of_tree : Element → Option Refusal) → Reading → Outcome
of_reading of_tree (stops_at n) = refused_as (record { number = 2; element = 0; offset = n })
of_reading of_tree (root_is root) = unless_refused (of_tree root) (accepted_with root)

-- where no table is lent, as in a regrouping; and where a table of so many numbers is
unfoldable pub outcome_alone : Profile → List ℕ → Outcome
outcome_alone profile s = unless_refused (size_refusal s) (of_reading (tree_refusal profile) (read s))

unfoldable pub outcome : Profile → (table_length : ℕ) → List ℕ → Outcome
outcome profile n s = unless_refused (table_refusal n) (outcome_alone profile s)

-- The answer to a message. Refused: number, element, offset and counts of zero. Accepted: blocks, payments and total cents, with number, element and offset 0.
pub record MessageAnswer : Type 0 where
  pub number : ℕ
  pub element : ℕ
  pub offset : ℕ
  pub blocks : ℕ
  pub payments : ℕ
  pub cents : ℕ

unfoldable pub refused : Refusal → MessageAnswer
refused r = record { number = r.number; element = r.element; offset = r.offset; blocks = 0; payments = 0; cents = 0 }

unfoldable pub accepted : (blocks payments cents : ℕ) → MessageAnswer
accepted b p c = record { number = 0; element = 0; offset = 0; blocks = b; payments = p; cents = c }

unfoldable pub answer_to : Outcome → MessageAnswer
answer_to (refused_as r) = refused r
answer_to (accepted_with root) = accepted (length (blocks root)) (length (payments root)) (total root)

unfoldable pub verdict : Profile → (table_length : ℕ) → List ℕ → MessageAnswer
verdict profile n s = answer_to (outcome profile n s)
