-- What the payments of a message tell of stands in the message, and the bytes of the part that a leaf holds are its text. This holds of every message of the form, whatever its
-- rows.
use Rattle.std.specs.Prelude.{if◌then◌else◌}
use Prim.Native.Nat.{ℕ, suc}
use mathlib.Core.List.{List, [], ◌∷◌, map}
use mathlib.Core.Bool.{Bool, true, false}
use mathlib.Core.Option.{Option, none, some}
use mathlib.Core.Path.{◌≡◌, subst}
use lib.ListN.{take, drop}
use Rattle.paper.specs.Bytes.{same}
use Rattle.paper.specs.Form.{Head, Element, Elements, holding_text, IsMessage}
use Rattle.paper.specs.Rows.{name, head_of}
use Rattle.paper.specs.Payments.{Payment, listed, children, all_named, all_of, child, follow, blocks, payments, payments_of, payments_from, in_payment, in_block, either_of, inherited}
use Rattle.paper.specs.Table.{part_of, pairs, first_pairs, last_pairs}
use Rattle.paper.specs.Fields.{plain, or_means, amount_field, remittance, fields}
use Rattle.paper.specs.Accepted.{All, all_none, all_more}
use Rattle.paper.proofs.Laws.{all_joined}
use Rattle.paper_grammar.proofs.Standing.{InPlace, text_in_place, elements_in_place, AllInPlace, none_in_place, more_in_place}
use Rattle.paper_grammar.proofs.InPlace.{in_place}

-- of an element that may be absent: if it is there, it stands in the message
pub data Stands (s : List ℕ) : Option Element → Type 0 where
  nothing_stands : Stands s none
  it_stands : {t : Element} → InPlace s t → Stands s (some t)

pub standing : {s : List ℕ} {o : Option Element} {t : Element} → Stands s o → o ≡ some t → InPlace s t
standing {s} {o} {t} h e = go (subst (Stands s) e h)
  where
    go : Stands s (some t) → InPlace s t
    go (it_stands i) = i

either_stands : {s : List ℕ} {o q : Option Element} → Stands s o → Stands s q → Stands s (either_of o q)
unfolding either_of
either_stands nothing_stands k = k
either_stands (it_stands i) k = it_stands i

-- the children of an element that stands in the message, those of a name, the first of them, and so along a route
all_listed : {s : List ℕ} {from to : ℕ} {ts : Elements} → AllInPlace s from to ts → All (InPlace s) (listed ts)
unfolding listed
all_listed (none_in_place l) = all_none
all_listed (more_in_place l i h) = all_more i (all_listed h)

children_in_place : {s : List ℕ} {t : Element} → InPlace s t → All (InPlace s) (children t)
unfolding children
children_in_place (text_in_place g e) = all_none
children_in_place (elements_in_place g h) = all_listed h

named_in_place : {s : List ℕ} (k : ℕ) {ts : List Element} → All (InPlace s) ts → All (InPlace s) (all_named k ts)
unfolding all_named
named_in_place k all_none = all_none
named_in_place {s} k (all_more {a = t} {rest = ts} i h) = go (same (head_of t).name (name k)) (named_in_place k h)
  where
    go : (b : Bool) → All (InPlace s) (all_named k ts) → All (InPlace s) (if b then t ∷ all_named k ts else all_named k ts)
    go true below = all_more i below
    go false below = below

all_of_in_place : {s : List ℕ} (k : ℕ) {t : Element} → InPlace s t → All (InPlace s) (all_of k t)
unfolding all_of
all_of_in_place k i = named_in_place k (children_in_place i)

child_stands : {s : List ℕ} (k : ℕ) {t : Element} → InPlace s t → Stands s (child k t)
unfolding child
child_stands {s} k i = go (all_of_in_place k i)
  where
    go : {ts : List Element} → All (InPlace s) ts → Stands s (elim ts as (λ _. Option Element) [ [] ↦ none | u ∷ us ↦ some u ])
    go all_none = nothing_stands
    go (all_more i h) = it_stands i

pub follow_stands : {s : List ℕ} (route : List ℕ) {t : Element} → InPlace s t → Stands s (follow route t)
unfolding follow
follow_stands [] i = it_stands i
follow_stands {s} (k ∷ ks) i = go (child_stands k i) (λ u j. follow_stands ks j)
  where
    go : {o : Option Element} → Stands s o → ((u : Element) → InPlace s u → Stands s (follow ks u))
        → Stands s (elim o as (λ _. Option Element) [ none ↦ none | some u ↦ follow ks u ])
    go nothing_stands below = nothing_stands
    go (it_stands {t = u} j) below = below u j

-- a payment's own element and its block's
pub record PaymentInPlace (s : List ℕ) (p : Payment) : Type 0 where
  pub own_in_place : InPlace s p.own
  pub block_in_place : InPlace s p.block

blocks_in_place : {s : List ℕ} {root : Element} → InPlace s root → All (InPlace s) (blocks root)
unfolding blocks
blocks_in_place {s} i = go (child_stands 2 i)
  where
    go : {o : Option Element} → Stands s o → All (InPlace s) (elim o as (λ _. List Element) [ none ↦ [] | some initiation ↦ all_of 10 initiation ])
    go nothing_stands = all_none
    go (it_stands j) = all_of_in_place 10 j

mapped : {s : List ℕ} (n : ℕ) (b : Element) → InPlace s b → {ts : List Element} → All (InPlace s) ts
    → All (PaymentInPlace s) (map (λ t. record { own = t; block = b; block_number = n }) ts)
mapped n b j all_none = all_none
mapped n b j (all_more i h) = all_more (record { own_in_place = i; block_in_place = j }) (mapped n b j h)

payments_in_place_from : {s : List ℕ} (n : ℕ) {bs : List Element} → All (InPlace s) bs → All (PaymentInPlace s) (payments_from n bs)
unfolding payments_from payments_of
payments_in_place_from n all_none = all_none
payments_in_place_from n (all_more {a = b} i h) = all_joined (mapped n b i (all_of_in_place 37 i)) (payments_in_place_from (suc n) h)

pub payments_in_place : {s : List ℕ} {root : Element} → IsMessage s root → All (PaymentInPlace s) (payments root)
unfolding payments
payments_in_place m = payments_in_place_from 0 (blocks_in_place (in_place m))

-- what stands at a route in a payment, in its block, in one or else the other
module _ {s : List ℕ} (p : Payment) (i : PaymentInPlace s p) where
  own_stands : (route : List ℕ) → Stands s (in_payment route p)
  unfolding in_payment
  own_stands route = follow_stands route i.own_in_place

  block_stands : (route : List ℕ) → Stands s (in_block route p)
  unfolding in_block
  block_stands route = follow_stands route i.block_in_place

  inherited_stands : (route : List ℕ) → Stands s (inherited route p)
  unfolding inherited
  inherited_stands route = either_stands (own_stands route) (block_stands route)

  -- each pair of the table, and each field
  pub pairs_stand : All (Stands s) (pairs p)
  unfolding pairs first_pairs last_pairs
  pairs_stand =
      all_more (own_stands _)
      (all_more (own_stands _)
      (all_more (own_stands _)
      (all_more (inherited_stands _)
      (all_more (inherited_stands _)
      (all_more (block_stands _)
      (all_more (own_stands _)
      (all_more (either_stands (own_stands _) (own_stands _)) all_none)))))))

  pub fields_stand : All (λ f. Stands s f.element) (fields p)
  unfolding fields plain or_means amount_field remittance
  fields_stand =
      all_more (block_stands _)
      (all_more (inherited_stands _)
      (all_more (inherited_stands _)
      (all_more (either_stands (block_stands _) (block_stands _))
      (all_more (block_stands _)
      (all_more (block_stands _)
      (all_more (either_stands (block_stands _) (block_stands _))
      (all_more (inherited_stands _)
      (all_more (own_stands _)
      (all_more (own_stands _)
      (all_more (own_stands _)
      (all_more (own_stands _)
      (all_more (own_stands _)
      (all_more (own_stands _)
      (all_more (own_stands _)
      (all_more (own_stands _)
      (all_more (either_stands (own_stands _) (own_stands _)) all_none))))))))))))))))

-- The bytes of the part that an element holds are its text, if it holds one.
pub record PartIsText (s : List ℕ) (o : Option Element) : Type 0 where
  pub bytes_are : (h : Head) (w : List ℕ) → o ≡ some (holding_text h w) → take (part_of o).size (drop (part_of o).start s) ≡ w

pub part_is_text : {s : List ℕ} {o : Option Element} → Stands s o → PartIsText s o
part_is_text {s} {o} i = record { bytes_are = λ h w e. rw e (held (standing i e)) }
  where
    held : {h : Head} {w : List ℕ} → InPlace s (holding_text h w)
        → take (part_of (some (holding_text h w))).size (drop (part_of (some (holding_text h w))).start s) ≡ w
    held (text_in_place g e) = unfold part_of head_of in e
