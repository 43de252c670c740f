-- The numbers that each stage gives.
use Rattle.std.specs.Prelude.{if◌then◌else◌}
use Prim.Native.Nat.{ℕ, suc, ◌+◌}
use mathlib.Core.List.{List, [], ◌∷◌, Memᴰ}
use mathlib.Core.Bool.{Bool, true, false}
use mathlib.Core.Option.{Option, none, some}
use mathlib.Core.Path.{◌≡◌, refl, sym, subst}
use lib.Dec.{eqb}
use lib.ListN.{length}
use Rattle.paper.specs.Bytes.{white, every}
use Rattle.paper.specs.Form.{Head, Element, Elements, holding_text, holding_elements, []ᵉ, ◌∷ᵉ◌}
use Rattle.paper.specs.Rows.{Place, Contents, text, elements, Row, Profile, row_of, head_of}
use Rattle.paper.specs.Payments.{Payment, text_of, all_of, blocks, block_id, payments, in_payment, in_block}
use Rattle.paper.specs.Refusals.{Refusal, refuse, ◌or_else◌, Left, from_here, missing, ends, only_white, first_at, Sought, never, early, found, seek, no_judgement, walk, walk_all, rows_refusal, values_refusal, sixty_fifth, too_many, limits_refusal, in_both, in_neither, usage_of, usage, usage_refusal, among_texts, repeated, ids_refusal, unless, block_counts, counts_refusal}
use Rattle.paper_acceptance.proofs.OneWalk.{Kept, as_found, of_its_own, of_values, one_walk}

-- a refusal, if there is one, has one of these numbers
pub data Gives (ns : List ℕ) : Option Refusal → Type 0 where
  gives_none : Gives ns none
  gives_one : {r : Refusal} → Memᴰ r.number ns → Gives ns (some r)

or_gives : {ns : List ℕ} {a b : Option Refusal} → Gives ns a → Gives ns b → Gives ns (a or_else b)
unfolding ◌or_else◌
or_gives gives_none h = h
or_gives (gives_one m) h = gives_one m

pub if_gives : (c : Bool) {ns : List ℕ} {a b : Option Refusal} → Gives ns a → Gives ns b → Gives ns (if c then a else b)
if_gives true h k = h
if_gives false h k = k

pub refuse_gives : {ns : List ℕ} {n : ℕ} (element offset : ℕ) → Memᴰ n ns → Gives ns (refuse n element offset)
unfolding refuse
refuse_gives element offset m = gives_one m

first_number : {n : ℕ} {ns : List ℕ} → Memᴰ n (n ∷ ns)
first_number = Memᴰ.head refl

second_number : {n m : ℕ} {ns : List ℕ} → Memᴰ n (m ∷ n ∷ ns)
second_number = Memᴰ.tail (Memᴰ.head refl)

-- 3 and 4
abbrev three_four : List ℕ
three_four = 3 ∷ 4 ∷ []

ends_gives : (left : Left) (close : ℕ) → Gives three_four (ends left close)
unfolding ends
ends_gives left close = go (missing left)
  where
    go : (o : Option ℕ) → Gives three_four (elim o [ some first ↦ refuse 4 first close | none ↦ none ])
    go none = gives_none
    go (some first) = refuse_gives _ _ second_number

text_gives : (holds : Contents) (r : Row) (h : Head) (w : List ℕ)
    → Gives three_four (elim holds [ text longest ↦ none | elements places ↦ only_white r.row places h w ])
unfolding only_white
text_gives (text longest) r h w = gives_none
text_gives (elements places) r h w = if_gives (every white w) (ends_gives (from_here places) h.close) (refuse_gives _ _ first_number)

module _ (profile : Profile) where
  elements_gives : (holds : Contents) (r : Row) (h : Head) (ts : Elements) (holder : Element)
      → ((places : List Place) → Gives three_four (walk_all profile no_judgement ts holder r.row (from_here places) h.close))
      → Gives three_four
      (elim holds [ text longest ↦ refuse 3 r.row (first_at ts h.start) | elements places ↦ walk_all profile no_judgement ts holder r.row (from_here places) h.close ])
  elements_gives (text longest) r h ts holder below = refuse_gives _ _ first_number
  elements_gives (elements places) r h ts holder below = below places

  child_gives : (t : Element) (ts : Elements) (holder : Element) (row close : ℕ) (q : Sought)
      → ((k : ℕ) → Gives three_four (walk profile no_judgement t (some holder) row (row_of profile row k)))
      → ((left : Left) → Gives three_four (walk_all profile no_judgement ts holder row left close))
      → Gives three_four
      (elim q [
        | never ↦ refuse 3 row (head_of t).at
        | early first ↦ refuse 4 first (head_of t).at
        | found k left ↦ walk profile no_judgement t (some holder) row (row_of profile row k) or_else walk_all profile no_judgement ts holder row left close
      ])
  child_gives t ts holder row close never one others = refuse_gives _ _ first_number
  child_gives t ts holder row close (early first) one others = refuse_gives _ _ second_number
  child_gives t ts holder row close (found k left) one others = or_gives (one k) (others left)

  mutual
    unfolding walk no_judgement ◌or_else◌

    walk_gives : (t : Element) (holder : Option Element) (parent : ℕ) (r : Row) → Gives three_four (walk profile no_judgement t holder parent r)
    walk_gives (holding_text h w) holder parent r = text_gives r.holds r h w
    walk_gives (holding_elements h ts) holder parent r =
        elements_gives r.holds r h ts (holding_elements h ts) (λ places. all_gives ts (holding_elements h ts) r.row (from_here places) h.close)

    all_gives : (ts : Elements) (holder : Element) (row : ℕ) (left : Left) (close : ℕ) → Gives three_four (walk_all profile no_judgement ts holder row left close)
    all_gives []ᵉ holder row left close = ends_gives left close
    all_gives (t ∷ᵉ ts) holder row left close =
        child_gives t ts holder row close (seek left (head_of t).name) (λ k. walk_gives t (some holder) row (row_of profile row k))
        (λ behind. all_gives ts holder row behind close)

  pub rows_give : (root : Element) → Gives three_four (rows_refusal profile root)
  unfolding rows_refusal
  rows_give root = walk_gives root none 0 (row_of profile 0 1)

  -- 6 to 8 and 28, where 3 and 4 refused nothing
  pub values_give : (root : Element) → rows_refusal profile root ≡ none → Gives of_values (values_refusal profile root)
  values_give root e = go (one_walk profile root) e
    where
      go : {a b : Option Refusal} → Kept of_values a b → b ≡ none → Gives of_values a
      go (as_found p) q = subst (λ (o : Option Refusal). Gives of_values o) (sym p) (subst (λ (o : Option Refusal). Gives of_values o) (sym q) gives_none)
      go (of_its_own m) q = gives_one m

-- 5
sixty_fifth_gives : (n : ℕ) (ts : List Element) → Gives (5 ∷ []) (sixty_fifth n ts)
unfolding sixty_fifth
sixty_fifth_gives n [] = gives_none
sixty_fifth_gives n (t ∷ ts) = if_gives (eqb n 64) (refuse_gives _ _ first_number) (sixty_fifth_gives (suc n) ts)

too_many_gives : (b n : ℕ) (ts : List Element) → Gives (5 ∷ []) (too_many b n ts)
unfolding too_many
too_many_gives b n [] = gives_none
too_many_gives b n (t ∷ ts) =
    if_gives (eqb b 16) (refuse_gives _ _ first_number) (or_gives (sixty_fifth_gives n (all_of 37 t)) (too_many_gives (suc b) (n + length (all_of 37 t)) ts))

pub limits_give : (root : Element) → Gives (5 ∷ []) (limits_refusal root)
unfolding limits_refusal
limits_give root = too_many_gives 0 0 (blocks root)

-- 9 and 10
both_gives : (k : ℕ) (p : Payment) → Gives (9 ∷ 10 ∷ []) (in_both k p)
unfolding in_both
both_gives k p = go (in_payment (k ∷ []) p) (in_block (k ∷ []) p)
  where
    go : (o q : Option Element) → Gives (9 ∷ 10 ∷ []) (elim o [ none ↦ none | some t ↦ elim q [ none ↦ none | some u ↦ refuse 9 k (head_of t).at ] ])
    go none q = gives_none
    go (some t) none = gives_none
    go (some t) (some u) = refuse_gives _ _ first_number

neither_gives : (k : ℕ) (p : Payment) → Gives (9 ∷ 10 ∷ []) (in_neither k p)
unfolding in_neither
neither_gives k p = go (in_payment (k ∷ []) p) (in_block (k ∷ []) p)
  where
    go : (o q : Option Element) → Gives (9 ∷ 10 ∷ []) (elim o [ some t ↦ none | none ↦ elim q [ some u ↦ none | none ↦ refuse 10 k (head_of p.own).at ] ])
    go (some t) q = gives_none
    go none (some u) = gives_none
    go none none = refuse_gives _ _ second_number

payments_give : (ps : List Payment) → Gives (9 ∷ 10 ∷ []) (usage ps)
unfolding usage usage_of
payments_give [] = gives_none
payments_give (p ∷ ps) = or_gives (or_gives (both_gives 16 p) (or_gives (neither_gives 16 p) (or_gives (both_gives 36 p) (both_gives 34 p)))) (payments_give ps)

pub usage_gives : (root : Element) → Gives (9 ∷ 10 ∷ []) (usage_refusal root)
unfolding usage_refusal
usage_gives root = payments_give (payments root)

-- 11
repeated_gives : (earlier : List (List ℕ)) (bs : List Element) → Gives (11 ∷ []) (repeated earlier bs)
unfolding repeated
repeated_gives earlier [] = gives_none
repeated_gives earlier (b ∷ bs) = go (block_id b) (λ w. repeated_gives (w ∷ earlier) bs)
  where
    go : (o : Option Element) → ((w : List ℕ) → Gives (11 ∷ []) (repeated (w ∷ earlier) bs))
        → Gives (11 ∷ [])
        (elim o [
          | none ↦ refuse 11 11 0
          | some t ↦ if among_texts (text_of t) earlier then refuse 11 11 (head_of t).at else repeated (text_of t ∷ earlier) bs
        ])
    go none below = refuse_gives _ _ first_number
    go (some t) below = if_gives (among_texts (text_of t) earlier) (refuse_gives _ _ first_number) (below (text_of t))

pub ids_give : (root : Element) → Gives (11 ∷ []) (ids_refusal root)
unfolding ids_refusal
ids_give root = repeated_gives [] (blocks root)

-- 12 and 13
unless_gives : (right : List ℕ → Bool) {number : ℕ} (row : ℕ) (o : Option Element) {ns : List ℕ} → Memᴰ number ns → Gives ns (unless right number row o)
unfolding unless
unless_gives right row none m = refuse_gives _ _ m
unless_gives right row (some t) m = if_gives (right (text_of t)) gives_none (refuse_gives _ _ m)

blocks_give : (bs : List Element) → Gives (12 ∷ 13 ∷ []) (block_counts bs)
unfolding block_counts
blocks_give [] = gives_none
blocks_give (b ∷ bs) = or_gives (unless_gives _ _ _ first_number) (or_gives (unless_gives _ _ _ second_number) (blocks_give bs))

pub counts_give : (root : Element) → Gives (12 ∷ 13 ∷ []) (counts_refusal root)
unfolding counts_refusal
counts_give root = or_gives (unless_gives _ _ _ first_number) (or_gives (unless_gives _ _ _ second_number) (blocks_give (blocks root)))
