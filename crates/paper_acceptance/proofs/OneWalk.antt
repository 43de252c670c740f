-- The walk for 6 to 8 and 28 and the walk for 3 and 4 find the same, unless the first finds one of its own numbers.
use Rattle.std.specs.Prelude.{if◌then◌else◌}
use Prim.Native.Nat.{ℕ, ◌<◌}
use native.Mathlib.Omega.{arith}
use mathlib.Core.List.{List, [], ◌∷◌, Memᴰ}
use mathlib.Core.Bool.{Bool, true, false, not}
use mathlib.Core.Option.{Option, none, some}
use mathlib.Core.Path.{◌≡◌, refl, subst}
use lib.ListN.{length}
use Rattle.paper.specs.Bytes.{value_character, every}
use Rattle.paper.specs.Form.{Head, Element, Elements, holding_text, holding_elements, []ᵉ, ◌∷ᵉ◌}
use Rattle.paper.specs.Rows.{Place, Contents, text, elements, Row, Profile, row_of, longest_of, head_of}
use Rattle.paper.specs.Values.{among, allowed, lies_from}
use Rattle.paper.specs.Refusals.{Refusal, refuse, ◌or_else◌, Left, from_here, first_at, Sought, never, early, found, seek, Judgement, no_judgement, text_refusal, leaf_refusal, value_refusal, walk, walk_all, rows_refusal, values_refusal}
use Rattle.paper.proofs.Laws.{some_not_none}

-- what two walks find: the same, unless the first finds one of its own numbers
pub data Kept (own : List ℕ) : (found kept : Option Refusal) → Type 0 where
  as_found : {a b : Option Refusal} → a ≡ b → Kept own a b
  of_its_own : {x : Refusal} {b : Option Refusal} → Memᴰ x.number own → Kept own (some x) b

pub if_kept : (c : Bool) {own : List ℕ} {a b o : Option Refusal} → Kept own a o → Kept own b o → Kept own (if c then a else b) o
if_kept true h k = h
if_kept false h k = k

pub or_kept : (a : Option Refusal) {own : List ℕ} {b c d : Option Refusal} → Kept own a b → Kept own c d → Kept own (a or_else c) (b or_else d)
unfolding ◌or_else◌
or_kept none {own} {c = c} {d = d} (as_found e) k = subst (λ (z : Option Refusal). Kept own c (z or_else d)) e k
or_kept (some x) {own} {d = d} (as_found e) k = subst (λ (z : Option Refusal). Kept own (some x) (z or_else d)) e (as_found refl)
or_kept (some x) (of_its_own l) k = of_its_own l

-- the numbers of the walk for values
abbrev pub of_values : List ℕ
of_values = 6 ∷ 7 ∷ 8 ∷ 28 ∷ []

text_kept : (parent : ℕ) (r : Row) (h : Head) (w : List ℕ) → Kept of_values (text_refusal parent r h w) none
unfolding text_refusal refuse
text_kept parent r h w =
    if_kept (not (lies_from 1 (longest_of r.holds) (length w))) (of_its_own (Memᴰ.head refl))
    (if_kept (not (every value_character w)) (of_its_own (Memᴰ.tail (Memᴰ.head refl)))
    (if_kept (not (allowed parent r.row h.currency w)) (of_its_own (Memᴰ.tail (Memᴰ.tail (Memᴰ.head refl)))) (as_found refl)))

leaf_kept : (parent : ℕ) (r : Row) (t : Element) → Kept of_values (leaf_refusal parent r t) none
unfolding leaf_refusal
leaf_kept parent r (holding_elements h ts) = as_found refl
leaf_kept parent r (holding_text h w) = go r.holds
  where
    go : (holds : Contents) → Kept of_values (elim holds [ text longest ↦ text_refusal parent r h w | elements places ↦ none ]) none
    go (text longest) = text_kept parent r h w
    go (elements places) = as_found refl

module _ (profile : Profile) where
  abbrev judge : Judgement
  judge = value_refusal profile.withdrawn

  judge_kept : (holder : Option Element) (parent : ℕ) (r : Row) (t : Element) → Kept of_values (judge holder parent r t) (no_judgement holder parent r t)
  unfolding value_refusal no_judgement refuse
  judge_kept holder parent r t =
      if_kept (among r.row profile.withdrawn) (of_its_own (Memᴰ.tail (Memᴰ.tail (Memᴰ.tail (Memᴰ.head refl))))) (leaf_kept parent r t)

  elements_kept : (holds : Contents) (r : Row) (h : Head) (ts : Elements) (holder : Element)
      → ((places : List Place)
      → Kept of_values (walk_all profile judge ts holder r.row (from_here places) h.close) (walk_all profile no_judgement ts holder r.row (from_here places) h.close))
      → Kept of_values
      (elim holds [ text longest ↦ refuse 3 r.row (first_at ts h.start) | elements places ↦ walk_all profile judge ts holder r.row (from_here places) h.close ])
      (elim holds [ text longest ↦ refuse 3 r.row (first_at ts h.start) | elements places ↦ walk_all profile no_judgement ts holder r.row (from_here places) h.close ])
  elements_kept (text longest) r h ts holder below = as_found refl
  elements_kept (elements places) r h ts holder below = below places

  child_kept : (t : Element) (ts : Elements) (holder : Element) (row close : ℕ) (q : Sought)
      → ((k : ℕ) → Kept of_values (walk profile judge t (some holder) row (row_of profile row k)) (walk profile no_judgement t (some holder) row (row_of profile row k)))
      → ((left : Left) → Kept of_values (walk_all profile judge ts holder row left close) (walk_all profile no_judgement ts holder row left close))
      → Kept of_values
      (elim q [
        | never ↦ refuse 3 row (head_of t).at
        | early first ↦ refuse 4 first (head_of t).at
        | found k left ↦ walk profile judge t (some holder) row (row_of profile row k) or_else walk_all profile judge ts holder row left close
      ])
      (elim q [
        | never ↦ refuse 3 row (head_of t).at
        | early first ↦ refuse 4 first (head_of t).at
        | found k left ↦ walk profile no_judgement t (some holder) row (row_of profile row k) or_else walk_all profile no_judgement ts holder row left close
      ])
  child_kept t ts holder row close never one others = as_found refl
  child_kept t ts holder row close (early first) one others = as_found refl
  child_kept t ts holder row close (found k left) one others = or_kept _ (one k) (others left)

  mutual
    unfolding walk

    walk_kept : (t : Element) (holder : Option Element) (parent : ℕ) (r : Row) → Kept of_values (walk profile judge t holder parent r) (walk profile no_judgement t holder parent r)
    walk_kept (holding_text h w) holder parent r = or_kept _ (judge_kept holder parent r (holding_text h w)) (as_found refl)
    walk_kept (holding_elements h ts) holder parent r =
        or_kept _ (judge_kept holder parent r (holding_elements h ts))
        (elements_kept r.holds r h ts (holding_elements h ts) (λ places. all_kept ts (holding_elements h ts) r.row (from_here places) h.close))

    all_kept : (ts : Elements) (holder : Element) (row : ℕ) (left : Left) (close : ℕ)
        → Kept of_values (walk_all profile judge ts holder row left close) (walk_all profile no_judgement ts holder row left close)
    all_kept []ᵉ holder row left close = as_found refl
    all_kept (t ∷ᵉ ts) holder row left close =
        child_kept t ts holder row close (seek left (head_of t).name) (λ k. walk_kept t (some holder) row (row_of profile row k))
        (λ behind. all_kept ts holder row behind close)

  pub one_walk : (root : Element) → Kept of_values (values_refusal profile root) (rows_refusal profile root)
  unfolding values_refusal rows_refusal
  one_walk root = walk_kept root none 0 (row_of profile 0 1)

-- nothing, and nothing of 3 and 4 either
kept_none : {a b : Option Refusal} → Kept of_values a b → a ≡ none → b ≡ none
kept_none (as_found e) n = subst (λ (z : Option Refusal). z ≡ none) e n
kept_none (of_its_own l) n = some_not_none n

pub rows_too : (profile : Profile) (root : Element) → values_refusal profile root ≡ none → rows_refusal profile root ≡ none
rows_too profile root e = kept_none (one_walk profile root) e

-- something of 3 or 4, which is the first of them
above_five : {n : ℕ} → Memᴰ n of_values → n < 5 → ⊥
above_five (Memᴰ.head e) l = omega (arith, e)
above_five (Memᴰ.tail (Memᴰ.head e)) l = omega (arith, e)
above_five (Memᴰ.tail (Memᴰ.tail (Memᴰ.head e))) l = omega (arith, e)
above_five (Memᴰ.tail (Memᴰ.tail (Memᴰ.tail (Memᴰ.head e)))) l = omega (arith, e)
above_five (Memᴰ.tail (Memᴰ.tail (Memᴰ.tail (Memᴰ.tail m)))) l = elim m [ ]

kept_some : {a b : Option Refusal} {x : Refusal} → Kept of_values a b → a ≡ some x → x.number < 5 → b ≡ some x
kept_some {x = x} (as_found e) n l = subst (λ (z : Option Refusal). z ≡ some x) e n
kept_some {x = x} (of_its_own {x = y} m) n l =
    let z : y ≡ x = cc in
    absurd (above_five (subst (λ (r : Refusal). Memᴰ r.number of_values) z m) l)

pub rows_first : (profile : Profile) (root : Element) {x : Refusal} → values_refusal profile root ≡ some x → x.number < 5 → rows_refusal profile root ≡ some x
rows_first profile root e l = kept_some (one_walk profile root) e l
