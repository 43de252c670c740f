-- The offsets in the tree of a message are true of its bytes: each element stands in the message where its head says, and a text is the bytes that its head tells of.
use Prim.Native.Nat.{ℕ, ◌+◌, ◌-◌, ◌≤◌}
use mathlib.Core.List.{List, ◌∷◌, ◌++◌, append_assoc}
use mathlib.Core.Path.{◌≡◌, refl, sym, ap, subst, ◌∙◌}
use native.Mathlib.Omega.{arith}
use lib.ListN.{length, take, drop, length-append, length-drop}
use lib.Seq.{drop-drop, take_at, drop-append_seam}
use Rattle.paper.specs.Bytes.{bytes, white, Every}
use Rattle.paper.specs.Form.{Element, Elements, holding_text, holding_elements, []ᵉ, ◌∷ᵉ◌, root_tag, start_tag, amount_tag, end_tag, head}
use Rattle.paper.specs.Form.{IsStartTag, of_root, of_amount, of_any_other, IsElement, of_text, of_elements, no_more, one_more, IsMessage, whole}
use Rattle.paper.specs.Rows.{head_of}
use Rattle.paper_grammar.proofs.Standing.{TagsInPlace, end_of, InPlace, AllInPlace, text_in_place, elements_in_place, none_in_place, more_in_place}

-- a text from an offset on: what stands further on, a part of it, and how far it goes
module _ (s : List ℕ) (at : ℕ) where
  further : (x y : List ℕ) → drop at s ≡ x ++ y → drop (at + length x) s ≡ y
  further x y e = sym (drop-drop (length x) at s) ∙ ap (λ (l : List ℕ). drop (length x) l) e ∙ drop-append_seam x y

  part_is : (x y : List ℕ) (n : ℕ) → length x ≡ n → drop at s ≡ x ++ y → take n (drop at s) ≡ x
  part_is x y n l e = ap (λ (z : List ℕ). take n z) e ∙ take_at x y n l

  goes_to : (x y : List ℕ) → 1 ≤ length x → drop at s ≡ x ++ y → at + length x ≤ length s
  goes_to x y l e = omega (arith, l, length-drop at s, ap length e, length-append x y)

-- A start tag begins with `<`.
begins : {depth : ℕ} {tag name currency : List ℕ} → IsStartTag depth tag name currency → (rest : List ℕ) × (tag ≡ 60 ∷ rest)
unfolding root_tag start_tag amount_tag bytes
begins of_root = (_, refl)
begins (of_amount _ _) = (_, refl)
begins (of_any_other _ _ _) = (_, refl)

-- the tags, around what an element holds
module _ (s : List ℕ) (depth at : ℕ) (tag name currency inner rest : List ℕ) (g : IsStartTag depth tag name currency)
    (e : drop at s ≡ tag ++ (inner ++ (end_tag name ++ rest))) where
  from_inner : drop (at + length tag) s ≡ inner ++ (end_tag name ++ rest)
  from_inner = further s at tag (inner ++ (end_tag name ++ rest)) e

  from_end : drop (at + length tag + length inner) s ≡ end_tag name ++ rest
  from_end = further s (at + length tag) inner (end_tag name ++ rest) from_inner

  first_byte : take 1 (drop at s) ≡ bytes "<"
  unfolding bytes
  first_byte =
      let (others, b) = begins g in
      ap (λ (z : List ℕ). take 1 z) (e ∙ ap (λ (z : List ℕ). z ++ (inner ++ (end_tag name ++ rest))) b)

  tags_in_place : TagsInPlace s (head name currency at tag inner)
  unfolding head
  tags_in_place =
      record {
        angle = first_byte;
        depth = depth;
        opening = tag;
        is_start_tag = g;
        opening_there = part_is s at tag (inner ++ (end_tag name ++ rest)) (at + length tag - at) (omega arith) e;
        closing_there = part_is s (at + length tag + length inner) (end_tag name) rest _ refl from_end;
        at_first = let (others, b) = begins g in omega (arith, ap length b);
        start_first = omega arith;
        within = goes_to s (at + length tag + length inner) (end_tag name) rest (unfold end_tag bytes in omega arith) from_end;
      }

-- what the text of an element, or of a run of elements, makes of a message in which it stands
record Inside (at : ℕ) (one : List ℕ) (t : Element) : Type 0 where
  at_is : (head_of t).at ≡ at
  end_is : end_of t ≡ at + length one
  stands : (s rest : List ℕ) → drop at s ≡ one ++ rest → InPlace s t

record Inner (at : ℕ) (inner : List ℕ) (ts : Elements) : Type 0 where
  stand : (s rest : List ℕ) (to : ℕ) → to ≡ at + length inner → drop at s ≡ inner ++ rest → AllInPlace s at to ts

regroup : (a b c d : List ℕ) → (a ++ (b ++ c)) ++ d ≡ a ++ (b ++ (c ++ d))
regroup a b c d = simp append_assoc

text_inside : {depth at : ℕ} {tag name currency text : List ℕ} → IsStartTag depth tag name currency
    → Inside at (tag ++ (text ++ end_tag name)) (holding_text (head name currency at tag text) text)
unfolding head_of head end_of
text_inside {depth} {at} {tag} {name} {currency} {text} g =
    record {
      at_is = refl;
      end_is = simp length-append (omega arith);
      stands = λ s rest e.
          let f = e ∙ regroup tag text (end_tag name) rest in
          text_in_place (tags_in_place s depth at tag name currency text rest g f)
          (part_is s (at + length tag) text (end_tag name ++ rest) (at + length tag + length text - (at + length tag)) (omega arith) (from_inner s depth at tag name currency text rest g f));
    }

elements_inside : {depth at : ℕ} {tag name currency inner : List ℕ} {ts : Elements} → IsStartTag depth tag name currency → Inner (at + length tag) inner ts
    → Inside at (tag ++ (inner ++ end_tag name)) (holding_elements (head name currency at tag inner) ts)
unfolding head_of head end_of
elements_inside {depth} {at} {tag} {name} {currency} {inner} g h =
    record {
      at_is = refl;
      end_is = simp length-append (omega arith);
      stands = λ s rest e.
          let f = e ∙ regroup tag inner (end_tag name) rest in
          elements_in_place (tags_in_place s depth at tag name currency inner rest g f)
          (h.stand s (end_tag name ++ rest) _ refl (from_inner s depth at tag name currency inner rest g f));
    }

no_more_inner : {at : ℕ} {space : List ℕ} → Inner at space []ᵉ
no_more_inner {at} = record { stand = λ s rest to n e. none_in_place {from = at} {to = to} (omega arith) }

one_more_inner : {at : ℕ} {space one others : List ℕ} {t : Element} {ts : Elements} → Every white space
    → Inside (at + length space) one t → Inner (at + length space + length one) others ts → Inner at (space ++ (one ++ others)) (t ∷ᵉ ts)
one_more_inner {at} {space} {one} {others} {t} {ts} h i j =
    record {
      stand = λ s rest to n e.
          let e₁ = further s at space (one ++ (others ++ rest)) (e ∙ regroup space one others rest) in
          let e₂ = further s (at + length space) one (others ++ rest) e₁ in
          let l : length (space ++ (one ++ others)) ≡ length space + (length one + length others) = simp length-append in
          let b : at ≤ (head_of t).at = omega (arith, i.at_is) in
          more_in_place b (i.stands s (others ++ rest) e₁)
          (subst (λ (k : ℕ). AllInPlace s k to ts) (sym i.end_is) (j.stand s rest to (omega arith) e₂));
    }

inside : {depth at : ℕ} {one : List ℕ} {t : Element} → IsElement depth at one t → Inside at one t
inside h =
    elim h as (λ depth at one t _. Inside at one t) (λ depth at inner ts _. Inner at inner ts) [
      | of_text d g e ↦ text_inside g
      | of_elements d g (es → ih) ↦ elements_inside g ih
      | no_more e ↦ no_more_inner
      | one_more e (x → ih) (xs → ihs) ↦ one_more_inner e ih ihs
    ]

-- Each element of a message's tree stands in the message.
pub in_place : {s : List ℕ} {t : Element} → IsMessage s t → InPlace s t
in_place (whole {opening} {before} {one} {after} d h x a) =
    (inside x).stands (opening ++ (before ++ (one ++ after))) after
    (further (opening ++ (before ++ (one ++ after))) (length opening) before (one ++ after) (drop-append_seam opening (before ++ (one ++ after))))
