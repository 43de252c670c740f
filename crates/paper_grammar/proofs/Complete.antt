-- The reading finds each message of the form: a text of the grammar leads from the opening to the end, and to its own root.
use Prim.Native.Nat.{ℕ, suc, ◌+◌, ◌≤◌, ◌<◌}
use mathlib.Core.List.{List, [], ◌∷◌, ◌++◌, append_assoc, append-nil}
use mathlib.Core.Path.{◌≡◌, refl, sym, ap, ◌∙◌}
use native.Mathlib.Omega.{arith}
use lib.ListN.{length, drop, length-append}
use Rattle.paper.specs.Bytes.{bytes, is, from_to, one_of, white, text_byte, capital, letter, Every, every_none as all_done, every_more}
use Rattle.paper.specs.Form.{Element, Elements, holding_text, holding_elements, []ᵉ, ◌∷ᵉ◌, root_tag, end_tag, IsStartTag, of_root, of_amount, of_any_other, head, IsElement, of_text, of_elements, no_more, one_more, declaration, IsDeclaration, no_declaration, one_declaration, IsMessage, whole}
use Rattle.paper.specs.Computed.Reading.{Open, closed, State, opening, before, angle, blank, after_child, after, ending, in_root, step, ended, run, read, root_is}
use Rattle.paper_grammar.specs.Stays.{Stays}
use Rattle.paper_grammar.proofs.Leads.{Leads, here, next, on, at_offset, follow, run_over, want_leads, white_leads}
use Rattle.paper_grammar.proofs.Tags.{opened_by, end_leads, blank_text_leads, tag_leads}

-- What a text of the grammar leads to: an element behind its start tag, and a run of elements up to the end tag of the one that holds them.
record Inside (depth at : ℕ) (one : List ℕ) (t : Element) : Type 0 where
  tag : List ℕ
  name : List ℕ
  currency : List ℕ
  rest : List ℕ
  deep : depth ≤ 12
  starts : IsStartTag depth tag name currency
  whole : one ≡ tag ++ rest
  leads : (k : Element → State) → Leads (blank (opened_by depth at tag name currency) [] k) (at + length tag) rest (k t)

record Between (o : Open) (at : ℕ) (inner : List ℕ) (ts : Elements) : Type 0 where
  from_among : (f : Elements → Elements) (k : Element → State)
      → Leads (after_child o f k) at (inner ++ end_tag o.name) (k (holding_elements (closed o (at + length inner)) (f ts)))
  from_blank : (t : Element) (us : Elements) → ts ≡ t ∷ᵉ us → (w : List ℕ) (k : Element → State)
      → Leads (blank o w k) at (inner ++ end_tag o.name) (k (holding_elements (closed o (at + length inner)) ts))

abbrev Inner : (depth at : ℕ) → List ℕ → Elements → Type 0
Inner depth at inner ts = (o : Open) → depth ≡ suc o.depth → 1 ≤ o.depth → Between o at inner ts

pub deep_enough : {depth : ℕ} {tag name currency : List ℕ} → IsStartTag depth tag name currency → 1 ≤ depth
deep_enough of_root = omega arith
deep_enough (of_amount d _) = omega arith
deep_enough (of_any_other d _ _) = omega arith

behind : (at : ℕ) (s others : List ℕ) → s ≡ 60 ∷ others → suc at + length others ≡ at + length s
behind at s others e = rw e (omega arith)

child_leads : {depth at : ℕ} {one : List ℕ} {t : Element} → Inside depth at one t → 1 < depth → (q : State) (k : Element → State)
    → (every_more : List ℕ) × (one ≡ 60 ∷ every_more) × Leads (angle depth at q k) (suc at) every_more (k t)
child_leads {at} i d q k =
    let (others, e, g) = tag_leads i.starts d i.deep at q k in
    (others ++ i.rest, i.whole ∙ ap (λ s. s ++ i.rest) e, follow g (at_offset (sym (behind at _ others e)) (i.leads k)))

text_inside : {depth at : ℕ} {tag name currency in_text : List ℕ} → depth ≤ 12 → IsStartTag depth tag name currency → Every text_byte in_text
    → Inside depth at (tag ++ (in_text ++ end_tag name)) (holding_text (head name currency at tag in_text) in_text)
unfolding head closed
text_inside {depth} {at} {tag} {name} {currency} d s e = record {
  tag = tag;
  name = name;
  currency = currency;
  rest = _;
  deep = d;
  starts = s;
  whole = refl;
  leads = λ k. blank_text_leads (opened_by depth at tag name currency) [] k (at + length tag) e;
}

elements_inside : {depth at : ℕ} {tag name currency inner : List ℕ} {t : Element} {ts : Elements} → depth ≤ 12 → IsStartTag depth tag name currency
    → Inner (suc depth) (at + length tag) inner (t ∷ᵉ ts)
    → Inside depth at (tag ++ (inner ++ end_tag name)) (holding_elements (head name currency at tag inner) (t ∷ᵉ ts))
unfolding head closed
elements_inside {depth} {at} {tag} {name} {currency} {inner} {t} {ts} d s h = record {
  tag = tag;
  name = name;
  currency = currency;
  rest = _;
  deep = d;
  starts = s;
  whole = refl;
  leads = λ k. (h (opened_by depth at tag name currency) refl (deep_enough s)).from_blank t ts refl [] k;
}

-- white space in an element of which nothing else is known yet
blank_white_leads : (o : Open) (w : List ℕ) (k : Element → State) {s : List ℕ} (at : ℕ) → Every white s → Leads (blank o w k) at s (blank o (w ++ s) k)
unfolding step
blank_white_leads o w k at all_done = rw append-nil here
blank_white_leads o w k at (every_more {b} {s} e es) = rw (← append_assoc w (b ∷ []) s) (on (blank_white_leads o (w ++ (b ∷ [])) k (suc at) es) (rw e))

pub among_stays : (o : Open) (f : Elements → Elements) (k : Element → State) → Stays (after_child o f k)
unfolding step Stays
among_stays o f k at b e = rw e

pub before_stays : Stays before
unfolding step Stays
before_stays at b e = rw e

pub after_stays : (t : Element) → Stays (after t)
unfolding step Stays
after_stays t at b e = rw e

no_more_between : {depth at : ℕ} {space : List ℕ} → Every white space → Inner depth at space []ᵉ
unfolding step end_tag bytes is one_of white letter capital from_to
no_more_between {at} {space} e o d _ = record {
  from_among = λ f k. follow (white_leads _ (among_stays o f k) at e) (next (next (end_leads o _ k _) refl) refl);
  from_blank = λ t us z w k. let n : ◌≡◌ {A = ℕ} 0 1 = cc in absurd (omega arith);
}

-- a child, and what follows it among its siblings, from its `<`
siblings : {depth at : ℕ} {one others : List ℕ} {t : Element} {ts : Elements} → Inside depth at one t → Inner depth (at + length one) others ts
    → (o : Open) → depth ≡ suc o.depth → 1 ≤ o.depth → (q : State) (f : Elements → Elements) (k : Element → State)
    → (rest : List ℕ) × (one ++ (others ++ end_tag o.name) ≡ 60 ∷ rest)
    × Leads (angle (suc o.depth) at q (λ u. after_child o (λ us. f (u ∷ᵉ us)) k)) (suc at) rest
    (k (holding_elements (closed o (at + length one + length others)) (f (t ∷ᵉ ts))))
siblings {at} {one} {others} {t} {ts} i h o d p q f k =
    let i' : Inside (suc o.depth) at one t = rw d at i in
    let (rest, e, g) = child_leads i' (omega arith) q (λ u. after_child o (λ us. f (u ∷ᵉ us)) k) in (
      rest ++ (others ++ end_tag o.name),
      ap (λ s. s ++ (others ++ end_tag o.name)) e,
      follow g
          (at_offset (sym (behind at one rest e)) ((h o d p).from_among (λ us. f (t ∷ᵉ us)) k)),
    )

one_more_between : {depth at : ℕ} {space one others : List ℕ} {t : Element} {ts : Elements} → Every white space
    → Inside depth (at + length space) one t → Inner depth (at + length space + length one) others ts
    → Inner depth at (space ++ (one ++ others)) (t ∷ᵉ ts)
unfolding step is one_of white
one_more_between {depth} {at} {space} {one} {others} {t} {ts} e i h o d p =
    let l : at + length space + length one + length others ≡ at + length (space ++ (one ++ others)) = simp length-append (omega arith) in
    record {
      from_among = λ f k.
          let (rest, z, g) = siblings i h o d p (ending o (holding_elements (closed o (at + length space)) (f []ᵉ)) k) f k in
          rw (← l, append_assoc space (one ++ others), append_assoc one others, z) (follow (white_leads _ (among_stays o f k) at e) (on g refl));
      from_blank = λ u us _ w k.
          let (rest, z, g) = siblings i h o d p (ending o (holding_text (closed o (at + length space)) (w ++ space)) k) (λ vs. vs) k in
          rw (← l, append_assoc space (one ++ others), append_assoc one others, z) (follow (blank_white_leads o w k at e) (on g refl));
    }

inside : {depth at : ℕ} {one : List ℕ} {t : Element} → IsElement depth at one t → Inside depth at one t
inside h =
    elim h as (λ depth at one t _. Inside depth at one t) (λ depth at inner ts _. Inner depth at inner ts) [
      | of_text d s e ↦ text_inside d s e
      | of_elements d s (es → ih) ↦ elements_inside d s ih
      | no_more e ↦ no_more_between e
      | one_more e (x → ih) (xs → ihs) ↦ one_more_between e ih ihs
    ]

-- the root, from where it may begin
root_only : {depth : ℕ} {tag name currency : List ℕ} → IsStartTag depth tag name currency → depth ≡ 1
    → (tag ≡ root_tag) × (name ≡ bytes "Document") × (currency ≡ [])
root_only of_root d = (refl, refl, refl)
root_only (of_amount l _) d = absurd (omega arith)
root_only (of_any_other l _ _) d = absurd (omega arith)

-- what may stand before the root, and leads into it
Enters : State → ℕ → Type 0
Enters q at = Leads q at root_tag (in_root at)

root_leads : (q : State) {at : ℕ} {one : List ℕ} {t : Element} → Enters q at → IsElement 1 at one t → Leads q at one (after t)
unfolding Enters in_root
root_leads q {at} {one} {t} g h =
    let i = inside h in
    let (e, f, c) = root_only i.starts refl in
    let l : Leads (blank (opened_by 1 at i.tag i.name i.currency) [] after) (at + length i.tag) i.rest (after t) = i.leads after in
    rw (i.whole, e) (follow g (rw (e, f, c) at l))

enters_opening : Enters opening 0
unfolding Enters step root_tag bytes white one_of is
enters_opening = next (next (want_leads (drop 2 root_tag) (in_root 0) 2) refl) refl

enters_before : (at : ℕ) → Enters before at
unfolding Enters step root_tag bytes white one_of is
enters_before at = next (want_leads (drop 1 root_tag) (in_root at) (suc at)) refl

past-declaration : Leads opening 0 declaration before
unfolding step declaration bytes white one_of is
past-declaration = next (next (want_leads (drop 2 declaration) before 2) refl) refl

from_opening : {opening_text space : List ℕ} → IsDeclaration opening_text → Every white space
    → (q : State) × Leads opening 0 (opening_text ++ space) q × Enters q (length opening_text + length space)
unfolding step
from_opening no_declaration all_done = (opening, here, enters_opening)
from_opening no_declaration (every_more {b} {s} e es) = (before, on (white_leads before before_stays 1 es) (rw e), enters_before _)
from_opening {space} one_declaration es = (before, follow past-declaration (white_leads before before_stays _ es), enters_before _)

message_leads : {s : List ℕ} {t : Element} → IsMessage s t → Leads opening 0 s (after t)
message_leads (whole {opening = d} {before = w} {one} {after = z} {t} hd hw h hz) =
    let (q, g, e) = from_opening hd hw in
    let l : length d + length w ≡ 0 + length (d ++ w) = simp length-append (omega arith) in
    rw (← append_assoc d w (one ++ z))
    (follow g (at_offset l (follow (root_leads q e h) (white_leads (after t) (after_stays t) _ hz))))

pub complete : {s : List ℕ} {t : Element} → IsMessage s t → read s ≡ root_is t
unfolding read run ended
complete {s} {t} h = rw (← append-nil s) (run_over (message_leads h) [])

pub one_tree : {s : List ℕ} {t u : Element} → IsMessage s t → IsMessage s u → t ≡ u
one_tree h g = let e = complete h in let f = complete g in cc
