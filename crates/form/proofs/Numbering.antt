-- The numbers of elements in the buffer: what is put down stays, and with the message's bytes it is the laid-out tree.
use Prim.Native.Nat.{ℕ, ◌+◌, ◌*◌, ◌-◌, ◌%◌, ◌≤◌, ◌<◌}
use mathlib.Core.List.{List, [], ◌∷◌, ◌++◌}
use mathlib.Core.Path.{◌≡◌, refl, sym, ap, ◌∙◌}
use native.Mathlib.Omega.{arith}
use native.Mathlib.Decide.{dec_le}
use native.Mathlib.Nat.{mod-eq_of_lt, add-zero, min-le_left}
use lib.ListN.{length, get_or, set, take, drop, length-set, length-take, take-append-drop}
use lib.Seq.{get_or-set_same, get_or-set_other, drop-drop}
use Rattle.paper.specs.Bytes.{bytes}
use Rattle.paper.specs.Form.{Head, Element, Elements, amount_tag, end_tag, IsStartTag, of_root, of_amount, of_any_other}
use Rattle.paper_grammar.proofs.Standing.{TagsInPlace, InPlace, text_in_place, elements_in_place, AllInPlace, none_in_place, more_in_place}
use Rattle.form_names.specs.Names.{name_number}
use Rattle.tree.specs.Laid.{cell_of, between, Numbers, Written, Laid, laid_text, laid_elements, LaidAll, laid_none, laid_more}
use Rattle.form.specs.declared.Kind.{Kind}
use Rattle.form.specs.declared.Kind.TheVariants as text
use Rattle.form.specs.Reads.{known_number, Kept, put, PutDown, Known, Numbered, numbered_text, numbered_elements, AllNumbered, none_numbered, more_numbered}

pub kept_same : {b : List ℕ} {i : ℕ} → Kept b b i
kept_same = record { length_kept = refl; kept = λ k h. refl }

pub kept_on : {b b' b'' : List ℕ} {i j : ℕ} → Kept b b' i → Kept b' b'' j → i ≤ j → Kept b b'' i
kept_on p q h = record { length_kept = q.length_kept ∙ p.length_kept; kept = λ k l. q.kept k (omega arith) ∙ p.kept k l }

-- Two buffers agree on the elements from i up to n.
pub record Agree (b b' : List ℕ) (i n : ℕ) : Type 0 where
  pub agrees : (k : ℕ) → i * 6 ≤ k → k < n * 6 → get_or b' k 0 ≡ get_or b k 0

pub agree_same : {b : List ℕ} {i n : ℕ} → Agree b b i n
agree_same = record { agrees = λ k l h. refl }

pub agree_on : {b b' b'' : List ℕ} {i n m : ℕ} → Agree b b' i n → Agree b' b'' i m → n ≤ m → Agree b b'' i n
agree_on p q h = record { agrees = λ k l u. q.agrees k l (omega arith) ∙ p.agrees k l u }

pub kept_agree : {b b' : List ℕ} {i n : ℕ} → Kept b b' n → Agree b b' i n
kept_agree p = record { agrees = λ k l u. p.kept k u }

pub narrow : {b b' : List ℕ} {i n j m : ℕ} → Agree b b' i n → i ≤ j → m ≤ n → Agree b b' j m
narrow a h l = record { agrees = λ k p q. a.agrees k (omega arith) (omega arith) }

-- one number put down, and six
record Stored (b b' : List ℕ) (at x : ℕ) : Type 0 where
  length_kept : length b' ≡ length b
  stored : at < length b → get_or b' at 0 ≡ x
  others : (k : ℕ) → (k ≡ at → ⊥) → get_or b' k 0 ≡ get_or b k 0

stored_set : (b : List ℕ) (at x : ℕ) → Stored b (set b at x) at x
stored_set b at x = record { length_kept = length-set b at x; stored = λ h. get_or-set_same b at x 0 h; others = λ k n. get_or-set_other b at k x 0 n }

record Six (b b' : List ℕ) (i x₀ x₁ x₂ x₃ x₄ x₅ : ℕ) : Type 0 where
  length_kept : length b' ≡ length b
  others : (k : ℕ) → (i * 6 ≤ k → k < i * 6 + 6 → ⊥) → get_or b' k 0 ≡ get_or b k 0
  is_0 : i * 6 + 5 < length b → cell_of b' i 0 ≡ x₀
  is_1 : i * 6 + 5 < length b → cell_of b' i 1 ≡ x₁
  is_2 : i * 6 + 5 < length b → cell_of b' i 2 ≡ x₂
  is_3 : i * 6 + 5 < length b → cell_of b' i 3 ≡ x₃
  is_4 : i * 6 + 5 < length b → cell_of b' i 4 ≡ x₄
  is_5 : i * 6 + 5 < length b → cell_of b' i 5 ≡ x₅

module _ {b₀ b₁ b₂ b₃ b₄ b₅ b₆ : List ℕ} {i x₀ x₁ x₂ x₃ x₄ x₅ : ℕ} (p₀ : Stored b₀ b₁ (i * 6) x₀) (p₁ : Stored b₁ b₂ (i * 6 + 1) x₁) (p₂ : Stored b₂ b₃ (i * 6 + 2) x₂)
    (p₃ : Stored b₃ b₄ (i * 6 + 3) x₃) (p₄ : Stored b₄ b₅ (i * 6 + 4) x₄) (p₅ : Stored b₅ b₆ (i * 6 + 5) x₅) where
  six : Six b₀ b₆ i x₀ x₁ x₂ x₃ x₄ x₅
  six =
      let l₁ = p₀.length_kept in
      let l₂ = p₁.length_kept in
      let l₃ = p₂.length_kept in
      let l₄ = p₃.length_kept in
      let l₅ = p₄.length_kept in
      let l₆ = p₅.length_kept in
      record {
        length_kept = omega arith;
        others = λ k n.
            p₅.others k (λ e. n (omega arith) (omega arith)) ∙ p₄.others k (λ e. n (omega arith) (omega arith)) ∙ p₃.others k (λ e. n (omega arith) (omega arith))
            ∙ p₂.others k (λ e. n (omega arith) (omega arith)) ∙ p₁.others k (λ e. n (omega arith) (omega arith)) ∙ p₀.others k (λ e. n (omega arith) (omega arith));
        is_0 = λ h.
            rw (add-zero (i * 6))
            (p₅.others (i * 6) (λ e. omega arith) ∙ p₄.others (i * 6) (λ e. omega arith) ∙ p₃.others (i * 6) (λ e. omega arith) ∙ p₂.others (i * 6) (λ e. omega arith)
            ∙ p₁.others (i * 6) (λ e. omega arith) ∙ p₀.stored (omega arith));
        is_1 = λ h.
            p₅.others (i * 6 + 1) (λ e. omega arith) ∙ p₄.others (i * 6 + 1) (λ e. omega arith) ∙ p₃.others (i * 6 + 1) (λ e. omega arith)
            ∙ p₂.others (i * 6 + 1) (λ e. omega arith) ∙ p₁.stored (omega arith);
        is_2 = λ h.
            p₅.others (i * 6 + 2) (λ e. omega arith) ∙ p₄.others (i * 6 + 2) (λ e. omega arith) ∙ p₃.others (i * 6 + 2) (λ e. omega arith) ∙ p₂.stored (omega arith);
        is_3 = λ h. p₅.others (i * 6 + 3) (λ e. omega arith) ∙ p₄.others (i * 6 + 3) (λ e. omega arith) ∙ p₃.stored (omega arith);
        is_4 = λ h. p₅.others (i * 6 + 4) (λ e. omega arith) ∙ p₄.stored (omega arith);
        is_5 = λ h. p₅.stored (omega arith);
      }

six_put : (b : List ℕ) (i x₀ x₁ x₂ x₃ x₄ x₅ : ℕ) → Six b (put b i x₀ x₁ x₂ x₃ x₄ x₅) i x₀ x₁ x₂ x₃ x₄ x₅
unfolding put
six_put b i x₀ x₁ x₂ x₃ x₄ x₅ =
    six (stored_set b (i * 6) x₀) (stored_set _ (i * 6 + 1) x₁) (stored_set _ (i * 6 + 2) x₂) (stored_set _ (i * 6 + 3) x₃) (stored_set _ (i * 6 + 4) x₄)
    (stored_set _ (i * 6 + 5) x₅)

pub put_same : (b : List ℕ) (i : ℕ) {x₀ x₁ x₂ x₃ x₄ x₅ y₀ y₁ y₂ y₃ y₄ y₅ : ℕ} → x₀ ≡ y₀ → x₁ ≡ y₁ → x₂ ≡ y₂ → x₃ ≡ y₃ → x₄ ≡ y₄ → x₅ ≡ y₅
    → set (set (set (set (set (set b (i * 6) x₀) (i * 6 + 1) x₁) (i * 6 + 2) x₂) (i * 6 + 3) x₃) (i * 6 + 4) x₄) (i * 6 + 5) x₅ ≡ put b i y₀ y₁ y₂ y₃ y₄ y₅
unfolding put
put_same b i a c d e f g = rw (a, c, d, e, f, g)

-- What is known of a text has a small number.
pub known_small : (text : Kind) → known_number text ≡ known_number text % 65536
known_small text.Any = refl
known_small text.White = refl
known_small text.Values = refl

module _ {b b' : List ℕ} {i lt number start close next known : ℕ} (p : PutDown b b' i lt number start close next known) where
  here : i < 4700 → Six b b' i (lt % 65536) (number % 65536) (start % 65536) (close % 65536) (next % 65536) (known % 65536)
  here h = rw (p.room h) (six_put b i (lt % 65536) (number % 65536) (start % 65536) (close % 65536) (next % 65536) (known % 65536))

  -- only they change
  pub put_kept : Kept b b' i
  put_kept = go (dec_le 4700 i)
    where
      go : Dec (4700 ≤ i) → Kept b b' i
      go (yes l) = rw (p.no_room l) kept_same
      go (no l) =
          let x = here (omega (arith, l)) in
          record { length_kept = x.length_kept; kept = λ k h. x.others k (λ a c. omega (arith, a, h)) }

  pub put_agrees : (n : ℕ) → Agree b b' (i + 1) n
  put_agrees n = go (dec_le 4700 i)
    where
      go : Dec (4700 ≤ i) → Agree b b' (i + 1) n
      go (yes l) = rw (p.no_room l) agree_same
      go (no l) = let x = here (omega (arith, l)) in record { agrees = λ k a c. x.others k (λ d e. omega (arith, a, e)) }

  -- and what is put down is there, where there is room and it fits
  pub put_there : (s : List ℕ) (h : Head) → 28200 ≤ length b → next ≤ 4700 → i < next → lt < 65536 → start < 65536 → close < 65536 → number < 65536
      → lt ≡ h.at → number ≡ name_number h.name → start ≡ h.start → close ≡ h.close → Known s start close known → Numbers s b' i h next
  put_there s h long few l a c d e at_is name_is start_is close_is k =
      let x = here (omega (arith, few, l)) in
      let m : i * 6 + 5 < length b = omega (arith, few, l, long) in
      let y : cell_of b' i 5 ≡ known = x.is_5 m ∙ mod-eq_of_lt k.small in
      record {
        few = few;
        after_it = l;
        at_is = x.is_0 m ∙ (mod-eq_of_lt a ∙ at_is);
        name_is = x.is_1 m ∙ (mod-eq_of_lt e ∙ name_is);
        start_is = x.is_2 m ∙ (mod-eq_of_lt c ∙ start_is);
        close_is = x.is_3 m ∙ (mod-eq_of_lt d ∙ close_is);
        next_is = x.is_4 m ∙ mod-eq_of_lt (omega (arith, few));
        white_known = λ z. rw (← start_is, ← close_is) (k.white_known (sym y ∙ z));
        values_known = λ z. rw (← start_is, ← close_is) (k.values_known (sym y ∙ z));
      }

-- What has its numbers keeps them where two buffers agree.
numbers_stay : {s b b' : List ℕ} {i n : ℕ} {h : Head} → Numbers s b i h n → Agree b b' i n → Numbers s b' i h n
numbers_stay {i = i} e a =
    let l = e.after_it in
    record {
      few = e.few;
      after_it = e.after_it;
      at_is = a.agrees (i * 6 + 0) (omega arith) (omega arith) ∙ e.at_is;
      name_is = a.agrees (i * 6 + 1) (omega arith) (omega arith) ∙ e.name_is;
      start_is = a.agrees (i * 6 + 2) (omega arith) (omega arith) ∙ e.start_is;
      close_is = a.agrees (i * 6 + 3) (omega arith) (omega arith) ∙ e.close_is;
      next_is = a.agrees (i * 6 + 4) (omega arith) (omega arith) ∙ e.next_is;
      white_known = λ z. e.white_known (sym (a.agrees (i * 6 + 5) (omega arith) (omega arith)) ∙ z);
      values_known = λ z. e.values_known (sym (a.agrees (i * 6 + 5) (omega arith) (omega arith)) ∙ z);
    }

pub numbered_grows : {s b : List ℕ} {t : Element} {i n : ℕ} → Numbered s b t i n → i < n
numbered_grows (numbered_text e n) = e.after_it
numbered_grows (numbered_elements e n all) = e.after_it

pub all_grow : {s b : List ℕ} {ts : Elements} {i n : ℕ} → AllNumbered s b ts i n → i ≤ n
all_grow (none_numbered e) = omega arith
all_grow (more_numbered l m) = omega (arith, numbered_grows l, all_grow m)

mutual
  pub numbered_stays : {s b b' : List ℕ} {t : Element} {i n : ℕ} → Numbered s b t i n → Agree b b' i n → Numbered s b' t i n
  numbered_stays (numbered_text e n) a = numbered_text (numbers_stay e a) n
  numbered_stays (numbered_elements e n all) a = numbered_elements (numbers_stay e a) n (all_stay all (narrow a (omega arith) (omega arith)))

  pub all_stay : {s b b' : List ℕ} {ts : Elements} {i n : ℕ} → AllNumbered s b ts i n → Agree b b' i n → AllNumbered s b' ts i n
  all_stay (none_numbered e) a = none_numbered e
  all_stay (more_numbered l m) a =
      more_numbered (numbered_stays l (narrow a (omega arith) (omega (arith, all_grow m)))) (all_stay m (narrow a (omega (arith, numbered_grows l)) (omega arith)))

-- Where an element stands in the message with its numbers, it is laid out.
module _ (s : List ℕ) (h : Head) (n : ℕ) (x y z : ℕ) (e : take n (drop h.at s) ≡ amount_tag (x ∷ y ∷ z ∷ [])) where
  amount_long : 20 ≤ n
  unfolding amount_tag bytes
  amount_long = let l = ap length e in let m = length-take n (drop h.at s) in let k = min-le_left n (length (drop h.at s)) in omega (arith, l, m, k)

  amount_from : drop (h.at + 15) s ≡ x ∷ y ∷ z ∷ (bytes "\">" ++ drop n (drop h.at s))
  unfolding amount_tag bytes
  amount_from =
      sym (drop-drop 15 h.at s) ∙ ap (λ l. drop 15 l) (sym (take-append-drop n (drop h.at s)) ∙ ap (λ l. l ++ drop n (drop h.at s)) e)

  amount_currency : between (h.at + 15) (h.at + 18) s ≡ x ∷ y ∷ z ∷ []
  amount_currency = let k : h.at + 18 - (h.at + 15) ≡ 3 = omega arith in rw (k, amount_from)

not_the_root : bytes "Document" ≡ bytes "InstdAmt" → ⊥
unfolding bytes
not_the_root e = let z : ◌≡◌ {A = ℕ} 68 73 = ap (λ l. get_or l 0 0) e in omega (arith, z)

currency_there : (s : List ℕ) (h : Head) (t : TagsInPlace s h) → h.name ≡ bytes "InstdAmt" → (h.at + 18 ≤ h.start) × (between (h.at + 15) (h.at + 18) s ≡ h.currency)
currency_there s h t e = go t.is_start_tag refl refl refl
  where
    go : {depth : ℕ} {tag name currency : List ℕ} → IsStartTag depth tag name currency → tag ≡ t.opening → name ≡ h.name → currency ≡ h.currency
        → (h.at + 18 ≤ h.start) × (between (h.at + 15) (h.at + 18) s ≡ h.currency)
    go of_root a b c = absurd (not_the_root (b ∙ e))
    go (of_amount {a = x} {b = y} {c = z} l m) a b c =
        let f : take (h.start - h.at) (drop h.at s) ≡ amount_tag (x ∷ y ∷ z ∷ []) = t.opening_there ∙ sym a in
        let k = amount_long s h (h.start - h.at) x y z f in
        (omega (arith, k), amount_currency s h (h.start - h.at) x y z f ∙ c)
    go (of_any_other l n d) a b c = absurd (d (b ∙ e))

written : (s : List ℕ) (h : Head) → TagsInPlace s h → Written s h
unfolding end_tag bytes
written s h t = record {
  at_first = t.at_first;
  start_first = t.start_first;
  close_inside = let l = t.within in omega (arith, l);
  currency_inside = λ e. (currency_there s h t e).0;
  currency_is = λ e. (currency_there s h t e).1;
}

mutual
  pub laid : {s b : List ℕ} {t : Element} {i n : ℕ} → Numbered s b t i n → InPlace s t → Laid s b t i n
  laid (numbered_text e n) (text_in_place g w) = laid_text (record { numbers = e; written = written _ _ g }) n (sym w)
  laid (numbered_elements e n all) (elements_in_place g ws) = laid_elements (record { numbers = e; written = written _ _ g }) n (all_laid all ws)

  all_laid : {s b : List ℕ} {ts : Elements} {i n from to : ℕ} → AllNumbered s b ts i n → AllInPlace s from to ts → LaidAll s b ts i n
  all_laid (none_numbered e) (none_in_place l) = laid_none e
  all_laid (more_numbered x xs) (more_in_place l w ws) = laid_more (laid x w) (all_laid xs ws)
