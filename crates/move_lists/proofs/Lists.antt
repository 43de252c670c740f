-- The file of the regrouping list, read by places.
use Rattle.std.specs.Prelude.{if◌then◌else◌}
use Prim.Native.Nat.{ℕ, zero, suc, ◌+◌, ◌-◌, ◌*◌, ◌<◌, ◌≤◌}
use native.Mathlib.Omega.{arith}
use mathlib.Core.List.{List, [], ◌∷◌}
use mathlib.Core.Option.{Option, none, some}
use mathlib.Core.Bool.{Bool, true, false, ◌&&◌}
use mathlib.Core.Path.{◌≡◌, refl, sym, ap, ◌∙◌, subst}
use lib.ListN.{length, get_or, take, drop, length-drop, length-take, get_or-eq_default}
use lib.Seq.{get_or-drop}
use Rattle.std.proofs.lemmas.List.{get_or-take}
use Rattle.std.proofs.lemmas.Bool.{cases_lt}
use Rattle.std.specs.Bool.{then_some}
use lib.Dec.{eqb}
use borrow.Author.Tests.{eq-eqb, eqb-true, eqb-false}
use Rattle.paper.specs.Bytes.{bytes, same}
use Rattle.paper.specs.Regrouping.{add_first, numbers_16, counted, ordinals_of}
use Rattle.paper.proofs.Laws.{some_not_none, both_left, both_right, same_says, same_tests}
use Rattle.move_lists.specs.Lists.{how_many}
use Rattle.std.specs.Prelude.{Some, None}
use Rattle.std.proofs.Common.{inl, inr}
use Rattle.std.specs.Prelude as code

both_at : (s : List ℕ) {a b c d : ℕ} → a ≡ c → b ≡ d → get_or s a 0 * 256 + get_or s b 0 ≡ get_or s c 0 * 256 + get_or s d 0
both_at s p q = cc

-- numbers of two bytes: how many, and which
pub record Numbers (s : List ℕ) (ns : List ℕ) : Type 0 where
  pub twice : length s ≡ 2 * length ns
  pub each : (k : ℕ) → get_or ns k 0 ≡ get_or s (2 * k) 0 * 256 + get_or s (2 * k + 1) 0

more_numbers : (high low : ℕ) (s ns : List ℕ) → Numbers s ns → Numbers (high ∷ low ∷ s) ((high * 256 + low) ∷ ns)
more_numbers high low s ns h = record { twice = omega (arith, h.twice); each = at }
  where
    at : (k : ℕ) → get_or ((high * 256 + low) ∷ ns) k 0 ≡ get_or (high ∷ low ∷ s) (2 * k) 0 * 256 + get_or (high ∷ low ∷ s) (2 * k + 1) 0
    at zero = refl
    at (suc k) =
        let e : 2 * suc k ≡ suc (suc (2 * k)) = omega arith in
        let f : 2 * suc k + 1 ≡ suc (suc (2 * k + 1)) = omega arith in
        h.each k ∙ sym (both_at (high ∷ low ∷ s) e f)

no_numbers : Numbers [] []
no_numbers = record { twice = refl; each = λ k. refl }

-- one number more, of a rest that is or is not numbers
first_more : (high low : ℕ) (s ns : List ℕ) (o : Option (List ℕ)) → ((ms : List ℕ) → o ≡ some ms → Numbers s ms)
    → add_first (high * 256 + low) o ≡ some ns → Numbers (high ∷ low ∷ s) ns
unfolding add_first
first_more high low s ns none f e = some_not_none (sym e)
first_more high low s ns (some ms) f e =
    let x : (high * 256 + low) ∷ ms ≡ ns = cc in subst (Numbers (high ∷ low ∷ s)) x (more_numbers high low s ms (f ms refl))

numbers_say : (s ns : List ℕ) → numbers_16 s ≡ some ns → Numbers s ns
unfolding numbers_16
numbers_say [] ns e = let x : [] ≡ ns = cc in subst (Numbers []) x no_numbers
numbers_say (high ∷ []) ns e = some_not_none (sym e)
numbers_say (high ∷ low ∷ s) ns e = first_more high low s ns (numbers_16 s) (λ ms d. numbers_say s ms d) e

record There (s : List ℕ) : Type 0 where
  ns : List ℕ
  are : numbers_16 s ≡ some ns

numbers_there : (n : ℕ) (s : List ℕ) → length s ≡ 2 * n → There s
unfolding numbers_16 add_first
numbers_there n [] e = record { ns = []; are = refl }
numbers_there n (high ∷ []) e = absurd (omega (arith, e))
numbers_there zero (high ∷ low ∷ s) e = absurd (omega (arith, e))
numbers_there (suc n) (high ∷ low ∷ s) e =
    let r = numbers_there n s (omega (arith, e)) in record { ns = (high * 256 + low) ∷ r.ns; are = rw r.are }

-- version 1, a count, and that many ordinals
counted_says : (ns ks : List ℕ) → counted ns ≡ some ks → ns ≡ 1 ∷ length ks ∷ ks
unfolding counted
counted_says [] ks e = some_not_none (sym e)
counted_says (version ∷ []) ks e = some_not_none (sym e)
counted_says (version ∷ count ∷ os) ks e = go (eqb version 1 && eqb count (length os)) refl e
  where
    go : (t : Bool) → (eqb version 1 && eqb count (length os)) ≡ t → (if t then some os else none) ≡ some ks
        → version ∷ count ∷ os ≡ 1 ∷ length ks ∷ ks
    go false d q = some_not_none (sym q)
    go true d q =
        let v : version ≡ 1 = eqb-true version 1 (both_left (eqb version 1) _ d) in
        let n : count ≡ length os = eqb-true count (length os) (both_right (eqb version 1) _ d) in
        let o : os ≡ ks = cc in
        cc (ap length o)

counted_tests : (ns ks : List ℕ) → ns ≡ 1 ∷ length ks ∷ ks → counted ns ≡ some ks
unfolding counted
counted_tests ns ks e = rw (e, eq-eqb (length ks) (length ks) refl)

-- `RGL`, version 1, and room for a count
pub record Head (file : List ℕ) : Type 0 where
  pub long : 7 ≤ length file
  pub first : get_or file 0 0 ≡ 82
  pub second : get_or file 1 0 ≡ 71
  pub third : get_or file 2 0 ≡ 76
  pub high : get_or file 3 0 ≡ 0
  pub low : get_or file 4 0 ≡ 1

tag_of : (file : List ℕ) → Head file → take 3 file ≡ 82 ∷ 71 ∷ 76 ∷ []
tag_of [] h = absurd (omega (arith, h.long))
tag_of (a ∷ []) h = absurd (omega (arith, h.long))
tag_of (a ∷ b ∷ []) h = absurd (omega (arith, h.long))
tag_of (a ∷ b ∷ c ∷ s) h = rw (h.first, h.second, h.third)

-- A file of the form, by its places.
pub record Formed (file ks : List ℕ) : Type 0 where
  pub tag : take 3 file ≡ 82 ∷ 71 ∷ 76 ∷ []
  pub numbers : Numbers (drop 3 file) (1 ∷ length ks ∷ ks)

behind : (file ks : List ℕ) (o : Option (List ℕ)) → numbers_16 (drop 3 file) ≡ o → ◌≡◌ {A = Option (List ℕ)} (elim o [ none ↦ none | some ns ↦ counted ns ]) (some ks)
    → Numbers (drop 3 file) (1 ∷ length ks ∷ ks)
behind file ks none d e = some_not_none (sym e)
behind file ks (some ns) d e = subst (Numbers (drop 3 file)) (counted_says ns ks e) (numbers_say (drop 3 file) ns d)

pub formed : (file ks : List ℕ) → ordinals_of file ≡ some ks → Formed file ks
unfolding ordinals_of bytes
formed file ks e = go (same (take 3 file) (bytes "RGL")) refl e
  where
    go : (t : Bool) → same (take 3 file) (bytes "RGL") ≡ t
        → ◌≡◌ {A = Option (List ℕ)} (if t then elim (numbers_16 (drop 3 file)) [ none ↦ none | some ns ↦ counted ns ] else none) (some ks) → Formed file ks
    go false d q = some_not_none (sym q)
    go true d q = record { tag = same_says (take 3 file) _ d; numbers = behind file ks (numbers_16 (drop 3 file)) refl q }

module _ {file ks : List ℕ} (f : Formed file ks) where
  pub as_long : length file ≡ 7 + 2 * length ks
  as_long = omega (arith, f.numbers.twice, length-drop 3 file)

  behind_tag : (k : ℕ) → get_or (1 ∷ length ks ∷ ks) k 0 ≡ get_or file (3 + 2 * k) 0 * 256 + get_or file (3 + (2 * k + 1)) 0
  behind_tag k = f.numbers.each k ∙ rw (get_or-drop 3 file (2 * k) 0, get_or-drop 3 file (2 * k + 1) 0)

  pub head_is : Head file
  head_is =
      let v : 1 ≡ get_or file 3 0 * 256 + get_or file 4 0 = behind_tag 0 in
      record {
        long = omega (arith, as_long);
        first = sym (get_or-take 3 file 0 0 (omega arith)) ∙ ap (λ s. get_or s 0 0) f.tag;
        second = sym (get_or-take 3 file 1 0 (omega arith)) ∙ ap (λ s. get_or s 1 0) f.tag;
        third = sym (get_or-take 3 file 2 0 (omega arith)) ∙ ap (λ s. get_or s 2 0) f.tag;
        high = omega (arith, v);
        low = omega (arith, v);
      }

  pub count_is : get_or file 5 0 * 256 + get_or file 6 0 ≡ length ks
  count_is = sym (behind_tag 1)

  pub ordinal_is : (k : ℕ) → get_or file (7 + 2 * k) 0 * 256 + get_or file (7 + 2 * k + 1) 0 ≡ get_or ks k 0
  ordinal_is k =
      let x : 3 + 2 * suc (suc k) ≡ 7 + 2 * k = omega arith in
      let y : 3 + (2 * suc (suc k) + 1) ≡ 7 + 2 * k + 1 = omega arith in
      sym (behind_tag (suc (suc k)) ∙ both_at file x y)

-- what is answered of a file
module _ (file : List ℕ) where
  not_formed : ((ks : List ℕ) → Formed file ks → ⊥) → None ≡ how_many (ordinals_of file)
  unfolding how_many
  not_formed f = go (ordinals_of file) refl
    where
      go : (o : Option (List ℕ)) → ordinals_of file ≡ o → None ≡ how_many o
      go none e = refl
      go (some ks) e = absurd (f ks (formed file ks e))

  pub other_head : (Head file → ⊥) → None ≡ how_many (ordinals_of file)
  other_head n = not_formed (λ ks f. n (head_is f))

  pub other_count : {n : ℕ} → n ≡ get_or file 5 0 * 256 + get_or file 6 0 → (length file ≡ 7 + 2 * n → ⊥) → None ≡ how_many (ordinals_of file)
  other_count e d = not_formed (λ ks f. d (omega (arith, as_long f, e, count_is f)))

  three : (ns : List ℕ) (n : ℕ) → length ns ≡ 2 + n → get_or ns 0 0 ≡ 1 → get_or ns 1 0 ≡ n → counted ns ≡ some (drop 2 ns)
  three [] n l a b = absurd (omega (arith, l))
  three (version ∷ []) n l a b = absurd (omega (arith, l))
  three (version ∷ count ∷ ks) n l a b =
      counted_tests (version ∷ count ∷ ks) ks (let x : count ≡ length ks = omega (arith, b, l) in cc)

  of_the_form : Head file → (n : ℕ) → n ≡ get_or file 5 0 * 256 + get_or file 6 0 → length file ≡ 7 + 2 * n → Some n ≡ how_many (ordinals_of file)
  unfolding how_many ordinals_of bytes
  of_the_form f n c l =
      let s : length (drop 3 file) ≡ 2 * (2 + n) = omega (arith, length-drop 3 file) in
      let r = numbers_there (2 + n) (drop 3 file) s in
      let h = numbers_say (drop 3 file) r.ns r.are in
      let m : length r.ns ≡ 2 + n = omega (arith, h.twice) in
      let a : get_or r.ns 0 0 ≡ 1 = h.each 0 ∙ rw (get_or-drop 3 file 0 0, get_or-drop 3 file 1 0, f.high, f.low) in
      let b : get_or r.ns 1 0 ≡ n = h.each 1 ∙ rw (get_or-drop 3 file 2 0, get_or-drop 3 file 3 0) (sym c) in
      let g : same (take 3 file) (82 ∷ 71 ∷ 76 ∷ []) ≡ true = rw (tag_of file f) (same_tests _) in
      let k : length (drop 2 r.ns) ≡ n = omega (arith, length-drop 2 r.ns) in
      rw (g, r.are, three r.ns n m a b) (ap Some (sym k))

  -- the answer behind a head: the count, if so many ordinals follow
  pub behind_head : Head file → {r : code.Option ℕ} {n : ℕ} → r ≡ then_some (eqb (length (take (length file - 7) (drop 7 file))) (2 * n)) n
      → n ≡ get_or file 5 0 * 256 + get_or file 6 0 → r ≡ how_many (ordinals_of file)
  behind_head f {r = r} {n = n} e c = go (eqb (length (take (length file - 7) (drop 7 file))) (2 * n)) refl e
    where
      m : length (take (length file - 7) (drop 7 file)) ≡ length file - 7
      m = omega (arith, length-take {A = ℕ}, length-drop {A = ℕ})

      go : (t : Bool) → eqb (length (take (length file - 7) (drop 7 file))) (2 * n) ≡ t → r ≡ then_some t n → r ≡ how_many (ordinals_of file)
      go true d q = q ∙ of_the_form f n c (let x = eqb-true _ (2 * n) d in omega (arith, f.long, m, x))
      go false d q = q ∙ not_formed (λ ks g. eqb-false _ (2 * n) d (omega (arith, m, c, as_long g, count_is g)))

-- past the end of the list
pub past_list : (file ks : List ℕ) (k : ℕ) → length file ≤ 2 * k + 1 → ordinals_of file ≡ some ks → 0 ≡ get_or ks k 0
past_list file ks k h e = sym (get_or-eq_default ks 0 (omega (arith, as_long (formed file ks e))))

-- the number behind the count, or 0 past the end
pub ordinal_there : (file ks : List ℕ) (k : ℕ) {n : ℕ} → (7 + 2 * k + 1 < length file → n ≡ get_or file (7 + 2 * k) 0 * 256 + get_or file (7 + 2 * k + 1) 0)
    → (length file ≤ 7 + 2 * k → n ≡ 0) → ordinals_of file ≡ some ks → n ≡ get_or ks k 0
ordinal_there file ks k within past e =
    let f = formed file ks e in
    elim (cases_lt k (length ks)) [
      | inl h ↦ within (omega (arith, as_long f)) ∙ ordinal_is f k
      | inr h ↦ past (omega (arith, as_long f)) ∙ sym (get_or-eq_default ks 0 h)
    ]
