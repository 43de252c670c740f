-- What is taken byte by byte along a text, said of the parts that std's walks and slices give.
use Rattle.std.specs.Prelude.{if◌then◌else◌}
use Prim.Native.Nat.{ℕ, suc, ◌+◌, ◌-◌, ◌<◌, ◌≤◌}
use Prim.Native.Char.{code}
use Prim.Native.String.{String, [] as []ˢ, ◌∷◌ as ◌∷ˢ◌}
use mathlib.Core.Path.{◌≡◌, refl, sym, ap, ◌∙◌}
use mathlib.Core.List.{List, [], ◌∷◌}
use mathlib.Core.Bool.{Bool, true, false, ◌&&◌, ◌||◌}
use native.Mathlib.Numerals.{add-one}
use native.Mathlib.Omega.{arith}
use lib.ListN.{length, get_or, drop, drop_of_length-le, take, length-drop}
use lib.Seq.{drop-cons, take_all}
use lib.Dec.{eqb}
use Rattle.std.specs.List.{list_all, zip}
use Rattle.std.specs.Cmp.Lexicographic.{pointwise, unequal, as_long}
use Rattle.std.proofs.lemmas.List.Recursion.{same_from_clauses}
use borrow.Author.Tests.{eq-eqb, ne_eqb, eqb-true, eqb-false}
use Rattle.paper.specs.Bytes.{bytes, is, from_to, one_of, letter, digit, letter_or_digit, capital_or_digit, value_character, every, same}
use Rattle.paper.specs.Values.{among, fits, shaped}
use Rattle.paper.specs.Refusals.{first_not}
use Rattle.leaf_texts.specs.Shapes.{fits_byte}

pub drop_at : (s : List ℕ) (i : ℕ) → i < length s → drop i s ≡ get_or s i 0 ∷ drop (i + 1) s
drop_at s i h = rw add-one (drop-cons s i 0 h)

pub drop_end : (s : List ℕ) (i : ℕ) → length s ≤ i → drop i s ≡ []
drop_end s i h = drop_of_length-le s h

-- the part of a text from a place to its end
pub rest_is : (w : List ℕ) (k : ℕ) → take (length w - k) (drop k w) ≡ drop k w
rest_is w k = take_all (length w - k) (drop k w) (omega (arith, length-drop k w))

module _ (p : ℕ → Bool) (s : List ℕ) (i : ℕ) where
  pub first_goes : i < length s → p (get_or s i 0) ≡ true → first_not p (drop i s) ≡ suc (first_not p (drop (i + 1) s))
  unfolding first_not
  first_goes h e = rw (drop_at s i h, e)

  pub first_stops : i < length s → p (get_or s i 0) ≡ false → first_not p (drop i s) ≡ 0
  unfolding first_not
  first_stops h e = rw (drop_at s i h, e)

  pub first_ends : length s ≤ i → first_not p (drop i s) ≡ 0
  unfolding first_not
  first_ends h = rw (drop_end s i h)

-- as std's walks say it
pub every_is : (p : ℕ → Bool) (w : List ℕ) → every p w ≡ list_all p w
unfolding every
every_is p w = same_from_clauses (every p) (list_all p) (λ b r. p b && r) refl (λ _ _. refl) (λ _ _. refl) w

pub pointwise_is : (f : ℕ → ℕ → Bool) (s t : List ℕ) → length s ≡ length t → pointwise f s t ≡ list_all (λ x. f x.0 x.1) (zip s t)
pointwise_is f [] [] e = refl
pointwise_is f [] (b ∷ t) e = absurd (omega (arith, e))
pointwise_is f (a ∷ s) [] e = absurd (omega (arith, e))
pointwise_is f (a ∷ s) (b ∷ t) e = ap (λ (r : Bool). f a b && r) (pointwise_is f s t (omega (arith, e)))

pub pairwise-length : (f : ℕ → ℕ → Bool) (s t : List ℕ) → (length s ≡ length t → ⊥) → pointwise f s t ≡ false
pairwise-length f s t h = unequal f s t h

pub pairwise-same-length : (f : ℕ → ℕ → Bool) (s t : List ℕ) → pointwise f s t ≡ true → length s ≡ length t
pairwise-same-length f s t e = as_long f s t e

-- the paper's own forms
pub one_of_is : (s : String) (b : ℕ) → one_of s b ≡ among b (bytes s)
unfolding one_of among bytes is
one_of_is []ˢ b = refl
one_of_is (c ∷ˢ s) b = ap (λ (t : Bool). eqb b (code c) || t) (one_of_is s b)

pub same_is : (s t : List ℕ) → same s t ≡ pointwise eqb s t
unfolding same
same_is [] [] = refl
same_is [] (b ∷ t) = refl
same_is (a ∷ s) [] = refl
same_is (a ∷ s) (b ∷ t) = ap (λ (r : Bool). eqb a b && r) (same_is s t)

pub shaped_is : (p : String) (w : List ℕ) → shaped p w ≡ pointwise fits_byte (bytes p) w
unfolding shaped bytes fits fits_byte is
shaped_is []ˢ [] = refl
shaped_is []ˢ (b ∷ w) = refl
shaped_is (c ∷ˢ p) [] = refl
shaped_is (c ∷ˢ p) (b ∷ w) = ap (λ (r : Bool). fits c b && r) (shaped_is p w)

pub every-digit : (w : List ℕ) → every (fits_byte 48) w ≡ every digit w
unfolding fits_byte is
every-digit w = refl

pub every-capital_or_digit : (w : List ℕ) → every (fits_byte 88) w ≡ every capital_or_digit w
unfolding fits_byte is
every-capital_or_digit w = refl

pub every_space : (w : List ℕ) → every (fits_byte 32) w ≡ every (is " ") w
unfolding fits_byte is
every_space w = refl

-- a character of values that is no small letter
pub not_small : (b : ℕ) → from_to "a" "z" b ≡ false → value_character b ≡ (capital_or_digit b || among b (bytes "/-?:().,'+ "))
unfolding value_character letter_or_digit letter capital_or_digit
not_small b e = rw (e, one_of_is "/-?:().,'+ " b)

-- a text is the same as itself
pub same_refl : (w : List ℕ) → same w w ≡ true
unfolding same
same_refl [] = refl
same_refl (b ∷ w) = rw (eq-eqb b b refl, same_refl w)

eqb_swap : (a b : ℕ) → eqb a b ≡ eqb b a
eqb_swap a b = by (eqb a b) refl
  where
    by : (c : Bool) → eqb a b ≡ c → eqb a b ≡ eqb b a
    by true e = e ∙ sym (eq-eqb b a (sym (eqb-true a b e)))
    by false e = e ∙ sym (ne_eqb b a (λ q. eqb-false a b e (sym q)))

pub same_swap : (s t : List ℕ) → same s t ≡ same t s
unfolding same
same_swap [] [] = refl
same_swap [] (b ∷ t) = refl
same_swap (a ∷ s) [] = refl
same_swap (a ∷ s) (b ∷ t) = rw (eqb_swap a b, same_swap s t)

-- every byte is of a kind exactly where none is the first that is not
pub none_first : (p : ℕ → Bool) (w : List ℕ) → length w ≤ first_not p w → every p w ≡ true
unfolding every first_not
none_first p [] h = refl
none_first p (b ∷ w) h = by (p b) (none_first p w) h
  where
    by :
        (c : Bool) → (length w ≤ first_not p w → every p w ≡ true) → suc (length w) ≤ (if c then suc (first_not p w) else 0) →
        (c && every p w) ≡ true
    by true rest k = rest (omega arith)
    by false rest k = absurd (omega arith)

pub one_first : (p : ℕ → Bool) (w : List ℕ) → first_not p w < length w → every p w ≡ false
unfolding every first_not
one_first p [] h = absurd (omega arith)
one_first p (b ∷ w) h = by (p b) (one_first p w) h
  where
    by :
        (c : Bool) → (first_not p w < length w → every p w ≡ false) → (if c then suc (first_not p w) else 0) < suc (length w) →
        (c && every p w) ≡ false
    by true rest k = rest (omega arith)
    by false rest k = refl
