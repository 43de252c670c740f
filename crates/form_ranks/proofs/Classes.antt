-- The classes of bytes by rank: each is the bytes from a rank on, and white space has two ranks. Bytes are all tried; above them every class is empty.
use Rattle.std.specs.Prelude.{if◌then◌else◌}
use Prim.Native.Nat.{ℕ, zero, suc, ◌<◌, ◌≤◌}
use Prim.Native.Char.{Char, code}
use Prim.Native.String.{String, [] as []ˢ, ◌∷◌ as ◌∷ˢ◌}
use mathlib.Core.List.{List}
use mathlib.Core.Bool.{Bool, true, false, ◌&&◌, not, and-false, and-true}
use mathlib.Core.Path.{◌≡◌, refl, sym, subst}
use native.Mathlib.Omega.{arith}
use lib.ListN.{get_or}
use lib.Dec.{eqb, leb}
use borrow.Author.Tests.{leb-true, leb-false, lt-leb, eqb-true, eqb-false, ne_eqb}
use Rattle.paper.specs.Bytes.{bytes, is, from_to, one_of, white, text_byte, capital, digit, letter, letter_or_digit, value_character, every}
use Rattle.paper.specs.Values.{lies_from}
use Rattle.paper.proofs.Laws.{both_left, both_right}
use Rattle.paper_grammar.proofs.AllBytes.{is_byte}
use Rattle.form_ranks.specs.Ranks.{rank, RanksAre}

-- A test of every number below n, and what it says of each.
unfoldable pub each_below : (ℕ → Bool) → ℕ → Bool
each_below p zero = true
each_below p (suc n) = p n && each_below p n

pub below_says : (p : ℕ → Bool) (n : ℕ) → each_below p n ≡ true → (b : ℕ) → b < n → p b ≡ true
unfolding each_below
below_says p zero e b h = absurd (omega arith)
below_says p (suc n) e b h = by (eqb b n) refl (below_says p n (both_right (p n) _ e) b)
  where
    by : (t : Bool) → eqb b n ≡ t → (b < n → p b ≡ true) → p b ≡ true
    by true q rest = subst (λ (k : ℕ). p k ≡ true) (sym (eqb-true b n q)) (both_left (p n) _ e)
    by false q rest = let k : b ≡ n → ⊥ = eqb-false b n q in rest (omega arith)

-- A table that holds the rank of each byte, by one test of all of them.
pub ranks_are : (table : List ℕ) → each_below (λ b. eqb (get_or table b 0) (rank b)) 256 ≡ true → RanksAre table
ranks_are table e = record { right = λ b h. eqb-true (get_or table b 0) (rank b) (below_says (λ b. eqb (get_or table b 0) (rank b)) 256 e b h) }

-- Two tests have the same answer.
unfoldable agree : Bool → Bool → Bool
agree s t = if s then t else not t

agree_says : (s t : Bool) → agree s t ≡ true → s ≡ t
unfolding agree
agree_says true true e = refl
agree_says true false e = sym e
agree_says false true e = e
agree_says false false e = refl

-- Above the bytes every class is empty.
module _ (b : ℕ) (h : 255 < b) where
  not_from_to : (a z : Char) → code z ≤ 255 → from_to a z b ≡ false
  unfolding from_to
  not_from_to a z k = rw (lt-leb b (code z) (omega arith)) (and-false (leb (code a) b))

  not_one_of : (s : String) → every is_byte (bytes s) ≡ true → one_of s b ≡ false
  unfolding one_of is bytes every is_byte
  not_one_of []ˢ e = refl
  not_one_of (c ∷ˢ s) e =
      let k : code c ≤ 255 = leb-true (code c) 255 (both_left (leb (code c) 255) _ e) in
      rw (ne_eqb b (code c) (λ q. omega arith)) (not_one_of s (both_right (leb (code c) 255) _ e))

  not_capital : capital b ≡ false
  unfolding capital
  not_capital = not_from_to "A" "Z" (omega arith)

  not_letter : letter b ≡ false
  unfolding letter
  not_letter = rw (not_from_to "a" "z" (omega arith), not_capital)

  not_digit : digit b ≡ false
  unfolding digit
  not_digit = not_from_to "0" "9" (omega arith)

  not_name : letter_or_digit b ≡ false
  unfolding letter_or_digit
  not_name = rw (not_letter, not_digit)

  not_value : value_character b ≡ false
  unfolding value_character every bytes is_byte
  not_value = rw not_name (not_one_of "/-?:().,'+ " refl)

  not_white : white b ≡ false
  unfolding white every bytes is_byte
  not_white = not_one_of " \t\n\r" refl

  not_text : text_byte b ≡ false
  unfolding text_byte every bytes is_byte
  not_text = rw (lt-leb b 255 h, not_one_of "\t\n\r" refl, and-false)

  no_rank : rank b ≡ 0
  unfolding rank every bytes is_byte is
  no_rank = rw (not_capital, not_letter, not_digit, not_one_of "/-?:().,'+" refl, ne_eqb b 32 (λ e. omega arith), not_one_of "\t\n\r" refl, not_text)

-- A class that is told by rank on every byte, and is empty above, is told by rank everywhere.
everywhere :
    (p from : ℕ → Bool) → each_below (λ b. agree (p b) (from (rank b))) 256 ≡ true → from 0 ≡ false → ((b : ℕ) → 255 < b → p b ≡ false) →
    (b : ℕ) → p b ≡ from (rank b)
everywhere p from e f g b = by (leb b 255) refl
  where
    by : (t : Bool) → leb b 255 ≡ t → p b ≡ from (rank b)
    by true h = let k = leb-true b 255 h in agree_says _ _ (below_says (λ b. agree (p b) (from (rank b))) 256 e b (omega arith))
    by false h = let k = leb-false b 255 h in rw (no_rank b k, f) (g b k)

all_small : each_below (λ b. leb (rank b) 255) 256 ≡ true
unfolding each_below rank text_byte capital letter digit from_to one_of is
all_small = refl

pub text_from : (b : ℕ) → text_byte b ≡ leb 1 (rank b)
unfolding each_below agree rank text_byte capital letter digit from_to one_of is
text_from = everywhere text_byte (leb 1) refl refl not_text

pub value_from : (b : ℕ) → value_character b ≡ leb 3 (rank b)
unfolding each_below agree rank value_character letter_or_digit text_byte capital letter digit from_to one_of is
value_from = everywhere value_character (leb 3) refl refl not_value

pub name_from : (b : ℕ) → letter_or_digit b ≡ leb 5 (rank b)
unfolding each_below agree rank letter_or_digit text_byte capital letter digit from_to one_of is
name_from = everywhere letter_or_digit (leb 5) refl refl not_name

pub letter_from : (b : ℕ) → letter b ≡ leb 6 (rank b)
unfolding each_below agree rank text_byte capital letter digit from_to one_of is
letter_from = everywhere letter (leb 6) refl refl not_letter

pub capital_from : (b : ℕ) → capital b ≡ leb 7 (rank b)
unfolding each_below agree rank text_byte capital letter digit from_to one_of is
capital_from = everywhere capital (leb 7) refl refl not_capital

pub white_from : (b : ℕ) → white b ≡ lies_from 2 3 (rank b)
unfolding each_below agree rank white text_byte capital letter digit from_to one_of is lies_from
white_from = everywhere white (lies_from 2 3) refl refl not_white

-- No rank is above 7, so that a rank from `low` on lies from there to 255.
pub up_to_all : (low b : ℕ) → leb low (rank b) ≡ lies_from low 255 (rank b)
unfolding lies_from
up_to_all low b = rw (small (leb b 255) refl) (sym (and-true (leb low (rank b))))
  where
    small : (t : Bool) → leb b 255 ≡ t → leb (rank b) 255 ≡ true
    small true h = let k = leb-true b 255 h in below_says (λ b. leb (rank b) 255) 256 all_small b (omega arith)
    small false h = rw (no_rank b (leb-false b 255 h))
