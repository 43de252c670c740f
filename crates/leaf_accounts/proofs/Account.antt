-- The rule of 97: the remainder that is taken character by character, or after each four, is that of the whole number.
use Rattle.std.specs.Prelude.{if◌then◌else◌}
use Prim.Native.Nat.{ℕ, ◌+◌, ◌*◌, ◌-◌, ◌/◌, ◌%◌, ◌<◌}
use mathlib.Core.Path.{◌≡◌, refl, ap, sym, ◌∙◌}
use mathlib.Core.List.{List, [], ◌∷◌, ◌++◌}
use mathlib.Core.Bool.{Bool, true, false}
use native.Mathlib.Nat.{mod-mod, mod-eq_of_lt, add-mul, mul_assoc, div-add-mod, add-mul-mod_self_left}
use native.Mathlib.Omega.{arith}
use lib.ListN.{length, get_or, take, drop}
use Rattle.paper.specs.Bytes.{digit}
use Rattle.paper.specs.Values.{read_after, moved, number_after, number}
use Rattle.leaf_accounts.specs.Remainders.{read_one, remainder_after}
use Rattle.leaf_texts.proofs.Laws.{rest_is}

-- of a number, only its remainder counts for the remainder of a multiple and some more
held : (m k d : ℕ) → (m * k + d) % 97 ≡ (m % 97 * k + d) % 97
held m k d =
    ap (λ (x : ℕ). x % 97) (omega (arith, apart)) ∙ add-mul-mod_self_left (m % 97 * k + d) 97 (m / 97 * k)
  where
    apart : m * k ≡ 97 * (m / 97 * k) + m % 97 * k
    apart =
        ap (λ (x : ℕ). x * k) (sym (div-add-mod m 97)) ∙
        add-mul (97 * (m / 97)) (m % 97) k ∙
        ap (λ (x : ℕ). x + m % 97 * k) (mul_assoc 97 (m / 97) k)

-- numbers with the same remainder have the same remainder with a character more
one_alike : (m n b : ℕ) → m % 97 ≡ n % 97 → read_one m b % 97 ≡ read_one n b % 97
unfolding read_one
one_alike m n b e = by (digit b)
  where
    by :
        (c : Bool) →
        (if c then m * 10 + (b - 48) else m * 100 + (b - 65 + 10)) % 97 ≡ (if c then n * 10 + (b - 48) else n * 100 + (b - 65 + 10)) % 97
    by true = held m 10 (b - 48) ∙ rw e (sym (held n 10 (b - 48)))
    by false = held m 100 (b - 65 + 10) ∙ rw e (sym (held n 100 (b - 65 + 10)))

-- a character more behind the remainder leaves what it leaves behind the number
one_held : (n b : ℕ) → read_one (n % 97) b % 97 ≡ read_one n b % 97
one_held n b = one_alike (n % 97) n b (mod-mod n 97)

-- The remainder taken character by character is the remainder of the whole number.
pub remainder_is : (r n : ℕ) (s : List ℕ) → r < 97 → r % 97 ≡ n % 97 → remainder_after r s ≡ read_after n s % 97
unfolding remainder_after read_after read_one
remainder_is r n [] h e = sym (mod-eq_of_lt h) ∙ e
remainder_is r n (b ∷ s) h e =
    remainder_is (read_one r b % 97) (read_one n b) s (omega arith) (mod-mod (read_one r b) 97 ∙ one_alike r n b e)

read-append : (n : ℕ) (s t : List ℕ) → read_after n (s ++ t) ≡ read_after (read_after n s) t
unfolding read_after
read-append n [] t = refl
read-append n (b ∷ s) t = read-append (if digit b then n * 10 + (b - 48) else n * 100 + (b - 65 + 10)) s t

remainder_below : (r : ℕ) (s : List ℕ) → r < 97 → remainder_after r s < 97
unfolding remainder_after
remainder_below r [] h = h
remainder_below r (b ∷ s) h = remainder_below (read_one r b % 97) s (omega arith)

-- The rest of the account text first and then its first four characters, held as remainders, leave what the moved text as one number leaves.
pub moved_remainder : (w : List ℕ) → remainder_after (remainder_after 0 (drop 4 w)) (take 4 w) ≡ read_after 0 (moved w) % 97
unfolding moved
moved_remainder w =
    remainder_is (remainder_after 0 (drop 4 w)) (read_after 0 (drop 4 w)) (take 4 w) (remainder_below 0 (drop 4 w) (omega arith))
    (ap (λ (x : ℕ). x % 97) (remainder_is 0 0 (drop 4 w) (omega arith) refl) ∙ mod-mod (read_after 0 (drop 4 w)) 97) ∙
    ap (λ (x : ℕ). x % 97) (sym (read-append 0 (drop 4 w) (take 4 w)))

-- the digits that the characters of an account are read as, two for a letter
pub spelled_out : List ℕ → List ℕ
spelled_out [] = []
spelled_out (b ∷ s) =
    (if digit b then b ∷ [] else (48 + (b - 65 + 10) / 10) ∷ (48 + (b - 65 + 10) % 10) ∷ []) ++ spelled_out s

-- An account read character by character is the decimal number that those digits spell.
pub read_is_number : (n : ℕ) (s : List ℕ) → read_after n s ≡ number_after n (spelled_out s)
unfolding read_after number_after spelled_out
read_is_number n [] = refl
read_is_number n (b ∷ s) = by (digit b) (λ k. read_is_number k s)
  where
    by :
        (c : Bool) → ((k : ℕ) → read_after k s ≡ number_after k (spelled_out s)) →
        read_after (if c then n * 10 + (b - 48) else n * 100 + (b - 65 + 10)) s ≡
        number_after n ((if c then b ∷ [] else (48 + (b - 65 + 10) / 10) ∷ (48 + (b - 65 + 10) % 10) ∷ []) ++ spelled_out s)
    by true rest = rest (n * 10 + (b - 48))
    by false rest = rest (n * 100 + (b - 65 + 10)) ∙ ap (λ (k : ℕ). number_after k (spelled_out s)) (omega arith)

-- the same as code takes it, the rest of the text from its fifth character to its end
pub moved_told :
    (w : List ℕ) (r q : ℕ) → r ≡ remainder_after 0 (take (length w - 4) (drop 4 w)) → q ≡ remainder_after r (take 4 w) →
    read_after 0 (moved w) % 97 ≡ q
moved_told w r q e f = sym (f ∙ rw (e, rest_is w 4) (moved_remainder w))

-- So the remainders leave 1 exactly where the moved text, spelled out as one decimal number, leaves 1 when divided by 97.
pub rule_of_97 :
    (w : List ℕ) → remainder_after (remainder_after 0 (drop 4 w)) (take 4 w) ≡ number (spelled_out (moved w)) % 97
unfolding number
rule_of_97 w = moved_remainder w ∙ ap (λ (x : ℕ). x % 97) (read_is_number 0 (moved w))

-- one character and the rest
pub remainder_goes :
    (r n : ℕ) (s : List ℕ) → (length s ≡ 0 → ⊥) → n ≡ read_one r (get_or s 0 0) →
    remainder_after (n % 97) (take (length s - 1) (drop 1 s)) ≡ remainder_after r s
unfolding remainder_after
remainder_goes r n [] h e = absurd (h refl)
remainder_goes r n (b ∷ s) h e = rw (rest_is (b ∷ s) 1, e)

-- four characters read behind a number leave what they leave with the remainder taken after each
remainder_by_four :
    (r a b c d : ℕ) (s : List ℕ) →
    remainder_after (read_one (read_one (read_one (read_one r a) b) c) d % 97) s ≡ remainder_after r (a ∷ b ∷ c ∷ d ∷ s)
unfolding remainder_after
remainder_by_four r a b c d s =
    ap (λ (x : ℕ). remainder_after x s)
    (sym (rw (one_held (read_one r a) b, one_held (read_one (read_one r a) b) c, one_held (read_one (read_one (read_one r a) b) c) d)))

-- four characters and the rest
pub remainder_goes_by_four :
    (r one two three four : ℕ) (s : List ℕ) → 3 < length s → one ≡ read_one r (get_or s 0 0) → two ≡ read_one one (get_or s 1 0) →
    three ≡ read_one two (get_or s 2 0) → four ≡ read_one three (get_or s 3 0) →
    remainder_after (four % 97) (take (length s - 4) (drop 4 s)) ≡ remainder_after r s
remainder_goes_by_four r one two three four [] h e f g k = absurd (omega arith)
remainder_goes_by_four r one two three four (a ∷ []) h e f g k = absurd (omega arith)
remainder_goes_by_four r one two three four (a ∷ b ∷ []) h e f g k = absurd (omega arith)
remainder_goes_by_four r one two three four (a ∷ b ∷ c ∷ []) h e f g k = absurd (omega arith)
remainder_goes_by_four r one two three four (a ∷ b ∷ c ∷ d ∷ s) h e f g k =
    rw (rest_is (a ∷ b ∷ c ∷ d ∷ s) 4, k, g, f, e) (remainder_by_four r a b c d s)

pub remainder_ends : (r : ℕ) (s : List ℕ) → length s ≡ 0 → remainder_after r s ≡ r
unfolding remainder_after
remainder_ends r [] h = refl
remainder_ends r (b ∷ s) h = absurd (omega arith)
