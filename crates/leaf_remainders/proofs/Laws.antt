-- What characters spell, modulo 97, as code takes it: the remainder may be taken after each character.
use Rattle.std.specs.Prelude.{if◌then◌else◌}
use Prim.Native.Nat.{ℕ, ◌+◌, ◌*◌, ◌-◌, ◌/◌, ◌%◌, ◌<◌, ◌≤◌}
use mathlib.Core.Path.{◌≡◌, refl, ap, sym, ◌∙◌}
use mathlib.Core.List.{List, [], ◌∷◌, ◌++◌}
use mathlib.Core.Bool.{Bool, true, false}
use native.Mathlib.Nat.{mod-mod, mod-eq_of_lt, add-mul, mul_assoc, div-add-mod, add-mul-mod_self_left}
use native.Mathlib.Omega.{arith}
use lib.ListN.{length, get_or, take, drop}
use lib.Dec.{leb}
use borrow.Author.Tests.{leb-true}
use Rattle.paper.specs.Bytes.{from_to, digit}
use Rattle.paper.specs.Values.{read_after}
use Rattle.paper.proofs.Laws.{both_right}
use Rattle.leaf_texts.proofs.Laws.{rest_is}
use Rattle.leaf_remainders.specs.Remainders.{modulo_97}

-- of a number, only its remainder counts for the remainder of a multiple and some more
held : (m k d : ℕ) → (m * k + d) % 97 ≡ (m % 97 * k + d) % 97
held m k d =
    ap (λ (x : ℕ). x % 97) (omega (arith, apart)) ∙ add-mul-mod_self_left (m % 97 * k + d) 97 (m / 97 * k)
  where
    apart : m * k ≡ 97 * (m / 97 * k) + m % 97 * k
    apart =
        ap (λ (x : ℕ). x * k) (sym (div-add-mod m 97)) ∙
        add-mul (97 * (m / 97)) (m % 97) k ∙
        ap (λ (x : ℕ). x + m % 97 * k) (mul_assoc 97 (m / 97) k)

-- numbers with the same remainder have the same remainder with more characters behind them
alike : (m n : ℕ) (s : List ℕ) → m % 97 ≡ n % 97 → read_after m s % 97 ≡ read_after n s % 97
unfolding read_after
alike m n [] e = e
alike m n (b ∷ s) e = by (digit b) (λ k d. alike (m * k + d) (n * k + d) s (held m k d ∙ rw e (sym (held n k d))))
  where
    by :
        (c : Bool) → ((k d : ℕ) → read_after (m * k + d) s % 97 ≡ read_after (n * k + d) s % 97) →
        read_after (if c then m * 10 + (b - 48) else m * 100 + (b - 65 + 10)) s % 97 ≡
        read_after (if c then n * 10 + (b - 48) else n * 100 + (b - 65 + 10)) s % 97
    by true behind = behind 10 (b - 48)
    by false behind = behind 100 (b - 65 + 10)

-- the remainder may be taken before the characters that follow are read
taken_before : (n : ℕ) (s : List ℕ) → read_after (n % 97) s % 97 ≡ read_after n s % 97
taken_before n s = alike (n % 97) n s (mod-mod n 97)

read-append : (n : ℕ) (s t : List ℕ) → read_after n (s ++ t) ≡ read_after (read_after n s) t
unfolding read_after
read-append n [] t = refl
read-append n (b ∷ s) t = read-append (if digit b then n * 10 + (b - 48) else n * 100 + (b - 65 + 10)) s t

-- Of two texts, one behind the other, the remainder of the first may be taken before the second is read.
pub one_behind_the_other : (r : ℕ) (v w : List ℕ) → r ≡ modulo_97 v → read_after r w % 97 ≡ modulo_97 (v ++ w)
unfolding modulo_97
one_behind_the_other r v w e = rw (e, read-append 0 v w) (taken_before (read_after 0 v) w)

-- what one character is read as
pub alone : (b : ℕ) → read_after 0 (b ∷ []) ≡ (if digit b then b - 48 else 10 + (b - 65))
unfolding read_after
alone b = by (digit b)
  where
    by : (c : Bool) → (if c then 0 * 10 + (b - 48) else 0 * 100 + (b - 65 + 10)) ≡ (if c then b - 48 else 10 + (b - 65))
    by true = omega arith
    by false = omega arith

-- one character more behind a number: what it is read as has one digit below 10, else two
one_more :
    (n b v r : ℕ) → v ≡ read_after 0 (b ∷ []) → (v < 10 → r ≡ n * 10 + v) → (10 ≤ v → r ≡ n * 100 + v) → r ≡ read_after n (b ∷ [])
unfolding read_after digit from_to
one_more n b v r e one two = by (digit b) refl (e ∙ alone b)
  where
    by :
        (c : Bool) → digit b ≡ c → v ≡ (if c then b - 48 else 10 + (b - 65)) →
        r ≡ (if c then n * 10 + (b - 48) else n * 100 + (b - 65 + 10))
    by true h f = let low = leb-true b 57 (both_right (leb 48 b) (leb b 57) h) in one (omega (arith, low)) ∙ omega arith
    by false h f = two (omega arith) ∙ omega arith

-- The remainder over the rest of a text, as code takes it: one character read, its digits put behind the remainder so far, the remainder taken, and so on with the rest.
pub divided_on :
    (r v n : ℕ) (s : List ℕ) → (length s ≡ 0 → ⊥) → v ≡ read_after 0 (get_or s 0 0 ∷ []) → (v < 10 → n ≡ r * 10 + v) →
    (10 ≤ v → n ≡ r * 100 + v) → read_after (n % 97) (take (length s - 1) (drop 1 s)) % 97 ≡ read_after r s % 97
unfolding read_after
divided_on r v n [] h e one two = absurd (h refl)
divided_on r v n (b ∷ s) h e one two = rw (rest_is (b ∷ s) 1, one_more r b v n e one two) (taken_before (read_after r (b ∷ [])) s)

-- where nothing is unread, the remainder is what is held
pub divided_at_its_end : (r : ℕ) (s : List ℕ) → r < 97 → length s ≡ 0 → read_after r s % 97 ≡ r
unfolding read_after
divided_at_its_end r [] l h = mod-eq_of_lt l
divided_at_its_end r (b ∷ s) l h = absurd (omega arith)
