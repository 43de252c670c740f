-- The number that characters spell is the decimal number of the digits that they are read as, A to Z as 10 to 35; so its remainder by 97 is that number's.
use Rattle.std.specs.Prelude.{if◌then◌else◌}
use Prim.Native.Nat.{ℕ, ◌+◌, ◌*◌, ◌-◌, ◌/◌, ◌%◌}
use mathlib.Core.Path.{◌≡◌, refl, ap, ◌∙◌}
use mathlib.Core.List.{List, [], ◌∷◌, ◌++◌}
use mathlib.Core.Bool.{Bool, true, false}
use native.Mathlib.Omega.{arith}
use Rattle.paper.specs.Bytes.{digit}
use Rattle.paper.specs.Values.{read_after, number_after, number}
use Rattle.leaf_remainders.specs.Remainders.{modulo_97}

-- the digits that characters are read as: a digit as itself, a letter as two
unfoldable pub spelled_out : List ℕ → List ℕ
spelled_out [] = []
spelled_out (b ∷ s) =
    (if digit b then b ∷ [] else (48 + (b - 65 + 10) / 10) ∷ (48 + (b - 65 + 10) % 10) ∷ []) ++ spelled_out s

-- characters read one by one spell the decimal number of those digits
read_is_number : (n : ℕ) (s : List ℕ) → read_after n s ≡ number_after n (spelled_out s)
unfolding read_after number_after spelled_out
read_is_number n [] = refl
read_is_number n (b ∷ s) = by (digit b) (λ k. read_is_number k s)
  where
    by :
        (c : Bool) → ((k : ℕ) → read_after k s ≡ number_after k (spelled_out s)) →
        read_after (if c then n * 10 + (b - 48) else n * 100 + (b - 65 + 10)) s ≡
        number_after n ((if c then b ∷ [] else (48 + (b - 65 + 10) / 10) ∷ (48 + (b - 65 + 10) % 10) ∷ []) ++ spelled_out s)
    by true rest = rest (n * 10 + (b - 48))
    by false rest = rest (n * 100 + (b - 65 + 10)) ∙ ap (λ (k : ℕ). number_after k (spelled_out s)) (omega arith)

-- The remainder is that of the whole number, spelled out in decimal digits.
pub rule_of_97 : (w : List ℕ) → modulo_97 w ≡ number (spelled_out w) % 97
unfolding modulo_97 number
rule_of_97 w = ap (λ (x : ℕ). x % 97) (read_is_number 0 w)
