-- Computed cases: what is left of the number that characters spell, when it is divided by 97.
use Prim.Native.Nat.{ℕ}
use Prim.Native.String.{String}
use mathlib.Core.Path.{◌≡◌, refl}
use mathlib.Core.List.{List, [], ◌∷◌, map}
use Rattle.paper.specs.Bytes.{bytes, from_to, digit}
use Rattle.paper.specs.Values.{read_after}
use Rattle.leaf_remainders.specs.Remainders.{modulo_97}
use Rattle.leaf_remainders.proofs.RuleOf97.{spelled_out}

unfoldable pub left : List String → List ℕ
left texts = map (λ w. modulo_97 (bytes w)) texts

pub digits_and_capitals : left ("7" ∷ "96" ∷ "97" ∷ "98" ∷ "A" ∷ "Z" ∷ "1A" ∷ "A1" ∷ []) ≡ 7 ∷ 96 ∷ 0 ∷ 1 ∷ 10 ∷ 35 ∷ 13 ∷ 4 ∷ []
unfolding left modulo_97 read_after bytes digit from_to
digits_and_capitals = refl

-- the three accounts of the rules, their first four characters moved to the end
pub accounts : left ("6541234567890123LU56" ∷ "9871234567898765LU69" ∷ "5551234567898765LU41" ∷ []) ≡ 1 ∷ 1 ∷ 1 ∷ []
unfolding left modulo_97 read_after bytes digit from_to
accounts = refl

-- the first of them with its last digit one up, one down, and with its first four characters not moved
pub no_accounts : left ("6541234567890124LU56" ∷ "6541234567890122LU56" ∷ "LU566541234567890123" ∷ []) ≡ 28 ∷ 71 ∷ 14 ∷ []
unfolding left modulo_97 read_after bytes digit from_to
no_accounts = refl

-- A to Z as two digits each
pub letters_spelled_out : spelled_out (bytes "0123LU56AZ") ≡ bytes "01232130561035"
unfolding spelled_out bytes digit from_to
letters_spelled_out = refl
