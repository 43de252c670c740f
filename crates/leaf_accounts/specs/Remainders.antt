-- The rule of an account, character by character; proofs/Account.antt shows that it is the paper's, and that the code's four at a time come to the same.
use Rattle.std.specs.Prelude.{ℕ, ◌+◌, ◌*◌, ◌-◌, ◌%◌, List, [], ◌∷◌, if◌then◌else◌}
use Rattle.paper.specs.Bytes.{digit}

-- one character more behind a number: a digit as itself, A to Z as 10 to 35
unfoldable pub read_one : (n b : ℕ) → ℕ
read_one n b = if digit b then n * 10 + (b - 48) else n * 100 + (b - 65 + 10)

-- the same with nothing held but the remainder by 97
unfoldable pub remainder_after : ℕ → List ℕ → ℕ
remainder_after r [] = r
remainder_after r (b ∷ s) = remainder_after (read_one r b % 97) s
