-- The bytes of the file of some ordinals.
use Prim.Native.Nat.{ℕ, ◌+◌, ◌*◌, ◌/◌, ◌%◌, ◌<◌}
use native.Mathlib.Omega.{arith}
use mathlib.Core.List.{List, [], ◌∷◌}
use mathlib.Core.Path.{◌≡◌}
use lib.ListN.{length}
use Rattle.paper.specs.Bytes.{bytes, each}
use Rattle.paper.specs.Accepted.{All, all_none, all_more}
use Rattle.paper.specs.Regrouping.{two_bytes, file_of}
use Rattle.paper.proofs.Laws.{all_joined}

pub two_again : (high low : ℕ) → low < 256 → two_bytes (high * 256 + low) ≡ high ∷ low ∷ []
unfolding two_bytes
two_again high low h = go (omega (arith, h)) (omega (arith, h))
  where
    go : {a b : ℕ} → a ≡ high → b ≡ low → a ∷ b ∷ [] ≡ high ∷ low ∷ []
    go p q = cc

-- A file of ordinals is of bytes, if there are few of them and they are small.
two_bytes_small : (n : ℕ) → n < 65536 → All (λ b. b < 256) (two_bytes n)
unfolding two_bytes
two_bytes_small n h = all_more {a = n / 256} (omega arith) (all_more {a = n % 256} (omega arith) all_none)

all_small : {ns : List ℕ} → All (λ n. n < 65536) ns → All (λ b. b < 256) (each two_bytes ns)
unfolding each
all_small all_none = all_none
all_small (all_more p h) = all_joined (two_bytes_small _ p) (all_small h)

pub file_bytes : (os : List ℕ) → length os < 65536 → All (λ o. o < 65536) os → All (λ b. b < 256) (file_of os)
unfolding file_of bytes
file_bytes os l h =
    all_joined (all_more {a = 82} (omega arith) (all_more {a = 71} (omega arith) (all_more {a = 76} (omega arith) all_none)))
    (all_small (all_more {a = 1} (omega arith) (all_more l h)))
