-- The first character outside the set, as a walk by ranks finds it.
use Rattle.std.specs.Prelude.{if◌then◌else◌}
use Prim.Native.Nat.{ℕ, suc, ◌+◌}
use mathlib.Core.Path.{◌≡◌, refl}
use mathlib.Core.List.{List}
use mathlib.Core.Bool.{Bool, true, false, cond}
use native.Mathlib.Omega.{arith}
use lib.Dec.{ltb, leb}
use borrow.Author.Tests.{le-leb, lt-leb, leb-true, leb-false}
use Rattle.std.specs.List.{position_or_len}
use Rattle.std.proofs.lemmas.List.Recursion.{is_position_or_len}
use Rattle.paper.specs.Bytes.{value_character}
use Rattle.paper.specs.Refusals.{first_not}
use Rattle.form_ranks.specs.Ranks.{rank}
use Rattle.form_ranks.proofs.Classes.{value_from}

pub first_outside_is : (w : List ℕ) → first_not value_character w ≡ position_or_len (λ b. ltb (rank b) 3) w
unfolding first_not
first_outside_is = is_position_or_len (first_not value_character) (λ b. ltb (rank b) 3) refl step
  where
    by : (r n : ℕ) → (if leb 3 r then suc n else 0) ≡ cond (ltb r 3) 0 (1 + n)
    by r n = test (leb 3 r) refl
      where
        test : (c : Bool) → leb 3 r ≡ c → (if c then suc n else 0) ≡ cond (ltb r 3) 0 (1 + n)
        test true e = let h = leb-true 3 r e in rw (lt-leb (suc r) 3 (omega (arith, h))) (omega arith)
        test false e = let h = leb-false 3 r e in rw (le-leb (suc r) 3 (omega (arith, h)))

    step : (b : ℕ) (w : List ℕ) → (if value_character b then suc (first_not value_character w) else 0) ≡ cond (ltb (rank b) 3) 0 (1 + first_not value_character w)
    step b w = rw (value_from b) (by (rank b) (first_not value_character w))
