-- Where the first byte of a kind stands, or the end where none does.
use Prim.Native.Nat.{ℕ, suc}
use mathlib.Core.Path.{◌≡◌, refl, ap, ◌∙◌}
use mathlib.Core.List.{List}
use mathlib.Core.Bool.{Bool, true, false, cond}
use native.Mathlib.Omega.{arith}
use lib.Dec.{ltb}
use lib.ListN.{length}
use borrow.Author.Tests.{leb-false}
use Rattle.std.specs.Prelude.{Option, Some, None, not, unwrap_or}
use Rattle.std.specs.List.{position_or_len}
use Rattle.std.proofs.lemmas.List.Sums.{prefix_len-le-length}

-- `position` with the length in place of None is `position_or_len`
pub place_or_end : (p : ℕ → Bool) (w : List ℕ) (u : ℕ) (o : Option ℕ) → o ≡ cond (ltb (position_or_len p w) (length w)) (Some (position_or_len p w)) None
    → u ≡ unwrap_or o (length w) → u ≡ position_or_len p w
place_or_end p w u o e f = by (ltb (position_or_len p w) (length w)) refl e
  where
    by : (c : Bool) → ltb (position_or_len p w) (length w) ≡ c → o ≡ cond c (Some (position_or_len p w)) None → u ≡ position_or_len p w
    by true l k = f ∙ ap (λ (x : Option ℕ). unwrap_or x (length w)) k
    by false l k =
        let h = leb-false (suc (position_or_len p w)) (length w) l in
        let n : length w ≡ position_or_len p w = omega (arith, h, prefix_len-le-length (λ b. not (p b)) w) in
        f ∙ ap (λ (x : Option ℕ). unwrap_or x (length w)) k ∙ n
