-- What a leaf says as a number.
use Prim.Native.Nat.{ℕ, ◌^◌, ◌<◌}
use mathlib.Core.List.{List}
use mathlib.Core.Bool.{true}
use mathlib.Core.Path.{◌≡◌, refl, sym, ap, ◌∙◌}
use native.Mathlib.Omega.{arith}
use Rattle.std.specs.Prelude.{Option, Some, None, unwrap_or}
use Rattle.paper.specs.Values.{number, cents, digits, money}
use Rattle.leaf_numbers.specs.Readings.{as_count, in_cents}
use Rattle.leaf_money.proofs.InCents.{reading_is}

-- what a reading says of a text that is right
module _ {v : List ℕ} {o : Option ℕ} {r : ℕ} (w : List ℕ) (same_text : v ≡ w) where
  pub count-read : o ≡ as_count v → r ≡ unwrap_or o 0 → digits 1 15 w ≡ true → r ≡ number w
  unfolding as_count
  count-read e f h = let k : as_count w ≡ Some (number w) = rw h refl in f ∙ ap (λ (x : Option ℕ). unwrap_or x 0) (e ∙ ap as_count same_text ∙ k)

  pub cents-read : o ≡ in_cents v → r ≡ unwrap_or o 0 → money w ≡ true → r ≡ cents w
  unfolding in_cents
  cents-read e f h = let k : in_cents w ≡ Some (cents w) = rw h refl in f ∙ ap (λ (x : Option ℕ). unwrap_or x 0) (e ∙ ap in_cents same_text ∙ k)

pub cents_under : (v : List ℕ) (o : Option ℕ) (r : ℕ) → o ≡ in_cents v → r ≡ unwrap_or o 0 → r < 10 ^ 17
cents_under v (Some n) r e f = omega (arith, f, (reading_is v n (sym e)).1)
cents_under v None r e f = omega (arith, f)
