-- The first of two stages that refuses, by what was found in each.
use Prim.Native.Nat.{ℕ}
use native.Mathlib.Omega.{arith}
use mathlib.Core.Option.{Option}
use mathlib.Core.Path.{◌≡◌}
use Rattle.paper.specs.Refusals.{Refusal, ◌or_else◌}
use Rattle.paper.specs.Answers.{refusal_found}
use Rattle.paper.specs.declared.Fault.{Fault}
use Rattle.std.specs.Prelude.{Result, Ok, Err}

module _ (a b : Option Refusal) where
  pub found_first : (f : Result Unit Fault) {fault : Fault} → refusal_found f ≡ a → f ≡ Err fault → refusal_found f ≡ a or_else b
  unfolding refusal_found ◌or_else◌
  found_first (Err x) e d = rw (← e)
  found_first (Ok tt) e d = let z : ◌≡◌ {A = ℕ} 0 1 = cc in absurd (omega (arith, z))

  pub found_later : (f g : Result Unit Fault) → refusal_found f ≡ a → f ≡ Ok tt → refusal_found g ≡ b → refusal_found g ≡ a or_else b
  unfolding refusal_found ◌or_else◌
  found_later (Ok tt) g e d h = rw (← e) h
  found_later (Err x) g e d h = let z : ◌≡◌ {A = ℕ} 0 1 = cc in absurd (omega (arith, z))
