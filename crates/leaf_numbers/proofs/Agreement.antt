-- Two numbers that meet the contract of `number` are the same; the other public contracts are equations.
use Prim.Native.Nat.{ℕ}
use mathlib.Core.Path.{◌≡◌, sym, ◌∙◌}
use mathlib.Core.List.{List}
use Rattle.leaf_numbers.specs.Readings.{Spells}

pub one_number : (w : List ℕ) (m n : ℕ) → Spells w m → Spells w n → m ≡ n
one_number w m n p q = p.spells ∙ sym q.spells
