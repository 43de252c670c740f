-- Messages in which no element is named as row 32.
use Prim.Native.Nat.{ℕ}
use mathlib.Core.List.{List}
use mathlib.Core.Path.{◌≡◌}
use Rattle.paper.specs.Form.{Element, Elements, holding_text, holding_elements, []ᵉ, ◌∷ᵉ◌, IsMessage}
use Rattle.paper.specs.Rows.{name}

-- no element of a tree has this name
unfoldable mutual
  pub Nowhere : (name : List ℕ) → Element → Type 0
  Nowhere n (holding_text h w) = h.name ≡ n → ⊥
  Nowhere n (holding_elements h ts) = (h.name ≡ n → ⊥) × NowhereIn n ts

  pub NowhereIn : (name : List ℕ) → Elements → Type 0
  NowhereIn n []ᵉ = Unit {0}
  NowhereIn n (t ∷ᵉ ts) = Nowhere n t × NowhereIn n ts

unfoldable pub WithoutRow32 : List ℕ → Type 0
WithoutRow32 s = (root : Element) → IsMessage s root → Nowhere (name 32) root
