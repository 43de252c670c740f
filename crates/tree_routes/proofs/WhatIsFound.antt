-- What was found, as an element that is laid out there or as nothing; the first of two that may be absent; and a row of a payment and of its block.
use Prim.Native.Nat.{ℕ}
use native.Mathlib.Omega.{arith}
use mathlib.Core.List.{List, [], ◌∷◌}
use mathlib.Core.Bool.{true, false}
use mathlib.Core.Option.{Option, none, some}
use mathlib.Core.Path.{◌≡◌, refl, subst}
use Rattle.paper.specs.Form.{Element}
use Rattle.paper.specs.Payments.{Payment, child, either_of, in_payment, in_block}
use Rattle.tree.specs.Laid.{LaidAt}
use Rattle.std.specs.Prelude.{Some, None}
use Rattle.std.specs.Prelude as code
use Rattle.std.specs.Option.{option_or, is_some}
use Rattle.tree_routes.specs.Finds.{Finds, found_at, found_nothing, onward}
use Rattle.tree_routes.proofs.Laws.{onward_some}
use Rattle.paper.proofs.Laws.{follow_one}

pub found_none : {s tree : List ℕ} {o : Option Element} {f : code.Option ℕ} → Finds s tree o f → f ≡ None → o ≡ none
found_none found_nothing e = refl
found_none (found_at l) e = let z : ◌≡◌ {A = ℕ} 0 1 = cc in absurd (omega (arith, z))

pub record FoundAt (s tree : List ℕ) (o : Option Element) (i : ℕ) : Type 0 where
  pub it : Element
  pub is_it : o ≡ some it
  pub laid : LaidAt s tree i it

pub found_some : {s tree : List ℕ} {o : Option Element} {f : code.Option ℕ} {i : ℕ} → Finds s tree o f → f ≡ Some i → FoundAt s tree o i
found_some found_nothing e = let z : ◌≡◌ {A = ℕ} 0 1 = cc in absurd (omega (arith, z))
found_some {s} {tree} {i = i} (found_at {t = t} {i = j} l) e =
    let f : j ≡ i = cc in record { it = t; is_it = refl; laid = subst (λ (k : ℕ). LaidAt s tree k t) f l }

-- what a test of what was found says of the element
pub record Stands (o : Option Element) : Type 0 where
  pub it : Element
  pub is_it : o ≡ some it

module _ {s tree : List ℕ} where
  pub stands : {o : Option Element} {f : code.Option ℕ} → Finds s tree o f → is_some f ≡ true → Stands o
  stands (found_at {t = t} l) e = record { it = t; is_it = refl }
  stands found_nothing e = cc

  pub absent : {o : Option Element} {f : code.Option ℕ} → Finds s tree o f → is_some f ≡ false → o ≡ none
  absent (found_at l) e = cc
  absent found_nothing e = refl

  -- a row further on
  pub under_at : (k : ℕ) {o : Option Element} {found r : code.Option ℕ} {i : ℕ} → Finds s tree o found → found ≡ Some i
      → ((t : Element) → LaidAt s tree i t → Finds s tree (child k t) r) → Finds s tree (onward (k ∷ []) o) r
  under_at k f e g =
      let t = found_some f e in
      rw (t.is_it, onward_some (k ∷ []) t.it, follow_one k t.it) (g t.it t.laid)

-- the first of two that stands there
pub first_of_two : {s tree : List ℕ} {o u : Option Element} {one other : code.Option ℕ} → Finds s tree o one → Finds s tree u other
    → Finds s tree (either_of o u) (option_or one other)
unfolding either_of
first_of_two (found_at l) g = found_at l
first_of_two found_nothing g = g

-- a row of a payment and of its block
pub own_row : (k : ℕ) (p : Payment) → in_payment (k ∷ []) p ≡ child k p.own
unfolding in_payment
own_row k p = follow_one k p.own

pub block_row : (k : ℕ) (p : Payment) → in_block (k ∷ []) p ≡ child k p.block
unfolding in_block
block_row k p = follow_one k p.block
