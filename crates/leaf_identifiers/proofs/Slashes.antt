-- The slashes of a text: two side by side, one that stands first or last.
use Prim.Native.Nat.{ℕ, ◌-◌, ◌≤◌}
use mathlib.Core.Path.{◌≡◌, refl, ap, sym, ◌∙◌}
use mathlib.Core.List.{List, [], ◌∷◌}
use mathlib.Core.Bool.{Bool, true, false, ◌&&◌, ◌||◌}
use native.Mathlib.Omega.{arith}
use native.Mathlib.Nat.{add-zero}
use lib.ListN.{length, get_or, take, drop, length-drop}
use lib.Seq.{get_or-drop}
use lib.Dec.{eqb}
use borrow.Author.Tests.{eqb-true, eqb-false}
use Rattle.std.specs.List.{list_any, zip}
use Rattle.std.specs.Cmp.Lexicographic.{pointwise}
use Rattle.paper.specs.Bytes.{is}
use Rattle.paper.specs.Values.{two_slashes}

pub slashes_is : (s : List ℕ) → two_slashes s ≡ list_any (λ x. eqb x.0 47 && eqb x.1 47) (zip s (drop 1 s))
unfolding two_slashes is
slashes_is [] = refl
slashes_is (b ∷ []) = by (eqb b 47)
  where
    by : (c : Bool) → ((c && false) || false) ≡ false
    by true = refl
    by false = refl
slashes_is (b ∷ d ∷ s) = ap (λ (r : Bool). (eqb b 47 && eqb d 47) || r) (slashes_is (d ∷ s))

eqb_swapped : (b : ℕ) → (eqb 47 b && true) ≡ eqb b 47
eqb_swapped b = by (eqb 47 b) (eqb b 47) refl refl
  where
    by : (p q : Bool) → eqb 47 b ≡ p → eqb b 47 ≡ q → (p && true) ≡ q
    by true true e f = refl
    by true false e f = absurd (eqb-false b 47 f (sym (eqb-true 47 b e)))
    by false true e f = absurd (eqb-false 47 b e (sym (eqb-true b 47 f)))
    by false false e f = refl

one_slash : (t : List ℕ) → length t ≤ 1 → pointwise eqb (47 ∷ []) t ≡ is "/" (get_or t 0 0)
unfolding is
one_slash [] h = refl
one_slash (b ∷ []) h = eqb_swapped b
one_slash (b ∷ d ∷ t) h = absurd (omega arith)

pub slash_first : (s : List ℕ) → pointwise eqb (47 ∷ []) (take 1 s) ≡ is "/" (get_or s 0 0)
slash_first [] = one_slash [] (omega arith)
slash_first (b ∷ s) = one_slash (b ∷ []) (omega arith)

pub slash_last : (s : List ℕ) → pointwise eqb (47 ∷ []) (drop (length s - 1) s) ≡ is "/" (get_or s (length s - 1) 0)
slash_last s =
    one_slash (drop (length s - 1) s) (omega (arith, length-drop (length s - 1) s)) ∙
    ap (is "/") (get_or-drop (length s - 1) s 0 0 ∙ ap (λ (n : ℕ). get_or s n 0) (add-zero (length s - 1)))
