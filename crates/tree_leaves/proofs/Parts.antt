-- Parts of a text that reach past its end, or end before they start.
use Prim.Native.Nat.{ℕ, ◌+◌, ◌-◌, ◌<◌, ◌≤◌, min}
use mathlib.Core.List.{List, []}
use mathlib.Core.Bool.{Bool, true, false}
use mathlib.Core.Logic.{◌⊎◌, ⊎_elim}
use lib.Dec.{leb}
use borrow.Author.Tests.{leb-true, leb-false}
use denote.Ref.{Bor}
use Rattle.std.specs.Prelude.{Option, Some, None, slice_range, unwrap_or}
use Rattle.std.specs.Option.{MatchOption}
use mathlib.Core.Path.{◌≡◌, refl, sym, ap, ◌∙◌}
use native.Mathlib.Omega.{arith}
use lib.ListN.{length, take, drop, drop_of_length-le, length-drop}
use lib.Seq.{take_all, take-nil}
use Rattle.tree.specs.Laid.{between}

module _ (t : List ℕ) (from to : ℕ) where
  pub part_past : length t < from → between from to t ≡ []
  part_past h =
      let e : drop from t ≡ [] = drop_of_length-le t {i = from} (omega arith) in
      ap (λ (l : List ℕ). take (to - from) l) e ∙ take-nil (to - from)

  pub part_back : to < from → between from to t ≡ []
  part_back h =
      let e : to - from ≡ 0 = omega arith in
      ap (λ (n : ℕ). take n (drop from t)) e

  pub part_end : length t < to → between from to t ≡ take (length t - from) (drop from t)
  part_end h =
      take_all (to - from) (drop from t) (omega (arith, length-drop from t)) ∙ sym (take_all (length t - from) (drop from t) (omega (arith, length-drop from t)))

  -- what `get` finds up to the lower of the two ends, or nothing
  pub part_is :
      (m : ℕ) (o : Option (Bor (List ℕ))) (u none : Bor (List ℕ)) → m ≡ min to (length t) →
      MatchOption o ((m < from) ⊎ (length t < m)) (λ x. (from ≤ m) × (m ≤ length t) × (x.now ≡ slice_range t from m) × (length x.now + from ≡ m)) →
      none.now ≡ [] → u ≡ unwrap_or o none → u.now ≡ between from to t
  part_is m (Some x) u none k h e f = ap (λ (b : Bor (List ℕ)). b.now) f ∙ h.2 ∙ by (leb to (length t)) refl
    where
      by : (c : Bool) → leb to (length t) ≡ c → take (m - from) (drop from t) ≡ between from to t
      by true l = let g = leb-true to (length t) l in let q : m ≡ to = omega (arith, g, k) in ap (λ (n : ℕ). take (n - from) (drop from t)) q
      by false l =
          let g = leb-false to (length t) l in
          let q : m ≡ length t = omega (arith, g, k) in
          ap (λ (n : ℕ). take (n - from) (drop from t)) q ∙ sym (part_end g)
  part_is m None u none k h e f = ap (λ (b : Bor (List ℕ)). b.now) f ∙ e ∙ sym (by (leb from to) refl)
    where
      below : m < from
      below = ⊎_elim (λ a. a) (λ b. omega (arith, b, k)) h

      by : (c : Bool) → leb from to ≡ c → between from to t ≡ []
      by true l = let g = leb-true from to l in part_past (omega (arith, g, k, below))
      by false l = part_back (leb-false from to l)
