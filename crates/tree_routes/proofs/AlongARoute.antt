-- A route followed row after row: the element that was reached, and the rows ahead, which lead on from it.
use Prim.Native.Nat.{ℕ, ◌+◌, ◌<◌}
use mathlib.Core.List.{List, [], ◌∷◌}
use mathlib.Core.Option.{Option}
use mathlib.Core.Bool.{true, ◌&&◌}
use mathlib.Core.Path.{◌≡◌, sym, ap, ◌∙◌}
use lib.ListN.{length, get_or, drop}
use Rattle.std.specs.Prelude.{Some, None}
use Rattle.std.specs.Prelude as code
use Rattle.paper.specs.Bytes.{every}
use Rattle.paper.specs.Form.{Element}
use Rattle.paper.specs.Payments.{child, follow}
use Rattle.paper.proofs.Laws.{both_left, both_right}
use Rattle.form_names.specs.Names.{is_sought}
use Rattle.tree.specs.Laid.{LaidAt}
use Rattle.tree_routes.specs.Finds.{Finds, found_at, found_nothing, rows_in, onward}
use Rattle.tree_routes.proofs.Laws.{onward_none, onward_some, follow_here, follow_step, rows_go_on}
use Rattle.tree_routes.proofs.WhatIsFound.{found_none, found_some}

-- An element was reached, and the rest of the route leads on from it.
pub record Halfway (s tree route : List ℕ) (o : Option Element) (at j : ℕ) : Type 0 where
  pub here : Element
  pub laid : LaidAt s tree at here
  pub leads_on : onward (rows_in route) o ≡ follow (rows_in (drop j route)) here
  pub rows_ahead : every is_sought (rows_in (drop j route)) ≡ true

-- there is no element to set out from
pub nowhere : (route : List ℕ) {s tree : List ℕ} {o : Option Element} {from : code.Option ℕ} → Finds s tree o from → from ≡ None → Finds s tree (onward route o) None
nowhere route f e = rw (found_none f e, onward_none route) found_nothing

module _ {s tree route : List ℕ} {o : Option Element} where
  pub sets_out : {from : code.Option ℕ} {at : ℕ} → every is_sought (rows_in route) ≡ true → Finds s tree o from → from ≡ Some at → Halfway s tree route o at 0
  sets_out y f e =
      let t = found_some f e in
      record { here = t.it; laid = t.laid; leads_on = ap (onward (rows_in route)) t.is_it ∙ onward_some (rows_in route) t.it; rows_ahead = y }

  pub arrived : {at j : ℕ} → rows_in (drop j route) ≡ [] → Halfway s tree route o at j → Finds s tree (onward (rows_in route) o) (Some at)
  arrived e h = rw (h.leads_on, e, follow_here h.here) (found_at h.laid)

  -- the next row, and what the child of that row is
  module _ {at j k : ℕ} {r : code.Option ℕ} (b : j < length route) (n : get_or route j 0 ≡ 0 → ⊥) (is : k ≡ get_or route j 0)
      (says : (t : Element) → is_sought k ≡ true → LaidAt s tree at t → Finds s tree (child k t) r) (h : Halfway s tree route o at j) where
    abbrev ahead : List ℕ
    ahead = rows_in (drop (j + 1) route)

    row_ahead : rows_in (drop j route) ≡ k ∷ ahead
    row_ahead = rows_go_on route j b n ∙ ap (λ (m : ℕ). m ∷ ahead) (sym is)

    both_ahead : (is_sought k && every is_sought ahead) ≡ true
    unfolding every
    both_ahead = ap (every is_sought) (sym row_ahead) ∙ h.rows_ahead

    found : Finds s tree (child k h.here) r
    found = says h.here (both_left (is_sought k) (every is_sought ahead) both_ahead) h.laid

    on : onward (rows_in route) o ≡ onward ahead (child k h.here)
    on = h.leads_on ∙ (ap (λ (l : List ℕ). follow l h.here) row_ahead ∙ follow_step k ahead h.here)

    pub one_row_on : {next : ℕ} → r ≡ Some next → Halfway s tree route o next (j + 1)
    one_row_on e =
        let t = found_some found e in
        record {
          here = t.it;
          laid = t.laid;
          leads_on = on ∙ (ap (onward ahead) t.is_it ∙ onward_some ahead t.it);
          rows_ahead = both_right (is_sought k) (every is_sought ahead) both_ahead;
        }

    pub leads_nowhere : r ≡ None → Finds s tree (onward (rows_in route) o) None
    leads_nowhere e = rw (on, found_none found e, onward_none ahead) found_nothing
