-- The total of the amounts of a message that is not refused by its rows, limits and values: at most 64 payments of at most 99,999,999,999 cents are 6,399,999,999,936 cents.
use Prim.Native.Nat.{ℕ, ◌≤◌}
use native.Mathlib.Omega.{arith}
use mathlib.Core.List.{List}
use mathlib.Core.Option.{none}
use mathlib.Core.Path.{◌≡◌}
use Rattle.paper.specs.Form.{Element}
use Rattle.paper.specs.Rows.{Profile}
use Rattle.paper.specs.Payments.{payments, total}
use Rattle.paper.specs.Refusals.{limits_refusal, values_refusal}
use Rattle.paper.specs.Accepted.{Accepted}
use Rattle.paper_acceptance.proofs.Proper.{Proper}
use Rattle.paper_acceptance.proofs.Stages.{limits_kept, values_right}
use Rattle.paper_acceptance.proofs.RightValues.{small_amounts}
use Rattle.paper_total.proofs.SixtyFour.{of_sixty_four}

module _ {profile : Profile} (proper : Proper profile) where
  -- where neither 5 nor the walk of 6 to 8 and 28 refuses anything
  pub total_at_most : (root : Element) → limits_refusal root ≡ none → values_refusal profile root ≡ none → total root ≤ 6399999999936
  unfolding total
  total_at_most root limits values =
      let few = ((limits_kept root).0 limits).few_payments in
      of_sixty_four (payments root) (omega (arith, few)) (small_amounts profile proper root values)

  -- so of every message that is accepted
  pub accepted-total : {s : List ℕ} (a : Accepted profile s) → total a.root ≤ 6399999999936
  accepted-total a =
      let t = a.tree.but_counts in
      total_at_most a.root ((limits_kept a.root).1 t.limits) ((values_right profile proper.apart a.root).1 t.values)
