-- 21 refuses no message that neither its limits nor its values refuse.
use Prim.Native.Nat.{◌^◌}
use native.Mathlib.Omega.{arith}
use mathlib.Core.Option.{none}
use mathlib.Core.Path.{◌≡◌}
use borrow.Author.Tests.{lt-ltb}
use Rattle.paper.specs.Form.{Element}
use Rattle.paper.specs.Rows.{Profile}
use Rattle.paper.specs.Payments.{total}
use Rattle.paper.specs.Refusals.{limits_refusal, values_refusal}
use Rattle.paper_acceptance.proofs.Proper.{Proper}
use Rattle.paper_total.specs.With21 as with_21
use Rattle.paper_total.proofs.Bound.{total_at_most}

module _ {profile : Profile} (proper : Proper profile) where
  -- where neither 5 nor the walk of 6 to 8 and 28 refuses anything, 21 does not
  pub never_refused : (root : Element) → limits_refusal root ≡ none → values_refusal profile root ≡ none → with_21.total_refusal root ≡ none
  unfolding with_21.total_refusal
  never_refused root limits values =
      let most = total_at_most proper root limits values in
      rw (lt-ltb (total root) (2 ^ 64) (omega (arith, most)))
