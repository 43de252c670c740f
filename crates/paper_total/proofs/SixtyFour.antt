-- What at most 64 payments come to.
use Prim.Native.Nat.{◌*◌, ◌≤◌}
use native.Mathlib.Omega.{arith}
use mathlib.Core.List.{List, map}
use lib.ListN.{length}
use Rattle.paper.specs.Payments.{Payment, sum_of}
use Rattle.paper.specs.Accepted.{All, all_none, all_more}
use Rattle.paper_acceptance.proofs.RightValues.{SmallAmount}

-- what some payments come to, by how many there are
as_many : {ps : List Payment} → All SmallAmount ps → sum_of (map (λ p. p.own) ps) ≤ length ps * 99999999999
unfolding sum_of
as_many all_none = omega arith
as_many (all_more {a = p} {rest = ps} h k) = let below = as_many k in omega (arith, h, below)

pub of_sixty_four : (ps : List Payment) → length ps ≤ 64 → All SmallAmount ps → sum_of (map (λ p. p.own) ps) ≤ 6399999999936
of_sixty_four ps few small = let most = as_many small in omega (arith, few, most)
