use native.Mathlib.Omega.{arith}
use Rattle.move_lists.proofs.Lists.{other_head, behind_head}
use Rattle.move_lists.proofs.ordinals.Goals as goal

pub returns-in_default : goal.returns-in_default
returns-in_default c = other_head c.args.list.now (λ h. omega (arith, h))

pub returns-in_default-2 : goal.returns-in_default-2
returns-in_default-2 c = other_head c.args.list.now (λ h. omega (arith, h))

pub returns-in_default-3 : goal.returns-in_default-3
returns-in_default-3 c = other_head c.args.list.now (λ h. omega (arith, h))

pub returns-in_default-4 : goal.returns-in_default-4
returns-in_default-4 c = other_head c.args.list.now (λ h. omega (arith, h))

pub returns-in_default-5 : goal.returns-in_default-5
returns-in_default-5 c = other_head c.args.list.now (λ h. omega (arith, h))

pub returns-in_default-6 : goal.returns-in_default-6
returns-in_default-6 c = other_head c.args.list.now (λ h. omega (arith, h))

pub returns : goal.returns
returns c =
    behind_head c.args.list.now
    (record { long = omega arith; first = omega arith; second = omega arith; third = omega arith; high = omega arith; low = omega arith })
    c.then_some.ensures c.number-count.ensures.0
