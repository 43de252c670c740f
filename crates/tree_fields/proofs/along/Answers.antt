use native.Mathlib.Omega.{arith}
use Rattle.tree_routes.specs.Finds.{found_nothing}
use Rattle.tree_fields.proofs.Fields.{line_own, line_block, line_either, line_nowhere, rows_followed}
use Rattle.tree_fields.proofs.along.Goals as goal

pub returns-in-1 : goal.returns-in-1
returns-in-1 c = λ s p y o b. rw (line_own _ p c.in-1.is) (c.within.ensures s p.own (rows_followed _ (λ z. omega (arith, z, c.in-1.is)) y) o)

pub returns-in-2 : goal.returns-in-2
returns-in-2 c = λ s p y o b. rw (line_block _ p c.in-2.is) (c.within-in-2.ensures s p.block (rows_followed _ (λ z. omega (arith, z, c.in-2.is)) y) b)

pub returns-in-3 : goal.returns-in-3
returns-in-3 c = λ s p y o b.
    let x = rows_followed _ (λ z. omega (arith, z, c.in-3.is)) y in
    rw (line_either _ p c.in-3.is) (c.either.ensures s _ _ _ (c.within-in-3.ensures s p.own x o) (c.within-in-3-2.ensures s p.block x b))

pub returns-in_default : goal.returns-in_default
returns-in_default c = λ s p y o b. let n = c.in_default.in_default-own.rest in rw (line_nowhere _ p n.0.0.1 n.0.1 n.1) found_nothing
