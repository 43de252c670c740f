use Prim.Native.Nat.{◌≤◌, ◌-◌}
use mathlib.Core.Path.{◌≡◌}
use lib.ListN.{length}
use Rattle.std.specs.Prelude.{None}
use Rattle.rule_limits.proofs.NestedWalk.{BeforeBlock, BeforePayment, Along}
use Rattle.rule_limits.proofs.walk.Given as goal

abbrev pub invariant-loop-own : goal.invariant-loop-own
invariant-loop-own l =
    (l.payments ≤ 64) × (l.excess ≡ None) × (length l.order ≡ length l.initial.order) × Along l.tree l.initiation (λ s root. BeforePayment s l.tree l.order root l.blocks l.payments l.block l.own l.after l.stop)

abbrev pub decreases-loop-own : goal.decreases-loop-own
decreases-loop-own l = l.after - l.own

abbrev pub invariant-blocks-2 : goal.invariant-blocks-2
invariant-blocks-2 l =
    (l.blocks ≤ 16) × (l.payments ≤ 64) × (l.excess ≡ None) × (length l.order ≡ length l.initial.order) × Along l.tree l.initiation (λ s root. BeforeBlock s l.tree l.order root l.blocks l.payments l.block l.stop)

abbrev pub decreases-blocks-2 : goal.decreases-blocks-2
decreases-blocks-2 l = l.stop - l.block
