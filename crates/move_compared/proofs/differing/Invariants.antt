use Rattle.move_compared.proofs.Compared.{from_field}
use mathlib.Core.Path.{◌≡◌}
use Rattle.paper.specs.Payments.{Payment}
use Rattle.paper.specs.Fields.{values_of, differ_from}
use Rattle.tree_fields.specs.Routes.{RoutesAre}
use Rattle.move_compared.specs.Compared.{Stands}
use Rattle.move_compared.proofs.differing.Given as goal

abbrev pub invariant-loop-field : goal.invariant-loop-field
invariant-loop-field l =
    (p q : Payment) → RoutesAre l.routes → Stands l.one.side.bytes.now l.one.side.tree.now l.one.own.now l.one.block.now p
    → Stands l.other.side.bytes.now l.other.side.tree.now l.other.own.now l.other.block.now q
    → differ_from 1 (values_of p) (values_of q) ≡ from_field l.field p q
