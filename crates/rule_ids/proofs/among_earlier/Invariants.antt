use Prim.Native.Nat.{◌≤◌}
use mathlib.Core.List.{List}
use mathlib.Core.Path.{◌≡◌}
use lib.ListN.{length}
use Rattle.paper.specs.Form.{Element}
use Rattle.paper.specs.Payments.{text_of}
use Rattle.tree.specs.Laid.{LaidAt}
use Rattle.rule_limits.specs.Ordered.{BlocksAt}
use Rattle.rule_ids.proofs.Repeats.{Unmatched}
use Rattle.rule_ids.proofs.among_earlier.Given as goal

abbrev pub invariant-loop-j : goal.invariant-loop-j
invariant-loop-j l =
    (bs : List Element) (t : Element) → BlocksAt l.s l.tree l.order 0 bs → l.k ≡ length bs → l.k ≤ 16 → LaidAt l.s l.tree l.id t → Unmatched l.s l.tree l.order (text_of t) bs l.j l.k
