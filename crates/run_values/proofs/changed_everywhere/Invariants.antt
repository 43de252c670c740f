use Rattle.std.proofs.Common.{◌+◌, ◌*◌, ◌≤◌}
use Rattle.run_values.proofs.changed_everywhere.Given as goal

abbrev pub invariant-loop-i : goal.invariant-loop-i
invariant-loop-i g l = (l.n ≤ 36 * l.i) × (l.i-end ≤ 34)

abbrev pub invariant-loop-c : goal.invariant-loop-c
invariant-loop-c g l = l.n ≤ 36 * l.i + l.c-index
