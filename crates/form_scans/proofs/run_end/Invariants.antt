use Prim.Native.Nat.{◌+◌, ◌*◌, ◌-◌, ◌≤◌}
use Rattle.form_ranks.specs.Ranks.{RanksAre}
use Rattle.form_scans.specs.Scans.{Ranked}
use Rattle.form_scans.proofs.run_end.Given as goal

abbrev pub invariant-loop : goal.invariant-loop
invariant-loop l = (l.at ≤ l.from) × (l.from + 4 * (l.end - l.counter) ≤ l.stop) × (RanksAre l.ranks → Ranked l.s l.at l.from l.low l.high)

abbrev pub invariant-loop-i : goal.invariant-loop-i
invariant-loop-i l = RanksAre l.ranks → Ranked l.s l.at l.i l.low l.high
