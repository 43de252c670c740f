use Rattle.host.proofs.Laws.{Written}
use Rattle.host.proofs.write.Given as goal

abbrev pub invariant-loop-i : goal.invariant-loop-i
invariant-loop-i l = Written l.numbers l.initial.table l.i l.table
