use native.Mathlib.Nat.{mod-lt}
use native.Mathlib.Omega.{arith}
use Rattle.form_names.proofs.Laws.{slot_short, slot_long}
use Rattle.form_names.proofs.slot.Goals as goal

pub returns-then-size-lt6 : goal.returns-then-size-lt6
returns-then-size-lt6 c = (slot_short _ c.if-size-lt6.true c.from.ensures c.from-then-size-lt6.ensures, mod-lt _ (omega arith))

pub returns : goal.returns
returns c = (slot_long _ c.if-size-lt6.false c.from-2.ensures c.from-3.ensures, mod-lt _ (omega arith))
