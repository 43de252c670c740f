use Rattle.tree.proofs.Laws.{its_own, row_14, row_15, row_21, row_25, row_33, row_35, sought_row, not_57}
use Rattle.tree.proofs.name_of.Goals as goal

pub returns-in-14 : goal.returns-in-14
returns-in-14 c _ = rw c.in-14.is row_14

pub returns-in-15 : goal.returns-in-15
returns-in-15 c _ = rw c.in-15.is row_15

pub returns-in-21 : goal.returns-in-21
returns-in-21 c _ = rw c.in-21.is row_21

pub returns-in-25 : goal.returns-in-25
returns-in-25 c _ = rw c.in-25.is row_25

pub returns-in-33 : goal.returns-in-33
returns-in-33 c _ = rw c.in-33.is row_33

pub returns-in-35 : goal.returns-in-35
returns-in-35 c _ = rw c.in-35.is row_35

pub returns-in_default : goal.returns-in_default
returns-in_default c y =
    let n = c.in_default.in_default-own.rest in
    its_own _ n.0.0.0.0.0.1 n.0.0.0.0.1 n.0.0.0.1 n.0.0.1 n.0.1 n.1 (not_57 _ y) (sought_row _ y)
