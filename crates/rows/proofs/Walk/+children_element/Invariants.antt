-- The cycle of calls: the children of an element, and an element. What falls is the number of elements that are left, twice, one more for the element itself.
use Prim.Native.Nat.{◌+◌, ◌*◌, ◌-◌}
use Rattle.rows.proofs.Walking.{Among}
use Rattle.rows.proofs.Walk.+children_element.Given as goal

abbrev pub decreases-children : goal.decreases-children
decreases-children l = (4700 - l.i) * 2

abbrev pub decreases-element : goal.decreases-element
decreases-element l = (4700 - l.i) * 2 + 1

abbrev pub invariant-children-loop-child : goal.invariant-children-loop-child
invariant-children-loop-child l = Among l.self.s.now l.self.tree.now l.self.numbers.now.rows l.self.numbers.now.places l.self.judging l.i l.e l.row l.next l.left l.child

abbrev pub decreases-children-loop-child : goal.decreases-children-loop-child
decreases-children-loop-child l = l.next - l.child
