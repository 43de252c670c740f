-- The cycle of calls: what an element holds, an element, and its inside. What falls is what is left of the depth.
use Prim.Native.Nat.{◌+◌, ◌*◌, ◌-◌}
use lib.ListN.{length}
use Rattle.form.proofs.ContentLaws.{Passed}
use Rattle.form.proofs.Reader.+content_element_inside.Given as goal

abbrev pub decreases-content : goal.decreases-content
decreases-content l = 3 * l.left + 2

abbrev pub decreases-element : goal.decreases-element
decreases-element l = 3 * l.left + 1

abbrev pub decreases-inside : goal.decreases-inside
decreases-inside l = 3 * l.left

abbrev pub invariant-content-loop-read : goal.invariant-content-loop-read
invariant-content-loop-read l = Passed l.self.s.now l.initial.tree l.tree l.left l.start l.i l.read.at l.read.next

abbrev pub decreases-content-loop-read : goal.decreases-content-loop-read
decreases-content-loop-read l = length l.self.s.now - l.read.at
