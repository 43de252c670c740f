-- The promise of `form_of`: what its answer says of the message, in the words of the grammar alone, and of the buffer, in which the message's tree is laid out.
use Rattle.std.specs.Prelude.{ℕ, ◌≤◌, List, length, Result, Ok, Err}
use Rattle.paper.specs.Form.{Element, IsMessage, FirstImpossible}
use Rattle.tree.specs.Laid.{LaidAt}
use Rattle.form_scans.specs.declared.Stop.{Stop}

-- The message is of the form, and its tree is laid out, where it is no longer than a message may be.
pub record LaidOut (s tree : List ℕ) : Type 0 where
  pub root : Element
  pub message : IsMessage s root
  pub laid : length s ≤ 32768 → LaidAt s tree 0 root

unfoldable pub FormPromise : (s tree : List ℕ) → Result Unit Stop → Type 0
FormPromise s tree (Ok tt) = LaidOut s tree
FormPromise s tree (Err stop) = FirstImpossible s stop.at
