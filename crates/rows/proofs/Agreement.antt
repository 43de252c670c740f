-- Two answers of the walk that keep its promise are the same, for one profile and one message that is laid out.
use Rattle.std.specs.Prelude.{Result}
use Prim.Native.Nat.{ℕ}
use mathlib.Core.List.{List}
use mathlib.Core.Bool.{Bool}
use mathlib.Core.Path.{◌≡◌, sym, ◌∙◌}
use Rattle.paper.specs.Form.{Element}
use Rattle.paper.specs.declared.Fault.{Fault}
use Rattle.paper.specs.declared.Profile as named
use Rattle.tree.specs.Laid.{LaidAt}
use Rattle.verdict_answers.proofs.Agreement.{one_finding}
use Rattle.rows.specs.Walk.{WalkPromise}

pub answers_agree : (profile : named.Profile) (s tree : List ℕ) (judging : Bool) (f g : Result Unit Fault) → WalkPromise profile s tree judging f → WalkPromise profile s tree judging g
    → (root : Element) → LaidAt s tree 0 root → f ≡ g
answers_agree profile s tree judging f g p q root l = one_finding f g (p root l ∙ sym (q root l))
