-- The promises of `regroup` and `differing`, in a profile: demand 3, and the text of the differing field.
use Rattle.std.specs.Prelude.{ℕ, List, Result, ◌≡◌}
use Rattle.std.specs.Borrow.{Bor}
use Rattle.paper.specs.Rows.{Profile}
use Rattle.paper.specs.Regrouping.{regrouping, differing_part}
use Rattle.paper.specs.Answers.{regrouping_says}
use Rattle.paper.specs.declared.NotRegrouped.{NotRegrouped}
use Rattle.verdict_parts.specs.Parts.{HandsBack}

-- `regroup`: the answer is the rules' for the two messages and the list's file.
abbrev pub RegroupPromise : Profile → (first second file : List ℕ) → Result Unit NotRegrouped → Type 0
RegroupPromise profile first second file answer = regrouping_says answer ≡ regrouping profile first second file

-- `differing`: the part of the second message that is the text of the differing field.
abbrev pub DifferingPromise : Profile → (first : List ℕ) (second : Bor (List ℕ)) (file : List ℕ) (handed : Bor (List ℕ)) → Type 0
DifferingPromise profile first second file handed = HandsBack second handed (differing_part profile first second.now file)
