-- The promises of the two functions for the payment host, in the profile that numbers name.
use Rattle.std.specs.Prelude.{ℕ, List, ◌≡◌}
use Rattle.paper.specs.Refusals.{verdict, outcome}
use Rattle.paper.specs.Regrouping.{regrouping}
use Rattle.paper.specs.Host.{profile_numbered, numbers_held, bytes_after}
use Rattle.verdict_answers.specs.Numbers.{as_answer, as_regrouping_answer}
use Rattle.verdict_answers.specs.declared.OfMessage.{OfMessage}
use Rattle.verdict_answers.specs.declared.OfRegrouping.{OfRegrouping}

-- `glowenzo_verdict`: the rules' verdict on the message and the numbers that the table holds, as six numbers, and every byte of the table afterwards.
pub record HostVerdictPromise (profile archived : ℕ) (message before : List ℕ) (answer : OfMessage) (after : List ℕ) : Type 0 where
  pub answer_is : as_answer answer ≡ verdict (profile_numbered profile archived) (numbers_held before) message
  pub table_is : after ≡ bytes_after (outcome (profile_numbered profile archived) (numbers_held before) message) before

-- `glowenzo_regroup`: the rules' answer to the regrouping, as six numbers.
abbrev pub HostRegroupPromise : (profile archived : ℕ) (first second list : List ℕ) → OfRegrouping → Type 0
HostRegroupPromise profile archived first second list answer = as_regrouping_answer answer ≡ regrouping (profile_numbered profile archived) first second list
