-- What the reader has found of a message, with its tree and its order in the lent buffers.
use Rattle.std.specs.Prelude.{ℕ, ◌≤◌, List, ◌≡◌, length, Result, Ok, Err}
use Rattle.std.proofs.Math.Option.{Option, none, some}
use Rattle.paper.specs.Form.{Element}
use Rattle.paper.specs.Rows.{Profile}
use Rattle.paper.specs.Payments.{blocks, payments, total}
use Rattle.paper.specs.Refusals.{Refusal, refused_as, accepted_with, outcome_alone, values_refusal, usage_refusal, ids_refusal, counts_refusal, ◌or_else◌}
use Rattle.paper.specs.Accepted.{All}
use Rattle.paper.specs.Answers.{refusal_of}
use Rattle.paper.specs.declared.Fault.{Fault}
use Rattle.paper.specs.declared.Accepted.{Accepted}
use Rattle.tree.specs.Laid.{LaidAt}
use Rattle.rule_limits.specs.Ordered.{Ordered}
use Rattle.tree_leaves.specs.Readable.{Readable}
use Rattle.verdict_table.specs.Rows.{Fitting}

-- what stands where, of a message that is accepted
pub record Placed (s tree order : List ℕ) (root : Element) (of : Accepted) : Type 0 where
  pub ordered : Ordered s tree order root
  pub blocks_are : of.blocks ≡ length (blocks root)
  pub payments_are : of.payments ≡ length (payments root)
  pub few : of.payments ≤ 64
  pub total_is : of.cents ≡ total root
  pub readable : Readable root
  pub fitting : All Fitting (payments root)

-- the stages from 6 to 8 and 28 on
abbrev pub from_values : Profile → Element → Option Refusal
from_values profile root = values_refusal profile root or_else usage_refusal root or_else ids_refusal root or_else counts_refusal root

-- the stages over the tree from one on, as the verdict says them
pub data Passes (s tree order : List ℕ) (root : Element) (refusal : Option Refusal) : Result Accepted Fault → Type 0 where
  refuses : {f : Fault} → refusal ≡ some (refusal_of f) → Passes s tree order root refusal (Err f)
  accepts : {of : Accepted} → refusal ≡ none → Placed s tree order root of → Passes s tree order root refusal (Ok of)

-- The outcome on a message, in a profile, where no table is lent.
pub data Decided (profile : Profile) (s tree order : List ℕ) : Result Accepted Fault → Type 0 where
  decided_refused : {f : Fault} → outcome_alone profile s ≡ refused_as (refusal_of f) → Decided profile s tree order (Err f)
  decided_accepted : {root : Element} {of : Accepted} → length s ≤ 32768 → outcome_alone profile s ≡ accepted_with root → LaidAt s tree 0 root
      → Placed s tree order root of → Decided profile s tree order (Ok of)
