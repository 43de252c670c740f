-- Parts of the message that are handed back.
use Rattle.std.specs.Prelude.{Ok, Err}
use Prim.Native.Nat.{ℕ, zero, suc, ◌≤◌, ◌<◌}
use native.Mathlib.Omega.{arith}
use mathlib.Core.List.{List, [], ◌∷◌}
use mathlib.Core.Option.{none}
use mathlib.Core.Path.{◌≡◌, refl}
use denote.Ref.{Bor}
use lib.ListN.{length}
use Rattle.paper.specs.Form.{Element}
use Rattle.paper.specs.Rows.{Profile}
use Rattle.paper.specs.Payments.{Payment, payments}
use Rattle.paper.specs.Refusals.{outcome_alone}
use Rattle.paper.specs.Table.{part_of}
use Rattle.paper.specs.Fields.{field_of, field_part}
use Rattle.paper.specs.declared.Fault.{Fault}
use Rattle.paper.specs.declared.Accepted.{Accepted}
use Rattle.rule_limits.specs.Ordered.{Ordered}
use Rattle.verdict_parts.specs.Parts.{HandsBack}
use Rattle.verdict_stages.specs.Decided.{Decided, decided_refused, decided_accepted}

-- past the last payment there is no field
past_last : (ps : List Payment) (k field : ℕ) → length ps ≤ k → field_of ps k field ≡ part_of none
unfolding field_of
past_last [] k field h = refl
past_last (p ∷ ps) zero field h = absurd (omega arith)
past_last (p ∷ ps) (suc k) field h = past_last ps k field (omega arith)

module _ {profile : Profile} (payment field : ℕ) {message handed : Bor (List ℕ)} {tree order : List ℕ} where
  pub no_field : {f : Fault} → Decided profile message.now tree order (Err f) → HandsBack message handed (record { start = 0; size = 0 })
      → HandsBack message handed (field_part (outcome_alone profile message.now) payment field)
  unfolding field_part part_of
  no_field (decided_refused o) h = rw o h

  module _ {of : Accepted} where
    pub no_such_payment : Decided profile message.now tree order (Ok of) → of.payments ≤ payment → HandsBack message handed (record { start = 0; size = 0 })
        → HandsBack message handed (field_part (outcome_alone profile message.now) payment field)
    unfolding field_part part_of
    no_such_payment (decided_accepted {root = root} l o t q) few h = rw (o, past_last (payments root) payment field (omega (arith, few, q.payments_are))) h

    pub the_field : Decided profile message.now tree order (Ok of) → payment < of.payments
        → ((root : Element) → Ordered message.now tree order root → payment < length (payments root) → payment < 64 → HandsBack message handed (field_of (payments root) payment field))
        → HandsBack message handed (field_part (outcome_alone profile message.now) payment field)
    unfolding field_part
    the_field (decided_accepted {root = root} l o t q) there h = rw o (h root q.ordered (omega (arith, there, q.payments_are)) (omega (arith, there, q.few)))
