-- The verdict and the table afterwards, by what was decided.
use Rattle.std.specs.Prelude.{Result, Ok, Err}
use Rattle.std.specs.Result.{IsErrAnd}
use Rattle.std.proofs.lemmas.Result.{err_from_is_err_and}
use Prim.Native.Nat.{ℕ, ◌*◌, ◌≤◌, ◌<◌}
use mathlib.Core.List.{List, ◌++◌}
use mathlib.Core.Path.{◌≡◌, ◌∙◌, ap, sym}
use borrow.Author.Tests.{lt-ltb, le-ltb}
use lib.ListN.{length, drop}
use Rattle.paper.specs.Sizes.{numbers_per_payment, least_table}
use Rattle.paper.specs.Form.{Element}
use Rattle.paper.specs.Rows.{Profile}
use Rattle.paper.specs.Payments.{payments}
use Rattle.paper.specs.Refusals.{refuse, table_refusal, unless_refused, refused_as, accepted_with, outcome_alone, outcome, answer_to, verdict}
use Rattle.paper.specs.Bytes.{each}
use Rattle.paper.specs.Table.{over, numbers_of, written, table_after}
use Rattle.paper.specs.Accepted.{All}
use Rattle.paper.specs.Answers.{refusal_of, numbered, verdict_says}
use Rattle.paper.specs.declared.Fault.{Fault}
use Rattle.paper.specs.declared.Fault.TheVariants.{TableTooShort}
use Rattle.paper.specs.declared.Accepted.{Accepted}
use Rattle.rule_limits.specs.Ordered.{Ordered}
use Rattle.verdict_table.specs.Rows.{Fitting}
use Rattle.verdict_table.proofs.Numbers.{all_numbers_length}
use Rattle.verdict_reader.specs.Promises.{VerdictPromise}
use Rattle.verdict_stages.specs.Decided.{Decided, decided_refused, decided_accepted}

pub too_short : (profile : Profile) (s before : List ℕ) → length before < least_table → VerdictPromise profile s before (Err TableTooShort) before
unfolding verdict outcome table_refusal refuse unless_refused answer_to verdict_says refusal_of numbered table_after over written
too_short profile s before h =
    record { answer_is = rw (lt-ltb (length before) least_table h); table_is = rw (lt-ltb (length before) least_table h) }

-- with a table that is long enough the outcome is that of the message alone
pub long_enough : (profile : Profile) (s : List ℕ) (n : ℕ) → least_table ≤ n → outcome profile n s ≡ outcome_alone profile s
unfolding outcome table_refusal unless_refused
long_enough profile s n h = rw (le-ltb n least_table h)

told : {profile : Profile} (s before after : List ℕ) (v : Result Accepted Fault) → verdict_says v ≡ answer_to (outcome profile (length before) s) → after ≡ table_after (outcome profile (length before) s) before → VerdictPromise profile s before v after
unfolding verdict
told s before after v a t = record { answer_is = a; table_is = t }

module _ {profile : Profile} {s tree order before : List ℕ} (h : least_table ≤ length before) where
  -- what a `?` hands on
  pub refused_promise : {f : Fault} {v : Result Accepted Fault} → Decided profile s tree order (Err f) → IsErrAnd v (λ g. g ≡ f) → VerdictPromise profile s before v before
  unfolding answer_to verdict_says table_after over written
  refused_promise {f} {v} (decided_refused o) handed =
      let e = err_from_is_err_and v handed in
      let p : outcome profile (length before) s ≡ refused_as (refusal_of f) = long_enough profile s (length before) h ∙ o in
      rw (e.1, e.2) (told s before before (Err f) (rw p) (rw p))

  pub accepted_promise : {of : Accepted} {after : List ℕ} → Decided profile s tree order (Ok of)
      → (length s ≤ 32768 → (root : Element) → Ordered s tree order root → of.payments ≡ length (payments root) → of.payments ≤ 64 → All Fitting (payments root) → least_table ≤ length before
      → after ≡ each numbers_of (payments root) ++ drop (numbers_per_payment * length (payments root)) before)
      → VerdictPromise profile s before (Ok of) after
  unfolding answer_to verdict_says table_after over written
  accepted_promise {of} {after} (decided_accepted {root = root} l o t q) fills =
      let w : outcome profile (length before) s ≡ accepted_with root = long_enough profile s (length before) h ∙ o in
      told s before after (Ok of) (rw (w, q.blocks_are, q.payments_are, q.total_is))
      (rw w
      (fills l root q.ordered q.payments_are q.few q.fitting h ∙
      ap (λ (n : ℕ). each numbers_of (payments root) ++ drop n before) (sym (all_numbers_length (payments root)))))
