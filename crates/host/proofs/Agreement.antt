-- The promises of the two functions for the payment host determine their answers, and follow from the reader's and the regrouping's.
use Prim.Native.Nat.{ℕ, zero, suc, ◌+◌, ◌*◌, ◌/◌, ◌%◌, ◌≤◌, ◌<◌}
use native.Mathlib.Omega.{arith}
use mathlib.Core.List.Memᴰ
use mathlib.Core.List.{List, [], ◌∷◌, ◌++◌}
use mathlib.Core.Path.{◌≡◌, refl, sym, ap, ◌∙◌, subst}
use mathlib.Core.Logic.{◌↔◌}
use mathlib.Core.Bool.{Bool, true, false}
use borrow.Author.Tests.{ltb-true, ltb-false}
use lib.Dec.{ltb}
use lib.ListN.{length, drop}
use Rattle.paper.specs.Bytes.{each}
use Rattle.paper.specs.Form.{Element}
use Rattle.paper.specs.Payments.{Payment, payments}
use Rattle.paper.specs.Refusals.{Outcome, refused_as, accepted_with, MessageAnswer, refused, accepted, answer_to, outcome, verdict}
use Rattle.paper.specs.Sizes.{least_table}
use Rattle.paper.specs.Accepted.{All, Accepted}
use Rattle.paper.specs.Regrouping.{RegroupingAnswer, regrouping, Regroups, At}
use Rattle.paper.specs.Table.{payment_numbers, numbers_of, over, written, table_after}
use Rattle.paper.specs.Host.{profile_numbered, four_bytes, numbers_held, bytes_after}
use Rattle.paper.specs.Order.{for_table, order, numbers, StageHolds, FirstNot, this_one}
use Rattle.paper_acceptance.proofs.Proper.{numbered_proper}
use Rattle.paper_acceptance.proofs.Outcome.{accepted_with_table, accepted_alone}
use Rattle.paper_acceptance.proofs.Accepts.{accepts_with_table}
use Rattle.paper_acceptance.proofs.Order as the_order
use Rattle.paper_pairing.proofs.Six as six
use Rattle.paper_pairing.proofs.Six.{SixNumbers, six_numbers}
use Rattle.verdict_answers.specs.Numbers.{as_answer, as_regrouping_answer}
use Rattle.verdict_answers.specs.declared.OfMessage.{OfMessage}
use Rattle.verdict_answers.specs.declared.OfRegrouping.{OfRegrouping}
use Rattle.verdict_answers.proofs.Agreement.{one_message, one_six}
use Rattle.verdict_table.proofs.Numbers.{all_numbers_length, payment_begins}
use Rattle.host.specs.Promises.{HostVerdictPromise, HostRegroupPromise}
use Rattle.host.proofs.Laws.{four_length}

-- two answers that keep the promise of `glowenzo_verdict`, and what they leave in the table, are the same
pub verdicts_agree : {profile archived : ℕ} {message before after other : List ℕ} (r q : OfMessage) → HostVerdictPromise profile archived message before r after → HostVerdictPromise profile archived message before q other → r ≡ q
verdicts_agree r q a b = one_message r q (a.answer_is ∙ sym b.answer_is)

pub bytes_agree : {profile archived : ℕ} {message before after other : List ℕ} {r q : OfMessage} → HostVerdictPromise profile archived message before r after → HostVerdictPromise profile archived message before q other → after ≡ other
bytes_agree a b = a.table_is ∙ sym b.table_is

-- two answers that keep the promise of `glowenzo_regroup` are the same
pub regroupings_agree : (profile archived : ℕ) (first second list : List ℕ) (r q : OfRegrouping) → HostRegroupPromise profile archived first second list r → HostRegroupPromise profile archived first second list q → r ≡ q
regroupings_agree profile archived first second list r q a b = one_six r q (a ∙ sym b)

-- The numbers that bytes make, and the one to three bytes that are left.
unfoldable pub numbers_32 : List ℕ → List ℕ
numbers_32 [] = []
numbers_32 (a ∷ []) = []
numbers_32 (a ∷ b ∷ []) = []
numbers_32 (a ∷ b ∷ c ∷ []) = []
numbers_32 (a ∷ b ∷ c ∷ d ∷ s) = (((a * 256 + b) * 256 + c) * 256 + d) ∷ numbers_32 s

unfoldable pub left_over : List ℕ → List ℕ
left_over [] = []
left_over (a ∷ []) = a ∷ []
left_over (a ∷ b ∷ []) = a ∷ b ∷ []
left_over (a ∷ b ∷ c ∷ []) = a ∷ b ∷ c ∷ []
left_over (a ∷ b ∷ c ∷ d ∷ s) = left_over s

again : (n : ℕ) → ((n / 16777216 * 256 + n / 65536 % 256) * 256 + n / 256 % 256) * 256 + n % 256 ≡ n
again n = omega arith

numbers_again : (ns s : List ℕ) → numbers_32 (each four_bytes ns ++ s) ≡ ns ++ numbers_32 s
unfolding numbers_32 each four_bytes
numbers_again [] s = refl
numbers_again (n ∷ ns) s = rw (again n, numbers_again ns s)

left_again : (ns s : List ℕ) → left_over (each four_bytes ns ++ s) ≡ left_over s
unfolding left_over each four_bytes
left_again [] s = refl
left_again (n ∷ ns) s = left_again ns s

-- the numbers behind the first so many, and what is left behind them
four_more : (k : ℕ) → 4 * suc k ≡ suc (suc (suc (suc (4 * k))))
four_more k = omega arith

numbers_drop : (k : ℕ) (s : List ℕ) → numbers_32 (drop (4 * k) s) ≡ drop k (numbers_32 s)
unfolding numbers_32
numbers_drop zero s = refl
numbers_drop (suc k) [] = rw (four_more k) refl
numbers_drop (suc k) (a ∷ []) = rw (four_more k) refl
numbers_drop (suc k) (a ∷ b ∷ []) = rw (four_more k) refl
numbers_drop (suc k) (a ∷ b ∷ c ∷ []) = rw (four_more k) refl
numbers_drop (suc k) (a ∷ b ∷ c ∷ d ∷ s) = rw (four_more k) (numbers_drop k s)

left_drop : (k : ℕ) (s : List ℕ) → 4 * k ≤ length s → left_over (drop (4 * k) s) ≡ left_over s
unfolding left_over
left_drop zero s h = refl
left_drop (suc k) [] h = absurd (omega (arith, h))
left_drop (suc k) (a ∷ []) h = absurd (omega (arith, h))
left_drop (suc k) (a ∷ b ∷ []) h = absurd (omega (arith, h))
left_drop (suc k) (a ∷ b ∷ c ∷ []) h = absurd (omega (arith, h))
left_drop (suc k) (a ∷ b ∷ c ∷ d ∷ s) h = rw (four_more k) (left_drop k s (omega (arith, h)))

pub held_are : (s : List ℕ) → length (numbers_32 s) ≡ numbers_held s
unfolding numbers_32 numbers_held
held_are [] = refl
held_are (a ∷ []) = refl
held_are (a ∷ b ∷ []) = refl
held_are (a ∷ b ∷ c ∷ []) = refl
held_are (a ∷ b ∷ c ∷ d ∷ s) = omega (arith, held_are s)

-- The table afterwards, read as numbers, is the reader's.
pub as_the_reader : (o : Outcome) (old : List ℕ) → numbers_32 (bytes_after o old) ≡ table_after o (numbers_32 old)
unfolding bytes_after table_after over
as_the_reader o old =
    let ns = written o in
    numbers_again ns (drop (length (each four_bytes ns)) old) ∙
    ap (λ (l : List ℕ). ns ++ l) (ap (λ (n : ℕ). numbers_32 (drop n old)) (four_length ns) ∙ numbers_drop (length ns) old)

-- The bytes that make no number stay: an accepted message has at most 64 payments, and the table room for them.
left_of-outcome : (o : Outcome) (old : List ℕ) → 4 * length (written o) ≤ length old → left_over (bytes_after o old) ≡ left_over old
unfolding bytes_after over
left_of-outcome o old h =
    let ns = written o in
    left_again ns (drop (length (each four_bytes ns)) old) ∙ ap (λ (n : ℕ). left_over (drop n old)) (four_length ns) ∙ left_drop (length ns) old h

room_for_all : (profile archived : ℕ) (message before : List ℕ) (o : Outcome) → outcome (profile_numbered profile archived) (numbers_held before) message ≡ o → 4 * length (written o) ≤ length before
unfolding written numbers_held
room_for_all profile archived message before (refused_as r) e = omega arith
room_for_all profile archived message before (accepted_with root) e =
    let a = (accepted_with_table (profile_numbered profile archived) (numbered_proper profile archived) (numbers_held before) message root).0 e in
    let few = ((accepted_alone (profile_numbered profile archived) (numbered_proper profile archived) message root).0 a.1).2.but_counts.limits.few_payments in
    omega (arith, a.0, few, all_numbers_length (payments root))

pub left_stays : {profile archived : ℕ} {message before after : List ℕ} {r : OfMessage} → HostVerdictPromise profile archived message before r after → left_over after ≡ left_over before
left_stays {profile} {archived} {message} {before} a =
    ap left_over a.table_is ∙ left_of-outcome (outcome (profile_numbered profile archived) (numbers_held before) message) before (room_for_all profile archived message before (outcome (profile_numbered profile archived) (numbers_held before) message) refl)

-- The six numbers. Of a message: number 0 exactly when the table is long enough and the rules hold; counts of zero on every refusal; no element and no offset where it is
-- accepted.
module _ {profile archived : ℕ} {message before after : List ℕ} {r : OfMessage} (a : HostVerdictPromise profile archived message before r after) where
  pub zero_exactly : (r.number ≡ 0) ↔ (least_table ≤ numbers_held before) × Accepted (profile_numbered profile archived) message
  unfolding as_answer
  zero_exactly =
      let n : r.number ≡ (verdict (profile_numbered profile archived) (numbers_held before) message).number = ap (λ (m : MessageAnswer). m.number) a.answer_is in
      let z = the_order.accepted_zero (profile_numbered profile archived) (numbered_proper profile archived) (numbers_held before) message in
      ((λ e. z.0 (sym n ∙ e)), (λ h. n ∙ z.1 h))

  pub refused_counts : (r.number ≡ 0 → ⊥) → (r.blocks ≡ 0) × (r.payments ≡ 0) × (r.cents ≡ 0)
  unfolding as_answer verdict answer_to refused accepted
  refused_counts n = go (outcome (profile_numbered profile archived) (numbers_held before) message) a.answer_is
    where
      go : (o : Outcome) → as_answer r ≡ answer_to o → (r.blocks ≡ 0) × (r.payments ≡ 0) × (r.cents ≡ 0)
      go (refused_as x) e = (ap (λ (m : MessageAnswer). m.blocks) e, ap (λ (m : MessageAnswer). m.payments) e, ap (λ (m : MessageAnswer). m.cents) e)
      go (accepted_with root) e = absurd (n (ap (λ (m : MessageAnswer). m.number) e))

  pub accepted_nowhere : r.number ≡ 0 → (r.element ≡ 0) × (r.offset ≡ 0)
  unfolding as_answer verdict answer_to accepted
  accepted_nowhere z =
      let h = zero_exactly.0 z in
      let t = (accepts_with_table (profile_numbered profile archived) (numbered_proper profile archived) (numbers_held before) message h.0).1 h.1 in
      let e : as_answer r ≡ answer_to (accepted_with t.0) = a.answer_is ∙ ap answer_to t.1 in
      (ap (λ (m : MessageAnswer). m.element) e, ap (λ (m : MessageAnswer). m.offset) e)

  -- 14 exactly where the table has fewer bytes than make the numbers of the least table, whatever the message.
  pub fourteen_exactly : (r.number ≡ 14) ↔ (length before < 4 * least_table)
  unfolding as_answer numbers_held numbers order StageHolds
  fourteen_exactly =
      let n : r.number ≡ (verdict (profile_numbered profile archived) (numbers_held before) message).number = ap (λ (m : MessageAnswer). m.number) a.answer_is in
      let z = the_order.refused_by (profile_numbered profile archived) (numbered_proper profile archived) (numbers_held before) message for_table in (
        (λ e. short (ltb (length before) (4 * least_table)) refl (z.0 (Memᴰ.head (sym n ∙ e)))),
        (λ l. n ∙ Memᴰ.eq_of_singleton (z.1 (this_one (λ h. omega (arith, h, l))))),
      )
    where
      short : (b : Bool) → ltb (length before) (4 * least_table) ≡ b → FirstNot (StageHolds (profile_numbered profile archived) (numbers_held before) message) order for_table
          → length before < 4 * least_table
      short true e f = ltb-true (length before) (4 * least_table) e
      short false e f = absurd (the_order.first_fails (StageHolds (profile_numbered profile archived) (numbers_held before) message) f (omega (arith, ltb-false (length before) (4 * least_table) e)))

  -- On acceptance payment k's numbers, as the bytes make them, begin at number 20k.
  pub accepted_begins : r.number ≡ 0 → (root : Element) × (outcome (profile_numbered profile archived) (numbers_held before) message ≡ accepted_with root)
      × ((k : ℕ) (one : Payment) → At (payments root) k one → payment_numbers k (numbers_32 after) ≡ numbers_of one)
  accepted_begins z =
      let h = zero_exactly.0 z in
      let t = (accepts_with_table (profile_numbered profile archived) (numbered_proper profile archived) (numbers_held before) message h.0).1 h.1 in
      let filled : numbers_32 after ≡ table_after (accepted_with t.0) (numbers_32 before) =
      ap numbers_32 (a.table_is ∙ ap (λ (o : Outcome). bytes_after o before) t.1) ∙ as_the_reader (accepted_with t.0) before in
      (t.0, t.1, λ k one i. ap (payment_numbers k) filled ∙ payment_begins t.0 (numbers_32 before) i)

-- Of a regrouping: number 0 exactly when the second message regroups the first by the list; k, field, element and offset only where an answer has them.
module _ (profile archived : ℕ) (first second list : List ℕ) (r : OfRegrouping) (a : HostRegroupPromise profile archived first second list r) where
  pub regrouped_exactly : All (λ b. b < 256) list → (r.number ≡ 0) ↔ Regroups (profile_numbered profile archived) first second list
  unfolding as_regrouping_answer
  regrouped_exactly h =
      let n : r.number ≡ (regrouping (profile_numbered profile archived) first second list).number = ap (λ (m : RegroupingAnswer). m.number) a in
      let z = six.zero_exactly (profile_numbered profile archived) (numbered_proper profile archived) first second list h in
      ((λ e. z.0 (sym n ∙ e)), (λ g. n ∙ z.1 g))

  pub regrouped_six : SixNumbers (as_regrouping_answer r)
  regrouped_six = subst SixNumbers (sym a) (six_numbers (profile_numbered profile archived) (numbered_proper profile archived) first second list)
