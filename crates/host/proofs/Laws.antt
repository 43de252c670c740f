-- The table as bytes, and what is answered of it.
use Rattle.std.specs.Prelude.{Result, Ok, Err}
use Rattle.std.specs.Int.{to_be_bytes, w32}
use Prim.Native.Nat.{ℕ, ◌+◌, ◌*◌, ◌-◌, ◌/◌, ◌%◌, ◌≤◌, ◌<◌}
use native.Mathlib.Nat.{mod-eq_of_lt}
use native.Mathlib.Omega.{arith}
use native.Mathlib.Numerals.{add-one}
use mathlib.Core.List.{List, ◌++◌}
use mathlib.Core.Path.{◌≡◌, refl, sym, ap, ◌∙◌, subst}
use borrow.Author.Tests.{lt-ltb, eqb-false}
use borrow.Rule.Slice.PartMut.{put_mid}
use lib.ListN.{length, get_or, take, drop, length-append}
use lib.Seq.{length-take-le, take_at, take-suc}
use Rattle.paper.specs.Sizes.{numbers_per_payment, least_table}
use Rattle.paper.specs.Bytes.{each}
use Rattle.paper.specs.Rows.{Profile}
use Rattle.paper.specs.Payments.{payments}
use Rattle.paper.specs.Refusals.{MessageAnswer, Outcome, refused_as, accepted_with, accepted, refused, answer_to, refuse, table_refusal, unless_refused, outcome, verdict}
use Rattle.paper.specs.Table.{over, numbers_of, written, table_after}
use Rattle.paper.specs.Regrouping.{RegroupingAnswer, regrouping}
use Rattle.paper.specs.Host.{profile_numbered, four_bytes, numbers_held, bytes_after}
use Rattle.paper.specs.Answers.{refusal_of, numbered, verdict_says}
use Rattle.paper.specs.declared.Fault.{Fault}
use Rattle.paper.specs.declared.Fault.TheVariants.{TableTooShort}
use Rattle.paper.specs.declared.Accepted.{Accepted}
use Rattle.paper.proofs.Laws.{each_more, each_length}
use Rattle.verdict_answers.specs.Numbers.{as_answer}
use Rattle.verdict_answers.specs.declared.OfMessage.{OfMessage}
use Rattle.verdict_table.proofs.Numbers.{all_numbers_length}
use Rattle.verdict_table.proofs.Filling.{one_row}
use Rattle.paper_acceptance.proofs.Proper.{numbered_proper}
use Rattle.verdict_reader.specs.Promises.{VerdictPromise}
use Rattle.verdict_reader.proofs.Verdicts.{long_enough}
use Rattle.verdict_reader.proofs.Agreement.{Filled, accepted_fills}
use Rattle.verdict_answers.proofs.Agreement.{no_zero}
use Rattle.host.specs.Promises.{HostVerdictPromise}

-- the bytes of a number, the highest first
pub high_first : (n : ℕ) → n < 4294967296 → to_be_bytes w32 n ≡ four_bytes n
unfolding four_bytes
high_first n h = let e : n / 16777216 % 256 ≡ n / 16777216 = mod-eq_of_lt (omega (arith, h)) in rw e refl

-- how long numbers are as bytes
pub four_length : (ns : List ℕ) → length (each four_bytes ns) ≡ 4 * length ns
unfolding four_bytes
four_length ns = each_length four_bytes 4 (λ n. refl) ns

-- the numbers before i written, and then what was there
abbrev pub Written : (numbers old : List ℕ) (i : ℕ) (table : List ℕ) → Type 0
Written numbers old i table = table ≡ each four_bytes (take i numbers) ++ drop (4 * i) old

pub none_written : (numbers old : List ℕ) → Written numbers old 0 old
unfolding each
none_written numbers old = refl

-- one more number written, over four bytes
pub one_written : (numbers old : List ℕ) (i : ℕ) {table bytes : List ℕ} → i < length numbers → Written numbers old i table → bytes ≡ four_bytes (get_or numbers i 0)
    → Written numbers old (i + 1) (put_mid (4 * i) (4 * i + 4 - 4 * i) table bytes)
one_written numbers old i l w is =
    let n = get_or numbers i 0 in
    let front = each four_bytes (take i numbers) in
    let front_length : length front ≡ 4 * i = four_length (take i numbers) ∙ ap (λ (n : ℕ). 4 * n) (length-take-le i numbers (omega (arith, l))) in
    let four_more : 4 * i + 4 ≡ 4 * (i + 1) = omega arith in
    let more : each four_bytes (take (i + 1) numbers) ≡ front ++ four_bytes n =
    rw add-one (ap (λ (w : List ℕ). each four_bytes w) (take-suc numbers i 0 l)) ∙ each_more four_bytes (take i numbers) n in
    rw is (one_row front (four_bytes n) old (4 * i) 4 front_length w ∙ rw (more, four_more) refl)

-- the table's bytes and its numbers
held_long : (table : List ℕ) → 4 * least_table ≤ length table → least_table ≤ numbers_held table
unfolding numbers_held
held_long table h = omega (arith, h)

told : {profile archived : ℕ} (s before after : List ℕ) (v : Result Accepted Fault) {r : OfMessage} → as_answer r ≡ verdict_says v → verdict_says v ≡ answer_to (outcome (profile_numbered profile archived) (numbers_held before) s)
    → after ≡ bytes_after (outcome (profile_numbered profile archived) (numbers_held before) s) before → HostVerdictPromise profile archived s before r after
unfolding verdict
told s before after v e a t = record { answer_is = e ∙ a; table_is = t }

pub too_short : (profile archived : ℕ) (s before : List ℕ) {r : OfMessage} → length before < 4 * least_table → as_answer r ≡ verdict_says (Err TableTooShort) → HostVerdictPromise profile archived s before r before
unfolding outcome table_refusal refuse unless_refused answer_to verdict_says refusal_of numbered bytes_after over written each numbers_held
too_short profile archived s before h e =
    let l : length before / 4 < least_table = omega (arith, h) in
    told {profile = profile} {archived = archived} s before before (Err TableTooShort) e (rw (lt-ltb (length before / 4) least_table l)) (rw (lt-ltb (length before / 4) least_table l))

-- what the reader answered with the least table of its own
module _ (profile archived : ℕ) (s before : List ℕ) {own filled : List ℕ} {v : Result Accepted Fault} (h : 4 * least_table ≤ length before) (long : length own ≡ least_table)
    (a : VerdictPromise (profile_numbered profile archived) s own v filled) where
  as_own : outcome (profile_numbered profile archived) (numbers_held before) s ≡ outcome (profile_numbered profile archived) (length own) s
  as_own = long_enough (profile_numbered profile archived) s (numbers_held before) (held_long before h) ∙ sym (long_enough (profile_numbered profile archived) s (length own) (omega (arith, long)))

  pub refused-bytes : {f : Fault} {r : OfMessage} → v ≡ Err f → as_answer r ≡ verdict_says v → HostVerdictPromise profile archived s before r before
  unfolding verdict answer_to verdict_says refused accepted bytes_after over written each
  refused-bytes {f} {r} e q = go (outcome (profile_numbered profile archived) (numbers_held before) s) refl
    where
      go : (o : Outcome) → outcome (profile_numbered profile archived) (numbers_held before) s ≡ o → HostVerdictPromise profile archived s before r before
      go (refused_as x) p = told s before before v q (a.answer_is ∙ ap answer_to (sym as_own)) (rw p)
      go (accepted_with root) p =
          let t : refused (refusal_of f) ≡ answer_to (accepted_with root) = sym (ap verdict_says e) ∙ a.answer_is ∙ ap answer_to (sym as_own ∙ p) in
          absurd (eqb-false (refusal_of f).number 0 (no_zero f) (ap (λ (m : MessageAnswer). m.number) t))

  -- where it accepted, its table starts with all the payments' numbers
  module _ {of : Accepted} (e : v ≡ Ok of) where
    numbered_by : Filled (profile_numbered profile archived) s own filled of.blocks of.payments of.cents
    numbered_by = accepted_fills (numbered_proper profile archived) (subst (λ (w : Result Accepted Fault). VerdictPromise (profile_numbered profile archived) s own w filled) e a)

    pub room : length filled ≡ least_table → numbers_per_payment * of.payments ≤ least_table
    unfolding over table_after written
    room l =
        let n = numbered_by in
        let ns = each numbers_of (payments n.root) in
        omega (arith, l, ap length n.table_is, length-append ns (drop (length ns) own), all_numbers_length (payments n.root), n.payments_are)

    pub accepted-bytes : {r : OfMessage} {after : List ℕ} → as_answer r ≡ verdict_says v
        → after ≡ each four_bytes (take (numbers_per_payment * of.payments) filled) ++ drop (4 * length (take (numbers_per_payment * of.payments) filled)) before
        → HostVerdictPromise profile archived s before r after
    unfolding verdict answer_to bytes_after table_after over written
    accepted-bytes {after = after} q w =
        let n = numbered_by in
        let ns = each numbers_of (payments n.root) in
        let many : length ns ≡ numbers_per_payment * of.payments = all_numbers_length (payments n.root) ∙ ap (λ (m : ℕ). numbers_per_payment * m) (sym n.payments_are) in
        let x : take (numbers_per_payment * of.payments) filled ≡ ns = ap (take (numbers_per_payment * of.payments)) n.table_is ∙ take_at ns (drop (length ns) own) (numbers_per_payment * of.payments) many in
        let o : outcome (profile_numbered profile archived) (numbers_held before) s ≡ accepted_with n.root = as_own ∙ n.outcome_is in
        told s before after v q (a.answer_is ∙ ap answer_to (sym as_own))
        (w ∙ rw (x, o) (ap (λ (m : ℕ). each four_bytes ns ++ drop m before) (sym (four_length ns))))

-- what is promised in a profile is promised in the one that its number names
pub in_profile : (profile archived : ℕ) {named : Profile} {s own filled : List ℕ} {v : Result Accepted Fault} → named ≡ profile_numbered profile archived → VerdictPromise named s own v filled
    → VerdictPromise (profile_numbered profile archived) s own v filled
in_profile profile archived {s = s} {own} {filled} {v} e a = subst (λ (p : Profile). VerdictPromise p s own v filled) e a

pub regrouped_in_profile : (profile archived : ℕ) {named : Profile} (first second list : List ℕ) {a : RegroupingAnswer} → named ≡ profile_numbered profile archived
    → a ≡ regrouping named first second list → a ≡ regrouping (profile_numbered profile archived) first second list
regrouped_in_profile profile archived first second list e r = r ∙ ap (λ (p : Profile). regrouping p first second list) e
