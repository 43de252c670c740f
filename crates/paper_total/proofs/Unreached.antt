-- No message reaches refusal 21, in any profile that a caller can name, archived or new; and every answer and table without it is as with it (specs/With21.antt). Its number is given to nothing else.
use Prim.Native.Nat.{ℕ, ◌^◌, ◌≤◌}
use native.Mathlib.Omega.{arith}
use mathlib.Core.List.{List, Memᴰ}
use mathlib.Core.Bool.{Bool}
use mathlib.Core.Option.{Option, none, some}
use mathlib.Core.Path.{◌≡◌, refl, sym, ap, subst, ◌∙◌}
use borrow.Author.Tests.{le-ltb}
use Rattle.paper.specs.Form.{Element}
use Rattle.paper.specs.Rows.{Profile, profile_by, as_new}
use Rattle.paper.specs.Values.{among}
use Rattle.paper.specs.Payments.{header_sum, total}
use Rattle.paper.specs.Refusals.{Refusal, refuse, ◌or_else◌, rows_refusal, limits_refusal, values_refusal, usage_refusal, ids_refusal, counts_refusal, tree_refusal, unless_refused, table_refusal, Outcome, refused_as, accepted_with, outcome_alone, outcome, MessageAnswer, refused, accepted, answer_to, verdict}
use Rattle.paper.specs.Table.{table_after}
use Rattle.paper.specs.Fields.{field_part}
use Rattle.paper.specs.Host.{bytes_after}
use Rattle.paper.specs.Regrouping.{RegroupingAnswer, message_refused, answered, regrouping, differing_part}
use Rattle.paper.specs.Order.{Stage, order, numbers}
use Rattle.paper.proofs.Laws.{outcomes_same}
use Rattle.paper_acceptance.proofs.Proper.{Proper, new_proper, any_proper}
use Rattle.paper_acceptance.proofs.Order.{stage_at, no_stage, of_a_stage}
use Rattle.paper_pairing.proofs.Six.{SixNumbers, of_a_message, of_no_pair, of_a_pair, of_a_field, six_numbers}
use Rattle.paper_total.specs.With21 as with_21
use Rattle.paper_total.proofs.NotRefused.{never_refused}

-- The kept refusal is 21 for a total of 2^64 cents or more.
pub above_is_21 : (root : Element) → 2 ^ 64 ≤ total root → with_21.total_refusal root ≡ refuse 21 7 (with_21.at_of (header_sum root))
unfolding with_21.total_refusal
above_is_21 root h = rw (le-ltb (total root) (2 ^ 64) h)

module _ {profile : Profile} (proper : Proper profile) where
  tree_same : (root : Element) → with_21.tree_refusal profile root ≡ tree_refusal profile root
  unfolding with_21.tree_refusal tree_refusal ◌or_else◌
  tree_same root = go (rows_refusal profile root) (limits_refusal root) (values_refusal profile root) refl refl
    where
      go : (of_rows of_limits of_values : Option Refusal) → limits_refusal root ≡ of_limits → values_refusal profile root ≡ of_values
          → of_rows or_else of_limits or_else of_values or_else usage_refusal root or_else ids_refusal root or_else with_21.total_refusal root or_else counts_refusal root
          ≡ (of_rows or_else of_limits or_else of_values or_else usage_refusal root or_else ids_refusal root or_else counts_refusal root)
      go (some r) of_limits of_values l v = refl
      go none (some r) of_values l v = refl
      go none none (some r) l v = refl
      go none none none l v = rw (never_refused proper root l v)

  alone_same : (s : List ℕ) → outcome_alone profile s ≡ with_21.outcome_alone profile s
  unfolding outcome_alone with_21.outcome_alone
  alone_same s = outcomes_same (tree_refusal profile) (with_21.tree_refusal profile) s (λ root e. sym (tree_same root))

-- 21 is no stage's number, and no answer's to a regrouping.
found_nowhere : stage_at 21 order ≡ none
unfolding stage_at numbers order among
found_nowhere = refl

pub given_to_no_stage : (stage : Stage) → Memᴰ 21 (numbers stage) → ⊥
given_to_no_stage stage m = no_stage found_nowhere stage m

not_given : {n : ℕ} (stage : Stage) → Memᴰ n (numbers stage) → n ≡ 21 → ⊥
not_given stage m e = given_to_no_stage stage (subst (λ (k : ℕ). Memᴰ k (numbers stage)) e m)

none_of_six : {a : RegroupingAnswer} → SixNumbers a → a.number ≡ 21 → ⊥
unfolding message_refused answered
none_of_six (of_a_message w r m stage n) e = not_given stage n e
none_of_six (of_no_pair n (Memᴰ.head f)) e = omega (arith, f, e)
none_of_six (of_no_pair n (Memᴰ.tail (Memᴰ.head f))) e = omega (arith, f, e)
none_of_six (of_no_pair n (Memᴰ.tail (Memᴰ.tail (Memᴰ.head f)))) e = omega (arith, f, e)
none_of_six (of_no_pair n (Memᴰ.tail (Memᴰ.tail (Memᴰ.tail (Memᴰ.head f))))) e = omega (arith, f, e)
none_of_six (of_no_pair n (Memᴰ.tail (Memᴰ.tail (Memᴰ.tail (Memᴰ.tail m))))) e = elim m [ ]
none_of_six (of_a_pair n k (Memᴰ.head f)) e = omega (arith, f, e)
none_of_six (of_a_pair n k (Memᴰ.tail (Memᴰ.head f))) e = omega (arith, f, e)
none_of_six (of_a_pair n k (Memᴰ.tail (Memᴰ.tail m))) e = elim m [ ]
none_of_six (of_a_field k field) e = omega (arith, e)

module _ (instant archived : Bool) where
  abbrev profile : Profile
  profile = profile_by instant archived

  -- Every outcome, where no table is lent and where one is, is as with 21; so every answer and table, for C too, every field,
  pub alone_as_with_21 : (s : List ℕ) → outcome_alone profile s ≡ with_21.outcome_alone profile s
  alone_as_with_21 s = alone_same (any_proper instant archived) s

  pub outcome_as_with_21 : (n : ℕ) (s : List ℕ) → outcome profile n s ≡ with_21.outcome profile n s
  unfolding outcome with_21.outcome
  outcome_as_with_21 n s = ap (unless_refused (table_refusal n)) (alone_as_with_21 s)

  pub verdict_as_with_21 : (n : ℕ) (s : List ℕ) → verdict profile n s ≡ with_21.verdict profile n s
  unfolding verdict with_21.verdict
  verdict_as_with_21 n s = ap answer_to (outcome_as_with_21 n s)

  pub table_as_with_21 : (n : ℕ) (s before : List ℕ) → table_after (outcome profile n s) before ≡ table_after (with_21.outcome profile n s) before
  table_as_with_21 n s before = ap (λ (o : Outcome). table_after o before) (outcome_as_with_21 n s)

  pub bytes_as_with_21 : (n : ℕ) (s before : List ℕ) → bytes_after (outcome profile n s) before ≡ bytes_after (with_21.outcome profile n s) before
  bytes_as_with_21 n s before = ap (λ (o : Outcome). bytes_after o before) (outcome_as_with_21 n s)

  pub field_as_with_21 : (s : List ℕ) (payment field : ℕ) → field_part (outcome_alone profile s) payment field ≡ field_part (with_21.outcome_alone profile s) payment field
  field_as_with_21 s payment field = ap (λ (o : Outcome). field_part o payment field) (alone_as_with_21 s)

  -- and every regrouping, with the part that is handed back for 20.
  second_as_with_21 : (s : List ℕ) → outcome_alone (as_new profile) s ≡ with_21.outcome_alone (as_new profile) s
  second_as_with_21 s = alone_same (new_proper (any_proper instant archived)) s

  pub regrouping_as_with_21 : (first second file : List ℕ) → regrouping profile first second file ≡ with_21.regrouping profile first second file
  unfolding regrouping with_21.regrouping
  regrouping_as_with_21 first second file = rw (alone_as_with_21 first, second_as_with_21 second)

  pub differing_as_with_21 : (first second file : List ℕ) → differing_part profile first second file ≡ with_21.differing_part profile first second file
  unfolding differing_part with_21.differing_part
  differing_as_with_21 first second file = rw (regrouping_as_with_21 first second file, second_as_with_21 second)

  -- Neither the verdict nor a regrouping answers 21,
  pub verdict_not_21 : (n : ℕ) (s : List ℕ) → (verdict profile n s).number ≡ 21 → ⊥
  unfolding verdict answer_to refused accepted
  verdict_not_21 n s e = go (outcome profile n s) refl e
    where
      go : (o : Outcome) → outcome profile n s ≡ o → (answer_to o).number ≡ 21 → ⊥
      go (refused_as r) f e = let g = of_a_stage profile (any_proper instant archived) n s f in not_given g.0 g.1 e
      go (accepted_with root) f e = omega (arith, e)

  pub regrouping_not_21 : (first second file : List ℕ) → (regrouping profile first second file).number ≡ 21 → ⊥
  regrouping_not_21 first second file e = none_of_six (six_numbers profile (any_proper instant archived) first second file) e

  -- and those with 21 never did.
  pub never_reached : (n : ℕ) (s : List ℕ) → (with_21.verdict profile n s).number ≡ 21 → ⊥
  never_reached n s e = verdict_not_21 n s (ap (λ (a : MessageAnswer). a.number) (verdict_as_with_21 n s) ∙ e)

  pub never_in_a_regrouping : (first second file : List ℕ) → (with_21.regrouping profile first second file).number ≡ 21 → ⊥
  never_in_a_regrouping first second file e =
      regrouping_not_21 first second file (ap (λ (a : RegroupingAnswer). a.number) (regrouping_as_with_21 first second file) ∙ e)
