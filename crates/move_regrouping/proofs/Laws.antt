-- The answer to a regrouping, by what was decided of each message and found in the list.
use Prim.Native.Nat.{ℕ}
use mathlib.Core.List.{List, []}
use mathlib.Core.Bool.{Bool, true, false}
use mathlib.Core.Option.{Option, none, some}
use mathlib.Core.Path.{◌≡◌, refl, sym, ◌∙◌, ap, subst}
use borrow.Author.Tests.{eq-eqb, ne_eqb}
use lib.ListN.{length, length-map}
use denote.Ref.{Bor}
use denote.Enum.Declared.{tag_of}
use Rattle.paper.specs.contracts.NotRegrouped.{the_type}
use lib.Dec.{eqb}
use Rattle.std.specs.Prelude.{Result, Ok, Err, Some, None}
use Rattle.std.specs.Prelude as code
use Rattle.std.specs.Option.{ok_or}
use Rattle.std.specs.Result.{IsErrAnd, MatchResult}
use Rattle.paper.specs.Form.{Element}
use Rattle.paper.specs.Rows.{Profile, for_new, for_archived, profile_by, as_new}
use Rattle.paper.specs.Payments.{payments, in_payment}
use Rattle.paper.specs.Refusals.{refused_as, accepted_with, outcome_alone}
use Rattle.paper.specs.Fields.{values_of, field_part}
use Rattle.paper.specs.Table.{Part, part_of}
use Rattle.paper.specs.Regrouping.{message_refused, answered, part_for, ordinals_of, pairing, of_payments, all_values, of_outcomes, regrouping, differing_part}
use Rattle.paper.specs.Answers.{refusal_of, regrouping_says}
use Rattle.paper.specs.declared.Fault.{Fault}
use Rattle.paper.specs.declared.Accepted.{Accepted}
use Rattle.paper.specs.declared.NotRegrouped.{NotRegrouped}
use Rattle.paper.specs.declared.NotRegrouped.TheVariants.{FirstRefused, SecondRefused, NumbersOfPaymentsDiffer, ListNotOfTheForm, CountNotTheNumberOfPayments, OrdinalTooLarge, NamedBefore, FieldsDiffer}
use Rattle.move_lists.specs.Lists.{how_many}
use Rattle.move_pairs.specs.Pairs.{InOrder, pairs_say, not_regrouped}
use Rattle.move_pairs.specs.declared.Unpaired.{Unpaired}
use Rattle.move_pairs.proofs.Pairs.{said_alike}
use Rattle.move_regrouping.specs.Promises.{RegroupPromise}
use Rattle.verdict_parts.specs.Parts.{HandsBack}
use Rattle.verdict_stages.specs.Decided.{Placed, Decided, decided_refused, decided_accepted}
use Rattle.paper.proofs.Laws.{all_map}

-- the payments of an accepted message are in order
in_order : {s tree order : List ℕ} {root : Element} {of : Accepted} → Placed s tree order root of → InOrder s tree order of.payments root
unfolding in_payment
in_order q =
    record {
      number_is = sym q.payments_are;
      few = q.few;
      stand = q.ordered.payments_at;
      amounts = all_map (λ p r. r.amount) q.readable.in_payments;
    }

-- the same rows, of a new message
pub new_of : (instant archived : Bool) → profile_by instant false ≡ as_new (profile_by instant archived)
unfolding profile_by as_new for_new for_archived
new_of instant true = refl
new_of instant false = refl

-- a message that is refused, and one that is accepted
pub refused : {profile : Profile} {s tree order : List ℕ} {v : Result Accepted Fault} {f : Fault} → Decided profile s tree order v → v ≡ Err f
    → outcome_alone profile s ≡ refused_as (refusal_of f)
refused (decided_refused o) e = let g = e in cc
refused (decided_accepted l o t q) e = cc

pub when_accepted : {A : Type 0} {profile : Profile} {s tree order : List ℕ} {v : Result Accepted Fault} {of : Accepted} → Decided profile s tree order v → v ≡ Ok of
    → ((root : Element) → outcome_alone profile s ≡ accepted_with root → InOrder s tree order of.payments root → A) → A
when_accepted (decided_refused o) e use_it = absurd cc
when_accepted {s = s} {tree} {order} {of = of} (decided_accepted {root = root} {of = x} l o t q) e use_it =
    let g : x ≡ of = cc in use_it root o (subst (λ (y : Accepted). InOrder s tree order y.payments root) g (in_order q))

-- the first message's refusal, and the second's
module _ (profile : Profile) (first second list : List ℕ) where
  pub first_refused : (f : Fault) → outcome_alone profile first ≡ refused_as (refusal_of f) → RegroupPromise profile first second list (Err (FirstRefused f))
  unfolding regrouping_says of_outcomes regrouping
  first_refused f e = rw e

  pub second_refused : (f : Fault) {root : Element} → outcome_alone profile first ≡ accepted_with root → outcome_alone (as_new profile) second ≡ refused_as (refusal_of f)
      → RegroupPromise profile first second list (Err (SecondRefused f))
  unfolding regrouping_says of_outcomes regrouping
  second_refused f o e = rw (o, e)

  pub both_accepted : (r : Result Unit NotRegrouped) {root1 root2 : Element} → outcome_alone profile first ≡ accepted_with root1
      → outcome_alone (as_new profile) second ≡ accepted_with root2 → regrouping_says r ≡ of_payments (all_values root1) (all_values root2) list
      → RegroupPromise profile first second list r
  unfolding of_outcomes regrouping
  both_accepted r o u e = rw (o, u) e

-- 15, 16, 17
values_many : {s tree order : List ℕ} {root : Element} {n : ℕ} → InOrder s tree order n root → length (all_values root) ≡ n
unfolding all_values
values_many {root = root} i = length-map (payments root) values_of ∙ i.number_is

list_none : (list : List ℕ) {l : code.Option ℕ} → l ≡ how_many (ordinals_of list) → l ≡ None → ordinals_of list ≡ none
unfolding how_many
list_none list {l} e d = go (ordinals_of list) refl
  where
    go : (o : Option (List ℕ)) → ordinals_of list ≡ o → ordinals_of list ≡ none
    go none f = f
    go (some ks) f = let g : how_many (ordinals_of list) ≡ how_many (some ks) = ap how_many f in cc

list_some : (list : List ℕ) {l : code.Option ℕ} {n : ℕ} → l ≡ how_many (ordinals_of list) → l ≡ Some n → (ks : List ℕ) × (ordinals_of list ≡ some ks) × (length ks ≡ n)
unfolding how_many
list_some list {l} {n} e d = go (ordinals_of list) refl
  where
    go : (o : Option (List ℕ)) → ordinals_of list ≡ o → (ks : List ℕ) × (ordinals_of list ≡ some ks) × (length ks ≡ n)
    go none f = let g : how_many (ordinals_of list) ≡ how_many none = ap how_many f in absurd cc
    go (some ks) f = let g : how_many (ordinals_of list) ≡ how_many (some ks) = ap how_many f in let k : length ks ≡ n = cc in (ks, f, k)

pub none_read : (l : code.Option ℕ) (e : NotRegrouped) {y : NotRegrouped} {r : Result ℕ NotRegrouped} → r ≡ ok_or l e → r ≡ Err y → (l ≡ None) × (y ≡ e)
none_read None e p q = (refl, cc)
none_read (Some n) e p q = absurd cc

pub some_read : (l : code.Option ℕ) (e : NotRegrouped) {n : ℕ} {r : Result ℕ NotRegrouped} → r ≡ ok_or l e → r ≡ Ok n → l ≡ Some n
some_read None e p q = cc
some_read (Some n) e p q = cc

module _ (list : List ℕ) {s1 tree1 order1 s2 tree2 order2 : List ℕ} {root1 root2 : Element} {n m : ℕ} (i : InOrder s1 tree1 order1 n root1) (j : InOrder s2 tree2 order2 m root2) where
  pub numbers_differ : (n ≡ m → ⊥) → regrouping_says (Err NumbersOfPaymentsDiffer) ≡ of_payments (all_values root1) (all_values root2) list
  unfolding of_payments regrouping_says
  numbers_differ d =
      rw (ne_eqb (length (all_values root1)) (length (all_values root2)) (λ e. d (sym (values_many i) ∙ e ∙ values_many j)))

  module _ (same : n ≡ m) {l : code.Option ℕ} (read : l ≡ how_many (ordinals_of list)) where
    as_many : eqb (length (all_values root1)) (length (all_values root2)) ≡ true
    as_many = eq-eqb _ _ (values_many i ∙ same ∙ sym (values_many j))

    pub not_a_list : l ≡ None → regrouping_says (Err ListNotOfTheForm) ≡ of_payments (all_values root1) (all_values root2) list
    unfolding of_payments regrouping_says
    not_a_list e = rw (as_many, list_none list read e)

    pub wrong_count : {k : ℕ} → l ≡ Some k → (k ≡ n → ⊥) → regrouping_says (Err CountNotTheNumberOfPayments) ≡ of_payments (all_values root1) (all_values root2) list
    unfolding of_payments regrouping_says
    wrong_count e d =
        let q = list_some list read e in
        rw (as_many, q.1, ne_eqb (length q.0) (length (all_values root1)) (λ f. d (sym q.2 ∙ f ∙ values_many i)))

    pub the_pairs : {k : ℕ} (r : Result Unit NotRegrouped) (p : Result Unit Unpaired) → l ≡ Some k → k ≡ n → regrouping_says r ≡ pairs_say p
        → ((ks : List ℕ) → ordinals_of list ≡ some ks → length ks ≡ n → pairs_say p ≡ pairing (all_values root1) 0 [] ks (all_values root2))
        → regrouping_says r ≡ of_payments (all_values root1) (all_values root2) list
    unfolding of_payments
    the_pairs {k} r p e d f h =
        let q = list_some list read e in
        let c : length q.0 ≡ n = q.2 ∙ d in
        rw (as_many, q.1, eq-eqb (length q.0) (length (all_values root1)) (c ∙ sym (values_many i))) (f ∙ h q.0 q.1 c)

-- 18, 19, 20, as the walk over the pairs says them
pub all_paired : {p : Result Unit Unpaired} {u : Unit} → p ≡ Ok u → regrouping_says (Ok tt) ≡ pairs_say p
unfolding regrouping_says pairs_say
all_paired e = rw e

pub not_paired : {p : Result Unit Unpaired} {why : Unpaired} → p ≡ Err why → regrouping_says (Err (not_regrouped why)) ≡ pairs_say p
not_paired {why = why} e = rw e (said_alike why)

pub same_order : {s tree order : List ℕ} {root : Element} {n m : ℕ} → InOrder s tree order m root → n ≡ m → InOrder s tree order n root
same_order {s} {tree} {order} {root} i e = subst (λ (k : ℕ). InOrder s tree order k root) (sym e) i

-- what is left by `?`, and what a result was before `map_err`
pub left_with : (r : Result Unit NotRegrouped) {why : NotRegrouped} → IsErrAnd r (λ d. d ≡ why) → r ≡ Err why
left_with (Err y) h = ap Err h
left_with (Ok x) h = absurd h

pub err_before : (v : Result Accepted Fault) (P : Fault → NotRegrouped → Type 0) {r : Result Accepted NotRegrouped} {y : NotRegrouped}
    → MatchResult v (λ x. r ≡ Ok x) (λ e. IsErrAnd r (P e)) → r ≡ Err y → (f : Fault) × (v ≡ Err f) × P f y
err_before (Ok x) P m e = absurd cc
err_before (Err f) P {r} {y} m e = (f, refl, subst (λ (z : Result Accepted NotRegrouped). IsErrAnd z (P f)) e m)

pub ok_before : (v : Result Accepted Fault) (P : Fault → NotRegrouped → Type 0) {r : Result Accepted NotRegrouped} {x : Accepted}
    → MatchResult v (λ x. r ≡ Ok x) (λ e. IsErrAnd r (P e)) → r ≡ Ok x → v ≡ Ok x
ok_before (Ok y) P m e = cc
ok_before (Err f) P {r} {x} m e = absurd (subst (λ (z : Result Accepted NotRegrouped). IsErrAnd z (P f)) e m)

-- the differing part, by the answer
module _ (profile : Profile) (first second list : List ℕ) {r : Result Unit NotRegrouped} (is : RegroupPromise profile first second list r) where
  pub part_of_20 : {k field : ℕ} → r ≡ Err (FieldsDiffer k field) → differing_part profile first second list ≡ field_part (outcome_alone (as_new profile) second) k field
  unfolding differing_part part_for regrouping_says answered
  part_of_20 e = rw (sym is ∙ ap regrouping_says e)

  pub no_part : ((k field : ℕ) → r ≡ Err (FieldsDiffer k field) → ⊥) → differing_part profile first second list ≡ part_of none
  unfolding differing_part part_for regrouping_says answered message_refused
  no_part n = go r refl
    where
      go : (a : Result Unit NotRegrouped) → r ≡ a → differing_part profile first second list ≡ part_of none
      go (Ok tt) e = rw (sym is ∙ ap regrouping_says e)
      go (Err (FirstRefused f)) e = rw (sym is ∙ ap regrouping_says e)
      go (Err (SecondRefused f)) e = rw (sym is ∙ ap regrouping_says e)
      go (Err NumbersOfPaymentsDiffer) e = rw (sym is ∙ ap regrouping_says e)
      go (Err ListNotOfTheForm) e = rw (sym is ∙ ap regrouping_says e)
      go (Err CountNotTheNumberOfPayments) e = rw (sym is ∙ ap regrouping_says e)
      go (Err (OrdinalTooLarge k)) e = rw (sym is ∙ ap regrouping_says e)
      go (Err (NamedBefore k)) e = rw (sym is ∙ ap regrouping_says e)
      go (Err (FieldsDiffer k f)) e = absurd (n k f e)

-- an answer that the code has found not to be 20, by its variant
pub not_20 : {r : Result Unit NotRegrouped} {why : NotRegrouped} {k field : ℕ} → r ≡ Err (FieldsDiffer k field) → r ≡ Err why → (tag_of the_type why ≡ 7 → ⊥) → ⊥
not_20 {why = why} {k} {field} e d n = let z : why ≡ FieldsDiffer k field = cc in n (ap (tag_of the_type) z)

-- the empty part at 0
pub empty_part : {m h : Bor (List ℕ)} {p : Part} → p ≡ part_of none → HandsBack m h (record { start = 0; size = 0 }) → HandsBack m h p
unfolding part_of
empty_part e h = rw e h

pub that_part : {m h : Bor (List ℕ)} {p q : Part} → p ≡ q → HandsBack m h q → HandsBack m h p
that_part e h = rw e h
