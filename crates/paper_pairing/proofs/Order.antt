-- The answer to a regrouping is the first by the order of its checks, and no other is.
use Rattle.std.specs.Prelude.{if◌then◌else◌}
use Prim.Native.Nat.{ℕ, suc, ◌+◌, ◌≤◌, ◌<◌}
use native.Mathlib.Omega.{arith}
use mathlib.Core.List.Memᴰ
use mathlib.Core.List.{List, [], ◌∷◌, ◌++◌, map, Memᴰ, append_assoc, map-append}
use mathlib.Core.Bool.{Bool, true, false, not}
use mathlib.Core.Option.{Option, none, some}
use mathlib.Core.Path.{◌≡◌, refl, sym, ◌∙◌, ap, subst}
use mathlib.Core.Logic.{◌↔◌, ◌⊎◌, inl, inr, ⊎_elim}
use lib.ListN.{length, get_or, length-append, length-map}
use lib.Dec.{eqb, ltb}
use borrow.Author.Tests.{eqb-true, eqb-false, eq-eqb, ne_eqb, ltb-true, ltb-false, lt-ltb, le-ltb}
use Rattle.paper.specs.Rows.{Profile, as_new}
use Rattle.paper.specs.Values.{among}
use Rattle.paper.specs.Payments.{Payment, payments}
use Rattle.paper.specs.Refusals.{Refusal, Outcome, refused_as, accepted_with, outcome_alone}
use Rattle.paper.specs.Accepted.{All, EachWith, each_none, each_more, Distinct, distinct_none, distinct_more, Accepted}
use Rattle.paper.specs.Fields.{Value, same_value, fields, values_of, differ_from}
use Rattle.paper.specs.Regrouping.{RegroupingAnswer, message_refused, answered, ordinals_of, file_of, pairing, of_payments, all_values, of_outcomes, regrouping, At, Names}
use Rattle.paper.specs.Order.{LowestDifference, Comparable, FineUpTo, AnswerIs, first_refused, second_refused, numbers_differ, not_of_that_form, another_count, too_large, named_before, fields_differ, all_paired}
use Rattle.paper.proofs.Laws.{false_not_true, some_not_none, among_says, all_from, among_member, among_not}
use Rattle.paper_acceptance.proofs.Proper.{Proper, new_proper}
use Rattle.paper_acceptance.proofs.Accepts.{accepted_from, outcome_of}
use Rattle.paper_pairing.proofs.Pairing.{same_value_says, same_value_tests, no_difference, equal_no_difference, Rest, rest_of}
use Rattle.paper_pairing.proofs.Regroups.{at_within, at_values, values_at, each_named, each_within, ordinals_back, back_ordinals, regroups_exactly}

-- the lowest field that differs, from n on
record Lowest (n : ℕ) (v w : List Value) (field : ℕ) : Type 0 where
  same : List Value
  its : Value
  others : Value
  rest : List Value
  others_rest : List Value
  is : v ≡ same ++ (its ∷ rest)
  other_is : w ≡ same ++ (others ∷ others_rest)
  differ : its ≡ others → ⊥
  field_is : field ≡ n + length same

differs_lowest : (n : ℕ) (v w : List Value) (field : ℕ) → length v ≡ length w → differ_from n v w ≡ some field → Lowest n v w field
unfolding differ_from
differs_lowest n [] [] field l e = some_not_none (sym e)
differs_lowest n [] (w ∷ ws) field l e = absurd (omega (arith, l))
differs_lowest n (v ∷ vs) [] field l e = absurd (omega (arith, l))
differs_lowest n (v ∷ vs) (w ∷ ws) field l e = go (same_value v w) refl e (λ f. differs_lowest (suc n) vs ws field (omega (arith, l)) f)
  where
    go : (t : Bool) → same_value v w ≡ t → (if t then differ_from (suc n) vs ws else some n) ≡ some field → (differ_from (suc n) vs ws ≡ some field → Lowest (suc n) vs ws field)
        → Lowest n (v ∷ vs) (w ∷ ws) field
    go true s f below =
        let b = below f in
        let q = same_value_says v w s in
        record {
          same = v ∷ b.same;
          its = b.its;
          others = b.others;
          rest = b.rest;
          others_rest = b.others_rest;
          is = ap (λ (l : List Value). v ∷ l) b.is;
          other_is = ap (λ (l : List Value). w ∷ l) b.other_is ∙ ap (λ (x : Value). x ∷ (b.same ++ (b.others ∷ b.others_rest))) (sym q);
          differ = b.differ;
          field_is = let z = b.field_is in omega (arith, z);
        }
    go false s f below =
        record {
          same = [];
          its = v;
          others = w;
          rest = vs;
          others_rest = ws;
          is = refl;
          other_is = refl;
          differ = λ q. false_not_true (sym s ∙ ap (λ (x : Value). same_value x w) q ∙ same_value_tests w);
          field_is = let z : n ≡ field = cc in omega (arith, z);
        }

lowest_differs : (n : ℕ) (same : List Value) (its others : Value) (rest others_rest : List Value) → (its ≡ others → ⊥)
    → differ_from n (same ++ (its ∷ rest)) (same ++ (others ∷ others_rest)) ≡ some (n + length same)
unfolding differ_from
lowest_differs n [] its others rest others_rest d = go (same_value its others) refl
  where
    go : (t : Bool) → same_value its others ≡ t → (if t then differ_from (suc n) rest others_rest else some n) ≡ some (n + 0)
    go true s = absurd (d (same_value_says its others s))
    go false s = ap some (omega arith)
lowest_differs n (v ∷ same) its others rest others_rest d =
    rw (same_value_tests v) (lowest_differs (suc n) same its others rest others_rest d ∙ ap some (omega arith))

as_lowest : {one other : Payment} {field : ℕ} → Lowest 1 (values_of one) (values_of other) field → LowestDifference one other field
as_lowest w =
    record {
      equal_before = w.same;
      its_value = w.its;
      others_value = w.others;
      behind = w.rest;
      others_behind = w.others_rest;
      values_are = w.is;
      others_are = w.other_is;
      differs = w.differ;
      field_is = let z = w.field_is in omega (arith, z);
    }

-- every payment has seventeen values
seventeen : (p : Payment) → length (values_of p) ≡ 17
unfolding values_of fields
seventeen p = refl

-- lists that grow at their end
distinct_last : {ks : List ℕ} {o : ℕ} → Distinct ks → (Memᴰ o ks → ⊥) → Distinct (ks ++ (o ∷ []))
distinct_last distinct_none n = distinct_more (λ m. Memᴰ.not-nil m) distinct_none
distinct_last {o = o} (distinct_more {a = k} {rest = ks} m d) n =
    distinct_more (λ q. ⊎_elim m (λ q. n (Memᴰ.head (sym (Memᴰ.eq_of_singleton q)))) (Memᴰ.append_cases ks q)) (distinct_last d (λ q. n (Memᴰ.tail q)))

each_last : {A B : Type 0} {R : A → B → Type 0} {l : List A} {m : List B} {a : A} {b : B} → EachWith R l m → R a b → EachWith R (l ++ (a ∷ [])) (m ++ (b ∷ []))
each_last each_none r = each_more r each_none
each_last (each_more q h) r = each_more q (each_last h r)

-- the ordinals that were named, as the walk keeps them: the last one first
back : (done named : List ℕ) → List ℕ
back [] named = named
back (o ∷ done) named = back done (o ∷ named)

back_last : (done : List ℕ) (o : ℕ) (named : List ℕ) → back (done ++ (o ∷ [])) named ≡ o ∷ back done named
unfolding back
back_last [] o named = refl
back_last (x ∷ done) o named = back_last done o (x ∷ named)

back_in : (done named : List ℕ) {o : ℕ} → Memᴰ o (back done named) → Memᴰ o done ⊎ Memᴰ o named
unfolding back
back_in [] named m = inr m
back_in (x ∷ done) named m =
    ⊎_elim (λ q. inl (Memᴰ.tail q)) (λ q. ⊎_elim (λ e. inl (Memᴰ.head e)) (λ q. inr q) (Memᴰ.cases_cons q)) (back_in done (x ∷ named) m)

in_back : (done named : List ℕ) {o : ℕ} → Memᴰ o done ⊎ Memᴰ o named → Memᴰ o (back done named)
unfolding back
in_back [] named m = ⊎_elim (λ q. absurd (Memᴰ.not-nil q)) (λ q. q) m
in_back (x ∷ done) named m =
    in_back done (x ∷ named)
    (⊎_elim (λ q. ⊎_elim (λ e. inr (Memᴰ.head e)) (λ q. inl q) (Memᴰ.cases_cons q)) (λ q. inr (Memᴰ.tail q)) m)

only_done : {done : List ℕ} {o : ℕ} → Memᴰ o (back done []) → Memᴰ o done
only_done {done} m = ⊎_elim (λ q. q) (λ q. absurd (Memᴰ.not-nil q)) (back_in done [] m)

-- The walk passes over pairs that are as they should be.
passes_over : (first : List (List Value)) (k : ℕ) (named done os : List ℕ) (earlier ps : List (List Value)) → Rest first named done earlier
    → pairing first k named (done ++ os) (earlier ++ ps) ≡ pairing first (k + length done) (back done named) os ps
unfolding back pairing
passes_over first k named [] os [] ps r = ap (λ (n : ℕ). pairing first n named os ps) (omega arith)
passes_over first k named [] os (p ∷ earlier) ps r = elim r.names [ ]
passes_over first k named (o ∷ done) os [] ps r = elim r.names [ ]
passes_over first k named (o ∷ done) os (p ∷ earlier) ps r =
    let q = rest_of first r in
    let e : differ_from 1 (get_or first o []) p ≡ none = ap (λ (v : List Value). differ_from 1 v p) q.2 ∙ equal_no_difference 1 p in
    go (lt-ltb o (length first) q.0) (among_not o named q.1) e (passes_over first (suc k) (o ∷ named) done os earlier ps q.3) ∙
    ap (λ (n : ℕ). pairing first n (back done (o ∷ named)) os ps) (omega arith)
  where
    go : {s t : Bool} {d : Option ℕ} {a : RegroupingAnswer} → s ≡ true → t ≡ false → d ≡ none → pairing first (suc k) (o ∷ named) (done ++ os) (earlier ++ ps) ≡ a
        → ◌≡◌ {A = RegroupingAnswer}
        (if not s then answered 18 k 0 else
        if t then answered 19 k 0 else
        elim d [ some field ↦ answered 20 k field | none ↦ pairing first (suc k) (o ∷ named) (done ++ os) (earlier ++ ps) ]) a
    go a b c e = rw (a, b, c) e

module _ (profile : Profile) (proper : Proper profile) (first second file : List ℕ) where
  -- what the walk answers: one of 18 to 20 as it should, or acceptance
  abbrev Answers : RegroupingAnswer → Type 0
  Answers a = AnswerIs profile first second file a ⊎ (a ≡ answered 0 0 0)

  module _ (c : Comparable profile first second file) where
    abbrev ones : List Payment
    ones = payments c.first_accepted.root

    abbrev others : List Payment
    others = payments c.second_accepted.root

    walks_on : (done : List ℕ) (earlier : List Payment) (os : List ℕ) (later : List Payment) → file ≡ file_of (done ++ os) → length (done ++ os) ≡ length ones
        → others ≡ earlier ++ later → length os ≡ length later → Distinct done → EachWith (Names ones) done earlier
        → Answers (pairing (map values_of ones) (length done) (back done []) os (map values_of later))
    unfolding pairing
    walks_on done earlier [] [] f l s m d e = inr refl
    walks_on done earlier [] (q ∷ later) f l s m d e = absurd (omega (arith, m))
    walks_on done earlier (o ∷ os) [] f l s m d e = absurd (omega (arith, m))
    walks_on done earlier (o ∷ os) (q ∷ later) f l s m d e =
        go (ltb o (length (map values_of ones))) refl (among o (back done [])) refl (differ_from 1 (get_or (map values_of ones) o []) (values_of q)) refl
        (λ n v.
        subst (λ (k : ℕ). Answers (pairing (map values_of ones) k (o ∷ back done []) os (map values_of later))) (length-append done (o ∷ []) ∙ omega arith)
        (subst (λ (l : List ℕ). Answers (pairing (map values_of ones) (length (done ++ (o ∷ []))) l os (map values_of later))) (back_last done o [])
        (walks_on (done ++ (o ∷ [])) (earlier ++ (q ∷ [])) os later (f ∙ ap file_of (sym (append_assoc done (o ∷ []) os)))
        (ap length (append_assoc done (o ∷ []) os) ∙ l) (s ∙ sym (append_assoc earlier (q ∷ []) later)) (omega (arith, m)) (distinct_last d n) (each_last e v))))
      where
        here : FineUpTo profile first second file (length done)
        here =
            record {
              comparable = c;
              before = done;
              ordinal = o;
              behind = os;
              well_formed = f;
              as_many = l;
              earlier = earlier;
              other = q;
              later = later;
              second_is = s;
              k_is = refl;
              once = d;
              paired = e;
            }

        not_done : among o (back done []) ≡ false → Memᴰ o done → ⊥
        not_done r m = false_not_true (sym r ∙ among_member (in_back done [] (inl m)))

        go : (x : Bool) → ltb o (length (map values_of ones)) ≡ x → (y : Bool) → among o (back done []) ≡ y
            → (z : Option ℕ) → differ_from 1 (get_or (map values_of ones) o []) (values_of q) ≡ z
            → ((Memᴰ o done → ⊥) → Names ones o q → Answers (pairing (map values_of ones) (suc (length done)) (o ∷ back done []) os (map values_of later)))
            → Answers
            (if not x then answered 18 (length done) 0 else
            if y then answered 19 (length done) 0 else
            elim z [ some field ↦ answered 20 (length done) field | none ↦ pairing (map values_of ones) (suc (length done)) (o ∷ back done []) os (map values_of later) ])
        go false p y r z t below = let n = ltb-false o (length (map values_of ones)) p in inl (too_large here (omega (arith, n, length-map ones values_of)))
        go true p true r z t below =
            let n = ltb-true o (length (map values_of ones)) p in
            inl (named_before here (omega (arith, n, length-map ones values_of)) (only_done (among_says o (back done []) r)))
        go true p false r (some field) t below =
            let n = ltb-true o (length (map values_of ones)) p in
            let a = values_at ones o (omega (arith, n, length-map ones values_of)) in
            let w = differs_lowest 1 (values_of a.0) (values_of q) field (seventeen a.0 ∙ sym (seventeen q))
            (ap (λ (v : List Value). differ_from 1 v (values_of q)) (sym (at_values a.1)) ∙ t) in
            inl (fields_differ here (not_done r) a.0 a.1 (as_lowest w))
        go true p false r none t below =
            let n = ltb-true o (length (map values_of ones)) p in
            let a = values_at ones o (omega (arith, n, length-map ones values_of)) in
            below (not_done r) (record { one = a.0; is_named = a.1; equal = sym (at_values a.1) ∙ no_difference 1 (get_or (map values_of ones) o []) (values_of q) t })

  -- an answer, whatever the messages and the list
  in_order : All (λ b. b < 256) file → Answers (regrouping profile first second file)
  unfolding regrouping of_outcomes of_payments all_values back accepted_from
  in_order bytes = go (outcome_alone profile first) refl (outcome_alone (as_new profile) second) refl
    where
      counted : (c : Comparable profile first second file) (os : List ℕ) → file ≡ file_of os → (t : Bool) → eqb (length os) (length (map values_of (ones c))) ≡ t
          → Answers (if t then pairing (map values_of (ones c)) 0 [] os (map values_of (others c)) else answered 17 0 0)
      counted c os f false e =
          let n = eqb-false (length os) (length (map values_of (ones c))) e in
          inl (another_count c os f (λ l. n (l ∙ sym (length-map (ones c) values_of))))
      counted c os f true e =
          let l = eqb-true (length os) (length (map values_of (ones c))) e ∙ length-map (ones c) values_of in
          walks_on c [] [] os (others c) f l refl (l ∙ c.equally_many) distinct_none each_none

      of_list : (c : Comparable profile first second file) (o : Option (List ℕ)) → ordinals_of file ≡ o
          → Answers
          (elim o [
            | none ↦ answered 16 0 0
            | some os ↦ if eqb (length os) (length (map values_of (ones c))) then pairing (map values_of (ones c)) 0 [] os (map values_of (others c)) else answered 17 0 0
          ])
      of_list c none e = inl (not_of_that_form c (λ os f. some_not_none (sym (ordinals_back os) ∙ ap ordinals_of (sym f) ∙ e)))
      of_list c (some os) e = counted c os (back_ordinals file os bytes e) (eqb (length os) (length (map values_of (ones c)))) refl

      of_both : (a : Accepted profile first) (b : Accepted (as_new profile) second) (t : Bool)
          → eqb (length (map values_of (payments a.root))) (length (map values_of (payments b.root))) ≡ t
          → Answers
          (if not t then answered 15 0 0 else
          elim (ordinals_of file) [
            | none ↦ answered 16 0 0
            | some os ↦
                if eqb (length os) (length (map values_of (payments a.root)))
                then pairing (map values_of (payments a.root)) 0 [] os (map values_of (payments b.root)) else answered 17 0 0
          ])
      of_both a b false e =
          let n = eqb-false (length (map values_of (payments a.root))) (length (map values_of (payments b.root))) e in
          inl (numbers_differ a b (λ l. n (length-map (payments a.root) values_of ∙ l ∙ sym (length-map (payments b.root) values_of))))
      of_both a b true e =
          let l = eqb-true (length (map values_of (payments a.root))) (length (map values_of (payments b.root))) e in
          of_list
          (record {
            first_accepted = a;
            second_accepted = b;
            equally_many = sym (length-map (payments a.root) values_of) ∙ l ∙ length-map (payments b.root) values_of;
          })
          (ordinals_of file) refl

      go : (o : Outcome) → outcome_alone profile first ≡ o → (q : Outcome) → outcome_alone (as_new profile) second ≡ q → Answers (of_outcomes o q file)
      go (refused_as r) a q b = inl (first_refused a)
      go (accepted_with t) a (refused_as r) b = inl (second_refused (accepted_from profile proper first t a) b)
      go (accepted_with t) a (accepted_with u) b =
          of_both (accepted_from profile proper first t a) (accepted_from (as_new profile) (new_proper proper) second u b)
          (eqb (length (map values_of (payments t))) (length (map values_of (payments u)))) refl

  -- what is computed of two messages that are accepted
  both_accepted : (a : Accepted profile first) (b : Accepted (as_new profile) second)
      → regrouping profile first second file ≡ of_payments (map values_of (payments a.root)) (map values_of (payments b.root)) file
  unfolding regrouping of_outcomes all_values
  both_accepted a b = go (outcome_of profile proper first a) (outcome_of (as_new profile) (new_proper proper) second b)
    where
      go : {o q : Outcome} → o ≡ accepted_with a.root → q ≡ accepted_with b.root
          → of_outcomes o q file ≡ of_payments (map values_of (payments a.root)) (map values_of (payments b.root)) file
      go e f = rw (e, f)

  module _ (c : Comparable profile first second file) where
    as_many_both : length (map values_of (ones c)) ≡ length (map values_of (others c))
    as_many_both = length-map (ones c) values_of ∙ c.equally_many ∙ sym (length-map (others c) values_of)

    -- and of their list
    of_file : (o : Option (List ℕ)) → ordinals_of file ≡ o
        → regrouping profile first second file ≡
        (elim o [
          | none ↦ answered 16 0 0
          | some os ↦ if eqb (length os) (length (map values_of (ones c))) then pairing (map values_of (ones c)) 0 [] os (map values_of (others c)) else answered 17 0 0
        ])
    unfolding of_payments
    of_file o e = both_accepted c.first_accepted c.second_accepted ∙ go (eq-eqb (length (map values_of (ones c))) (length (map values_of (others c))) as_many_both) e
      where
        go : eqb (length (map values_of (ones c))) (length (map values_of (others c))) ≡ true → ordinals_of file ≡ o
            → of_payments (map values_of (ones c)) (map values_of (others c)) file ≡
            (elim o [
              | none ↦ answered 16 0 0
              | some os ↦ if eqb (length os) (length (map values_of (ones c))) then pairing (map values_of (ones c)) 0 [] os (map values_of (others c)) else answered 17 0 0
            ])
        go t e = rw (t, e)

  refused_first : {r : Refusal} → outcome_alone profile first ≡ refused_as r → regrouping profile first second file ≡ message_refused 1 r
  unfolding regrouping of_outcomes
  refused_first e = rw e

  refused_second : {r : Refusal} → Accepted profile first → outcome_alone (as_new profile) second ≡ refused_as r → regrouping profile first second file ≡ message_refused 2 r
  unfolding regrouping of_outcomes
  refused_second a e = rw (outcome_of profile proper first a, e)

  numbers_do_differ : (a : Accepted profile first) (b : Accepted (as_new profile) second) → (length (payments a.root) ≡ length (payments b.root) → ⊥)
      → regrouping profile first second file ≡ answered 15 0 0
  unfolding of_payments
  numbers_do_differ a b n =
      both_accepted a b ∙
      rw (ne_eqb (length (map values_of (payments a.root))) (length (map values_of (payments b.root)))
      (λ l. n (sym (length-map (payments a.root) values_of) ∙ l ∙ length-map (payments b.root) values_of)))

  no_ordinals : All (λ b. b < 256) file → ((os : List ℕ) → file ≡ file_of os → ⊥) → ordinals_of file ≡ none
  no_ordinals bytes n = go (ordinals_of file) refl
    where
      go : (o : Option (List ℕ)) → ordinals_of file ≡ o → o ≡ none
      go none e = refl
      go (some os) e = absurd (n os (back_ordinals file os bytes e))

  is_another_count : (c : Comparable profile first second file) (os : List ℕ) → file ≡ file_of os → (length os ≡ length (ones c) → ⊥)
      → regrouping profile first second file ≡ answered 17 0 0
  is_another_count c os f n =
      of_file c (some os) (ap ordinals_of f ∙ ordinals_back os) ∙
      rw (ne_eqb (length os) (length (map values_of (ones c))) (λ l. n (l ∙ length-map (ones c) values_of)))

  module _ {k : ℕ} (u : FineUpTo profile first second file k) where
    abbrev named_first : List (List Value)
    named_first = map values_of (ones u.comparable)

    fine_rest : Rest named_first [] u.before (map values_of u.earlier)
    fine_rest =
        record {
          within = subst (λ (n : ℕ). All (λ o. o < n) u.before) (sym (length-map (ones u.comparable) values_of)) (each_within (ones u.comparable) u.paired);
          once = u.once;
          not_before = all_from (λ o m n. Memᴰ.not-nil n);
          names = each_named (ones u.comparable) u.paired;
        }

    -- the walk comes to the k-th pair
    comes_to : regrouping profile first second file ≡ pairing named_first k (back u.before []) (u.ordinal ∷ u.behind) (values_of u.other ∷ map values_of u.later)
    comes_to =
        let os = u.before ++ (u.ordinal ∷ u.behind) in
        let counts = eq-eqb (length os) (length named_first) (u.as_many ∙ sym (length-map (ones u.comparable) values_of)) in
        of_file u.comparable (some os) (ap ordinals_of u.well_formed ∙ ordinals_back os) ∙
        counted _ _ counts ∙
        ap (λ (l : List (List Value)). pairing named_first 0 [] os l) (ap (map values_of) u.second_is ∙ map-append values_of u.earlier (u.other ∷ u.later)) ∙
        passes_over named_first 0 [] u.before (u.ordinal ∷ u.behind) (map values_of u.earlier) (values_of u.other ∷ map values_of u.later) fine_rest ∙
        ap (λ (n : ℕ). pairing named_first n (back u.before []) (u.ordinal ∷ u.behind) (values_of u.other ∷ map values_of u.later)) (let z = u.k_is in omega (arith, z))
      where
        counted : {t : Bool} (a b : RegroupingAnswer) → t ≡ true → (if t then a else b) ≡ a
        counted a b e = rw e

    -- 18: the ordinal is too large; 19: it was named before; 20: a field differs
    is_too_large : length (ones u.comparable) ≤ u.ordinal → regrouping profile first second file ≡ answered 18 k 0
    unfolding pairing
    is_too_large l = comes_to ∙ rw (le-ltb u.ordinal (length named_first) (omega (arith, l, length-map (ones u.comparable) values_of)))

    within : u.ordinal < length (ones u.comparable) → ltb u.ordinal (length named_first) ≡ true
    within l = lt-ltb u.ordinal (length named_first) (omega (arith, l, length-map (ones u.comparable) values_of))

    is_named_before : u.ordinal < length (ones u.comparable) → Memᴰ u.ordinal u.before → regrouping profile first second file ≡ answered 19 k 0
    unfolding pairing
    is_named_before l m = comes_to ∙ rw (within l, among_member (in_back u.before [] (inl m)))

    differs_at : {field : ℕ} → (Memᴰ u.ordinal u.before → ⊥) → (one : Payment) → At (ones u.comparable) u.ordinal one → LowestDifference one u.other field
        → regrouping profile first second file ≡ answered 20 k field
    unfolding pairing
    differs_at {field} n one a d =
        let e : differ_from 1 (get_or named_first u.ordinal []) (values_of u.other) ≡ some field =
        ap (λ (v : List Value). differ_from 1 v (values_of u.other)) (at_values a ∙ d.values_are) ∙
        ap (λ (w : List Value). differ_from 1 (d.equal_before ++ (d.its_value ∷ d.behind)) w) d.others_are ∙
        lowest_differs 1 d.equal_before d.its_value d.others_value d.behind d.others_behind d.differs ∙ ap some (let z = d.field_is in omega (arith, z)) in
        comes_to ∙ rw (within (at_within a), among_not u.ordinal (back u.before []) (λ m. n (only_done m)), e)

  -- The answer is the first by the order of the checks, and no other is.
  pub answers_in_order : All (λ b. b < 256) file → (a : RegroupingAnswer) → AnswerIs profile first second file a ↔ (a ≡ regrouping profile first second file)
  answers_in_order bytes a = (there, λ e. subst (λ (b : RegroupingAnswer). AnswerIs profile first second file b) (sym e) (⊎_elim (λ h. h) (λ z. accepted z) (in_order bytes)))
    where
      accepted : regrouping profile first second file ≡ answered 0 0 0 → AnswerIs profile first second file (regrouping profile first second file)
      accepted z = subst (λ (b : RegroupingAnswer). AnswerIs profile first second file b) (sym z) (all_paired ((regroups_exactly profile proper first second file bytes).0 z))

      there : {a : RegroupingAnswer} → AnswerIs profile first second file a → a ≡ regrouping profile first second file
      there (first_refused e) = sym (refused_first e)
      there (second_refused a e) = sym (refused_second a e)
      there (numbers_differ a b n) = sym (numbers_do_differ a b n)
      there (not_of_that_form c n) = sym (of_file c none (no_ordinals bytes n))
      there (another_count c os f n) = sym (is_another_count c os f n)
      there (too_large u l) = sym (is_too_large u l)
      there (named_before u l m) = sym (is_named_before u l m)
      there (fields_differ u n one at d) = sym (differs_at u n one at d)
      there (all_paired r) = sym ((regroups_exactly profile proper first second file bytes).1 r)
