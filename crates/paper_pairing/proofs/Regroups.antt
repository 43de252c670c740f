-- Demand 3 on the definitions: a regrouping is accepted exactly where `Regroups` holds; and for two accepted messages an acceptable list exists exactly
-- where every payment, taken as its seventeen fields, stands equally often in both.
use Rattle.std.specs.Prelude.{if◌then◌else◌}
use Prim.Native.Nat.{ℕ, zero, suc, ◌+◌, ◌*◌, ◌≤◌, ◌<◌}
use native.Mathlib.Omega.{arith}
use mathlib.Core.List.{List, [], ◌∷◌, ◌++◌, map}
use mathlib.Core.Bool.{Bool, true, false, ◌&&◌, not}
use mathlib.Core.Option.{Option, none, some}
use mathlib.Core.Path.{◌≡◌, refl, sym, ◌∙◌, ap, subst}
use mathlib.Core.Logic.{◌↔◌}
use lib.ListN.{length, get_or, take, drop, length-map, take-append-drop}
use lib.Dec.{eqb}
use borrow.Author.Tests.{eqb-true, eq-eqb}
use Rattle.paper.specs.Bytes.{bytes, same, each}
use Rattle.paper.specs.Form.{Element}
use Rattle.paper.specs.Rows.{Profile, as_new}
use Rattle.paper.specs.Payments.{Payment, payments}
use Rattle.paper.specs.Refusals.{Refusal, Outcome, refused_as, accepted_with, outcome_alone}
use Rattle.paper.specs.Accepted.{All, all_none, all_more, EachWith, each_none, each_more, Accepted}
use Rattle.paper.specs.Fields.{Value, values_of}
use Rattle.paper.specs.Regrouping.{RegroupingAnswer, message_refused, answered, add_first, numbers_16, counted, ordinals_of, two_bytes, file_of, same_payment, often, pairing, of_payments, all_values, of_outcomes, regrouping, At, at_first, at_later, Names, Regroups, AcceptableList, EquallyOften}
use Rattle.paper.proofs.Laws.{some_not_none, both_left, both_right, same_says, all_map, all_from}
use Rattle.paper_acceptance.proofs.Proper.{Proper, new_proper}
use Rattle.paper_acceptance.proofs.Accepts.{accepted_from, outcome_of}
use Rattle.paper_pairing.proofs.Counting as counting
use Rattle.paper_pairing.proofs.Counting.{count, names_none, names_more, Pairs, paired_counts, counts_paired, every_ordinal}
use Rattle.paper_pairing.proofs.Pairing.{same_payment_says, same_payment_tests, pairing_rest, rest_pairing}
use Rattle.paper_pairing.proofs.Files.{two_again, file_bytes}

-- the pairing of payments, taken as their values
abbrev NamedAs : (first : List (List Value)) (os : List ℕ) (second : List (List Value)) → Type 0
NamedAs first os second = counting.Names same_payment same_payment_says same_payment_tests [] first os second

abbrev PairedAs : (first : List (List Value)) (os : List ℕ) (second : List (List Value)) → Type 0
PairedAs first os second = Pairs same_payment same_payment_says same_payment_tests [] first os second

pub as_many_values : (root : Element) → length (all_values root) ≡ length (payments root)
unfolding all_values
as_many_values root = length-map (payments root) values_of

-- an ordinal names a payment exactly where it is within and the payment there has the same values
pub at_within : {A : Type 0} {l : List A} {o : ℕ} {a : A} → At l o a → o < length l
at_within at_first = omega arith
at_within (at_later h) = let k = at_within h in omega arith

pub at_values : {l : List Payment} {o : ℕ} {p : Payment} → At l o p → get_or (map values_of l) o [] ≡ values_of p
at_values at_first = refl
at_values (at_later h) = at_values h

pub values_at : (l : List Payment) (o : ℕ) → o < length l → (p : Payment) × At l o p
values_at [] o h = absurd (omega arith)
values_at (p ∷ l) zero h = (p, at_first)
values_at (p ∷ l) (suc o) h = let r = values_at l o (omega arith) in (r.0, at_later r.1)

pub each_named : (first : List Payment) {os : List ℕ} {second : List Payment} → EachWith (Names first) os second → NamedAs (map values_of first) os (map values_of second)
each_named first each_none = names_none
each_named first (each_more n h) = names_more (at_values n.is_named ∙ n.equal) (each_named first h)

pub each_within : (first : List Payment) {os : List ℕ} {second : List Payment} → EachWith (Names first) os second → All (λ o. o < length first) os
each_within first each_none = all_none
each_within first (each_more n h) = all_more (at_within n.is_named) (each_within first h)

each_many : {A B : Type 0} {R : A → B → Type 0} {l : List A} {m : List B} → EachWith R l m → length l ≡ length m
each_many each_none = refl
each_many (each_more r h) = ap suc (each_many h)

named_each : (first second : List Payment) {os : List ℕ} → All (λ o. o < length first) os → NamedAs (map values_of first) os (map values_of second) → EachWith (Names first) os second
named_each first [] all_none n = each_none
named_each first [] (all_more w h) n = elim n [ ]
named_each first (q ∷ second) all_none n = elim n [ ]
named_each first (q ∷ second) (all_more {a = o} w h) (names_more e n) =
    let r = values_at first o w in
    each_more (record { one = r.0; is_named = r.1; equal = sym (at_values r.1) ∙ e }) (named_each first second h n)

names_length : {first : List (List Value)} {os : List ℕ} {second : List (List Value)} → NamedAs first os second → length os ≡ length second
names_length names_none = refl
names_length (names_more e n) = ap suc (names_length n)

-- The file of some ordinals is read back as they are; and a file of bytes that is read as some ordinals is theirs.
numbers_back : (ns : List ℕ) → numbers_16 (each two_bytes ns) ≡ some ns
unfolding numbers_16 each two_bytes add_first
numbers_back [] = refl
numbers_back (n ∷ ns) = rw (numbers_back ns) (ap (λ (m : ℕ). some (m ∷ ns)) (omega arith))

pub ordinals_back : (os : List ℕ) → ordinals_of (file_of os) ≡ some os
unfolding ordinals_of file_of bytes same counted
ordinals_back os = go (numbers_back (1 ∷ length os ∷ os))
  where
    go : {o : Option (List ℕ)} → o ≡ some (1 ∷ length os ∷ os) → ◌≡◌ {A = Option (List ℕ)} (elim o [ none ↦ none | some ns ↦ counted ns ]) (some os)
    go e = rw (e, eq-eqb (length os) (length os) refl)

back_numbers : (s : List ℕ) → All (λ b. b < 256) s → (ns : List ℕ) → numbers_16 s ≡ some ns → s ≡ each two_bytes ns
unfolding numbers_16 each add_first
back_numbers [] h ns e = go ns e
  where
    go : (ns : List ℕ) → some [] ≡ some ns → [] ≡ each two_bytes ns
    go [] e = refl
    go (n ∷ ns) e = let z : [] ≡ n ∷ ns = cc in let y : ◌≡◌ {A = ℕ} 0 1 = cc in absurd (omega (arith, y))
back_numbers (high ∷ []) h ns e = some_not_none (sym e)
back_numbers (high ∷ low ∷ s) (all_more a (all_more b h)) ns e = go (numbers_16 s) refl (λ ms f. back_numbers s h ms f) e
  where
    go : (o : Option (List ℕ)) → numbers_16 s ≡ o → ((ms : List ℕ) → numbers_16 s ≡ some ms → s ≡ each two_bytes ms) → add_first (high * 256 + low) o ≡ some ns
        → high ∷ low ∷ s ≡ each two_bytes ns
    go none p below q = some_not_none (sym q)
    go (some ms) p below q =
        let z : (high * 256 + low) ∷ ms ≡ ns = cc in
        ap (λ (l : List ℕ). high ∷ low ∷ l) (below ms p) ∙ ap (λ (l : List ℕ). l ++ each two_bytes ms) (sym (two_again high low b)) ∙ ap (each two_bytes) z

all_drop : {P : ℕ → Type 0} (k : ℕ) {s : List ℕ} → All P s → All P (drop k s)
all_drop zero h = h
all_drop (suc k) all_none = all_none
all_drop (suc k) (all_more p h) = all_drop k h

pub back_ordinals : (file os : List ℕ) → All (λ b. b < 256) file → ordinals_of file ≡ some os → file ≡ file_of os
unfolding ordinals_of file_of counted
back_ordinals file os h e = go (same (take 3 file) (bytes "RGL")) refl (numbers_16 (drop 3 file)) refl e
  where
    right : (ns : List ℕ) → counted ns ≡ some os → ns ≡ 1 ∷ length os ∷ os
    right [] f = some_not_none (sym f)
    right (v ∷ []) f = some_not_none (sym f)
    right (v ∷ c ∷ ms) f = check (eqb v 1 && eqb c (length ms)) refl f
      where
        check : (t : Bool) → (eqb v 1 && eqb c (length ms)) ≡ t → (if t then some ms else none) ≡ some os → v ∷ c ∷ ms ≡ 1 ∷ length os ∷ os
        check false p q = some_not_none (sym q)
        check true p q =
            let z : ms ≡ os = cc in
            same_three (eqb-true v 1 (both_left (eqb v 1) _ p)) (eqb-true c (length ms) (both_right (eqb v 1) _ p) ∙ ap length z) z
          where
            same_three : {b d : ℕ} {l : List ℕ} → v ≡ b → c ≡ d → ms ≡ l → v ∷ c ∷ ms ≡ b ∷ d ∷ l
            same_three x y z = cc

    go : (t : Bool) → same (take 3 file) (bytes "RGL") ≡ t → (o : Option (List ℕ)) → numbers_16 (drop 3 file) ≡ o
        → ◌≡◌ {A = Option (List ℕ)} (if t then elim o [ none ↦ none | some ns ↦ counted ns ] else none) (some os) → file ≡ bytes "RGL" ++ each two_bytes (1 ∷ length os ∷ os)
    go false p o q f = some_not_none (sym f)
    go true p none q f = some_not_none (sym f)
    go true p (some ns) q f =
        sym (take-append-drop 3 file) ∙ ap (λ (l : List ℕ). l ++ drop 3 file) (same_says (take 3 file) (bytes "RGL") p) ∙
        ap (λ (l : List ℕ). bytes "RGL" ++ l) (back_numbers (drop 3 file) (all_drop 3 h) ns q ∙ ap (each two_bytes) (right ns f))

-- what the list must be, for the payments of two messages
record Listed (first second : List (List Value)) (file : List ℕ) : Type 0 where
  ordinals : List ℕ
  read_as : ordinals_of file ≡ some ordinals
  equally_many : length first ≡ length second
  pairs : PairedAs first ordinals second

not_accepted : {A : Type 0} (n k f : ℕ) → 0 < n → answered n k f ≡ answered 0 0 0 → A
unfolding answered
not_accepted n k f h e = let z : n ≡ 0 = ap (λ (a : RegroupingAnswer). a.number) e in absurd (omega (arith, z))

accepted-listed : (first second : List (List Value)) (file : List ℕ) → of_payments first second file ≡ answered 0 0 0 → Listed first second file
unfolding of_payments
accepted-listed first second file e = go (eqb (length first) (length second)) refl (ordinals_of file) refl e
  where
    listed : (os : List ℕ) → ordinals_of file ≡ some os → length first ≡ length second → (t : Bool) → eqb (length os) (length first) ≡ t
        → (if t then pairing first 0 [] os second else answered 17 0 0) ≡ answered 0 0 0 → Listed first second file
    listed os o m false p q = not_accepted 17 0 0 (omega arith) q
    listed os o m true p q =
        let r = pairing_rest first 0 [] os second q in
        record {
          ordinals = os;
          read_as = o;
          equally_many = m;
          pairs = record { as_many = eqb-true (length os) (length first) p; within = r.within; once = r.once; names = r.names };
        }

    go : (s : Bool) → eqb (length first) (length second) ≡ s → (o : Option (List ℕ)) → ordinals_of file ≡ o
        → ◌≡◌ {A = RegroupingAnswer}
        (if not s then answered 15 0 0 else
        elim o [
          | none ↦ answered 16 0 0
          | some ordinals ↦ if eqb (length ordinals) (length first) then pairing first 0 [] ordinals second else answered 17 0 0
        ]) (answered 0 0 0)
        → Listed first second file
    go false a o b c = not_accepted 15 0 0 (omega arith) c
    go true a none b c = not_accepted 16 0 0 (omega arith) c
    go true a (some os) b c = listed os b (eqb-true _ _ a) (eqb (length os) (length first)) refl c

listed-accepted : (first second : List (List Value)) (file : List ℕ) → Listed first second file → of_payments first second file ≡ answered 0 0 0
unfolding of_payments
listed-accepted first second file l =
    let p = l.pairs in
    go (eq-eqb (length first) (length second) l.equally_many) l.read_as (eq-eqb (length l.ordinals) (length first) p.as_many)
    (rest_pairing first 0 [] l.ordinals second
    (record { within = p.within; once = p.once; not_before = all_from (λ o m n. elim n [ ]); names = p.names }))
  where
    go : {s : Bool} {o : Option (List ℕ)} → s ≡ true → o ≡ some l.ordinals → eqb (length l.ordinals) (length first) ≡ true
        → pairing first 0 [] l.ordinals second ≡ answered 0 0 0
        → ◌≡◌ {A = RegroupingAnswer}
        (if not s then answered 15 0 0 else
        elim o [
          | none ↦ answered 16 0 0
          | some ordinals ↦ if eqb (length ordinals) (length first) then pairing first 0 [] ordinals second else answered 17 0 0
        ]) (answered 0 0 0)
    go a b c d = rw (a, b, c) d

whose_one : {A : Type 0} (w : ℕ) (r : Refusal) → 0 < w → message_refused w r ≡ answered 0 0 0 → A
unfolding message_refused answered
whose_one w r h e = let z : w ≡ 0 = ap (λ (a : RegroupingAnswer). a.whose) e in absurd (omega (arith, z))

module _ (profile : Profile) (proper : Proper profile) where
  -- a list as `Regroups` says it
  module _ (first second file : List ℕ) where
    regroups : (a : Accepted profile first) (b : Accepted (as_new profile) second) (l : Listed (all_values a.root) (all_values b.root) file) → file ≡ file_of l.ordinals
        → Regroups profile first second file
    unfolding all_values
    regroups a b l f =
        let p = l.pairs in
        let m = as_many_values a.root in
        let w : All (λ o. o < length (payments a.root)) l.ordinals = subst (λ (n : ℕ). All (λ o. o < n) l.ordinals) m p.within in
        record {
          first_accepted = a;
          second_accepted = b;
          equally_many = sym m ∙ l.equally_many ∙ as_many_values b.root;
          ordinals = l.ordinals;
          well_formed = f;
          every_payment = every_ordinal (length (payments a.root)) l.ordinals (p.as_many ∙ m) w p.once;
          once = p.once;
          paired = named_each (payments a.root) (payments b.root) w p.names;
        }

    listed : (r : Regroups profile first second file) → Listed (all_values r.first_accepted.root) (all_values r.second_accepted.root) file
    unfolding all_values
    listed r =
        let m = as_many_values r.first_accepted.root in
        let n = as_many_values r.second_accepted.root in
        record {
          ordinals = r.ordinals;
          read_as = ap ordinals_of r.well_formed ∙ ordinals_back r.ordinals;
          equally_many = m ∙ r.equally_many ∙ sym n;
          pairs = record {
            as_many = each_many r.paired ∙ sym r.equally_many ∙ sym m;
            within = subst (λ (k : ℕ). All (λ o. o < k) r.ordinals) (sym m) (each_within (payments r.first_accepted.root) r.paired);
            once = r.once;
            names = each_named (payments r.first_accepted.root) r.paired;
          };
        }

    accepted_regroups : All (λ b. b < 256) file → regrouping profile first second file ≡ answered 0 0 0 → Regroups profile first second file
    unfolding regrouping of_outcomes accepted_from
    accepted_regroups h e = go (outcome_alone profile first) refl (outcome_alone (as_new profile) second) refl e
      where
        go : (o : Outcome) → outcome_alone profile first ≡ o → (q : Outcome) → outcome_alone (as_new profile) second ≡ q → of_outcomes o q file ≡ answered 0 0 0
            → Regroups profile first second file
        go (refused_as r) a q b c = whose_one 1 r (omega arith) c
        go (accepted_with t) a (refused_as r) b c = whose_one 2 r (omega arith) c
        go (accepted_with t) a (accepted_with u) b c =
            let l = accepted-listed (all_values t) (all_values u) file c in
            regroups (accepted_from profile proper first t a) (accepted_from (as_new profile) (new_proper proper) second u b) l (back_ordinals file l.ordinals h l.read_as)

    regroups_accepted : Regroups profile first second file → regrouping profile first second file ≡ answered 0 0 0
    unfolding regrouping of_outcomes
    regroups_accepted r =
        go (outcome_of profile proper first r.first_accepted) (outcome_of (as_new profile) (new_proper proper) second r.second_accepted)
        (listed-accepted (all_values r.first_accepted.root) (all_values r.second_accepted.root) file (listed r))
      where
        go : {o q : Outcome} → o ≡ accepted_with r.first_accepted.root → q ≡ accepted_with r.second_accepted.root
            → of_payments (all_values r.first_accepted.root) (all_values r.second_accepted.root) file ≡ answered 0 0 0
            → of_outcomes o q file ≡ answered 0 0 0
        go a b c = rw (a, b) c

    -- A regrouping is accepted exactly as demand 3 says, for any list of bytes.
    pub regroups_exactly : All (λ b. b < 256) file → regrouping profile first second file ≡ answered 0 0 0 ↔ Regroups profile first second file
    regroups_exactly h = (accepted_regroups h, regroups_accepted)

  -- an accepted message has one root
  same_root : (s : List ℕ) (a b : Accepted profile s) → a.root ≡ b.root
  same_root s a b = let e : accepted_with a.root ≡ accepted_with b.root = sym (outcome_of profile proper s a) ∙ outcome_of profile proper s b in cc

-- `often` counts
abbrev counted_as : List Value → List (List Value) → ℕ
counted_as v l = count same_payment same_payment_says same_payment_tests v l

often_counts : (p : List Value) (l : List (List Value)) → often p l ≡ counted_as p l
unfolding often count
often_counts p [] = refl
often_counts p (q ∷ l) = rw (often_counts p l)

-- For two accepted messages an acceptable list exists exactly where every payment stands equally often in both.
module _ (profile : Profile) (proper : Proper profile) (first second : List ℕ) (a : Accepted profile first) (b : Accepted (as_new profile) second) where
  often-list : EquallyOften a.root b.root → AcceptableList profile first second
  unfolding EquallyOften
  often-list h = go (counts_paired same_payment same_payment_says same_payment_tests [] (all_values a.root) (all_values b.root) counts)
    where
      counts : (v : List Value) → counted_as v (all_values a.root) ≡ counted_as v (all_values b.root)
      counts v = sym (often_counts v (all_values a.root)) ∙ h v ∙ often_counts v (all_values b.root)

      go : ((os : List ℕ) × PairedAs (all_values a.root) os (all_values b.root)) → AcceptableList profile first second
      go (os, p) =
          let limit = a.tree.but_counts.limits.few_payments in
          let few : length os ≤ 64 = omega (arith, p.as_many, as_many_values a.root, limit) in
          record {
            file = file_of os;
            of_bytes = file_bytes os (omega arith) (all_map (λ o k. lower o k) p.within);
            accepted = regroups profile proper first second (file_of os) a b
                (record { ordinals = os; read_as = ordinals_back os; equally_many = sym p.as_many ∙ names_length p.names; pairs = p }) refl;
          }
        where
          lower : (o : ℕ) → o < length (all_values a.root) → o < 65536
          lower o k = omega (arith, as_many_values a.root, a.tree.but_counts.limits.few_payments)

  list-often : AcceptableList profile first second → EquallyOften a.root b.root
  unfolding EquallyOften listed
  list-often l v =
      let r = l.accepted in
      let p = (listed profile proper first second l.file r).pairs in
      often_counts v _ ∙
      subst (λ (t : Element). counted_as v (all_values t) ≡ _) (same_root profile proper first r.first_accepted a)
      (paired_counts same_payment same_payment_says same_payment_tests [] (all_values r.first_accepted.root) r.ordinals
      (all_values r.second_accepted.root) p v) ∙
      ap (λ (t : Element). counted_as v (all_values t)) (same_root (as_new profile) (new_proper proper) second r.second_accepted b) ∙ sym (often_counts v _)

  pub list_exists_exactly : AcceptableList profile first second ↔ EquallyOften a.root b.root
  list_exists_exactly = (list-often, often-list)
