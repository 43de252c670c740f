-- The walk over a list of ordinals refuses nothing exactly where the list pairs the payments of the first message with those of the second.
use Rattle.std.specs.Prelude.{if◌then◌else◌}
use Prim.Native.Nat.{ℕ, suc, ◌<◌}
use native.Mathlib.Omega.{arith}
use mathlib.Core.List.Memᴰ
use mathlib.Core.List.{List, [], ◌∷◌, Memᴰ}
use mathlib.Core.Bool.{Bool, true, false, ◌&&◌, not}
use mathlib.Core.Option.{Option, none, some}
use mathlib.Core.Path.{◌≡◌, refl, sym, ◌∙◌, ap}
use mathlib.Core.Logic.{⊎_elim}
use lib.ListN.{length, get_or}
use lib.Dec.{ltb}
use borrow.Author.Tests.{ltb-true, lt-ltb, eqb-true, eq-eqb}
use Rattle.paper.specs.Bytes.{same}
use Rattle.paper.specs.Values.{among}
use Rattle.paper.specs.Accepted.{All, all_none, all_more, Distinct, distinct_none, distinct_more}
use Rattle.paper.specs.Fields.{Value, absent, a_text, in_cents, free_text, reference, same_issuer, same_value, differ_from}
use Rattle.paper.specs.Regrouping.{RegroupingAnswer, answered, same_payment, pairing}
use Rattle.paper.proofs.Laws.{false_not_true, some_not_none, both, both_left, both_right, same_says, same_tests, all_member, all_map, all_from, among_member, among_not}
use Rattle.paper_pairing.proofs.Counting.{Names, names_none, names_more}

-- equality of values and of payments, by their tests
same_issuer_says : (j i : Option (List ℕ)) → same_issuer j i ≡ true → j ≡ i
unfolding same_issuer
same_issuer_says none none e = refl
same_issuer_says none (some w) e = false_not_true e
same_issuer_says (some v) none e = false_not_true e
same_issuer_says (some v) (some w) e = ap some (same_says v w e)

same_issuer_tests : (j : Option (List ℕ)) → same_issuer j j ≡ true
unfolding same_issuer
same_issuer_tests none = refl
same_issuer_tests (some v) = same_tests v

same_reference : (j : Option (List ℕ)) (u : List ℕ) (i : Option (List ℕ)) (w : List ℕ) → (same u w && same_issuer j i) ≡ true → reference j u ≡ reference i w
same_reference j u i w e = alike (same_says u w (both_left (same u w) _ e)) (same_issuer_says j i (both_right (same u w) _ e))
  where
    alike : u ≡ w → j ≡ i → reference j u ≡ reference i w
    alike p q = cc

pub same_value_says : (v w : Value) → same_value v w ≡ true → v ≡ w
unfolding same_value
same_value_says absent absent e = refl
same_value_says absent (a_text w) e = false_not_true e
same_value_says absent (in_cents n) e = false_not_true e
same_value_says absent (free_text w) e = false_not_true e
same_value_says absent (reference i w) e = false_not_true e
same_value_says (a_text u) absent e = false_not_true e
same_value_says (a_text u) (a_text w) e = ap a_text (same_says u w e)
same_value_says (a_text u) (in_cents n) e = false_not_true e
same_value_says (a_text u) (free_text w) e = false_not_true e
same_value_says (a_text u) (reference i w) e = false_not_true e
same_value_says (in_cents m) absent e = false_not_true e
same_value_says (in_cents m) (a_text w) e = false_not_true e
same_value_says (in_cents m) (in_cents n) e = ap in_cents (eqb-true m n e)
same_value_says (in_cents m) (free_text w) e = false_not_true e
same_value_says (in_cents m) (reference i w) e = false_not_true e
same_value_says (free_text u) absent e = false_not_true e
same_value_says (free_text u) (a_text w) e = false_not_true e
same_value_says (free_text u) (in_cents n) e = false_not_true e
same_value_says (free_text u) (free_text w) e = ap free_text (same_says u w e)
same_value_says (free_text u) (reference i w) e = false_not_true e
same_value_says (reference j u) absent e = false_not_true e
same_value_says (reference j u) (a_text w) e = false_not_true e
same_value_says (reference j u) (in_cents n) e = false_not_true e
same_value_says (reference j u) (free_text w) e = false_not_true e
same_value_says (reference j u) (reference i w) e = same_reference j u i w e

pub same_value_tests : (v : Value) → same_value v v ≡ true
unfolding same_value
same_value_tests absent = refl
same_value_tests (a_text w) = same_tests w
same_value_tests (in_cents n) = eq-eqb n n refl
same_value_tests (free_text w) = same_tests w
same_value_tests (reference i w) = both (same_tests w) (same_issuer_tests i)

-- no field differs exactly where the payments are equal
pub no_difference : (n : ℕ) (v w : List Value) → differ_from n v w ≡ none → v ≡ w
unfolding differ_from
no_difference n [] [] e = refl
no_difference n [] (w ∷ ws) e = some_not_none e
no_difference n (v ∷ vs) [] e = some_not_none e
no_difference n (v ∷ vs) (w ∷ ws) e = go (same_value v w) refl e (λ f. no_difference (suc n) vs ws f)
  where
    go : (t : Bool) → same_value v w ≡ t → (if t then differ_from (suc n) vs ws else some n) ≡ none → (differ_from (suc n) vs ws ≡ none → vs ≡ ws) → v ∷ vs ≡ w ∷ ws
    go true s f below = cons (same_value_says v w s) (below f)
      where
        cons : v ≡ w → vs ≡ ws → v ∷ vs ≡ w ∷ ws
        cons p q = cc
    go false s f below = some_not_none f

pub equal_no_difference : (n : ℕ) (v : List Value) → differ_from n v v ≡ none
unfolding differ_from
equal_no_difference n [] = refl
equal_no_difference n (v ∷ vs) = rw (same_value_tests v) (equal_no_difference (suc n) vs)

pub same_payment_says : (v w : List Value) → same_payment v w ≡ true → v ≡ w
unfolding same_payment
same_payment_says v w e = go (differ_from 1 v w) refl e
  where
    go : (o : Option ℕ) → differ_from 1 v w ≡ o → ◌≡◌ {A = Bool} (elim o [ none ↦ true | some field ↦ false ]) true → v ≡ w
    go none d e = no_difference 1 v w d
    go (some field) d e = false_not_true e

pub same_payment_tests : (v : List Value) → same_payment v v ≡ true
unfolding same_payment
same_payment_tests v = rw (equal_no_difference 1 v, same_payment)

-- an answer that is not acceptance
refused_answer : {A : Type 0} (n k f : ℕ) → 0 < n → answered n k f ≡ answered 0 0 0 → A
unfolding answered
refused_answer n k f h e = let z : n ≡ 0 = ap (λ (a : RegroupingAnswer). a.number) e in absurd (omega (arith, z))

-- the ordinals to come are within the first message, differ from one another and from those before, and name what stands in the second
pub record Rest (first : List (List Value)) (named os : List ℕ) (second : List (List Value)) : Type 0 where
  pub within : All (λ o. o < length first) os
  pub once : Distinct os
  pub not_before : All (λ o. Memᴰ o named → ⊥) os
  pub names : Names same_payment same_payment_says same_payment_tests [] first os second

module _ (first : List (List Value)) where
  one_pair : (o : ℕ) (os named : List ℕ) (p : List Value) (ps : List (List Value)) → o < length first → (Memᴰ o named → ⊥) → get_or first o [] ≡ p
      → Rest first (o ∷ named) os ps → Rest first named (o ∷ os) (p ∷ ps)
  one_pair o os named p ps l n e r =
      record {
        within = all_more l r.within;
        once = distinct_more (λ m. all_member r.not_before m (Memᴰ.head refl)) r.once;
        not_before = all_more n (all_map (λ q k m. k (Memᴰ.tail m)) r.not_before);
        names = names_more e r.names;
      }

  pub pairing_rest : (k : ℕ) (named os : List ℕ) (ps : List (List Value)) → pairing first k named os ps ≡ answered 0 0 0 → Rest first named os ps
  unfolding pairing
  pairing_rest k named [] [] e = record { within = all_none; once = distinct_none; not_before = all_none; names = names_none }
  pairing_rest k named [] (p ∷ ps) e = refused_answer 17 0 0 (omega arith) e
  pairing_rest k named (o ∷ os) [] e = refused_answer 17 0 0 (omega arith) e
  pairing_rest k named (o ∷ os) (p ∷ ps) e =
      go (ltb o (length first)) refl (among o named) refl (differ_from 1 (get_or first o []) p) refl e (λ f. pairing_rest (suc k) (o ∷ named) os ps f)
    where
      go : (s : Bool) → ltb o (length first) ≡ s → (t : Bool) → among o named ≡ t → (d : Option ℕ) → differ_from 1 (get_or first o []) p ≡ d
          → ◌≡◌ {A = RegroupingAnswer}
          (if not s then answered 18 k 0 else
          if t then answered 19 k 0 else
          elim d [ some field ↦ answered 20 k field | none ↦ pairing first (suc k) (o ∷ named) os ps ]) (answered 0 0 0)
          → (pairing first (suc k) (o ∷ named) os ps ≡ answered 0 0 0 → Rest first (o ∷ named) os ps) → Rest first named (o ∷ os) (p ∷ ps)
      go false a t b d c f below = refused_answer 18 k 0 (omega arith) f
      go true a true b d c f below = refused_answer 19 k 0 (omega arith) f
      go true a false b (some field) c f below = refused_answer 20 k field (omega arith) f
      go true a false b none c f below =
          let h = ltb-true o (length first) a in
          one_pair o os named p ps h (λ m. false_not_true (sym b ∙ among_member m)) (no_difference 1 (get_or first o []) p c) (below f)

  pub rest_of : {o : ℕ} {os named : List ℕ} {p : List Value} {ps : List (List Value)} → Rest first named (o ∷ os) (p ∷ ps)
      → (o < length first) × (Memᴰ o named → ⊥) × (get_or first o [] ≡ p) × Rest first (o ∷ named) os ps
  rest_of {o} {os} {named} {p} {ps} r = go r.within r.once r.not_before r.names
    where
      go : All (λ o. o < length first) (o ∷ os) → Distinct (o ∷ os) → All (λ o. Memᴰ o named → ⊥) (o ∷ os)
          → Names same_payment same_payment_says same_payment_tests [] first (o ∷ os) (p ∷ ps)
          → (o < length first) × (Memᴰ o named → ⊥) × (get_or first o [] ≡ p) × Rest first (o ∷ named) os ps
      go (all_more l w) (distinct_more n d) (all_more b c) (names_more e m) = (
        l,
        b,
        e,
        record {
          within = w;
          once = d;
          not_before = all_from (λ q k j. ⊎_elim (λ f. n (Memᴰ.cast (sym f) k)) (all_member c k) (Memᴰ.cases_cons j));
          names = m;
        },
      )

  pub rest_pairing : (k : ℕ) (named os : List ℕ) (ps : List (List Value)) → Rest first named os ps → pairing first k named os ps ≡ answered 0 0 0
  unfolding pairing
  rest_pairing k named [] [] r = refl
  rest_pairing k named [] (p ∷ ps) r = absurd (go r.names)
    where
      go : Names same_payment same_payment_says same_payment_tests [] first [] (p ∷ ps) → ⊥
      go n = elim n [ ]
  rest_pairing k named (o ∷ os) [] r = absurd (go r.names)
    where
      go : Names same_payment same_payment_says same_payment_tests [] first (o ∷ os) [] → ⊥
      go n = elim n [ ]
  rest_pairing k named (o ∷ os) (p ∷ ps) r =
      let q = rest_of r in
      let e : differ_from 1 (get_or first o []) p ≡ none = ap (λ (v : List Value). differ_from 1 v p) q.2 ∙ equal_no_difference 1 p in
      go (lt-ltb o (length first) q.0) (among_not o named q.1) e (rest_pairing (suc k) (o ∷ named) os ps q.3)
    where
      go : {s t : Bool} {d : Option ℕ} → s ≡ true → t ≡ false → d ≡ none → pairing first (suc k) (o ∷ named) os ps ≡ answered 0 0 0
          → ◌≡◌ {A = RegroupingAnswer}
          (if not s then answered 18 k 0 else
          if t then answered 19 k 0 else
          elim d [ some field ↦ answered 20 k field | none ↦ pairing first (suc k) (o ∷ named) os ps ]) (answered 0 0 0)
      go a b c e = rw (a, b, c) e
