-- The six numbers of an answer to a regrouping: k only for 18 to 20, a field only for 20, a message's refusal, by a number of some stage, with neither; number 0 is acceptance.
use Rattle.std.specs.Prelude.{if◌then◌else◌}
use Prim.Native.Nat.{ℕ, suc, ◌<◌}
use native.Mathlib.Omega.{arith}
use mathlib.Core.List.{List, [], ◌∷◌, Memᴰ}
use mathlib.Core.Bool.{Bool, true, false, not}
use mathlib.Core.Option.{Option, none, some}
use mathlib.Core.Path.{◌≡◌, refl, ap, subst}
use mathlib.Core.Logic.{◌↔◌}
use lib.ListN.{length, get_or}
use lib.Dec.{eqb, ltb}
use Rattle.paper.specs.Rows.{Profile, as_new}
use Rattle.paper.specs.Values.{among}
use Rattle.paper.specs.Refusals.{Refusal, Outcome, refused_as, accepted_with, outcome_alone}
use Rattle.paper.specs.Accepted.{All}
use Rattle.paper.specs.Fields.{Value, differ_from}
use Rattle.paper.specs.Regrouping.{RegroupingAnswer, message_refused, answered, ordinals_of, pairing, of_payments, all_values, of_outcomes, regrouping, Regroups}
use Rattle.paper.specs.Order.{Stage, numbers}
use Rattle.paper_acceptance.proofs.Proper.{Proper, new_proper}
use Rattle.paper_acceptance.proofs.Order.{no_stage, zero_at_none, alone_of_a_stage}
use Rattle.paper_pairing.proofs.Regroups.{regroups_exactly}

pub data SixNumbers : RegroupingAnswer → Type 0 where
  of_a_message : (whose : ℕ) (r : Refusal) → Memᴰ whose (1 ∷ 2 ∷ []) → (stage : Stage) → Memᴰ r.number (numbers stage) → SixNumbers (message_refused whose r)
  of_no_pair : (n : ℕ) → Memᴰ n (0 ∷ 15 ∷ 16 ∷ 17 ∷ []) → SixNumbers (answered n 0 0)
  of_a_pair : (n k : ℕ) → Memᴰ n (18 ∷ 19 ∷ []) → SixNumbers (answered n k 0)
  of_a_field : (k field : ℕ) → SixNumbers (answered 20 k field)

if_six : (c : Bool) {a b : RegroupingAnswer} → SixNumbers a → SixNumbers b → SixNumbers (if c then a else b)
if_six true h k = h
if_six false h k = k

accepted_six : SixNumbers (answered 0 0 0)
accepted_six = of_no_pair 0 (Memᴰ.head refl)

seventeen_six : SixNumbers (answered 17 0 0)
seventeen_six = of_no_pair 17 (Memᴰ.tail (Memᴰ.tail (Memᴰ.tail (Memᴰ.head refl))))

pairs_six : (first : List (List Value)) (k : ℕ) (named os : List ℕ) (second : List (List Value)) → SixNumbers (pairing first k named os second)
unfolding pairing
pairs_six first k named [] [] = accepted_six
pairs_six first k named [] (p ∷ ps) = seventeen_six
pairs_six first k named (o ∷ os) [] = seventeen_six
pairs_six first k named (o ∷ os) (p ∷ ps) =
    if_six (not (ltb o (length first))) (of_a_pair 18 k (Memᴰ.head refl))
    (if_six (among o named) (of_a_pair 19 k (Memᴰ.tail (Memᴰ.head refl)))
    (go (differ_from 1 (get_or first o []) p) (pairs_six first (suc k) (o ∷ named) os ps)))
  where
    go : (d : Option ℕ) → SixNumbers (pairing first (suc k) (o ∷ named) os ps)
        → SixNumbers (elim d [ some field ↦ answered 20 k field | none ↦ pairing first (suc k) (o ∷ named) os ps ])
    go none below = below
    go (some field) below = of_a_field k field

payments_six : (first second : List (List Value)) (file : List ℕ) → SixNumbers (of_payments first second file)
unfolding of_payments
payments_six first second file = if_six (not (eqb (length first) (length second))) (of_no_pair 15 (Memᴰ.tail (Memᴰ.head refl))) (go (ordinals_of file))
  where
    go : (o : Option (List ℕ))
        → SixNumbers
        (elim o [
          | none ↦ answered 16 0 0
          | some ordinals ↦ if eqb (length ordinals) (length first) then pairing first 0 [] ordinals second else answered 17 0 0
        ])
    go none = of_no_pair 16 (Memᴰ.tail (Memᴰ.tail (Memᴰ.head refl)))
    go (some ordinals) = if_six (eqb (length ordinals) (length first)) (pairs_six first 0 [] ordinals second) seventeen_six

not_a_pair : {n : ℕ} → Memᴰ n (18 ∷ 19 ∷ []) → n ≡ 0 → ⊥
not_a_pair (Memᴰ.head f) e = omega (arith, f, e)
not_a_pair (Memᴰ.tail (Memᴰ.head f)) e = omega (arith, f, e)
not_a_pair (Memᴰ.tail (Memᴰ.tail m)) e = elim m [ ]

module _ (profile : Profile) (proper : Proper profile) (first second file : List ℕ) where
  pub six_numbers : SixNumbers (regrouping profile first second file)
  unfolding regrouping of_outcomes
  six_numbers = go (outcome_alone profile first) refl (outcome_alone (as_new profile) second) refl
    where
      go : (o : Outcome) → outcome_alone profile first ≡ o → (q : Outcome) → outcome_alone (as_new profile) second ≡ q → SixNumbers (of_outcomes o q file)
      go (refused_as r) e q f = let g = alone_of_a_stage profile proper first e in of_a_message 1 r (Memᴰ.head refl) g.0 g.1
      go (accepted_with t) e (refused_as r) f =
          let g = alone_of_a_stage (as_new profile) (new_proper proper) second f in
          of_a_message 2 r (Memᴰ.tail (Memᴰ.head refl)) g.0 g.1
      go (accepted_with t) e (accepted_with u) f = payments_six (all_values t) (all_values u) file

  -- number 0 is acceptance
  zero_is : {a : RegroupingAnswer} → SixNumbers a → a.number ≡ 0 → a ≡ answered 0 0 0
  unfolding message_refused answered
  zero_is (of_a_message w r m stage n) e = no_stage zero_at_none stage (subst (λ (k : ℕ). Memᴰ k (numbers stage)) e n)
  zero_is (of_no_pair n m) e = ap (λ (n : ℕ). answered n 0 0) e
  zero_is (of_a_pair n k m) e = absurd (not_a_pair m e)
  zero_is (of_a_field k field) e = absurd (omega (arith, e))

  pub zero_exactly : All (λ b. b < 256) file → (regrouping profile first second file).number ≡ 0 ↔ Regroups profile first second file
  unfolding answered
  zero_exactly h =
      let e = regroups_exactly profile proper first second file h in
      ((λ z. e.0 (zero_is six_numbers z)), (λ r. ap (λ (a : RegroupingAnswer). a.number) (e.1 r)))
