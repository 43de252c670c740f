-- An answer is known by the rules' numbers for it: two answers with the same numbers are the same.
use Rattle.std.specs.Prelude.{if◌then◌else◌, Result, Ok, Err}
use Prim.Native.Nat.{ℕ}
use mathlib.Core.Option.{Option, none, some}
use mathlib.Core.Path.{◌≡◌, refl, sym, ap, ◌∙◌}
use lib.Dec.{eqb}
use mathlib.Core.Bool.{false}
use Rattle.paper.specs.Refusals.{Refusal, MessageAnswer, refused, accepted}
use Rattle.paper.specs.Regrouping.{RegroupingAnswer, message_refused, answered}
use Rattle.paper.specs.Answers.{numbered, refusal_of, refusal_found, verdict_says, regrouping_says}
use Rattle.paper.specs.declared.Fault.{Fault}
use Rattle.paper.specs.declared.Fault.TheVariants.{TableTooShort, MessageTooLong, NotOfTheForm, NotAllowedThere, Missing, TooMany, EmptyOrTooLong, CharacterNotInTheSet, ValueNotAllowed, Withdrawn, InPaymentAndBlock, InNeither, BlockIdRepeated, CountDiffers, SumDiffers}
use Rattle.paper.specs.declared.Accepted.{Accepted}
use Rattle.paper.specs.declared.NotRegrouped.{NotRegrouped}
use Rattle.paper.specs.declared.NotRegrouped.TheVariants as regrouping
use Rattle.verdict_answers.specs.Numbers.{Numbers, as_answer, as_regrouping_answer}
use Rattle.verdict_answers.specs.declared.Refusal.{Refusal as OfFault}
use Rattle.verdict_answers.specs.declared.OfMessage.{OfMessage}
use Rattle.verdict_answers.specs.declared.OfRegrouping.{OfRegrouping}

-- a fault is known by its refusal's number, element and offset
fault_by : (number element offset : ℕ) → Fault
fault_by number element offset =
    if eqb number 14 then TableTooShort else
    if eqb number 1 then MessageTooLong else
    if eqb number 2 then NotOfTheForm offset else
    if eqb number 3 then NotAllowedThere element offset else
    if eqb number 4 then Missing element offset else
    if eqb number 5 then TooMany element offset else
    if eqb number 6 then EmptyOrTooLong element offset else
    if eqb number 7 then CharacterNotInTheSet element offset else
    if eqb number 8 then ValueNotAllowed element offset else
    if eqb number 28 then Withdrawn element offset else
    if eqb number 9 then InPaymentAndBlock element offset else
    if eqb number 10 then InNeither offset else
    if eqb number 11 then BlockIdRepeated offset else
    if eqb number 12 then CountDiffers element offset else SumDiffers element offset

fault_again : (f : Fault) → fault_by (refusal_of f).number (refusal_of f).element (refusal_of f).offset ≡ f
unfolding fault_by refusal_of numbered
fault_again TableTooShort = refl
fault_again MessageTooLong = refl
fault_again (NotOfTheForm offset) = refl
fault_again (NotAllowedThere element offset) = refl
fault_again (Missing element offset) = refl
fault_again (TooMany element offset) = refl
fault_again (EmptyOrTooLong element offset) = refl
fault_again (CharacterNotInTheSet element offset) = refl
fault_again (ValueNotAllowed element offset) = refl
fault_again (Withdrawn element offset) = refl
fault_again (InPaymentAndBlock element offset) = refl
fault_again (InNeither offset) = refl
fault_again (BlockIdRepeated offset) = refl
fault_again (CountDiffers element offset) = refl
fault_again (SumDiffers element offset) = refl

finding_by : Option Refusal → Result Unit Fault
finding_by none = Ok tt
finding_by (some r) = Err (fault_by r.number r.element r.offset)

finding_again : (f : Result Unit Fault) → finding_by (refusal_found f) ≡ f
unfolding finding_by refusal_found
finding_again (Ok tt) = refl
finding_again (Err fault) = ap Err (fault_again fault)

pub one_finding : (f g : Result Unit Fault) → refusal_found f ≡ refusal_found g → f ≡ g
one_finding f g e = sym (finding_again f) ∙ ap finding_by e ∙ finding_again g

verdict_by : MessageAnswer → Result Accepted Fault
verdict_by a =
    if eqb a.number 0 then Ok (record { blocks = a.blocks; payments = a.payments; cents = a.cents }) else
    Err (fault_by a.number a.element a.offset)

-- no refusal has the number 0
pub no_zero : (f : Fault) → eqb (refusal_of f).number 0 ≡ false
unfolding refusal_of numbered
no_zero TableTooShort = refl
no_zero MessageTooLong = refl
no_zero (NotOfTheForm o) = refl
no_zero (NotAllowedThere e o) = refl
no_zero (Missing e o) = refl
no_zero (TooMany e o) = refl
no_zero (EmptyOrTooLong e o) = refl
no_zero (CharacterNotInTheSet e o) = refl
no_zero (ValueNotAllowed e o) = refl
no_zero (Withdrawn e o) = refl
no_zero (InPaymentAndBlock e o) = refl
no_zero (InNeither o) = refl
no_zero (BlockIdRepeated o) = refl
no_zero (CountDiffers e o) = refl
no_zero (SumDiffers e o) = refl

verdict_again : (v : Result Accepted Fault) → verdict_by (verdict_says v) ≡ v
unfolding verdict_by verdict_says refused accepted
verdict_again (Ok of) = refl
verdict_again (Err fault) = rw (no_zero fault) (ap Err (fault_again fault))

pub one_verdict : (v w : Result Accepted Fault) → verdict_says v ≡ verdict_says w → v ≡ w
one_verdict v w e = sym (verdict_again v) ∙ ap verdict_by e ∙ verdict_again w

regrouping_by : RegroupingAnswer → Result Unit NotRegrouped
regrouping_by a =
    if eqb a.whose 1 then Err (regrouping.FirstRefused (fault_by a.number a.element a.offset)) else
    if eqb a.whose 2 then Err (regrouping.SecondRefused (fault_by a.number a.element a.offset)) else
    if eqb a.number 0 then Ok tt else
    if eqb a.number 15 then Err regrouping.NumbersOfPaymentsDiffer else
    if eqb a.number 16 then Err regrouping.ListNotOfTheForm else
    if eqb a.number 17 then Err regrouping.CountNotTheNumberOfPayments else
    if eqb a.number 18 then Err (regrouping.OrdinalTooLarge a.k) else
    if eqb a.number 19 then Err (regrouping.NamedBefore a.k) else Err (regrouping.FieldsDiffer a.k a.field)

regrouping_again : (r : Result Unit NotRegrouped) → regrouping_by (regrouping_says r) ≡ r
unfolding regrouping_by regrouping_says message_refused answered
regrouping_again (Ok tt) = refl
regrouping_again (Err (regrouping.FirstRefused fault)) = ap (λ f. Err (regrouping.FirstRefused f)) (fault_again fault)
regrouping_again (Err (regrouping.SecondRefused fault)) = ap (λ f. Err (regrouping.SecondRefused f)) (fault_again fault)
regrouping_again (Err regrouping.NumbersOfPaymentsDiffer) = refl
regrouping_again (Err regrouping.ListNotOfTheForm) = refl
regrouping_again (Err regrouping.CountNotTheNumberOfPayments) = refl
regrouping_again (Err (regrouping.OrdinalTooLarge k)) = refl
regrouping_again (Err (regrouping.NamedBefore k)) = refl
regrouping_again (Err (regrouping.FieldsDiffer k field)) = refl

pub one_regrouping : (r q : Result Unit NotRegrouped) → regrouping_says r ≡ regrouping_says q → r ≡ q
one_regrouping r q e = sym (regrouping_again r) ∙ ap regrouping_by e ∙ regrouping_again q

-- a refusal is known by its three numbers
pub one_refusal : (p : Refusal) (r q : OfFault) → Numbers p r → Numbers p q → r ≡ q
one_refusal p r q a b =
    let n : r.number ≡ q.number = a.number_is ∙ sym b.number_is in
    let e : r.element ≡ q.element = a.element_is ∙ sym b.element_is in
    let o : r.offset ≡ q.offset = a.offset_is ∙ sym b.offset_is in
    same_fields n e o
  where
    same_fields : {n m e f o u : ℕ} → n ≡ m → e ≡ f → o ≡ u
        → ◌≡◌ {A = OfFault} (record { number = n; element = e; offset = o }) (record { number = m; element = f; offset = u })
    same_fields x y z = rw (x, y, z)

-- what C gets is known by its six numbers
message_by : MessageAnswer → OfMessage
message_by p =
    record { number = p.number; element = p.element; offset = p.offset; blocks = p.blocks; payments = p.payments; cents = p.cents }

pub one_message : (r q : OfMessage) → as_answer r ≡ as_answer q → r ≡ q
unfolding message_by as_answer
one_message r q e = ap message_by e

six_by : RegroupingAnswer → OfRegrouping
six_by p =
    record { whose = p.whose; number = p.number; element = p.element; offset = p.offset; k = p.k; field = p.field }

pub one_six : (r q : OfRegrouping) → as_regrouping_answer r ≡ as_regrouping_answer q → r ≡ q
unfolding six_by as_regrouping_answer
one_six r q e = ap six_by e
