-- What the code is told and what it answers, in the rules' words. A caller names a profile by a struct of the code: its part `instant` says which rows, its part `archived` whether
-- the message is archived. An answer is `Ok`, or `Err` with what is wrong, an enum: this gives the rules' number and values for each of their cases. Where the code answers a number
-- or none, it is `Some` with the number, or `None`.
use Rattle.std.specs.Prelude.{ℕ, Result, Ok, Err, Some, None}
use Rattle.std.specs.Prelude as code
use Rattle.std.proofs.Math.Option.{Option, none, some}
use Rattle.paper.specs.declared.Fault.{Fault}
use Rattle.paper.specs.declared.Fault.TheVariants.{TableTooShort, MessageTooLong, NotOfTheForm, NotAllowedThere, Missing, TooMany, EmptyOrTooLong, CharacterNotInTheSet, ValueNotAllowed, Withdrawn, InPaymentAndBlock, InNeither, BlockIdRepeated, CountDiffers, SumDiffers}
use Rattle.paper.specs.declared.Accepted.{Accepted}
use Rattle.paper.specs.declared.NotRegrouped.{NotRegrouped}
use Rattle.paper.specs.declared.NotRegrouped.TheVariants.{FirstRefused, SecondRefused, NumbersOfPaymentsDiffer, ListNotOfTheForm, CountNotTheNumberOfPayments, OrdinalTooLarge, NamedBefore, FieldsDiffer}
use Rattle.paper.specs.declared.Profile.{Profile}
use Rattle.paper.specs.Sizes.{largest_message}
use Rattle.paper.specs.Rows as rules
use Rattle.paper.specs.Rows.{profile_by}
use Rattle.paper.specs.Refusals.{Refusal, MessageAnswer, refused, accepted}
use Rattle.paper.specs.Regrouping.{RegroupingAnswer, message_refused, answered}

-- The profile of the rules that the caller names.
unfoldable pub profile_named : Profile → rules.Profile
profile_named p = profile_by p.instant p.archived

unfoldable pub numbered : (number element offset : ℕ) → Refusal
numbered number element offset = record { number = number; element = element; offset = offset }

unfoldable pub refusal_of : Fault → Refusal
refusal_of TableTooShort = numbered 14 0 0
refusal_of MessageTooLong = numbered 1 0 largest_message
refusal_of (NotOfTheForm offset) = numbered 2 0 offset
refusal_of (NotAllowedThere element offset) = numbered 3 element offset
refusal_of (Missing element offset) = numbered 4 element offset
refusal_of (TooMany element offset) = numbered 5 element offset
refusal_of (EmptyOrTooLong element offset) = numbered 6 element offset
refusal_of (CharacterNotInTheSet element offset) = numbered 7 element offset
refusal_of (ValueNotAllowed element offset) = numbered 8 element offset
refusal_of (Withdrawn element offset) = numbered 28 element offset
refusal_of (InPaymentAndBlock element offset) = numbered 9 element offset
refusal_of (InNeither offset) = numbered 10 16 offset
refusal_of (BlockIdRepeated offset) = numbered 11 11 offset
refusal_of (CountDiffers element offset) = numbered 12 element offset
refusal_of (SumDiffers element offset) = numbered 13 element offset

-- what a stage has found: nothing, or a refusal
unfoldable pub refusal_found : Result Unit Fault → Option Refusal
refusal_found (Ok tt) = none
refusal_found (Err fault) = some (refusal_of fault)

unfoldable pub verdict_says : Result Accepted Fault → MessageAnswer
verdict_says (Ok of) = accepted of.blocks of.payments of.cents
verdict_says (Err fault) = refused (refusal_of fault)

unfoldable pub regrouping_says : Result Unit NotRegrouped → RegroupingAnswer
regrouping_says (Ok tt) = answered 0 0 0
regrouping_says (Err (FirstRefused fault)) = message_refused 1 (refusal_of fault)
regrouping_says (Err (SecondRefused fault)) = message_refused 2 (refusal_of fault)
regrouping_says (Err NumbersOfPaymentsDiffer) = answered 15 0 0
regrouping_says (Err ListNotOfTheForm) = answered 16 0 0
regrouping_says (Err CountNotTheNumberOfPayments) = answered 17 0 0
regrouping_says (Err (OrdinalTooLarge k)) = answered 18 k 0
regrouping_says (Err (NamedBefore k)) = answered 19 k 0
regrouping_says (Err (FieldsDiffer k field)) = answered 20 k field

-- a number of the code that may be absent
unfoldable pub perhaps : code.Option ℕ → Option ℕ
perhaps None = none
perhaps (Some n) = some n
