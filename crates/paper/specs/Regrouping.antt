-- The regrouping list, and the answer to a regrouping (docs/RULES.md, 9).
use Rattle.std.specs.Prelude.{ℕ, zero, suc, ◌+◌, ◌*◌, ◌/◌, ◌%◌, ◌<◌, Bool, true, false, ◌&&◌, not, ◌≡◌, length, get_or, take, drop, eqb, ltb, if◌then◌else◌}
use mathlib.Core.List.{List, [], ◌∷◌, ◌++◌, map, Memᴰ}
use Rattle.std.proofs.Math.Option.{Option, none, some}
use Rattle.paper.specs.Bytes.{bytes, same, each}
use Rattle.paper.specs.Form.{Element}
use Rattle.paper.specs.Rows.{Profile, as_new}
use Rattle.paper.specs.Values.{among}
use Rattle.paper.specs.Payments.{Payment, payments}
use Rattle.paper.specs.Refusals.{Refusal, Outcome, refused_as, accepted_with, outcome_alone}
use Rattle.paper.specs.Accepted.{Accepted, All, EachWith, Distinct}
use Rattle.paper.specs.Table.{Part, part_of}
use Rattle.paper.specs.Fields.{Value, values_of, differ_from, field_part}

-- The file of some ordinals: `RGL`, 16-bit version 1, 16-bit count, then that many 16-bit ordinals, high byte first; no other byte.
unfoldable pub two_bytes : ℕ → List ℕ
two_bytes n = n / 256 ∷ n % 256 ∷ []

unfoldable pub file_of : (ordinals : List ℕ) → List ℕ
file_of ordinals = bytes "RGL" ++ each two_bytes (1 ∷ length ordinals ∷ ordinals)

-- the ordinals of a file of bytes, if it is of that form
unfoldable pub add_first : ℕ → Option (List ℕ) → Option (List ℕ)
add_first n none = none
add_first n (some ns) = some (n ∷ ns)

unfoldable pub numbers_16 : List ℕ → Option (List ℕ)
numbers_16 [] = some []
numbers_16 (high ∷ []) = none
numbers_16 (high ∷ low ∷ s) = add_first (high * 256 + low) (numbers_16 s)

unfoldable pub counted : List ℕ → Option (List ℕ)
counted [] = none
counted (version ∷ []) = none
counted (version ∷ count ∷ ordinals) = if eqb version 1 && eqb count (length ordinals) then some ordinals else none

unfoldable pub ordinals_of : List ℕ → Option (List ℕ)
ordinals_of file =
    if same (take 3 file) (bytes "RGL") then elim (numbers_16 (drop 3 file)) [ none ↦ none | some ns ↦ counted ns ] else none

-- The answer: a message's refusal and whose (1 or 2); or number, k and the lowest differing field, all three 0 if accepted. What an answer does not have is 0.
pub record RegroupingAnswer : Type 0 where
  pub whose : ℕ
  pub number : ℕ
  pub element : ℕ
  pub offset : ℕ
  pub k : ℕ
  pub field : ℕ

unfoldable pub message_refused : (whose : ℕ) → Refusal → RegroupingAnswer
message_refused whose r = record { whose = whose; number = r.number; element = r.element; offset = r.offset; k = 0; field = 0 }

unfoldable pub answered : (number k field : ℕ) → RegroupingAnswer
answered number k field = record { whose = 0; number = number; element = 0; offset = 0; k = k; field = field }

-- For each k: 18 ordinal too large, 19 named before, 20 fields differ. (There are as many ordinals as payments: 15 and 17 came first.)
unfoldable pub pairing : (first : List (List Value)) (k : ℕ) (named : List ℕ) (ordinals : List ℕ) (second : List (List Value)) → RegroupingAnswer
pairing first k named [] [] = answered 0 0 0
pairing first k named [] (p ∷ ps) = answered 17 0 0
pairing first k named (o ∷ os) [] = answered 17 0 0
pairing first k named (o ∷ os) (p ∷ ps) =
    if not (ltb o (length first)) then answered 18 k 0 else
    if among o named then answered 19 k 0 else
    elim (differ_from 1 (get_or first o []) p) [ some field ↦ answered 20 k field | none ↦ pairing first (suc k) (o ∷ named) os ps ]

-- 15 numbers of payments differ, 16 file not of that form, 17 count not the number of payments.
unfoldable pub of_payments : (first second : List (List Value)) (file : List ℕ) → RegroupingAnswer
of_payments first second file =
    if not (eqb (length first) (length second)) then answered 15 0 0 else
    elim (ordinals_of file) [
      | none ↦ answered 16 0 0
      | some ordinals ↦ if eqb (length ordinals) (length first) then pairing first 0 [] ordinals second else answered 17 0 0
    ]

-- a message's payments, each taken as its seventeen fields
unfoldable pub all_values : Element → List (List Value)
all_values root = map values_of (payments root)

unfoldable pub of_outcomes : (first second : Outcome) (file : List ℕ) → RegroupingAnswer
of_outcomes (refused_as r) second file = message_refused 1 r
of_outcomes (accepted_with t) (refused_as r) file = message_refused 2 r
of_outcomes (accepted_with t) (accepted_with u) file = of_payments (all_values t) (all_values u) file

-- The profile is the first message's, which may be archived. The second is read by the same rows, and as a new message.
unfoldable pub regrouping : Profile → (first second file : List ℕ) → RegroupingAnswer
regrouping profile first second file = of_outcomes (outcome_alone profile first) (outcome_alone (as_new profile) second) file

-- For 20 that field's text as the second message has it, otherwise the empty part at 0 of the second.
unfoldable pub part_for : RegroupingAnswer → (second : Outcome) → Part
part_for a second = if eqb a.whose 0 && eqb a.number 20 then field_part second a.k a.field else part_of none

unfoldable pub differing_part : Profile → (first second file : List ℕ) → Part
differing_part profile first second file = part_for (regrouping profile first second file) (outcome_alone (as_new profile) second)

-- A regrouping is accepted, said plainly: both messages are accepted, the second as a new one, and have equally many payments; the list is well formed and names every
-- payment of the first message once, in the order of the second; each payment so paired is equal in all seventeen fields.
pub data At {A : Type 0} : List A → (place : ℕ) → A → Type 0 where
  at_first : {a : A} {rest : List A} → At (a ∷ rest) zero a
  at_later : {a b : A} {rest : List A} {place : ℕ} → At rest place a → At (b ∷ rest) (suc place) a

-- the payment that an ordinal names is equal to another
pub record Names (first : List Payment) (ordinal : ℕ) (other : Payment) : Type 0 where
  pub one : Payment
  pub is_named : At first ordinal one
  pub equal : values_of one ≡ values_of other

pub record Regroups (profile : Profile) (first second file : List ℕ) : Type 0 where
  pub first_accepted : Accepted profile first
  pub second_accepted : Accepted (as_new profile) second
  pub equally_many : length (payments first_accepted.root) ≡ length (payments second_accepted.root)
  pub ordinals : List ℕ
  pub well_formed : file ≡ file_of ordinals
  pub every_payment : (payment : ℕ) → payment < length (payments first_accepted.root) → Memᴰ payment ordinals
  pub once : Distinct ordinals
  pub paired : EachWith (Names (payments first_accepted.root)) ordinals (payments second_accepted.root)

-- An acceptable list, of bytes; and that every payment, taken as those seventeen fields, stands equally often in both.
pub record AcceptableList (profile : Profile) (first second : List ℕ) : Type 0 where
  pub file : List ℕ
  pub of_bytes : All (λ b. b < 256) file
  pub accepted : Regroups profile first second file

-- two payments that differ in no field
unfoldable pub same_payment : List Value → List Value → Bool
same_payment v w = elim (differ_from 1 v w) [ none ↦ true | some field ↦ false ]

unfoldable pub often : List Value → List (List Value) → ℕ
often p [] = 0
often p (q ∷ qs) = if same_payment p q then suc (often p qs) else often p qs

unfoldable pub EquallyOften : (first second : Element) → Type 0
EquallyOften first second = (p : List Value) → often p (all_values first) ≡ often p (all_values second)
