-- The order of the checks, said without computing. Of a message (docs/RULES.md, 6): the stages, the numbers that each gives, and what `Accepted` says of each. (Which fault
-- is first within a stage, with its element and offset, is said by `Refusals`.) That the answer's number is one of a stage's exactly where that stage is the first that does
-- not hold is proved: crates/paper_acceptance/proofs/Order.antt, `refused_by`.
use Rattle.std.specs.Prelude.{ℕ, suc, ◌≤◌, ◌<◌, ◌≡◌, length}
use mathlib.Core.List.{List, [], ◌∷◌, ◌++◌, Memᴰ}
use Rattle.paper.specs.Sizes.{largest_message, least_table}
use Rattle.paper.specs.Form.{Element, IsMessage, OfTheForm}
use Rattle.paper.specs.Rows.{Profile, as_new}
use Rattle.paper.specs.Payments.{Payment, payments}
use Rattle.paper.specs.Refusals.{Refusal, refused_as, outcome_alone}
use Rattle.paper.specs.Accepted.{EachWith, Distinct, RowsKept, LimitsKept, ValuesRight, UsageKept, IdsApart, CountsTrue, Accepted}
use Rattle.paper.specs.Fields.{Value, values_of}
use Rattle.paper.specs.Regrouping.{RegroupingAnswer, message_refused, answered, file_of, At, Names, Regroups}

pub data Stage : Type 0 where
  for_table for_size for_form for_rows for_limits for_values for_usage for_ids for_counts : Stage

unfoldable pub order : List Stage
order =
    for_table ∷ for_size ∷ for_form ∷ for_rows ∷ for_limits ∷ for_values ∷ for_usage ∷ for_ids ∷ for_counts ∷ []

unfoldable pub numbers : Stage → List ℕ
numbers for_table = 14 ∷ []
numbers for_size = 1 ∷ []
numbers for_form = 2 ∷ []
numbers for_rows = 3 ∷ 4 ∷ []
numbers for_limits = 5 ∷ []
numbers for_values = 6 ∷ 7 ∷ 8 ∷ 28 ∷ []
numbers for_usage = 9 ∷ 10 ∷ []
numbers for_ids = 11 ∷ []
numbers for_counts = 12 ∷ 13 ∷ []

-- the message has a root, of which something holds
unfoldable pub OfItsRoot : List ℕ → (Element → Type 0) → Type 0
OfItsRoot s P = (root : Element) × IsMessage s root × P root

-- What `Accepted` says of a stage, and of the table's length.
unfoldable pub StageHolds : (profile : Profile) (table_length : ℕ) (s : List ℕ) → Stage → Type 0
StageHolds profile n s for_table = least_table ≤ n
StageHolds profile n s for_size = length s ≤ largest_message
StageHolds profile n s for_form = OfTheForm s
StageHolds profile n s for_rows = OfItsRoot s (RowsKept profile)
StageHolds profile n s for_limits = OfItsRoot s LimitsKept
StageHolds profile n s for_values = OfItsRoot s (ValuesRight profile)
StageHolds profile n s for_usage = OfItsRoot s UsageKept
StageHolds profile n s for_ids = OfItsRoot s IdsApart
StageHolds profile n s for_counts = OfItsRoot s CountsTrue

-- The first of some stages that does not hold: those before it do.
pub data FirstNot (H : Stage → Type 0) : List Stage → Stage → Type 0 where
  this_one : {stage : Stage} {later : List Stage} → (H stage → ⊥) → FirstNot H (stage ∷ later) stage
  a_later_one : {first stage : Stage} {later : List Stage} → H first → FirstNot H later stage → FirstNot H (first ∷ later) stage

-- Of a regrouping (docs/RULES.md, 9): one case for each of its answers, which says that the checks before it hold. That for a file of bytes `regrouping` answers so, and in no
-- other way, is proved: crates/paper_pairing/proofs/Order.antt, `answers_in_order`.
-- The lowest field in which two payments differ: those before it are equal.
pub record LowestDifference (one other : Payment) (field : ℕ) : Type 0 where
  pub equal_before : List Value
  pub its_value : Value
  pub others_value : Value
  pub behind : List Value
  pub others_behind : List Value
  pub values_are : values_of one ≡ equal_before ++ (its_value ∷ behind)
  pub others_are : values_of other ≡ equal_before ++ (others_value ∷ others_behind)
  pub differs : its_value ≡ others_value → ⊥
  pub field_is : field ≡ suc (length equal_before)

module _ (profile : Profile) (first second file : List ℕ) where
  -- both messages are accepted, the second as a new one, with equally many payments
  pub record Comparable : Type 0 where
    pub first_accepted : Accepted profile first
    pub second_accepted : Accepted (as_new profile) second
    pub equally_many : length (payments first_accepted.root) ≡ length (payments second_accepted.root)

  -- The file is that of as many ordinals, and those before the k-th each name a payment, none of them twice, that is equal to the second message's at its place.
  pub record FineUpTo (k : ℕ) : Type 0 where
    pub comparable : Comparable
    pub before : List ℕ
    pub ordinal : ℕ
    pub behind : List ℕ
    pub well_formed : file ≡ file_of (before ++ (ordinal ∷ behind))
    pub as_many : length (before ++ (ordinal ∷ behind)) ≡ length (payments comparable.first_accepted.root)
    pub earlier : List Payment
    pub other : Payment
    pub later : List Payment
    pub second_is : payments comparable.second_accepted.root ≡ earlier ++ (other ∷ later)
    pub k_is : k ≡ length before
    pub once : Distinct before
    pub paired : EachWith (Names (payments comparable.first_accepted.root)) before earlier

  pub data AnswerIs : RegroupingAnswer → Type 0 where
    first_refused : {r : Refusal} → outcome_alone profile first ≡ refused_as r → AnswerIs (message_refused 1 r)
    second_refused : {r : Refusal} → Accepted profile first → outcome_alone (as_new profile) second ≡ refused_as r → AnswerIs (message_refused 2 r)
    numbers_differ : (a : Accepted profile first) (b : Accepted (as_new profile) second) → (length (payments a.root) ≡ length (payments b.root) → ⊥)
        → AnswerIs (answered 15 0 0)
    not_of_that_form : Comparable → ((ordinals : List ℕ) → file ≡ file_of ordinals → ⊥) → AnswerIs (answered 16 0 0)
    another_count : (c : Comparable) (ordinals : List ℕ) → file ≡ file_of ordinals → (length ordinals ≡ length (payments c.first_accepted.root) → ⊥)
        → AnswerIs (answered 17 0 0)
    too_large : {k : ℕ} (u : FineUpTo k) → length (payments u.comparable.first_accepted.root) ≤ u.ordinal → AnswerIs (answered 18 k 0)
    named_before : {k : ℕ} (u : FineUpTo k) → u.ordinal < length (payments u.comparable.first_accepted.root) → Memᴰ u.ordinal u.before
        → AnswerIs (answered 19 k 0)
    fields_differ : {k field : ℕ} (u : FineUpTo k) → (Memᴰ u.ordinal u.before → ⊥) → (one : Payment)
        → At (payments u.comparable.first_accepted.root) u.ordinal one → LowestDifference one u.other field → AnswerIs (answered 20 k field)
    all_paired : Regroups profile first second file → AnswerIs (answered 0 0 0)
