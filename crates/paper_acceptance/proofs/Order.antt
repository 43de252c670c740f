-- The refusal is the first by the order of the checks: the answer's number is one of a stage's exactly where that stage is the first that does not hold. And refusal 2,
-- with its offset.
use Rattle.std.specs.Prelude.{if◌then◌else◌}
use Prim.Native.Nat.{ℕ, ◌≤◌}
use lib.Dec.{ltb}
use native.Mathlib.Omega.{arith}
use mathlib.Core.List.{List, [], ◌∷◌, Memᴰ}
use mathlib.Core.Option.{Option, none, some}
use mathlib.Core.Path.{◌≡◌, refl, sym, ◌∙◌, ap, subst}
use mathlib.Core.Logic.{◌↔◌}
use lib.ListN.{length}
use Rattle.paper.specs.Sizes.{largest_message, least_table}
use Rattle.paper.specs.Form.{Element, OfTheForm, FirstImpossible}
use Rattle.paper.specs.Computed.Reading.{Reading, root_is, stops_at, read}
use Rattle.paper.specs.Rows.{Profile}
use Rattle.paper.specs.Values.{among}
use Rattle.paper.specs.Refusals.{Refusal, ◌or_else◌, table_refusal, size_refusal, tree_refusal, Outcome, refused_as, accepted_with, unless_refused, of_reading, outcome_alone, outcome, MessageAnswer, refused, accepted, answer_to, verdict}
use Rattle.paper.specs.Accepted.{All, all_none, all_more, RowsKept, LimitsKept, ValuesRight, UsageKept, IdsApart, CountsTrue, Accepted}
use Rattle.paper.specs.Order.{Stage, for_table, for_size, for_form, for_rows, for_limits, for_values, for_usage, for_ids, for_counts, order, numbers, OfItsRoot, StageHolds, FirstNot, this_one, a_later_one}
use Rattle.paper.proofs.Laws.{some_not_none, all_member}
use Rattle.paper_grammar.proofs.Complete.{complete}
use Rattle.paper_grammar.proofs.Sound.{sound}
use Rattle.paper_grammar.proofs.Stops.{stop_is_refusal}
use Rattle.paper_grammar.proofs.Decides.{refusal_is_stop}
use Rattle.paper_acceptance.proofs.Proper.{Proper}
use Rattle.paper_acceptance.proofs.Stages.{rows_kept, limits_kept, values_right, usage_kept, ids_apart, counts_true}
use Rattle.paper_acceptance.proofs.Given.{Gives, gives_none, gives_one, if_gives, refuse_gives, rows_give, limits_give, values_give, usage_gives, ids_give, counts_give}
use Rattle.paper_acceptance.proofs.Accepts.{accepted_from, accepts_with_table}
use Rattle.paper_acceptance.proofs.Outcome.{amounts_there, block_amounts_there, size_kept, table_kept, unless_none, accepted_alone, accepted_with_table}

-- the stages over the tree of a message
abbrev tree_stages : List Stage
tree_stages = for_rows ∷ for_limits ∷ for_values ∷ for_usage ∷ for_ids ∷ for_counts ∷ []

-- A number belongs to one stage at most.
unfoldable pub stage_at : ℕ → List Stage → Option Stage
stage_at n [] = none
stage_at n (stage ∷ stages) = if among n (numbers stage) then some stage else stage_at n stages

each_number : (stage : Stage) → All (λ n. stage_at n order ≡ some stage) (numbers stage)
unfolding stage_at numbers order among
each_number for_table = all_more refl all_none
each_number for_size = all_more refl all_none
each_number for_form = all_more refl all_none
each_number for_rows = all_more refl (all_more refl all_none)
each_number for_limits = all_more refl all_none
each_number for_values = all_more refl (all_more refl (all_more refl (all_more refl all_none)))
each_number for_usage = all_more refl (all_more refl all_none)
each_number for_ids = all_more refl all_none
each_number for_counts = all_more refl (all_more refl all_none)

one_stage : {n : ℕ} (a b : Stage) → Memᴰ n (numbers a) → Memᴰ n (numbers b) → a ≡ b
one_stage {n} a b m k =
    let e : some a ≡ some b = sym (all_member (each_number a) m) ∙ all_member (each_number b) k in
    cc

-- A number that `stage_at` finds nowhere is no stage's. 0 is such a number.
pub no_stage : {A : Type 0} {n : ℕ} → stage_at n order ≡ none → (a : Stage) → Memᴰ n (numbers a) → A
no_stage e a m = some_not_none (sym (all_member (each_number a) m) ∙ e)

pub zero_at_none : stage_at 0 order ≡ none
unfolding stage_at numbers order among
zero_at_none = refl

module _ (H : Stage → Type 0) where
  -- there is one first stage that does not hold, and none where all hold
  one_first : {stages : List Stage} {a b : Stage} → FirstNot H stages a → FirstNot H stages b → a ≡ b
  one_first (this_one n) (this_one m) = refl
  one_first (this_one n) (a_later_one h f) = absurd (n h)
  one_first (a_later_one h f) (this_one n) = absurd (n h)
  one_first (a_later_one h f) (a_later_one k g) = one_first f g

  none_first : {stages : List Stage} {a : Stage} → All H stages → FirstNot H stages a → ⊥
  none_first (all_more h k) (this_one n) = n h
  none_first (all_more h k) (a_later_one i f) = none_first k f
  none_first all_none f = elim f [ ]

  pub first_fails : {stages : List Stage} {a : Stage} → FirstNot H stages a → H a → ⊥
  first_fails (this_one n) h = n h
  first_fails (a_later_one k f) h = first_fails f h

  before_third : {a b c : Stage} {stages : List Stage} → FirstNot H (a ∷ b ∷ stages) c → (a ≡ c → ⊥) → (b ≡ c → ⊥) → H a × H b
  before_third (this_one n) x y = absurd (x refl)
  before_third (a_later_one h (this_one n)) x y = absurd (y refl)
  before_third (a_later_one h (a_later_one k f)) x y = (h, k)

  -- a number of the first of some stages that does not hold
  record OfFirst (stages : List Stage) (n : ℕ) : Type 0 where
    stage : Stage
    its_number : Memᴰ n (numbers stage)
    is_first : FirstNot H stages stage

  this : (a : Stage) {stages : List Stage} {n : ℕ} → Memᴰ n (numbers a) → (H a → ⊥) → OfFirst (a ∷ stages) n
  this a m h = record { stage = a; its_number = m; is_first = this_one h }

  later : {a : Stage} {stages : List Stage} {n : ℕ} → H a → OfFirst stages n → OfFirst (a ∷ stages) n
  later h f = record { stage = f.stage; its_number = f.its_number; is_first = a_later_one h f.is_first }

  -- A refusal by some stages has a number of the first of them that does not hold; so has an outcome.
  abbrev Stops : Option Refusal → List Stage → Type 0
  Stops o stages = (r : Refusal) → o ≡ some r → OfFirst stages r.number

  abbrev Ends : Outcome → List Stage → Type 0
  Ends o stages = (r : Refusal) → o ≡ refused_as r → OfFirst stages r.number

  here : (a : Stage) {stages : List Stage} {o : Option Refusal} → Gives (numbers a) o → (o ≡ none ↔ H a) → {r : Refusal} → o ≡ some r → OfFirst (a ∷ stages) r.number
  here a gives_none h e = some_not_none (sym e)
  here a {stages} (gives_one {r = x} m) h {r = r} e =
      let f : x ≡ r = cc in
      subst (λ (y : Refusal). OfFirst (a ∷ stages) y.number) f (this a m (λ k. some_not_none (h.1 k)))

  stage_then : (a : Stage) {stages : List Stage} (o : Option Refusal) {p : Option Refusal} → Gives (numbers a) o → (o ≡ none ↔ H a) → (o ≡ none → Stops p stages)
      → Stops (o or_else p) (a ∷ stages)
  unfolding ◌or_else◌
  stage_then a none g h below r e = later (h.0 refl) (below refl r e)
  stage_then a (some x) g h below r e = here a g h e

  unless_then : (a : Stage) {stages : List Stage} (o : Option Refusal) {p : Outcome} → Gives (numbers a) o → (o ≡ none ↔ H a) → Ends p stages
      → Ends (unless_refused o p) (a ∷ stages)
  unfolding unless_refused
  unless_then a none g h below r e = later (h.0 refl) (below r e)
  unless_then a (some x) g h below r e = let f : some x ≡ some r = cc in here a g h f

-- 14 and 1
table_gives : (n : ℕ) → Gives (numbers for_table) (table_refusal n)
unfolding table_refusal numbers
table_gives n = if_gives (ltb n least_table) (refuse_gives 0 0 (Memᴰ.head refl)) gives_none

size_gives : (s : List ℕ) → Gives (numbers for_size) (size_refusal s)
unfolding size_refusal numbers
size_gives s = if_gives (ltb largest_message (length s)) (refuse_gives 0 largest_message (Memᴰ.head refl)) gives_none

table_holds : (profile : Profile) (n : ℕ) (s : List ℕ) → table_refusal n ≡ none ↔ StageHolds profile n s for_table
unfolding StageHolds
table_holds profile n s = table_kept n

size_holds : (profile : Profile) (n : ℕ) (s : List ℕ) → size_refusal s ≡ none ↔ StageHolds profile n s for_size
unfolding StageHolds
size_holds profile n s = size_kept s

module _ (profile : Profile) (proper : Proper profile) (n : ℕ) (s : List ℕ) where
  abbrev H : Stage → Type 0
  H = StageHolds profile n s

  -- the root of a message is the one that its reading gives
  its_root : (P : Element → Type 0) {root : Element} → read s ≡ root_is root → OfItsRoot s P → P root
  unfolding OfItsRoot
  its_root P {root} e h =
      let f : root_is h.0 ≡ root_is root = sym (complete h.1) ∙ e in
      let g : h.0 ≡ root = cc in
      subst P g h.2

  module _ (root : Element) (e : read s ≡ root_is root) where
    of_root : (P : Element → Type 0) {o : Option Refusal} → (o ≡ none ↔ P root) → o ≡ none ↔ OfItsRoot s P
    unfolding OfItsRoot
    of_root P h = ((λ f. (root, sound s root e, h.0 f)), (λ k. h.1 (its_root P e k)))

    in_tree : Stops H (tree_refusal profile root) tree_stages
    unfolding tree_refusal StageHolds numbers
    in_tree =
        stage_then H for_rows _ (rows_give profile root) (of_root (RowsKept profile) (rows_kept profile proper.apart root))
        (λ a.
        let kept = (rows_kept profile proper.apart root).0 a in
        let amounts = amounts_there profile proper root kept in
        stage_then H for_limits _ (limits_give root) (of_root LimitsKept (limits_kept root))
        (λ _.
        stage_then H for_values _ (values_give profile root a) (of_root (ValuesRight profile) (values_right profile proper.apart root))
        (λ _.
        stage_then H for_usage _ (usage_gives root) (of_root UsageKept (usage_kept root))
        (λ _.
        stage_then H for_ids _ (ids_give root) (of_root IdsApart (ids_apart root))
        (λ _ r f.
        here H for_counts (counts_give root) (of_root CountsTrue (counts_true root amounts (block_amounts_there profile proper root kept))) f)))))

  of_form : (r : Reading) → read s ≡ r → Ends H (of_reading (tree_refusal profile) r) (for_form ∷ tree_stages)
  unfolding of_reading StageHolds numbers OfTheForm unless_refused
  of_form (stops_at k) e r f =
      let g : ◌≡◌ {A = Refusal} (record { number = 2; element = 0; offset = k }) r = cc in
      subst (λ (y : Refusal). OfFirst H (for_form ∷ tree_stages) y.number) g
      (this H for_form (Memᴰ.head refl) (λ t. let z : root_is t.0 ≡ stops_at k = sym (complete t.1) ∙ e in let y : ◌≡◌ {A = ℕ} 0 1 = cc in omega (arith, y)))
  of_form (root_is root) e r f = later H (root, sound s root e) (go (tree_refusal profile root) refl f)
    where
      go : (o : Option Refusal) → tree_refusal profile root ≡ o → unless_refused o (accepted_with root) ≡ refused_as r
          → OfFirst H tree_stages r.number
      go none p q = let z : ◌≡◌ {A = ℕ} 0 1 = cc in absurd (omega (arith, z))
      go (some x) p q = let g : x ≡ r = cc in in_tree root e r (p ∙ ap some g)

  by_first : Ends H (outcome profile n s) order
  unfolding outcome outcome_alone order
  by_first = unless_then H for_table (table_refusal n) (table_gives n) (table_holds profile n s) (unless_then H for_size (size_refusal s) (size_gives s) (size_holds profile n s) (of_form (read s) refl))

  -- an accepted message: every stage holds
  all_hold : (root : Element) → outcome profile n s ≡ accepted_with root → All H order
  unfolding order StageHolds OfTheForm OfItsRoot
  all_hold root e =
      let a = (accepted_with_table profile proper n s root).0 e in
      let b = (accepted_alone profile proper s root).0 a.1 in
      let m = sound s root b.1 in
      let t = b.2 in
      let c = t.but_counts in
      all_more {a = for_table} a.0
      (all_more {a = for_size} b.0
      (all_more {a = for_form} (root, m)
      (all_more {a = for_rows} (root, m, c.rows)
      (all_more {a = for_limits} (root, m, c.limits)
      (all_more {a = for_values} (root, m, c.values)
      (all_more {a = for_usage} (root, m, c.usage)
      (all_more {a = for_ids} (root, m, c.ids) (all_more {a = for_counts} (root, m, t.counts) all_none))))))))

  -- The answer's number is one of a stage's exactly where that stage is the first that does not hold.
  pub refused_by : (stage : Stage) → Memᴰ (verdict profile n s).number (numbers stage) ↔ FirstNot (StageHolds profile n s) order stage
  unfolding verdict answer_to refused accepted
  refused_by stage = go (outcome profile n s) refl
    where
      go : (o : Outcome) → outcome profile n s ≡ o → Memᴰ (answer_to o).number (numbers stage) ↔ FirstNot (StageHolds profile n s) order stage
      go (refused_as r) e =
          let f = by_first r e in (
            (λ m. subst (λ (a : Stage). FirstNot (StageHolds profile n s) order a) (one_stage f.stage stage f.its_number m) f.is_first),
            (λ k. subst (λ (a : Stage). Memᴰ r.number (numbers a)) (one_first H f.is_first k) f.its_number),
          )
      go (accepted_with root) e = ((λ m. no_stage zero_at_none stage m), (λ k. absurd (none_first H (all_hold root e) k)))

  -- Number 0 is acceptance.
  pub accepted_zero : (verdict profile n s).number ≡ 0 ↔ (least_table ≤ n) × Accepted profile s
  unfolding verdict answer_to refused accepted
  accepted_zero = go (outcome profile n s) refl
    where
      go : (o : Outcome) → outcome profile n s ≡ o → (answer_to o).number ≡ 0 ↔ (least_table ≤ n) × Accepted profile s
      go (refused_as r) e =
          let f = by_first r e in (
            (λ z. no_stage zero_at_none f.stage (subst (λ (k : ℕ). Memᴰ k (numbers f.stage)) z f.its_number)),
            (λ h.
                let b = (accepts_with_table profile proper n s h.0).1 h.1 in
                let q : refused_as r ≡ accepted_with b.0 = sym e ∙ b.1 in
                let z : ◌≡◌ {A = ℕ} 0 1 = cc in
                absurd (omega (arith, z))),
          )
      go (accepted_with root) e =
          let a = (accepted_with_table profile proper n s root).0 e in
          ((λ z. (a.0, accepted_from profile proper s root a.1)), (λ h. refl))

  -- Refusal 2, with its offset: the first impossible byte.
  long_and_short : least_table ≤ n → length s ≤ largest_message → outcome profile n s ≡ of_reading (tree_refusal profile) (read s)
  unfolding outcome outcome_alone
  long_and_short l m = unless_none ((table_kept n).1 l) ∙ unless_none ((size_kept s).1 m)

  abbrev two_at : ℕ → MessageAnswer
  two_at k = refused (record { number = 2; element = 0; offset = k })

  stops_with : (k : ℕ) → least_table ≤ n → length s ≤ largest_message → verdict profile n s ≡ two_at k → (OfTheForm s → ⊥) → FirstImpossible s k
  unfolding verdict answer_to refused of_reading OfTheForm
  stops_with k l m e not_form = go (read s) refl (sym (ap answer_to (long_and_short l m)) ∙ e)
    where
      go : (r : Reading) → read s ≡ r → answer_to (of_reading (tree_refusal profile) r) ≡ two_at k → FirstImpossible s k
      go (root_is root) p q = absurd (not_form (root, sound s root p))
      go (stops_at j) p q = let z : j ≡ k = ap (λ (a : MessageAnswer). a.offset) q in stop_is_refusal s k (p ∙ ap stops_at z)

  pub form_refused : (k : ℕ) → verdict profile n s ≡ two_at k ↔ (least_table ≤ n) × (length s ≤ largest_message) × FirstImpossible s k
  unfolding verdict answer_to refused of_reading order numbers StageHolds
  form_refused k = (there, back)
    where
      there : verdict profile n s ≡ two_at k → (least_table ≤ n) × (length s ≤ largest_message) × FirstImpossible s k
      there e =
          let two : (verdict profile n s).number ≡ 2 = ap (λ (a : MessageAnswer). a.number) e in
          let f = (refused_by for_form).0 (Memᴰ.head two) in
          let h = before_third H f (λ e. let z : ◌≡◌ {A = ℕ} 0 1 = cc in omega (arith, z)) (λ e. let z : ◌≡◌ {A = ℕ} 0 1 = cc in omega (arith, z)) in
          (h.0, h.1, stops_with k h.0 h.1 e (first_fails H f))

      back : (least_table ≤ n) × (length s ≤ largest_message) × FirstImpossible s k → verdict profile n s ≡ two_at k
      back h = ap answer_to (long_and_short h.0 h.1 ∙ ap (of_reading (tree_refusal profile)) (refusal_is_stop s k h.2))

-- a table of the least length is long enough
long_alone : (profile : Profile) (s : List ℕ) → outcome profile least_table s ≡ outcome_alone profile s
unfolding outcome
long_alone profile s = unless_none ((table_kept least_table).1 (omega arith))

-- A refusal has a number of some stage, also where no table is lent.
pub of_a_stage : (profile : Profile) → Proper profile → (n : ℕ) (s : List ℕ) {r : Refusal} → outcome profile n s ≡ refused_as r → (stage : Stage) × Memᴰ r.number (numbers stage)
of_a_stage profile proper n s e = let f = by_first profile proper n s _ e in (f.stage, f.its_number)

pub alone_of_a_stage : (profile : Profile) → Proper profile → (s : List ℕ) {r : Refusal} → outcome_alone profile s ≡ refused_as r → (stage : Stage) × Memᴰ r.number (numbers stage)
alone_of_a_stage profile proper s e = of_a_stage profile proper least_table s (long_alone profile s ∙ e)
