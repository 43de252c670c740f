-- The stages of the verdict, one after the other.
use Rattle.std.specs.Prelude.{Result, Ok, Err}
use Rattle.std.specs.Result.{IsErrAnd}
use Rattle.std.proofs.lemmas.Result.{err_from_is_err_and}
use Prim.Native.Nat.{ℕ, ◌≤◌, ◌<◌}
use native.Mathlib.Omega.{arith}
use mathlib.Core.List.{List}
use mathlib.Core.Option.{Option, none, some}
use mathlib.Core.Path.{◌≡◌, refl, sym, ◌∙◌}
use borrow.Author.Tests.{le-ltb, lt-ltb}
use lib.ListN.{length}
use Rattle.paper.specs.Form.{Element}
use Rattle.paper.specs.Computed.Reading.{read, root_is, stops_at}
use Rattle.paper.specs.Rows.{Profile}
use Rattle.paper.specs.Payments.{blocks, payments, total}
use Rattle.paper.specs.Refusals.{Refusal, refuse, ◌or_else◌, size_refusal, refused_as, accepted_with, unless_refused, of_reading, outcome_alone, answer_to, tree_refusal, rows_refusal, values_refusal, counts_refusal}
use Rattle.paper.specs.Answers.{refusal_of, numbered, refusal_found, verdict_says}
use Rattle.verdict_answers.proofs.Agreement.{one_verdict}
use Rattle.paper.specs.declared.Fault.{Fault}
use Rattle.paper.specs.declared.Fault.TheVariants.{MessageTooLong, NotOfTheForm, TooMany}
use Rattle.paper.specs.declared.Accepted.{Accepted}
use Rattle.tree.specs.Laid.{LaidAt}
use Rattle.rule_limits.specs.Ordered.{Ordered, Limited, is_within, is_excess}
use Rattle.rule_limits.specs.declared.Many.{Many}
use Rattle.form.specs.Promise.{LaidOut, FormPromise}
use Rattle.form_scans.specs.declared.Stop.{Stop}
use Rattle.paper_grammar.proofs.Decides.{refusal_is_stop}
use Rattle.paper_grammar.proofs.Complete.{complete}
use Rattle.verdict_stages.specs.Decided.{from_values, Passes, refuses, accepts, Decided, decided_refused, decided_accepted}
use Rattle.verdict_stages.proofs.Readable.{readable}
use Rattle.paper_acceptance.proofs.Proper.{Proper}
use Rattle.paper_acceptance.proofs.OneWalk.{rows_first}
use Rattle.verdict_stages.proofs.Fits.{fits}

of_the_form : (profile : Profile) (s : List ℕ) {root : Element} → length s ≤ 32768 → read s ≡ root_is root → outcome_alone profile s ≡ unless_refused (tree_refusal profile root) (accepted_with root)
unfolding outcome_alone size_refusal refuse unless_refused of_reading
of_the_form profile s h e = rw (le-ltb 32768 (length s) h, e)

size_refused : (profile : Profile) (s : List ℕ) → 32768 < length s → outcome_alone profile s ≡ refused_as (refusal_of MessageTooLong)
unfolding outcome_alone size_refusal refuse unless_refused refusal_of numbered
size_refused profile s h = rw (lt-ltb 32768 (length s) h)

not_of_the_form : (profile : Profile) (s : List ℕ) {n : ℕ} → length s ≤ 32768 → read s ≡ stops_at n → outcome_alone profile s ≡ refused_as (refusal_of (NotOfTheForm n))
unfolding outcome_alone size_refusal refuse unless_refused of_reading refusal_of numbered
not_of_the_form profile s h e = rw (le-ltb 32768 (length s) h, e)

-- a finding that refuses, and one that does not
found_refused : (x : Fault) {a : Option Refusal} → refusal_found (Err x) ≡ a → a ≡ some (refusal_of x)
unfolding refusal_found
found_refused x e = sym e

pub found_none : {a : Option Refusal} → refusal_found (Ok tt) ≡ a → a ≡ none
unfolding refusal_found
found_none e = sym e

module _ {s tree order : List ℕ} {root : Element} where
  -- what a `?` hands on
  pub handed_on : {a : Option Refusal} {r : Result Accepted Fault} {x : Fault} → IsErrAnd r (λ y. y ≡ x) → Passes s tree order root a (Err x) → Passes s tree order root a r
  handed_on {r = r} h p = let e = err_from_is_err_and r h in rw (e.1, e.2) p

  module _ (a b : Option Refusal) where
    pub first_refuses : {x : Fault} → refusal_found (Err x) ≡ a → Passes s tree order root (a or_else b) (Err x)
    unfolding ◌or_else◌
    first_refuses {x} is = refuses {f = x} (rw (found_refused x is))

    pub later_passes : {v : Result Accepted Fault} → refusal_found (Ok tt) ≡ a → Passes s tree order root b v → Passes s tree order root (a or_else b) v
    unfolding ◌or_else◌
    later_passes is h = rw (found_none is) h

  -- 12 and 13
  pub counts_refused : {x : Fault} → refusal_found (Err x) ≡ counts_refusal root → Passes s tree order root (counts_refusal root) (Err x)
  counts_refused {x} is = refuses {f = x} (found_refused x is)

  pub all_passed : {profile : Profile} → Proper profile → {of : Accepted} → refusal_found (Ok tt) ≡ counts_refusal root → Ordered s tree order root → of.blocks ≡ length (blocks root)
      → of.payments ≡ length (payments root) → of.payments ≤ 64 → of.blocks ≤ 16 → values_refusal profile root ≡ none → of.cents ≡ total root → Passes s tree order root (counts_refusal root) (Ok of)
  all_passed proper {of} is o x y few small v total_is =
      accepts {of = of} (found_none is)
      (record {
        ordered = o;
        blocks_are = x;
        payments_are = y;
        few = few;
        total_is = total_is;
        readable = readable proper root v;
        fitting = fits proper root v (omega (arith, x, small));
      })

  -- 3 and 4
  pub rows_refused : (profile : Profile) {x : Fault} → refusal_found (Err x) ≡ rows_refusal profile root → Passes s tree order root (tree_refusal profile root) (Err x)
  unfolding tree_refusal
  rows_refused profile is = first_refuses _ _ is

  pub rows_refused_first : (profile : Profile) {x : Fault} → refusal_found (Err x) ≡ values_refusal profile root → (refusal_of x).number < 5 → Passes s tree order root (tree_refusal profile root) (Err x)
  unfolding tree_refusal ◌or_else◌
  rows_refused_first profile {x} is l = refuses {f = x} (rw (rows_first profile root (found_refused x is) l))

  -- then 5
  module _ (profile : Profile) (none_of_rows : rows_refusal profile root ≡ none) where
    pub limits_refused : {x : Fault} → Limited s tree order root (Err x) → Passes s tree order root (tree_refusal profile root) (Err x)
    unfolding tree_refusal ◌or_else◌ refuse refusal_of numbered
    limits_refused (is_excess {element = element} {offset = offset} a) = refuses {f = TooMany element offset} (rw (none_of_rows, a))

    pub limits_passed : {many : Many} {v : Result Accepted Fault} → Limited s tree order root (Ok many)
        → (Ordered s tree order root → many.blocks ≡ length (blocks root) → many.payments ≡ length (payments root)
        → Passes s tree order root (from_values profile root) v)
        → Passes s tree order root (tree_refusal profile root) v
    unfolding tree_refusal ◌or_else◌
    limits_passed (is_within a b p o) then = rw (none_of_rows, a) (then o (sym b) (sym p))

-- the whole outcome
outcome-refused : (profile : Profile) (root : Element) (x : Fault) → tree_refusal profile root ≡ some (refusal_of x) → unless_refused (tree_refusal profile root) (accepted_with root) ≡ refused_as (refusal_of x)
unfolding unless_refused
outcome-refused profile root x e = rw e

outcome-accepted : (profile : Profile) (root : Element) → tree_refusal profile root ≡ none → unless_refused (tree_refusal profile root) (accepted_with root) ≡ accepted_with root
unfolding unless_refused
outcome-accepted profile root e = rw e

decide : {profile : Profile} {s tree order : List ℕ} {root : Element} → length s ≤ 32768 → read s ≡ root_is root → LaidAt s tree 0 root → {v : Result Accepted Fault}
    → Passes s tree order root (tree_refusal profile root) v → Decided profile s tree order v
decide {profile} {s} {root = root} l r t (refuses {f = x} e) = decided_refused (of_the_form profile s l r ∙ outcome-refused profile root x e)
decide {profile} {s} {root = root} l r t (accepts e p) = decided_accepted l (of_the_form profile s l r ∙ outcome-accepted profile root e) t p

-- 1 and 2
pub too_long : {profile : Profile} {s tree order : List ℕ} → 32768 < length s → Decided profile s tree order (Err MessageTooLong)
too_long {profile} {s} h = decided_refused (size_refused profile s h)

module _ (profile : Profile) {s tree : List ℕ} (h : length s ≤ 32768) where
  pub form_refuses : {order : List ℕ} (stop : Stop) {r : Result Accepted Fault} → FormPromise s tree (Err stop) → IsErrAnd r (λ y. y ≡ NotOfTheForm stop.at) → Decided profile s tree order r
  unfolding FormPromise
  form_refuses stop {r = r} says of = let e = err_from_is_err_and r of in rw (e.1, e.2) (decided_refused (not_of_the_form profile s h (refusal_is_stop s stop.at says)))

  laid_out : FormPromise s tree (Ok tt) → LaidOut s tree
  unfolding FormPromise
  laid_out says = says

  pub form_passes : {order : List ℕ} {v : Result Accepted Fault} → FormPromise s tree (Ok tt) → ((root : Element) → LaidAt s tree 0 root → Passes s tree order root (tree_refusal profile root) v) → Decided profile s tree order v
  form_passes says passes = let l = laid_out says in decide h (complete l.message) (l.laid h) (passes l.root (l.laid h))

-- a message that was refused is refused where no table is lent
pub refused_has : {profile : Profile} {s tree order : List ℕ} {f : Fault} → Decided profile s tree order (Err f) → outcome_alone profile s ≡ refused_as (refusal_of f)
refused_has (decided_refused o) = o

-- Two answers that meet `outcome`'s contract agree.
decided_says : {profile : Profile} {s tree order : List ℕ} {v : Result Accepted Fault} → Decided profile s tree order v → verdict_says v ≡ answer_to (outcome_alone profile s)
unfolding verdict_says answer_to
decided_says (decided_refused e) = rw e refl
decided_says (decided_accepted h e l p) = rw (e, p.blocks_are, p.payments_are, p.total_is) refl

pub decided_agree : {profile : Profile} {s tree order other_tree other_order : List ℕ} (v w : Result Accepted Fault) → Decided profile s tree order v → Decided profile s other_tree other_order w → v ≡ w
decided_agree v w a b = one_verdict v w (decided_says a ∙ sym (decided_says b))
