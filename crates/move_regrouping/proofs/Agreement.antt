-- The promises of `regroup` and `differing` determine their answers; and demand 3 as the promise of `regroup` has it, in whichever profile is named
-- (crates/paper_acceptance/proofs/Proper.antt, `named_proper`).
use Prim.Native.Nat.{ℕ, ◌<◌}
use mathlib.Core.List.{List}
use mathlib.Core.Path.{◌≡◌, sym, ap, ◌∙◌}
use mathlib.Core.Logic.{◌↔◌}
use denote.Ref.{Bor}
use Rattle.paper.specs.Rows.{Profile, as_new}
use Rattle.paper.specs.Accepted.{All, Accepted}
use Rattle.paper.specs.Regrouping.{RegroupingAnswer, Regroups, AcceptableList, EquallyOften}
use Rattle.paper.specs.Order.{AnswerIs}
use Rattle.paper.specs.Answers.{regrouping_says}
use Rattle.std.specs.Prelude.{Result, Ok}
use Rattle.paper.specs.declared.NotRegrouped.{NotRegrouped}
use Rattle.paper_acceptance.proofs.Proper.{Proper}
use Rattle.verdict_answers.proofs.Agreement.{one_regrouping}
use Rattle.paper_pairing.proofs.Regroups.{regroups_exactly}
use Rattle.paper_pairing.proofs.Regroups as regroups
use Rattle.paper_pairing.proofs.Order as in_order
use Rattle.move_regrouping.specs.Promises.{RegroupPromise, DifferingPromise}

-- two answers that keep the promise of `regroup` are the same
pub answers_agree : (profile : Profile) (first second file : List ℕ) (r q : Result Unit NotRegrouped) → RegroupPromise profile first second file r → RegroupPromise profile first second file q → r ≡ q
answers_agree profile first second file r q m n = one_regrouping r q (m ∙ sym n)

-- two parts that keep the promise of `differing` have the same bytes and lie at the same place
pub parts_agree : (profile : Profile) (first : List ℕ) {second a b : Bor (List ℕ)} (file : List ℕ) → DifferingPromise profile first second file a → DifferingPromise profile first second file b
    → (a.now ≡ b.now) × (a.ref_ptr.0 ≡ b.ref_ptr.0) × (a.ref_ptr.1 ≡ b.ref_ptr.1)
parts_agree profile first file h g = (h.bytes_are ∙ sym g.bytes_are, h.in_the_message ∙ sym g.in_the_message, h.at_its_place ∙ sym g.at_its_place)

-- Demand 3: for a list of bytes, accepted exactly when the second message regroups the first by it.
pub accepted_exactly : {profile : Profile} → Proper profile → (first second file : List ℕ) (r : Result Unit NotRegrouped) → RegroupPromise profile first second file r → All (λ b. b < 256) file
    → (r ≡ Ok tt) ↔ Regroups profile first second file
unfolding regrouping_says
accepted_exactly {profile} proper first second file r m h =
    let e = regroups_exactly profile proper first second file h in
    ((λ i. e.0 (sym m ∙ ap regrouping_says i)), (λ g. one_regrouping r (Ok tt) (m ∙ e.1 g)))

-- Any other answer is the first by the order of the checks: one of the cases of `AnswerIs` holds, and no other answer has one.
pub answers_in_order : {profile : Profile} → Proper profile → (first second file : List ℕ) (r : Result Unit NotRegrouped) → RegroupPromise profile first second file r → All (λ b. b < 256) file → (a : RegroupingAnswer)
    → AnswerIs profile first second file a ↔ (a ≡ regrouping_says r)
answers_in_order {profile} proper first second file r m h a =
    let e = in_order.answers_in_order profile proper first second file h a in
    ((λ i. e.0 i ∙ sym m), (λ i. e.1 (i ∙ m)))

-- For two accepted messages an acceptable list exists exactly when every payment, taken as its seventeen fields, stands equally often in both.
pub list_exists_exactly : {profile : Profile} → Proper profile → (first second : List ℕ) (a : Accepted profile first) (b : Accepted (as_new profile) second) → AcceptableList profile first second ↔ EquallyOften a.root b.root
list_exists_exactly {profile} proper first second a b = regroups.list_exists_exactly profile proper first second a b
