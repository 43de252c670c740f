-- The contract of `form_of` determines its answer: there is one for each message, and it is the one that the reading computes.
use Prim.Native.Nat.{ℕ}
use mathlib.Core.List.{List}
use mathlib.Core.Path.{◌≡◌, refl, ap}
use mathlib.Core.Logic.{◌↔◌}
use Rattle.paper.specs.Form.{FirstImpossible}
use Rattle.paper.specs.Form.{OfTheForm as IsOfTheForm}
use Rattle.form.specs.Promise.{LaidOut, FormPromise}
use Rattle.std.specs.Prelude.{Result, Ok, Err}
use Rattle.form_scans.specs.declared.Stop.{Stop}
use Rattle.paper_grammar.proofs.Decides.{one_offset}

-- a message that is laid out is of the form
of_the_form : {s tree : List ℕ} → LaidOut s tree → IsOfTheForm s
unfolding IsOfTheForm
of_the_form l = (l.root, l.message)

-- any two answers that meet the contract are equal, whatever the buffers hold
pub agree : (s tree tree' : List ℕ) (a b : Result Unit Stop) → FormPromise s tree a → FormPromise s tree' b → a ≡ b
unfolding FormPromise
agree s tree tree' (Ok _) (Ok _) h g = refl
agree s tree tree' (Ok tt) (Err n) h g = absurd (g.not_of_the_form (of_the_form h))
agree s tree tree' (Err m) (Ok tt) h g = absurd (h.not_of_the_form (of_the_form g))
agree s tree tree' (Err m) (Err n) h g = ap (λ (k : ℕ). Err (record { at = k })) (one_offset h g)

-- accepted exactly if of the form; refused exactly at the offset of refusal 2
pub accepted_exactly : (s tree : List ℕ) (a : Result Unit Stop) → FormPromise s tree a → IsOfTheForm s ↔ (a ≡ Ok tt)
unfolding FormPromise
accepted_exactly s tree (Ok tt) h = ((λ _. refl), λ _. of_the_form h)
accepted_exactly s tree (Err n) h = ((λ g. absurd (h.not_of_the_form g)), λ e. cc)

pub refused_exactly : (s tree : List ℕ) (a : Result Unit Stop) (n : ℕ) → FormPromise s tree a → FirstImpossible s n ↔ (a ≡ Err (record { at = n }))
unfolding FormPromise
refused_exactly s tree a n h = ((λ g. agree s tree tree a (Err (record { at = n })) h g), λ e. rw e at h)
