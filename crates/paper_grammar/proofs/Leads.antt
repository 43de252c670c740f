-- How the machine of `paper` goes from a state to a state over some bytes, and what that says of its run.
use Prim.Native.Nat.{ℕ, suc, ◌+◌}
use mathlib.Core.List.{List, [], ◌∷◌, ◌++◌}
use mathlib.Core.Option.{none, some}
use mathlib.Core.Path.{◌≡◌, refl, sym, ◌∙◌}
use native.Mathlib.Nat.{add-suc, add-zero, suc-add}
use lib.ListN.{length}
use borrow.Author.Tests.{eq-eqb}
use Rattle.paper.specs.Bytes.{white, Every, every_none as all_done, every_more}
use Rattle.paper_grammar.specs.Stays.{Stays}
use Rattle.paper.specs.Computed.Reading.{State, fixed, want, step, run, stops_at}

-- from `q` at offset `at` the bytes lead to the last state
pub data Leads : State → ℕ → List ℕ → State → Type 0 where
  here : {q : State} {at : ℕ} → Leads q at [] q
  next : {q q₁ q₂ : State} {at b : ℕ} {s : List ℕ} → Leads q₁ (suc at) s q₂ → step q at b ≡ some q₁ → Leads q at (b ∷ s) q₂

pub on : {q q₁ q₂ : State} {at b : ℕ} {s : List ℕ} → Leads q₁ (suc at) s q₂ → step q at b ≡ some q₁ → Leads q at (b ∷ s) q₂
on g e = next g e

pub at_offset : {q r : State} {s : List ℕ} {m n : ℕ} → m ≡ n → Leads q m s r → Leads q n s r
at_offset e h = rw e at h

pub follow : {q r p : State} {at : ℕ} {s t : List ℕ} → Leads q at s r → Leads r (at + length s) t p → Leads q at (s ++ t) p
follow {at} {t} here h = at_offset (add-zero at) h
follow {at} (next {s} g e) h = next (follow g (at_offset (add-suc at (length s) ∙ sym (suc-add at (length s))) h)) e

pub run_next : (q : State) (at b : ℕ) {r : State} → step q at b ≡ some r → (s : List ℕ) → run q at (b ∷ s) ≡ run r (suc at) s
unfolding run
run_next q at b e s = rw (e, run)

pub run_stuck : (q : State) (at b : ℕ) → step q at b ≡ none → (s : List ℕ) → run q at (b ∷ s) ≡ stops_at at
unfolding run
run_stuck q at b e s = rw (e, run)

pub run_over : {q r : State} {at : ℕ} {s : List ℕ} → Leads q at s r → (rest : List ℕ) → run q at (s ++ rest) ≡ run r (at + length s) rest
run_over {at} here rest = rw add-zero
run_over {at} (next {s} g e) rest = run_next _ _ _ e (s ++ rest) ∙ (run_over g rest ∙ rw (add-suc, suc-add))

-- fixed bytes lead on
pub fixed_leads : (b : ℕ) (bs : List ℕ) (q : State) (at : ℕ) → Leads (fixed b bs q) at (b ∷ bs) q
unfolding step
fixed_leads b [] q at = on (here {q = q}) (rw (eq-eqb b b refl))
fixed_leads b (c ∷ cs) q at = on (fixed_leads c cs q (suc at)) (rw (eq-eqb b b refl))

pub want_leads : (bs : List ℕ) (q : State) (at : ℕ) → Leads (want bs q) at bs q
unfolding want
want_leads [] q at = here
want_leads (b ∷ bs) q at = fixed_leads b bs q at

-- white space leads back to a state that it leaves as it is
pub white_leads : (q : State) → Stays q → {s : List ℕ} (at : ℕ) → Every white s → Leads q at s q
unfolding Stays
white_leads q h at all_done = here
white_leads q h at (every_more {b} e es) = next (white_leads q h (suc at) es) (h at b e)
