-- The reading decides the form: it gives a root exactly for the texts of the grammar, and stops exactly at the offset of refusal 2.
use Prim.Native.Nat.{ℕ, suc, ◌≤◌}
use mathlib.Core.List.{List, ◌++◌, append_assoc}
use mathlib.Core.Path.{◌≡◌, refl, sym, ap, ◌∙◌}
use mathlib.Core.Logic.{◌⊎◌, inl, inr}
use native.Mathlib.Omega.{arith}
use native.Mathlib.Decide.{dec_le}
use lib.Seq.{take-take}
use lib.ListN.{take, drop, take-append-drop}
use Rattle.paper.specs.Form.{Element, OfTheForm, Begins, FirstImpossible}
use Rattle.paper.specs.Computed.Reading.{read, Reading, root_is, stops_at}
use Rattle.paper_grammar.proofs.Complete.{complete}
use Rattle.paper_grammar.proofs.Sound.{sound}
use Rattle.paper_grammar.proofs.Stops.{stop_is_refusal}

-- A beginning of a beginning begins a text of the form, so there is one such offset at most.
shorter : (m n : ℕ) (s : List ℕ) → m ≤ n → Begins (take n s) → Begins (take m s)
unfolding Begins
shorter m n s l (rest, f) =
    let e : take n s ≡ take m s ++ drop m (take n s) = sym (rw (take-take m n s l) at (take-append-drop m (take n s))) in
    (drop m (take n s) ++ rest, rw (← append_assoc (take m s) (drop m (take n s)) rest, ← e) f)

not_earlier : {s : List ℕ} {m n : ℕ} → FirstImpossible s m → FirstImpossible s n → n ≤ m
not_earlier {s} {m} {n} f g = go (dec_le n m)
  where
    go : Dec (n ≤ m) → n ≤ m
    go (yes l) = l
    go (no k) =
        let l : suc m ≤ n = omega arith in
        let i = g.within in
        absurd (f.impossible_after (omega arith) (shorter (suc m) n s l g.possible_before))

pub one_offset : {s : List ℕ} {m n : ℕ} → FirstImpossible s m → FirstImpossible s n → m ≡ n
one_offset f g = let h = not_earlier f g in let i = not_earlier g f in omega arith

pub form_is_root : (s : List ℕ) → OfTheForm s → (t : Element) × (read s ≡ root_is t)
unfolding OfTheForm
form_is_root s (t, h) = (t, complete h)

pub root_is_form : (s : List ℕ) (t : Element) → read s ≡ root_is t → OfTheForm s
unfolding OfTheForm
root_is_form s t e = (t, sound s t e)

pub refusal_is_stop : (s : List ℕ) (n : ℕ) → FirstImpossible s n → read s ≡ stops_at n
refusal_is_stop s n f = go (read s) refl
  where
    go : (r : Reading) → read s ≡ r → read s ≡ stops_at n
    go (root_is t) e = absurd (f.not_of_the_form (root_is_form s t e))
    go (stops_at m) e = e ∙ ap stops_at (one_offset (stop_is_refusal s m e) f)

-- each text is of the form or has the offset of refusal 2
pub decided : (s : List ℕ) → OfTheForm s ⊎ ((n : ℕ) × FirstImpossible s n)
decided s = go (read s) refl
  where
    go : (r : Reading) → read s ≡ r → OfTheForm s ⊎ ((n : ℕ) × FirstImpossible s n)
    go (root_is t) e = inl (root_is_form s t e)
    go (stops_at n) e = inr (n, stop_is_refusal s n e)
