-- Where the reading stops is the offset of refusal 2.
use Prim.Native.Nat.{ℕ, zero, suc, ◌+◌, ◌≤◌, ◌<◌}
use mathlib.Core.List.{List, [], ◌∷◌, ◌++◌}
use mathlib.Core.Option.{Option, none, some}
use mathlib.Core.Bool.{Bool, true, false}
use mathlib.Core.Path.{◌≡◌, refl, sym, ◌∙◌}
use native.Mathlib.Nat.{add-zero, zero-add}
use native.Mathlib.Omega.{arith}
use lib.ListN.{length, take, drop}
use Rattle.paper.specs.Bytes.{bytes, is, from_to, one_of, white, text_byte, capital, digit, letter, letter_or_digit, same}
use Rattle.paper.specs.Form.{Element, Elements, holding_text, holding_elements, []ᵉ, root_tag, OfTheForm, Begins, FirstImpossible}
use Rattle.paper.specs.Computed.Reading.{Open, closed, State, fixed, opening, opened, before, angle, naming, capitals, blank, in_text, after_child, after, want, ending, in_root, in_amount, behind_name, step, ended, run, read, Reading, root_is, stops_at}
use Rattle.paper_grammar.proofs.Leads.{Leads, here, next, run_over, run_next, run_stuck, want_leads}
use Rattle.paper_grammar.proofs.Tags.{close_name}
use Rattle.paper_grammar.proofs.Complete.{complete}
use Rattle.paper_grammar.proofs.Sound.{sound, stopped, later}

-- some text leads from the state to the end
abbrev Viable : State → Type 0
Viable q = (at : ℕ) → (s : List ℕ) × (t : Element) × (run q at s ≡ root_is t)

by_byte : (q : State) (b : ℕ) (r : ℕ → State) → ((at : ℕ) → step q at b ≡ some (r at)) → ((at : ℕ) → Viable (r at)) → Viable q
by_byte q b r e v at =
    let (rest, t, f) = v at (suc at) in
    (b ∷ rest, t, run_next q at b (e at) rest ∙ f)

by_want : (bs : List ℕ) (q : State) → Viable q → Viable (want bs q)
by_want bs q v at =
    let (rest, t, e) = v (at + length bs) in
    (bs ++ rest, t, run_over (want_leads bs q at) rest ∙ e)

-- Every state can be led to the end: what is open is closed, and an amount is given a currency.
by_end : (o : Open) (t : Element) (k : Element → State) → Viable (k t) → Viable (ending o t k)
unfolding ending
by_end o t k v = by_want (o.name ++ bytes ">") (k t) v

by_capitals : (n : ℕ) (letters : List ℕ) (k : List ℕ → State) → ((s : List ℕ) → Viable (k s)) → Viable (capitals n letters k)
unfolding step capital from_to
by_capitals zero letters k v = by_byte _ 65 (λ _. k (letters ++ (65 ∷ []))) (λ _. refl) (λ _. v _)
by_capitals (suc n) letters k v = by_byte _ 65 (λ _. capitals n (letters ++ (65 ∷ [])) k) (λ _. refl) (λ _. by_capitals n _ k v)

by_angle : (depth from : ℕ) (q : State) (k : Element → State) → Viable q → Viable (angle depth from q k)
unfolding step letter capital from_to is
by_angle depth from q k v = by_byte _ 47 (λ _. q) (λ _. refl) (λ _. v)

pub open_amount : (depth from : ℕ) (name : List ℕ) (room : ℕ) (k : Element → State) (at : ℕ) → same name (bytes "InstdAmt") ≡ true
    → step (naming depth from name room k) at 32 ≡ some (want (bytes "Ccy=\"") (capitals 2 [] (in_amount depth from k)))
unfolding step behind_name letter_or_digit letter digit capital from_to is
open_amount depth from name zero k at e = rw e
open_amount depth from name (suc room) k at e = rw e

module _ (k : Element → State) (v : (t : Element) → Viable (k t)) where
  by_blank : (o : Open) (w : List ℕ) → Viable (blank o w k)
  unfolding step white one_of is
  by_blank o w =
      by_byte _ 60 _ (λ _. refl)
      (λ at. by_angle (suc o.depth) at (ending o (holding_text (closed o at) w) k) _ (by_end o _ k (v _)))

  by_text : (o : Open) (w : List ℕ) → Viable (in_text o w k)
  unfolding step text_byte one_of is want bytes
  by_text o w = by_byte _ 60 _ (λ _. refl) (λ at. by_want (bytes "/") (ending o (holding_text (closed o at) w) k) (by_end o _ k (v _)))

  by_among : (o : Open) (f : Elements → Elements) → Viable (after_child o f k)
  unfolding step white one_of is
  by_among o f =
      by_byte _ 60 _ (λ _. refl)
      (λ at. by_angle (suc o.depth) at (ending o (holding_elements (closed o at) (f []ᵉ)) k) _ (by_end o _ k (v _)))

  by_amount : (depth from : ℕ) → Viable (want (bytes "Ccy=\"") (capitals 2 [] (in_amount depth from k)))
  unfolding in_amount
  by_amount depth from = by_want (bytes "Ccy=\"") _ (by_capitals 2 [] (in_amount depth from k) (λ s. by_want (bytes "\">") _ (by_blank _ [])))

  by_name : (depth from : ℕ) (name : List ℕ) (room : ℕ) → Viable (naming depth from name room k)
  by_name depth from name room = go (same name (bytes "InstdAmt")) refl
    where
      go : (c : Bool) → same name (bytes "InstdAmt") ≡ c → Viable (naming depth from name room k)
      go true e = by_byte _ 32 _ (λ at. open_amount depth from name room k at e) (λ _. by_amount depth from)
      go false e = by_byte _ 62 _ (λ at. close_name depth from name room k at e) (λ _. by_blank _ [])

by_root : (at : ℕ) → Viable (in_root at)
unfolding in_root run ended
by_root at = by_blank after (λ t n. ([], t, refl)) _ []

viable : (q : State) → Viable q
unfolding run ended step want bytes root_tag white one_of is
viable (fixed b bs q) = by_want (b ∷ bs) q (viable q)
viable opening = by_byte _ 60 _ (λ _. refl) (λ _. by_byte _ 68 _ (λ _. refl) (λ _. by_want (drop 2 root_tag) (in_root 0) (by_root 0)))
viable opened = by_byte _ 68 _ (λ _. refl) (λ _. by_want (drop 2 root_tag) (in_root 0) (by_root 0))
viable before = by_byte _ 60 _ (λ _. refl) (λ at. by_want (drop 1 root_tag) (in_root at) (by_root at))
viable (angle depth from q k) = by_angle depth from q k (viable q)
viable (naming depth from name room k) = by_name k (λ t. viable (k t)) depth from name room
viable (capitals n letters k) = by_capitals n letters k (λ s. viable (k s))
viable (blank o w k) = by_blank k (λ t. viable (k t)) o w
viable (in_text o w k) = by_text k (λ t. viable (k t)) o w
viable (after_child o f k) = by_among k (λ t. viable (k t)) o f
viable (after u) = λ at. ([], u, refl)

-- what leads somewhere begins a text of the form
leads_begins : {s : List ℕ} {q : State} → Leads opening 0 s q → Begins s
unfolding Begins OfTheForm read
leads_begins {s} {q} h =
    let (rest, t, e) = viable q (length s) in
    (rest, (t, sound (s ++ rest) t (run_over h rest ∙ rw zero-add e)))

-- A run that stops: at the end of the text, or at a byte that leads nowhere, some bytes further on.
data Stops : State → ℕ → List ℕ → ℕ → Type 0 where
  at_end : {q : State} {at : ℕ} → Stops q at [] 0
  at_byte : {q : State} {at b : ℕ} {s : List ℕ} → step q at b ≡ none → Stops q at (b ∷ s) 0
  further : {q r : State} {at b m : ℕ} {s : List ℕ} → step q at b ≡ some r → Stops r (suc at) s m → Stops q at (b ∷ s) (suc m)

stops : (q : State) (at : ℕ) (s : List ℕ) (n : ℕ) → run q at s ≡ stops_at n → (m : ℕ) × (n ≡ at + m) × Stops q at s m
unfolding run
stops q at [] n e = go (ended q) e
  where
    go : (x : Option Element) → elim x as (λ _. Reading) [ some t ↦ root_is t | none ↦ stops_at at ] ≡ stops_at n → (m : ℕ) × (n ≡ at + m) × Stops q at [] m
    go (some t) e = absurd (stopped (sym e))
    go none e = (0, rw add-zero (cc), at_end)
stops q at (b ∷ s) n e = go (λ r. stops r (suc at) s n) (step q at b) refl e
  where
    go : ((r : State) → run r (suc at) s ≡ stops_at n → (m : ℕ) × (n ≡ suc at + m) × Stops r (suc at) s m) → (x : Option State) → step q at b ≡ x
        → elim x as (λ _. Reading) [ some r ↦ run r (suc at) s | none ↦ stops_at at ] ≡ stops_at n
        → (m : ℕ) × (n ≡ at + m) × Stops q at (b ∷ s) m
    go f (some r) h e = let (m, z, x) = f r e in (suc m, z ∙ later at m, further h x)
    go f none h e = (0, rw add-zero (cc), at_byte h)

stops_within : {q : State} {at : ℕ} {s : List ℕ} {m : ℕ} → Stops q at s m → m ≤ length s
stops_within at_end = omega arith
stops_within (at_byte e) = omega arith
stops_within (further e h) = let l = stops_within h in omega arith

stops_leads : {q : State} {at : ℕ} {s : List ℕ} {m : ℕ} → Stops q at s m → (r : State) × Leads q at (take m s) r
stops_leads {q} at_end = (q, here)
stops_leads {q} (at_byte e) = (q, here)
stops_leads (further e h) = let (r, g) = stops_leads h in (r, next g e)

stops_for_good : {q : State} {at : ℕ} {s : List ℕ} {m : ℕ} → Stops q at s m → m < length s → (rest : List ℕ) (t : Element)
    → run q at (take (suc m) s ++ rest) ≡ root_is t → ⊥
stops_for_good at_end l rest t h = omega arith
stops_for_good (at_byte e) l rest t h = stopped (sym (run_stuck _ _ _ e rest) ∙ h)
stops_for_good (further {m} {s} e g) l rest t h = stops_for_good g (omega arith) rest t (sym (run_next _ _ _ e (take (suc m) s ++ rest)) ∙ h)

pub stop_is_refusal : (s : List ℕ) (n : ℕ) → read s ≡ stops_at n → FirstImpossible s n
unfolding read OfTheForm Begins
stop_is_refusal s n e = go (stops opening 0 s n e)
  where
    go : ((m : ℕ) × (n ≡ 0 + m) × Stops opening 0 s m) → FirstImpossible s n
    go (m, z, h) =
        let n_is : n ≡ m = omega arith in
        let l = stops_within h in
        let (q, g) = stops_leads h in
        record {
          not_of_the_form = λ (t, x). stopped (sym e ∙ complete x);
          within = omega arith;
          possible_before = rw n_is (leads_begins g);
          impossible_after = λ k (rest, (t, x)). stops_for_good h (omega arith) rest t (rw n_is at (complete x));
        }
