-- How the machine runs on over a start tag: behind its name, and over the currency of an amount.
use Prim.Native.Nat.{ℕ, zero, suc, ◌+◌, ◌≤◌, ◌<◌}
use mathlib.Core.List.{List, [], ◌∷◌, ◌++◌}
use mathlib.Core.Option.{none, some}
use mathlib.Core.Bool.{Bool, true, false}
use mathlib.Core.Path.{◌≡◌, refl, sym, ap, subst, ◌∙◌}
use native.Mathlib.Decide.{dec_le}
use native.Mathlib.Omega.{arith}
use lib.ListN.{length, get_or, length-append}
use lib.Dec.{eqb}
use borrow.Author.Tests.{eqb-true}
use Rattle.paper.specs.Bytes.{bytes, is, capital, letter_or_digit, same}
use Rattle.paper.specs.Form.{Element, amount_tag}
use Rattle.paper.specs.Computed.Reading.{State, want, naming, capitals, blank, behind_name, in_amount, step, ended, stops_at}
use Rattle.paper.specs.Rows.{leaf, group, group_under, rows, instant_changes, every_row, name_in, name}
use Rattle.form_names.specs.Names.{number_in, name_number, is_row}
use Rattle.form_names.proofs.Laws.{same_number}
use Rattle.form_scans.specs.Scans.{Scan, from, Word, Letters, Capitals, CapitalAt, end_of, Tag, Opened, opens_currency, stops}
use Rattle.form_scans.specs.declared.Stop.{Stop}
use Rattle.std.specs.Prelude.{Ok, Err}
use Rattle.paper_grammar.proofs.Tags.{same_true, close_name}
use Rattle.paper_grammar.proofs.Stops.{open_amount}
use Rattle.form_scans.proofs.Laws.{from_next, from_stuck, from_short, no_to, went, halts, first, via, giving, giving_at, chain}

-- letters of a currency
capital_step : (n : ℕ) (letters : List ℕ) (k : List ℕ → State) (at b : ℕ) → capital b ≡ true
    → step (capitals (suc n) letters k) at b ≡ some (capitals n (letters ++ (b ∷ [])) k)
unfolding step
capital_step n letters k at b e = rw e

last_step : (letters : List ℕ) (k : List ℕ → State) (at b : ℕ) → capital b ≡ true → step (capitals 0 letters k) at b ≡ some (k (letters ++ (b ∷ [])))
unfolding step
last_step letters k at b e = rw e

capital_stuck : (n : ℕ) (letters : List ℕ) (k : List ℕ → State) (at b : ℕ) → capital b ≡ false → step (capitals n letters k) at b ≡ none
unfolding step
capital_stuck zero letters k at b e = rw e
capital_stuck (suc n) letters k at b e = rw e

module _ (s : List ℕ) (letters : List ℕ) (k : List ℕ → State) (at : ℕ) {r : Bool} (c : CapitalAt s at r) where
  pub one_capital : (n : ℕ) → r ≡ true → (m : ℕ) → m ≡ at + 1 → from s (capitals (suc n) letters k) at ≡ from s (capitals n (letters ++ (get_or s at 0 ∷ [])) k) m
  one_capital n e m z = let (h, f) = c.there e in rw z (from_next s _ at h (capital_step n letters k at (get_or s at 0) f))

  pub last_capital : r ≡ true → (m : ℕ) → m ≡ at + 1 → from s (capitals 0 letters k) at ≡ from s (k (letters ++ (get_or s at 0 ∷ []))) m
  last_capital e m z = let (h, f) = c.there e in rw z (from_next s _ at h (last_step letters k at (get_or s at 0) f))

  pub no_capital : (n : ℕ) → r ≡ false → from s (capitals n letters k) at ≡ stops_at at
  unfolding ended
  no_capital n e = go (dec_le (length s) at)
    where
      go : Dec (length s ≤ at) → from s (capitals n letters k) at ≡ stops_at at
      go (yes l) = from_short s _ at l refl
      go (no l) = let h : at < length s = omega arith in from_stuck s _ at h (capital_stuck n letters k at (get_or s at 0) (c.not_there e h))

-- three letters
pub three_read : {s : List ℕ} {at : ℕ} → ((j : ℕ) → at ≤ j → j < at + 3 → CapitalAt s j true) → Capitals s at (Ok (at + 3))
unfolding end_of
three_read {s} {at} f =
    let one = f at (omega arith) (omega arith) in
    let two = f (at + 1) (omega arith) (omega arith) in
    let three = f (at + 2) (omega arith) (omega arith) in
    record {
      reads = went (omega arith) (let (l, _) = three.there refl in omega (arith, l)) (record { letters = _; three = refl })
          (λ k. one_capital s [] k at one 1 refl (at + 1) refl ∙ (one_capital s _ k (at + 1) two 0 refl (at + 2) (omega arith) ∙ last_capital s _ k (at + 2) three refl (at + 3) (omega arith)));
      goes = λ p i. sym (ap end_of i);
    }

module _ {s : List ℕ} {at i : ℕ} (f : (j : ℕ) → at ≤ j → j < i → CapitalAt s j true) where
  pub one_more : CapitalAt s i true → (j : ℕ) → at ≤ j → j < i + 1 → CapitalAt s j true
  one_more c j l u = go (dec_le i j)
    where
      go : Dec (i ≤ j) → CapitalAt s j true
      go (yes m) = let z : i ≡ j = omega arith in subst (λ z. CapitalAt s z true) z c
      go (no m) = f j l (omega arith)

  pub one_missing : at ≤ i → i < at + 3 → CapitalAt s i false → Capitals s at (Err (record { at = i }))
  one_missing l u c = record { reads = stops (λ k. runs k (dec_le i at) (dec_le i (at + 1))); goes = λ p e. absurd (no_to e) }
    where
      runs : (k : List ℕ → State) → Dec (i ≤ at) → Dec (i ≤ at + 1) → from s (capitals 2 [] k) at ≡ stops_at i
      runs k (yes a) d = let z : at ≡ i = omega arith in rw z (no_capital s [] k i c 2 refl)
      runs k (no a) (yes b) = one_capital s [] k at (f at (omega arith) (omega arith)) 1 refl i (omega arith) ∙ no_capital s _ k i c 1 refl
      runs k (no a) (no b) =
          one_capital s [] k at (f at (omega arith) (omega arith)) 1 refl (at + 1) refl
          ∙ (one_capital s _ k (at + 1) (f (at + 1) (omega arith) (omega arith)) 0 refl i (omega arith) ∙ no_capital s _ k i c 0 refl)

-- the currency: what stands before it, its letters, what stands behind it
amount_long : (letters : List ℕ) → length letters ≡ 3 → length (amount_tag letters) ≡ 20
unfolding amount_tag bytes
amount_long letters e = let a = length-append letters (bytes "\">") in omega (arith, a, e)

amount_behind : (lt end : ℕ) → end ≡ lt + 20 → lt + 2 + length (bytes "InstdAmt") ≤ end
unfolding bytes
amount_behind lt end e = omega (arith, e)

amount_tagged : (depth lt end : ℕ) (l : Letters) → end ≡ lt + 20 → Tag (bytes "InstdAmt") depth lt end
amount_tagged depth lt end l e = record {
  tag = record { name = bytes "InstdAmt"; currency = l.letters; at = lt; start = lt + length (amount_tag l.letters); depth = depth };
  its_name = refl;
  its_depth = refl;
  its_at = refl;
  its_start = let m = amount_long l.letters l.three in omega (arith, m, e);
  long = amount_behind lt end e;
}

module _ (s : List ℕ) (depth lt : ℕ) where
  pub currency_stops : (at : ℕ) {n : Stop} {r : Scan} → Word s at (bytes "Ccy=\"") r → r ≡ Err n
      → Opened s at (bytes "InstdAmt") depth lt (opens_currency depth lt) (Err n)
  unfolding opens_currency
  currency_stops at h e = halts (via (λ k. capitals 2 [] (in_amount depth lt k)) h.reads) e

  pub letters_stop : (at p : ℕ) {n : Stop} {r z : Scan} → Word s at (bytes "Ccy=\"") r → r ≡ Ok p → Capitals s p z → z ≡ Err n
      → Opened s at (bytes "InstdAmt") depth lt (opens_currency depth lt) (Err n)
  unfolding opens_currency
  letters_stop at p h e g f = chain (via (λ k. capitals 2 [] (in_amount depth lt k)) h.reads) e (λ _. halts (via (λ k. in_amount depth lt k) g.reads) f)

  pub currency_read : (at p q : ℕ) → at ≡ lt + 10 → {r y z : Scan} → Word s at (bytes "Ccy=\"") r → r ≡ Ok p → Capitals s p y → y ≡ Ok q
      → Word s q (bytes "\">") z → Opened s at (bytes "InstdAmt") depth lt (opens_currency depth lt) z
  unfolding opens_currency in_amount amount_tagged end_of bytes want
  currency_read at p q l {z = z} h e g f i =
      chain (via (λ k. capitals 2 [] (in_amount depth lt k)) h.reads) e
      (λ _. chain (via (λ k. in_amount depth lt k) g.reads) f
      (λ letters. giving_at
      (λ x j _. amount_tagged depth lt (end_of z) letters (let a = h.goes p e in let b = g.goes q f in let c = i.goes x j in let d = ap end_of j in omega (arith, a, b, c, d, l)))
      (λ k x j _. refl) (via (λ k. want [] (blank (amount_tagged depth lt (lt + 20) letters refl).tag [] k)) i.reads)))

-- behind a name
named_stuck : (depth lt : ℕ) (name : List ℕ) (k : Element → State) (at b : ℕ)
    → (b ≡ 62 → same name (bytes "InstdAmt") ≡ true) → (b ≡ 32 → same name (bytes "InstdAmt") ≡ false) → behind_name depth lt name k at b ≡ none
unfolding behind_name is
named_stuck depth lt name k at b f g = go (is ">" b) refl (is " " b) refl
  where
    go : (c : Bool) → is ">" b ≡ c → (d : Bool) → is " " b ≡ d → behind_name depth lt name k at b ≡ none
    go true x d y = rw (x, f (eqb-true b 62 x))
    go false x true y = rw (x, y, g (eqb-true b 32 y))
    go false x false y = rw (x, y)

name_stuck : (depth lt : ℕ) (name : List ℕ) (room : ℕ) (k : Element → State) (at b : ℕ) → letter_or_digit b ≡ false
    → (b ≡ 62 → same name (bytes "InstdAmt") ≡ true) → (b ≡ 32 → same name (bytes "InstdAmt") ≡ false) → step (naming depth lt name room k) at b ≡ none
unfolding step
name_stuck depth lt name zero k at b e f g = rw e (named_stuck depth lt name k at b f g)
name_stuck depth lt name (suc room) k at b e f g = rw e (named_stuck depth lt name k at b f g)

module _ (s name : List ℕ) (depth lt room at : ℕ) (h : at < length s) where
  pub tag_stops : letter_or_digit (get_or s at 0) ≡ false → (get_or s at 0 ≡ 62 → same name (bytes "InstdAmt") ≡ true)
      → (get_or s at 0 ≡ 32 → same name (bytes "InstdAmt") ≡ false) → Opened s at name depth lt (naming depth lt name room) (Err (record { at = at }))
  tag_stops e f g = stops (λ k. from_stuck s _ at h (name_stuck depth lt name room k at (get_or s at 0) e f g))

  pub tag_closes : at ≡ lt + 1 + length name → get_or s at 0 ≡ 62 → same name (bytes "InstdAmt") ≡ false → Opened s at name depth lt (naming depth lt name room) (Ok (at + 1))
  unfolding end_of
  tag_closes g z e =
      let o : Tag name depth lt (at + 1) = record {
        tag = record { name = name; currency = []; at = lt; start = suc at; depth = depth };
        its_name = refl;
        its_depth = refl;
        its_at = refl;
        its_start = omega arith;
        long = omega (arith, g);
      } in
      went (omega arith) (omega arith) o (λ k. from_next s _ at h (rw z (close_name depth lt name room k at e)))

  pub tag_amount : get_or s at 0 ≡ 32 → same name (bytes "InstdAmt") ≡ true → {r : Scan}
      → Opened s (at + 1) (bytes "InstdAmt") depth lt (opens_currency depth lt) r → Opened s at name depth lt (naming depth lt name room) r
  unfolding opens_currency
  tag_amount z e g =
      let n : name ≡ bytes "InstdAmt" = same_true name (bytes "InstdAmt") e in
      giving (λ o. record { tag = o.tag; its_name = o.its_name ∙ sym n; its_depth = o.its_depth; its_at = o.its_at; its_start = o.its_start; long = let m = ap length n in let k = o.long in omega (arith, m, k) }) (λ k o. refl)
      (first (omega arith) (λ k. from_next s _ at h (rw z (open_amount depth lt name room k at e))) g)

-- The name of an amount is known by its number.
amount_number : 42 ≡ name_number (bytes "InstdAmt")
unfolding name_number number_in rows instant_changes every_row group same bytes leaf group_under
amount_number = refl

amount_name : name 42 ≡ bytes "InstdAmt"
unfolding name name_in rows instant_changes every_row group bytes leaf group_under
amount_name = refl

pub of_amount : (w : List ℕ) {n : ℕ} → n ≡ name_number w → same w (bytes "InstdAmt") ≡ eqb n 42
unfolding is_row
of_amount w {n} e =
    ap (same w) (sym amount_name) ∙ (sym (same_number w 42 refl) ∙ (ap (λ z. eqb z (name_number (name 42))) (sym e) ∙ ap (eqb n) (ap name_number amount_name ∙ sym amount_number)))

pub amount_at : (w : List ℕ) (at lt : ℕ) → same w (bytes "InstdAmt") ≡ true → at ≡ lt + 1 + length w → at + 1 ≡ lt + 10
unfolding bytes
amount_at w at lt e f = let z : length w ≡ 8 = ap length (same_true w (bytes "InstdAmt") e) in omega (arith, z, f)
