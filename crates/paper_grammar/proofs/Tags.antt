-- What leads past a start tag and up to an end tag.
use Prim.Native.Nat.{ℕ, zero, suc, ◌+◌, ◌≤◌, ◌<◌}
use mathlib.Core.List.{List, [], ◌∷◌, ◌++◌, append_assoc, append-nil}
use mathlib.Core.Option.{some}
use mathlib.Core.Bool.{Bool, true, false, ◌&&◌, false≢true}
use mathlib.Core.Path.{◌≡◌, refl}
use mathlib.Core.Logic.{◌≢◌}
use native.Mathlib.Nat.{add-suc, add-zero, suc-add}
use native.Mathlib.Omega.{arith}
use lib.ListN.{length, length-append}
use lib.Dec.{eqb}
use borrow.Author.Tests.{ne_eqb, eqb-true, le-leb}
use Rattle.paper.specs.Bytes.{bytes, is, from_to, one_of, white, text_byte, capital, digit, letter, letter_or_digit, same, Every, every_none as all_done, every_more}
use Rattle.paper.specs.Form.{Element, holding_text, letter_and, start_tag, amount_tag, end_tag, IsStartTag, of_root, of_amount, of_any_other}
use Rattle.paper.specs.Computed.Reading.{Open, closed, State, angle, naming, capitals, blank, in_text, want, ending, in_amount, behind_name, step}
use Rattle.paper_grammar.proofs.Leads.{Leads, here, next, on, follow, want_leads}

-- the open element of a start tag
abbrev pub opened_by : (depth at : ℕ) (tag name currency : List ℕ) → Open
opened_by depth at tag name currency = record { name = name; currency = currency; at = at; start = at + length tag; depth = depth }

-- the end tag behind its `</`, and the whole of it where it may stand
pub end_leads : (o : Open) (t : Element) (k : Element → State) (at : ℕ) → Leads (ending o t k) at (o.name ++ bytes ">") (k t)
unfolding ending
end_leads o t k at = want_leads (o.name ++ bytes ">") (k t) at

-- text, from where it is known to be text, up to the end tag
pub text_leads : (o : Open) (w : List ℕ) (k : Element → State) {s : List ℕ} (at : ℕ) → Every text_byte s
    → Leads (in_text o w k) at (s ++ end_tag o.name) (k (holding_text (closed o (at + length s)) (w ++ s)))
unfolding step end_tag bytes is one_of text_byte
text_leads o w k at all_done = rw (add-zero, append-nil) (next (next (end_leads o _ k _) refl) refl)
text_leads o w k at (every_more {b} {s} e es) =
    rw (add-suc, ← suc-add, ← append_assoc w (b ∷ []) s) (on (text_leads o (w ++ (b ∷ [])) k (suc at) es) (rw e))

-- what is text is no `<`
pub text_no_angle : (b : ℕ) → text_byte b ≡ true → is "<" b ≡ false
unfolding text_byte one_of is
text_no_angle b h = ne_eqb b 60 (λ e. false≢true (rw e at h))

-- text, from where it may still turn out to be white space
pub blank_text_leads : (o : Open) (w : List ℕ) (k : Element → State) {s : List ℕ} (at : ℕ) → Every text_byte s
    → Leads (blank o w k) at (s ++ end_tag o.name) (k (holding_text (closed o (at + length s)) (w ++ s)))
unfolding step end_tag bytes is one_of white letter capital from_to
blank_text_leads o w k at all_done = rw (add-zero, append-nil) (next (next (end_leads o _ k _) refl) refl)
blank_text_leads o w k at (every_more {b} {s} e es) = go (white b) refl (blank_text_leads o (w ++ (b ∷ [])) k (suc at) es)
  where
    go : (c : Bool) → white b ≡ c
        → Leads (blank o (w ++ (b ∷ [])) k) (suc at) (s ++ end_tag o.name) (k (holding_text (closed o (suc at + length s)) ((w ++ (b ∷ [])) ++ s)))
        → Leads (blank o w k) at (b ∷ (s ++ end_tag o.name)) (k (holding_text (closed o (at + suc (length s))) (w ++ (b ∷ s))))
    go true h ih = rw (add-suc, ← suc-add, ← append_assoc w (b ∷ []) s) (on ih (rw h))
    go false h ih =
        rw (add-suc, ← suc-add, ← append_assoc w (b ∷ []) s)
        (on (text_leads o (w ++ (b ∷ [])) k (suc at) es) (rw (h, text_no_angle b e, e)))

-- a name goes on as long as it has room
pub name_leads : (depth from : ℕ) (name : List ℕ) (room : ℕ) (k : Element → State) {s : List ℕ} (at : ℕ) → Every letter_or_digit s → length s ≤ room
    → (left : ℕ) × Leads (naming depth from name room k) at s (naming depth from (name ++ s) left k)
unfolding step
name_leads depth from name room k at all_done l = (room, rw append-nil here)
name_leads depth from name zero k at (every_more e es) l = absurd (omega arith)
name_leads depth from name (suc room) k at (every_more {b} {s} e es) l =
    let (left, g) = name_leads depth from (name ++ (b ∷ [])) room k (suc at) es (omega arith) in
    (left, rw (← append_assoc name (b ∷ []) s) (on g (rw e)))

pub both : (a b : Bool) → (a && b) ≡ true → (a ≡ true) × (b ≡ true)
both true b e = (refl, e)
both false b e = absurd (false≢true e)

pub same_true : (s t : List ℕ) → same s t ≡ true → s ≡ t
unfolding same
same_true [] [] e = refl
same_true [] (c ∷ t) e = absurd (false≢true e)
same_true (b ∷ s) [] e = absurd (false≢true e)
same_true (b ∷ s) (c ∷ t) e =
    let (h, g) = both (eqb b c) (same s t) e in
    let p : b ≡ c = eqb-true b c h in
    let q : s ≡ t = same_true s t g in
    cc

pub not_same : (s t : List ℕ) → s ≢ t → same s t ≡ false
not_same s t n = go (same s t) refl
  where
    go : (c : Bool) → same s t ≡ c → same s t ≡ false
    go false e = e
    go true e = absurd (n (same_true s t e))

-- a `>` ends a start tag, unless it is an amount's
pub close_name : (depth from : ℕ) (name : List ℕ) (room : ℕ) (k : Element → State) (at : ℕ) → same name (bytes "InstdAmt") ≡ false
    → step (naming depth from name room k) at 62 ≡ some (blank (record { name = name; currency = []; at = from; start = suc at; depth = depth }) [] k)
unfolding step behind_name letter_or_digit letter digit capital from_to is
close_name depth from name zero k at e = rw e
close_name depth from name (suc room) k at e = rw e

-- the start tag of an amount, behind its `<I`: up to the currency, the currency, the rest
pub amount_name : (depth from : ℕ) (k : Element → State) (at : ℕ)
    → Leads (naming depth from (bytes "I") 31 k) at (bytes "nstdAmt Ccy=\"") (capitals 2 [] (in_amount depth from k))
unfolding step behind_name want bytes same letter_or_digit letter digit capital from_to is
amount_name depth from k at =
    next (next (next (next (next (next (next
    (next (want_leads (bytes "Ccy=\"") (capitals 2 [] (in_amount depth from k)) _) refl) refl) refl) refl) refl) refl) refl) refl

pub capitals_lead : (n : ℕ) (letters : List ℕ) {s : List ℕ} → Every capital s → length s ≡ suc n → (f : List ℕ → State) (at : ℕ)
    → Leads (capitals n letters f) at s (f (letters ++ s))
unfolding step
capitals_lead n letters all_done l f at = absurd (omega arith)
capitals_lead zero letters (every_more {b} e all_done) l f at = on (here {q = f (letters ++ (b ∷ []))}) (rw e)
capitals_lead zero letters (every_more e (every_more _ _)) l f at = absurd (omega arith)
capitals_lead (suc n) letters (every_more {b} {s} e es) l f at =
    rw (← append_assoc letters (b ∷ []) s) (on (capitals_lead n (letters ++ (b ∷ [])) es (omega arith) f (suc at)) (rw e))

-- a start tag that is not the root's, behind its `<`
pub tag_leads : {depth : ℕ} {tag name currency : List ℕ} → IsStartTag depth tag name currency → 1 < depth → depth ≤ 12
    → (at : ℕ) (q : State) (k : Element → State)
    → (every_more : List ℕ) × (tag ≡ 60 ∷ every_more) × Leads (angle depth at q k) (suc at) every_more (blank (opened_by depth at tag name currency) [] k)
unfolding step behind_name in_amount want amount_tag start_tag bytes same letter_or_digit letter digit capital from_to is
tag_leads of_root d _ at q k = absurd (omega arith)
tag_leads {depth} (of_amount _ es) d e at q k =
    (_, refl, on (follow (amount_name depth at k _) (follow (capitals_lead 2 [] es refl _ _) (want_leads (bytes "\">") _ _))) (rw (le-leb depth 12 e)))
tag_leads {depth} (of_any_other _ (letter_and {b} {bs} eb ebs l) n) d e at q k =
    let (left, g) = name_leads depth at (b ∷ []) 31 k (suc (suc at)) ebs l in
    let z : suc (suc (suc at) + length bs) ≡ at + length (60 ∷ b ∷ (bs ++ (62 ∷ []))) = simp length-append (omega arith) in
    let o : Open = opened_by depth at (60 ∷ b ∷ (bs ++ (62 ∷ []))) (b ∷ bs) [] in
    let c : Leads (naming depth at (b ∷ bs) left k) (suc (suc at) + length bs) (62 ∷ []) (blank o [] k) =
    on (here {q = blank o [] k}) (rw (← z) (close_name depth at (b ∷ bs) left k _ (not_same _ _ n)))
    in
    (_, refl, on (follow g c) (rw (eb, le-leb depth 12 e)))
