-- How the machine runs on over the whole message: the declaration, the root, the white space around it, and what that says of the form.
use Prim.Native.Nat.{ℕ, ◌+◌, ◌≤◌, ◌<◌}
use mathlib.Core.List.{List, [], ◌∷◌}
use mathlib.Core.Option.{none, some}
use mathlib.Core.Bool.{Bool, true, false, false≢true}
use mathlib.Core.Path.{◌≡◌, refl, sym, subst, ◌∙◌}
use native.Mathlib.Decide.{dec_le}
use native.Mathlib.Omega.{arith}
use lib.ListN.{length, get_or, drop, drop_of_length-le}
use lib.Dec.{eqb}
use borrow.Author.Tests.{eqb-true, eqb-false, ne_eqb}
use Rattle.std.specs.List.{starts_with}
use Rattle.paper.proofs.Laws.{both_left, both_right}
use Rattle.paper.specs.Bytes.{bytes, is, one_of, white, same}
use Rattle.paper.specs.Form.{Element, IsMessage, root_tag, end_tag, declaration}
use Rattle.paper.specs.Rows.{leaf, group, group_under, rows, instant_changes, every_row}
use Rattle.paper.specs.Computed.Reading.{opening, opened, before, after, want, blank, in_root, step, ended, run, read, root_is}
use Rattle.form.specs.Promise.{FormPromise}
use Rattle.form_names.specs.Names.{number_in, name_number}
use Rattle.form_scans.specs.Scans.{Scan, from, Scanned, Word, Tag, White}
use Rattle.form.specs.Reads.{PutDown, known_number, Whole, held_scan, ContentRead, Prologue, Root, InRoot, RootRead}
use Rattle.form.specs.declared.Held.{Held}
use Rattle.std.specs.Prelude.{Ok, Err}
use Rattle.form_scans.specs.declared.Stop.{Stop}
use Rattle.paper_grammar.proofs.Complete.{after_stays, before_stays}
use Rattle.paper_grammar.proofs.Stops.{stop_is_refusal}
use Rattle.paper_grammar.proofs.Sound.{sound}
use Rattle.form_scans.proofs.Laws.{from_stuck, want_step, want_stuck, reached, halted, halts, first, via, giving, chain}
use Rattle.form.proofs.ContentLaws.{alike_short, alike_stuck, alike_next}
use Rattle.form.proofs.ElementLaws.{closing, numbered_then}
use Rattle.form.proofs.Numbering.{laid}
use Rattle.paper_grammar.proofs.InPlace.{in_place}

-- the declaration, which begins with `<?`
opening_angle : (b : ℕ) → b ≡ 60 → step opening 0 b ≡ some opened
unfolding step white one_of is
opening_angle b e = rw e

opened_declares : (b : ℕ) → b ≡ 63 → step opened 1 b ≡ some (want (drop 2 declaration) before)
unfolding step is
opened_declares b e = rw e

pub declared : (s : List ℕ) → 1 < length s → get_or s 0 0 ≡ 60 → get_or s 1 0 ≡ 63 → from s opening 0 ≡ from s (want declaration before) 0
unfolding declaration bytes
declared s l e f =
    alike_next s opening _ 0 (omega arith) (opening_angle (get_or s 0 0) e) (want_step 60 (drop 1 declaration) before 0 (get_or s 0 0) e)
    (alike_next s opened _ 1 l (opened_declares (get_or s 1 0) f) (want_step 63 (drop 2 declaration) before 1 (get_or s 1 0) f) refl)

-- whether a message begins with `<?`
pub begins : (s : List ℕ) → starts_with eqb s (60 ∷ 63 ∷ []) ≡ true → (1 < length s) × (get_or s 0 0 ≡ 60) × (get_or s 1 0 ≡ 63)
begins [] e = absurd (false≢true e)
begins (a ∷ []) e = absurd (false≢true (both_right (eqb 60 a) false e))
begins (a ∷ b ∷ s) e =
    (omega arith, sym (eqb-true 60 a (both_left (eqb 60 a) _ e)), sym (eqb-true 63 b (both_left (eqb 63 b) true (both_right (eqb 60 a) _ e))))

pub begins_not : (s : List ℕ) → starts_with eqb s (60 ∷ 63 ∷ []) ≡ false → 1 < length s → get_or s 0 0 ≡ 60 → get_or s 1 0 ≡ 63 → ⊥
begins_not [] e l f g = absurd (omega (arith, l))
begins_not (a ∷ []) e l f g = absurd (omega (arith, l))
begins_not (a ∷ b ∷ s) e l f g = false≢true (sym e ∙ rw (f, g) refl)

-- no declaration: the root may begin at once
before_angle : (at b : ℕ) → b ≡ 60 → step before at b ≡ some (want (drop 1 root_tag) (in_root at))
unfolding step white one_of is
before_angle at b e = rw e

opened_names : (b : ℕ) → b ≡ 68 → step opened 1 b ≡ some (want (drop 2 root_tag) (in_root 0))
unfolding step is
opened_names b e = rw e

opened_stuck : (b : ℕ) → (b ≡ 63 → ⊥) → (b ≡ 68 → ⊥) → step opened 1 b ≡ none
unfolding step is
opened_stuck b e f = rw (ne_eqb b 63 e, ne_eqb b 68 f)

opening_white : (b : ℕ) → white b ≡ true → step opening 0 b ≡ some before
unfolding step
opening_white b e = rw e

opening_stuck : (b : ℕ) → white b ≡ false → (b ≡ 60 → ⊥) → step opening 0 b ≡ none
unfolding step is
opening_stuck b e f = rw (e, ne_eqb b 60 f)

before_white : (at b : ℕ) → white b ≡ true → step before at b ≡ some before
unfolding step
before_white at b e = rw e

before_stuck : (at b : ℕ) → white b ≡ false → (b ≡ 60 → ⊥) → step before at b ≡ none
unfolding step is
before_stuck at b e f = rw (e, ne_eqb b 60 f)

opened_as_root : (s : List ℕ) → (1 < length s → get_or s 1 0 ≡ 63 → ⊥) → from s opened 1 ≡ from s (want (drop 1 root_tag) (in_root 0)) 1
unfolding ended want root_tag bytes
opened_as_root s n = go (dec_le (length s) 1)
  where
    at_byte : 1 < length s → (c : Bool) → eqb (get_or s 1 0) 68 ≡ c → from s opened 1 ≡ from s (want (drop 1 root_tag) (in_root 0)) 1
    at_byte h true e = alike_next s opened _ 1 h (opened_names _ (eqb-true _ _ e)) (want_step 68 (drop 2 root_tag) (in_root 0) 1 _ (eqb-true _ _ e)) refl
    at_byte h false e = alike_stuck s opened _ 1 h (opened_stuck _ (n h) (eqb-false _ _ e)) (want_stuck 68 (drop 2 root_tag) (in_root 0) 1 _ (eqb-false _ _ e))

    go : Dec (length s ≤ 1) → from s opened 1 ≡ from s (want (drop 1 root_tag) (in_root 0)) 1
    go (yes l) = alike_short s opened _ 1 l refl refl
    go (no l) = let h : 1 < length s = omega arith in at_byte h (eqb (get_or s 1 0) 68) refl

pub undeclared : (s : List ℕ) → (1 < length s → get_or s 0 0 ≡ 60 → get_or s 1 0 ≡ 63 → ⊥) → from s opening 0 ≡ from s before 0
unfolding ended
undeclared s n = go (dec_le (length s) 0)
  where
    other : 0 < length s → (c : Bool) → white (get_or s 0 0) ≡ c → (get_or s 0 0 ≡ 60 → ⊥) → from s opening 0 ≡ from s before 0
    other h true e f = alike_next s opening before 0 h (opening_white _ e) (before_white 0 _ e) refl
    other h false e f = alike_stuck s opening before 0 h (opening_stuck _ e f) (before_stuck 0 _ e f)

    at_byte : 0 < length s → (c : Bool) → eqb (get_or s 0 0) 60 ≡ c → from s opening 0 ≡ from s before 0
    at_byte h true e =
        let f = eqb-true (get_or s 0 0) 60 e in
        alike_next s opening before 0 h (opening_angle _ f) (before_angle 0 _ f) (opened_as_root s (λ l. n l f))
    at_byte h false e = other h (white (get_or s 0 0)) refl (eqb-false _ _ e)

    go : Dec (length s ≤ 0) → from s opening 0 ≡ from s before 0
    go (yes l) = alike_short s opening before 0 l refl refl
    go (no l) = let h : 0 < length s = omega arith in at_byte h (eqb (get_or s 0 0) 60) refl

-- the root's start tag
root_begins : (s : List ℕ) (p : ℕ) → (p < length s → white (get_or s p 0) ≡ false) → from s before p ≡ from s (want root_tag (in_root p)) p
unfolding ended want root_tag bytes
root_begins s p w = go (dec_le (length s) p)
  where
    at_byte : (h : p < length s) → (c : Bool) → eqb (get_or s p 0) 60 ≡ c → from s before p ≡ from s (want root_tag (in_root p)) p
    at_byte h true e = alike_next s before _ p h (before_angle p _ (eqb-true _ _ e)) (want_step 60 (drop 1 root_tag) (in_root p) p _ (eqb-true _ _ e)) refl
    at_byte h false e =
        alike_stuck s before _ p h (before_stuck p _ (w h) (eqb-false _ _ e)) (want_stuck 60 (drop 1 root_tag) (in_root p) p _ (eqb-false _ _ e))

    go : Dec (length s ≤ p) → from s before p ≡ from s (want root_tag (in_root p)) p
    go (yes l) = alike_short s before _ p l refl refl
    go (no l) = let h : p < length s = omega arith in at_byte h (eqb (get_or s p 0) 60) refl

root_number : 1 ≡ name_number (bytes "Document")
unfolding name_number number_in rows instant_changes every_row group same bytes leaf group_under
root_number = refl

-- the root's start tag, and what follows it
module _ {s : List ℕ} {at : ℕ} {r : Scan} (w : at < length s → white (get_or s at 0) ≡ false) (h : Word s at root_tag r) where
  tag_read : Scanned {K = Unit {0}} {A = Unit {0}} s at (λ _. before) (λ _ _. in_root at) r
  tag_read = first (omega arith) (λ _. root_begins s at w) (via (λ _. in_root at) h.reads)

  pub root_stops : {tree : List ℕ} {n : Stop} → r ≡ Err n → RootRead s tree at before (Err n)
  root_stops e = halts tag_read e

  pub root_length : {p : ℕ} → r ≡ Ok p → p ≡ at + 65
  unfolding root_tag bytes
  root_length {p} e = h.goes p e

  pub root_read : {tree : List ℕ} {p : ℕ} {y : Scan} → r ≡ Ok p → InRoot s tree at p y → RootRead s tree at before y
  unfolding in_root root_tag bytes
  root_read {p} e c =
      chain tag_read e
      (λ _. via (λ _. after)
      (c (record {
        tag = record { name = bytes "Document"; currency = []; at = at; start = at + length root_tag; depth = 1 };
        its_name = refl;
        its_depth = refl;
        its_at = refl;
        its_start = sym (h.goes p e);
        long = let k = h.goes p e in omega (arith, k);
      })))

-- what the root holds, its end tag, and its numbers
module _ (s before tree : List ℕ) (at start : ℕ) where
  pub in_root_stops : {n : Stop} → ContentRead s before tree start 1 11 (Err n) → InRoot s tree at start (Err n)
  unfolding held_scan
  in_root_stops c o = halts (c.reads o.tag (let j = o.its_depth in omega (arith, j))) refl

  module _ {h : Held} (c : ContentRead s before tree start 1 11 (Ok h)) {r : Scan} (w : Word s h.close (end_tag (bytes "Document")) r) where
    pub root_end_stops : {n : Stop} → r ≡ Err n → InRoot s tree at start (Err n)
    root_end_stops f o = halts (closing 0 c w o refl) f

    module _ (after : List ℕ) (q : ℕ) (f : r ≡ Ok q) (p : PutDown tree after 0 at 1 start h.close h.next (known_number h.text)) (sl : start ≤ length s) where
      root_placed : (o : Tag (bytes "Document") 1 at start) → Whole s tree o.tag h.close 1 h.next → Root s after
      root_placed o a = record { element = a.element; next = h.next; numbered = numbered_then 0 c w o p root_number sl (omega arith) a }

      pub in_root-read : InRoot s after at start (Ok q)
      unfolding root_placed
      in_root-read o =
          subst (λ z. Scanned s start (blank o.tag []) (λ k (a : Root s after). k a.element) z) f (giving (root_placed o) (λ k _. refl) (closing 0 c w o refl))

-- the message up to behind the root
pub prologue_stops : {s tree : List ℕ} {r : Scan} {n : Stop} → Prologue s r → r ≡ Err n → RootRead s tree 0 opening (Err n)
prologue_stops h e = halts h e

pub whole_root : {s tree : List ℕ} {p m : ℕ} {r y : Scan} → Prologue s r → r ≡ Ok p → White s p m → RootRead s tree m before y → RootRead s tree 0 opening y
whole_root h e w g = chain h e (λ _. first w.through.rises (λ _. w.through.stays before before_stays) g)

after_stuck : (t : Element) (at b : ℕ) → white b ≡ false → step (after t) at b ≡ none
unfolding step
after_stuck t at b e = rw e

-- what the answer says
pub refused : {s tree : List ℕ} {r : Scan} {n : Stop} → RootRead s tree 0 opening r → r ≡ Err n → FormPromise s tree (Err n)
unfolding FormPromise read from
refused {s} {n = n} h e = stop_is_refusal s n.at (halted h e tt)

ended_well : (s : List ℕ) (e : ℕ) → e ≡ length s → (t : Element) → from s (after t) e ≡ root_is t
unfolding from run ended
ended_well s e l t = rw (drop_of_length-le s {i = e} (omega arith))

module _ {s tree : List ℕ} {r : Scan} {p e : ℕ} (h : RootRead s tree 0 opening r) (z : r ≡ Ok p) (w : White s p e) where
  behind_root : (a : Root s tree) × (from s opening 0 ≡ from s (after a.element) e)
  behind_root = let g = reached h z in (g.got, g.runs tt ∙ w.through.stays (after g.got.element) (after_stays g.got.element))

  pub accepted : e ≡ length s → 28200 ≤ length tree → FormPromise s tree (Ok tt)
  unfolding FormPromise read from
  accepted l long =
      let (a, f) = behind_root in
      let m : IsMessage s a.element = sound s a.element (f ∙ ended_well s e l a.element) in
      record {
        root = a.element;
        message = m;
        laid = λ short. record { next = a.next; laid = laid (a.numbered (record { short = short; long = long })) (in_place m) };
      }

  pub trailing : (e ≡ length s → ⊥) → FormPromise s tree (Err (record { at = e }))
  unfolding FormPromise read from
  trailing l =
      let (a, f) = behind_root in
      let k = w.through.within in
      let i : e < length s = omega arith in
      stop_is_refusal s e (f ∙ from_stuck s (after a.element) e i (after_stuck a.element e (get_or s e 0) (w.other i)))
