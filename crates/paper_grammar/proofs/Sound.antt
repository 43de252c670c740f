-- The reading finds nothing else: where it gives a root, the text is a text of the grammar with that root.
use Rattle.std.specs.Prelude.{if◌then◌else◌}
use Prim.Native.Nat.{ℕ, zero, suc, ◌+◌, ◌≤◌, ◌<◌}
use mathlib.Core.List.{List, [], ◌∷◌, ◌++◌, append_assoc, append-nil}
use mathlib.Core.Option.{Option, none, some}
use mathlib.Core.Bool.{Bool, true, false, ◌||◌, false≢true}
use mathlib.Core.Path.{◌≡◌, refl, sym, ap, ◌∙◌}
use mathlib.Core.Logic.{◌≢◌, ◌⊎◌, inl, inr, ⊎_elim}
use native.Mathlib.Nat.{add-suc, add-zero, suc-add}
use native.Mathlib.Numerals.{add-one}
use native.Mathlib.Omega.{arith}
use lib.ListN.{length, drop, length-append}
use lib.Dec.{leb, eqb}
use borrow.Author.Tests.{eqb-true, leb-true}
use Rattle.paper.specs.Bytes.{bytes, is, one_of, white, text_byte, capital, letter, letter_or_digit, same, Every, every_none as all_done, every_more}
use Rattle.paper.specs.Form.{Element, Elements, holding_text, holding_elements, []ᵉ, ◌∷ᵉ◌, IsName, letter_and, root_tag, start_tag, amount_tag, end_tag, IsStartTag, of_root, of_amount, of_any_other, head, IsElement, of_text, of_elements, AreElements, no_more, one_more, declaration, IsDeclaration, no_declaration, one_declaration, IsMessage, whole}
use Rattle.paper_grammar.proofs.Tags.{same_true, opened_by}
use Rattle.paper_grammar.proofs.Complete.{deep_enough}
use Rattle.paper.specs.Computed.Reading.{Open, closed, State, fixed, opening, opened, before, angle, naming, capitals, blank, in_text, after_child, after, want, ending, in_root, in_amount, behind_name, step, ended, run, read, Reading, root_is, stops_at}

-- what an open element may hold, and the element that it then is
pub data Holds (o : Open) : List ℕ → Element → Type 0 where
  text_held : {s : List ℕ} → Every text_byte s → Holds o s (holding_text (closed o (o.start + length s)) s)
  elements_held : {s : List ℕ} {t : Element} {ts : Elements} → AreElements (suc o.depth) o.start s (t ∷ᵉ ts)
      → Holds o s (holding_elements (closed o (o.start + length s)) (t ∷ᵉ ts))

-- the root with white space around it
record Body (at : ℕ) (s : List ℕ) (t : Element) : Type 0 where
  space : List ℕ
  one : List ℕ
  behind : List ℕ
  whole : s ≡ space ++ (one ++ behind)
  is_space : Every white space
  is_root : IsElement 1 (at + length space) one t
  is_behind : Every white behind

-- The texts that a state at an offset goes on with, if the root is to be `t`.
Means : State → ℕ → List ℕ → Element → Type 0
Means (fixed b bs q) at s t = (rest : List ℕ) × (s ≡ b ∷ (bs ++ rest)) × Means q (suc at + length bs) rest t
Means opening at s t = at ≡ 0 → IsMessage s t
Means opened at s t = at ≡ 1 → IsMessage (60 ∷ s) t
Means before at s t = Body at s t
Means (angle depth from q k) at s t =
    1 < depth → at ≡ suc from
    → ((rest : List ℕ) × (s ≡ 47 ∷ rest) × Means q (suc at) rest t)
    ⊎ ((one rest : List ℕ) × (u : Element) × (s ≡ one ++ rest) × IsElement depth from (60 ∷ one) u × Means (k u) (at + length one) rest t)
Means (naming depth from name room k) at s t =
    1 < depth → depth ≤ 12 → at ≡ suc from + length name → IsName name → length name + room ≡ 32
    → (one rest : List ℕ) × (u : Element) × (s ≡ one ++ rest) × IsElement depth from (60 ∷ (name ++ one)) u × Means (k u) (at + length one) rest t
Means (capitals n letters k) at s t =
    (these rest : List ℕ) × (s ≡ these ++ rest) × (length these ≡ suc n) × Every capital these × Means (k (letters ++ these)) (at + length these) rest t
Means (blank o w k) at s t =
    1 ≤ o.depth → at ≡ o.start + length w → Every white w
    → (held rest : List ℕ) × (u : Element) × (s ≡ held ++ (end_tag o.name ++ rest)) × Holds o (w ++ held) u
    × Means (k u) (at + length held + length (end_tag o.name)) rest t
Means (in_text o w k) at s t =
    at ≡ o.start + length w → Every text_byte w
    → (held rest : List ℕ) × (u : Element) × (s ≡ held ++ (end_tag o.name ++ rest)) × Holds o (w ++ held) u
    × Means (k u) (at + length held + length (end_tag o.name)) rest t
Means (after_child o f k) at s t =
    1 ≤ o.depth
    → (inner rest : List ℕ) × (ts : Elements) × (s ≡ inner ++ (end_tag o.name ++ rest)) × AreElements (suc o.depth) at inner ts
    × Means (k (holding_elements (closed o (at + length inner)) (f ts))) (at + length inner + length (end_tag o.name)) rest t
Means (after u) at s t = Every white s × (u ≡ t)

moved : {m n : ℕ} → m ≡ n → (q : State) (s : List ℕ) (t : Element) → Means q m s t → Means q n s t
moved e q s t h = rw e at h

pub later : (at n : ℕ) → suc at + n ≡ at + suc n
later at n = omega arith

-- the same of a step that may not be there
abbrev Goes : Option State → ℕ → List ℕ → Element → Type 0
Goes none at s t = ⊥
Goes (some q) at s t = Means q at s t

module _ (n : ℕ) (s : List ℕ) (t : Element) {A : Type 0} where
  choose : (c : Bool) (x y : Option State) → Goes (if c then x else y) n s t → (c ≡ true → Goes x n s t → A) → (c ≡ false → Goes y n s t → A) → A
  choose true x y m f g = f refl m
  choose false x y m f g = g refl m

want_means : (bs : List ℕ) (q : State) (at : ℕ) (s : List ℕ) (t : Element) → Means (want bs q) at s t
    → (rest : List ℕ) × (s ≡ bs ++ rest) × Means q (at + length bs) rest t
unfolding want Means
want_means [] q at s t m = (s, refl, rw add-zero m)
want_means (b ∷ bs) q at s t (rest, e, m) = (rest, e, rw (add-suc, ← suc-add) m)

fixed_back : (c : ℕ) (cs : List ℕ) (q : State) (at b : ℕ) (s : List ℕ) (t : Element) → Goes (step (fixed c cs q) at b) (suc at) s t
    → Means (fixed c cs q) at (b ∷ s) t
unfolding step Means
fixed_back c [] q at b s t m =
    choose (suc at) s t (eqb b c) _ _ m
    (λ h m. (s, rw (eqb-true b c h), rw add-zero m))
    (λ h m. absurd m)
fixed_back c (d ∷ ds) q at b s t m =
    choose (suc at) s t (eqb b c) _ _ m
    (λ h m. (m.0, rw (eqb-true b c h, m.1), rw (add-suc, ← suc-add) m.2))
    (λ h m. absurd m)

-- white space before the root belongs to what may stand there
space_body : {at b : ℕ} {s : List ℕ} {t : Element} → white b ≡ true → Body (suc at) s t → Body at (b ∷ s) t
space_body {at} {b} h m = record {
  space = b ∷ m.space;
  one = m.one;
  behind = m.behind;
  whole = ap (λ s. b ∷ s) m.whole;
  is_space = every_more h m.is_space;
  is_root = rw (add-suc, ← suc-add) m.is_root;
  is_behind = m.is_behind;
}

body_message : {d s : List ℕ} {t : Element} → IsDeclaration d → Body (length d) s t → IsMessage (d ++ s) t
body_message hd m = rw m.whole (whole hd m.is_space m.is_root m.is_behind)

-- a start tag and what the element holds make it an element
holds_element : {depth at : ℕ} {tag name currency s : List ℕ} {u : Element} → depth ≤ 12 → IsStartTag depth tag name currency
    → Holds (opened_by depth at tag name currency) s u → IsElement depth at (tag ++ (s ++ end_tag name)) u
unfolding head closed
holds_element d h (text_held e) = of_text d h e
holds_element d h (elements_held e) = of_elements d h e

-- The text goes on with the rest of an element, of which some bytes have been read, and then as the state says.
abbrev One : (depth from : ℕ) (begun : List ℕ) (k : Element → State) (at : ℕ) (s : List ℕ) (t : Element) → Type 0
One depth from begun k at s t =
    (one rest : List ℕ) × (u : Element) × (s ≡ one ++ rest) × IsElement depth from (begun ++ one) u × Means (k u) (at + length one) rest t

-- what has been read of it may be counted to what is to come
prefixed : (depth from : ℕ) (begun p : List ℕ) (k : Element → State) (at : ℕ) (s rest : List ℕ) (t : Element) → s ≡ p ++ rest
    → One depth from (begun ++ p) k (at + length p) rest t → One depth from begun k at s t
prefixed depth from begun p k at s rest t e (one, rest₁, u, f, x, y) =
    let z : at + length p + length one ≡ at + length (p ++ one) = simp length-append (omega arith) in
    (p ++ one, rest₁, u, rw (e, f) (sym (append_assoc p one rest₁)), rw append_assoc at x, moved z (k u) rest₁ t y)

-- behind a start tag
tagged : {depth from : ℕ} {tag name currency : List ℕ} (k : Element → State) (s : List ℕ) (t : Element) → depth ≤ 12 → IsStartTag depth tag name currency
    → Means (blank (opened_by depth from tag name currency) [] k) (from + length tag) s t → One depth from tag k (from + length tag) s t
unfolding Means
tagged {depth} {from} {tag} {name} {currency} k s t d h m = go (m (deep_enough h) (sym (add-zero _)) all_done)
  where
    go : ((held rest : List ℕ) × (u : Element) × (s ≡ held ++ (end_tag name ++ rest)) × Holds (opened_by depth from tag name currency) held u
        × Means (k u) (from + length tag + length held + length (end_tag name)) rest t)
        → One depth from tag k (from + length tag) s t
    go (held, rest, u, e, x, y) =
        let z : from + length tag + length held + length (end_tag name) ≡ from + length tag + length (held ++ end_tag name) =
        simp length-append (omega arith)
        in
        (held ++ end_tag name, rest, u, e ∙ sym (append_assoc held (end_tag name) rest), holds_element d h x, moved z (k u) rest t y)

-- the root and what follows it
root_body : (at : ℕ) (s : List ℕ) (t : Element) → Means (in_root at) (at + length root_tag) s t → Body at (root_tag ++ s) t
unfolding in_root Means
root_body at s t m = go (tagged after s t (omega arith) of_root m)
  where
    go : One 1 at root_tag after (at + length root_tag) s t → Body at (root_tag ++ s) t
    go (one, rest, u, e, x, (w, z)) = record {
      space = [];
      one = root_tag ++ one;
      behind = rest;
      whole = rw e (sym (append_assoc root_tag one rest));
      is_space = all_done;
      is_root = rw (add-zero, ← z) x;
      is_behind = w;
    }

opening_back : (at b : ℕ) (s : List ℕ) (t : Element) → Goes (step opening at b) (suc at) s t → Means opening at (b ∷ s) t
unfolding step Means is
opening_back at b s t m z =
    choose (suc at) s t (white b) _ _ m
    (λ h m. body_message no_declaration (space_body h (rw z at m)))
    (λ _ m. choose (suc at) s t (is "<" b) _ _ m (λ h m. rw (eqb-true b 60 h) (m (rw z))) (λ _ m. absurd m))

opened_back : (at b : ℕ) (s : List ℕ) (t : Element) → Goes (step opened at b) (suc at) s t → Means opened at (b ∷ s) t
unfolding step Means is declaration root_tag bytes
opened_back at b s t m z =
    choose (suc at) s t (is "?" b) _ _ m
    (λ h m.
    let (rest, e, y) = want_means (drop 2 declaration) before 2 s t (rw z at m) in
    rw (eqb-true b 63 h, e) (body_message {s = rest} one_declaration y))
    (λ _ m. choose (suc at) s t (is "D" b) _ _ m
    (λ h m.
    let (rest, e, y) = want_means (drop 2 root_tag) (in_root 0) 2 s t (rw z at m) in
    rw (eqb-true b 68 h, e) (body_message {s = root_tag ++ rest} no_declaration (root_body 0 rest t y)))
    (λ _ m. absurd m))

before_back : (at b : ℕ) (s : List ℕ) (t : Element) → Goes (step before at b) (suc at) s t → Means before at (b ∷ s) t
unfolding step Means is root_tag bytes
before_back at b s t m =
    choose (suc at) s t (white b) _ _ m
    (λ h m. space_body h m)
    (λ _ m. choose (suc at) s t (is "<" b) _ _ m
    (λ h m.
    let (rest, e, y) = want_means (drop 1 root_tag) (in_root at) (suc at) s t m in
    rw (eqb-true b 60 h, e) (root_body at rest t (moved (later at 64) (in_root at) rest t y)))
    (λ _ m. absurd m))

angle_back : (depth from : ℕ) (q : State) (k : Element → State) (at b : ℕ) (s : List ℕ) (t : Element)
    → Goes (step (angle depth from q k) at b) (suc at) s t → Means (angle depth from q k) at (b ∷ s) t
unfolding step Means is
angle_back depth from q k at b s t m d z =
    choose (suc at) s t (letter b) _ _ m
    (λ h m. choose (suc at) s t (leb depth 12) _ _ m
    (λ l m.
    let (one, rest, u, e, x, y) = m d (leb-true depth 12 l) (rw z (omega arith)) (letter_and h all_done (omega arith)) refl in
    inr (b ∷ one, rest, u, ap (λ r. b ∷ r) e, x, moved (later at (length one)) (k u) rest t y))
    (λ _ m. absurd m))
    (λ _ m. choose (suc at) s t (is "/" b) _ _ m (λ h m. inl (s, rw (eqb-true b 47 h), m)) (λ _ m. absurd m))

every_snoc : {p : ℕ → Bool} {s : List ℕ} (b : ℕ) → Every p s → p b ≡ true → Every p (s ++ (b ∷ []))
every_snoc b all_done h = every_more h all_done
every_snoc b (every_more e es) h = every_more e (every_snoc b es h)

name_more : {name : List ℕ} (b : ℕ) → IsName name → letter_or_digit b ≡ true → length name ≤ 31 → IsName (name ++ (b ∷ []))
name_more b (letter_and {bs} e es l) h m = letter_and e (every_snoc b es h) (simp length-append (omega arith))

three_capitals : (depth : ℕ) (s : List ℕ) → 1 < depth → length s ≡ 3 → Every capital s → IsStartTag depth (amount_tag s) (bytes "InstdAmt") s
three_capitals depth [] d l es = absurd (omega arith)
three_capitals depth (a ∷ []) d l es = absurd (omega arith)
three_capitals depth (a ∷ b ∷ []) d l es = absurd (omega arith)
three_capitals depth (a ∷ b ∷ c ∷ []) d l es = of_amount d es
three_capitals depth (a ∷ b ∷ c ∷ e ∷ s) d l es = absurd (omega arith)

capitals_back : (n : ℕ) (letters : List ℕ) (k : List ℕ → State) (at b : ℕ) (s : List ℕ) (t : Element)
    → Goes (step (capitals n letters k) at b) (suc at) s t → Means (capitals n letters k) at (b ∷ s) t
unfolding step Means
capitals_back zero letters k at b s t m =
    choose (suc at) s t (capital b) _ _ m
    (λ h m. (b ∷ [], s, refl, refl, every_more h all_done, rw add-one m))
    (λ _ m. absurd m)
capitals_back (suc n) letters k at b s t m =
    choose (suc at) s t (capital b) _ _ m
    (λ h m.
    let (these, rest, e, l, es, y) = m in
    (b ∷ these, rest, ap (λ r. b ∷ r) e, ap suc l, every_more h es, rw (add-suc, ← suc-add, ← append_assoc letters (b ∷ []) these) y))
    (λ _ m. absurd m)

after_back : (u : Element) (at b : ℕ) (s : List ℕ) (t : Element) → Goes (step (after u) at b) (suc at) s t → Means (after u) at (b ∷ s) t
unfolding step Means
after_back u at b s t m = choose (suc at) s t (white b) _ _ m (λ h m. (every_more h m.0, m.1)) (λ _ m. absurd m)

-- behind a name: the `>`, or the currency of an amount
plain_back : (depth from : ℕ) (name : List ℕ) (k : Element → State) (at : ℕ) (s : List ℕ) (t : Element)
    → 1 < depth → depth ≤ 12 → at ≡ suc from + length name → IsName name → name ≢ bytes "InstdAmt"
    → Means (blank (record { name = name; currency = []; at = from; start = suc at; depth = depth }) [] k) (suc at) s t
    → One depth from (60 ∷ name) k at (62 ∷ s) t
unfolding start_tag bytes
plain_back depth from name k at s t d l z i n m =
    let y : suc at ≡ from + length (start_tag name) = simp length-append (omega arith) in
    let x : One depth from (start_tag name) k (from + length (start_tag name)) s t = tagged k s t l (of_any_other d i n) (rw y at m) in
    prefixed depth from (60 ∷ name) (62 ∷ []) k at (62 ∷ s) s t refl (rw (add-one, y) x)

amount_closed : (depth from : ℕ) (these : List ℕ) (k : Element → State) (at : ℕ) (s : List ℕ) (t : Element) → depth ≤ 12
    → at + 2 ≡ from + length (amount_tag these) → IsStartTag depth (amount_tag these) (bytes "InstdAmt") these
    → Means (in_amount depth from k these) at s t → One depth from (bytes "<InstdAmt Ccy=\"" ++ these) k at s t
unfolding amount_tag bytes in_amount
amount_closed depth from these k at s t l z h m = go (want_means (bytes "\">") _ at s t m)
  where
    go : ((rest : List ℕ) × (s ≡ bytes "\">" ++ rest)
        × Means (blank (opened_by depth from (amount_tag these) (bytes "InstdAmt") these) [] k) (at + 2) rest t)
        → One depth from (bytes "<InstdAmt Ccy=\"" ++ these) k at s t
    go (rest, e, y) =
        let x : One depth from (amount_tag these) k (from + length (amount_tag these)) rest t = tagged k rest t l h (moved z _ rest t y) in
        prefixed depth from (bytes "<InstdAmt Ccy=\"" ++ these) (bytes "\">") k at s rest t e (rw z x)

amount_lettered : (depth from : ℕ) (k : Element → State) (at : ℕ) (s : List ℕ) (t : Element) → 1 < depth → depth ≤ 12
    → at ≡ from + 15 → Means (capitals 2 [] (in_amount depth from k)) at s t → One depth from (bytes "<InstdAmt Ccy=\"") k at s t
unfolding amount_tag bytes Means
amount_lettered depth from k at s t d l z (these, rest, e, n, c, y) =
    let w : at + length these + 2 ≡ from + length (amount_tag these) = simp length-append (omega arith) in
    prefixed depth from (bytes "<InstdAmt Ccy=\"") these k at s rest t e
    (amount_closed depth from these k (at + length these) rest t l w (three_capitals depth these d n c) y)

amount_back : (depth from : ℕ) (k : Element → State) (at : ℕ) (s : List ℕ) (t : Element) → 1 < depth → depth ≤ 12
    → at ≡ suc from + 8 → Means (want (bytes "Ccy=\"") (capitals 2 [] (in_amount depth from k))) (suc at) s t
    → One depth from (bytes "<InstdAmt") k at (32 ∷ s) t
unfolding bytes
amount_back depth from k at s t d l z m = go (want_means (bytes "Ccy=\"") (capitals 2 [] (in_amount depth from k)) (suc at) s t m)
  where
    go : ((rest : List ℕ) × (s ≡ bytes "Ccy=\"" ++ rest) × Means (capitals 2 [] (in_amount depth from k)) (suc at + 5) rest t)
        → One depth from (bytes "<InstdAmt") k at (32 ∷ s) t
    go (rest, e, y) =
        prefixed depth from (bytes "<InstdAmt") (bytes " Ccy=\"") k at (32 ∷ s) rest t (ap (λ r. 32 ∷ r) e)
        (amount_lettered depth from k (at + 6) rest t d l (omega arith) (moved (later at 5) _ rest t y))

named_back : (depth from : ℕ) (name : List ℕ) (k : Element → State) (at b : ℕ) (s : List ℕ) (t : Element) → 1 < depth → depth ≤ 12
    → at ≡ suc from + length name → IsName name → Goes (behind_name depth from name k at b) (suc at) s t → One depth from (60 ∷ name) k at (b ∷ s) t
unfolding behind_name is bytes same
named_back depth from name k at b s t d l z i m =
    choose (suc at) s t (is ">" b) _ _ m
    (λ h m. choose (suc at) s t (same name (bytes "InstdAmt")) _ _ m
    (λ _ m. absurd m)
    (λ n m. rw (eqb-true b 62 h) (plain_back depth from name k at s t d l z i (not_same n) m)))
    (λ _ m. choose (suc at) s t (is " " b) _ _ m
    (λ h m. choose (suc at) s t (same name (bytes "InstdAmt")) _ _ m
    (λ n m.
    let e : name ≡ bytes "InstdAmt" = same_true name (bytes "InstdAmt") n in
    rw (eqb-true b 32 h, e) (amount_back depth from k at s t d l (rw e at z) m))
    (λ _ m. absurd m))
    (λ _ m. absurd m))
  where
    not_same : same name (bytes "InstdAmt") ≡ false → name ≢ bytes "InstdAmt"
    not_same n e = false≢true (sym n ∙ ap (λ s. same s (bytes "InstdAmt")) e)

naming_back : (depth from : ℕ) (name : List ℕ) (room : ℕ) (k : Element → State) (at b : ℕ) (s : List ℕ) (t : Element)
    → Goes (step (naming depth from name room k) at b) (suc at) s t → Means (naming depth from name room k) at (b ∷ s) t
unfolding step Means
naming_back depth from name zero k at b s t m d l z i _ =
    choose (suc at) s t (letter_or_digit b) _ _ m (λ _ m. absurd m) (λ _ m. named_back depth from name k at b s t d l z i m)
naming_back depth from name (suc room) k at b s t m d l z i r =
    choose (suc at) s t (letter_or_digit b) _ _ m
    (λ h m.
    let z' : suc at ≡ suc from + length (name ++ (b ∷ [])) = simp length-append (omega arith) in
    let r' : length (name ++ (b ∷ [])) + room ≡ 32 = simp length-append (omega arith) in
    prefixed depth from (60 ∷ name) (b ∷ []) k at (b ∷ s) s t refl
    (rw add-one (m d l z' (name_more b i h (omega arith)) r')))
    (λ _ m. named_back depth from name k at b s t d l z i m)

pub either : {A : Type 0} (a b : Bool) → (a || b) ≡ true → (a ≡ true → A) → (b ≡ true → A) → A
either true b h f g = f refl
either false b h f g = g h

-- white space is text
pub white_text : (b : ℕ) → white b ≡ true → text_byte b ≡ true
unfolding white text_byte one_of is
white_text b h =
    one_of_four (λ e. rw (eqb-true b 32 e)) (λ e. rw (eqb-true b 9 e)) (λ e. rw (eqb-true b 10 e)) (λ e. rw (eqb-true b 13 e))
  where
    one_of_four : (is " " b ≡ true → text_byte b ≡ true) → (is "\t" b ≡ true → text_byte b ≡ true) → (is "\n" b ≡ true → text_byte b ≡ true)
        → (is "\r" b ≡ true → text_byte b ≡ true) → text_byte b ≡ true
    one_of_four f g i j = either _ _ h f (λ h. either _ _ h g (λ h. either _ _ h i (λ h. either _ _ h j (λ h. absurd (false≢true h)))))

white_texts : {s : List ℕ} → Every white s → Every text_byte s
white_texts all_done = all_done
white_texts (every_more {b} e es) = every_more (white_text b e) (white_texts es)

-- The text goes on with the rest of what an open element holds and its end tag, and then as the state says.
abbrev Rest : (o : Open) (w : List ℕ) (k : Element → State) (at : ℕ) (s : List ℕ) (t : Element) → Type 0
Rest o w k at s t =
    (held rest : List ℕ) × (u : Element) × (s ≡ held ++ (end_tag o.name ++ rest)) × Holds o (w ++ held) u
    × Means (k u) (at + length held + length (end_tag o.name)) rest t

held_too : (o : Open) (w : List ℕ) (k : Element → State) (at b : ℕ) (s : List ℕ) (t : Element) → Rest o (w ++ (b ∷ [])) k (suc at) s t → Rest o w k at (b ∷ s) t
held_too o w k at b s t (held, rest, u, e, h, y) =
    let z : suc at + length held + length (end_tag o.name) ≡ at + length (b ∷ held) + length (end_tag o.name) = omega arith in
    (b ∷ held, rest, u, ap (λ r. b ∷ r) e, rw append_assoc at h, moved z (k u) rest t y)

-- the end tag, of which `</` has been read
ended_here : (o : Open) (u : Element) (k : Element → State) (at : ℕ) (s : List ℕ) (t : Element) → Means (ending o u k) (suc (suc at)) s t
    → (rest : List ℕ) × (60 ∷ 47 ∷ s ≡ end_tag o.name ++ rest) × Means (k u) (at + length (end_tag o.name)) rest t
unfolding ending end_tag bytes
ended_here o u k at s t m = go (want_means (o.name ++ bytes ">") (k u) (suc (suc at)) s t m)
  where
    go : ((rest : List ℕ) × (s ≡ (o.name ++ bytes ">") ++ rest) × Means (k u) (suc (suc at) + length (o.name ++ bytes ">")) rest t)
        → (rest : List ℕ) × (60 ∷ 47 ∷ s ≡ end_tag o.name ++ rest) × Means (k u) (at + length (end_tag o.name)) rest t
    go (rest, e, y) =
        let z : suc (suc at) + length (o.name ++ bytes ">") ≡ at + length (end_tag o.name) = omega arith in
        (rest, ap (λ r. 60 ∷ 47 ∷ r) e, moved z (k u) rest t y)

-- no more text
text_ended : (o : Open) (w : List ℕ) (k : Element → State) (at : ℕ) (s : List ℕ) (t : Element) → at ≡ o.start + length w → Every text_byte w
    → Means (ending o (holding_text (closed o at) w) k) (suc (suc at)) s t → Rest o w k at (60 ∷ 47 ∷ s) t
text_ended o w k at s t z es m = go (ended_here o (holding_text (closed o at) w) k at s t m)
  where
    go : ((rest : List ℕ) × (60 ∷ 47 ∷ s ≡ end_tag o.name ++ rest) × Means (k (holding_text (closed o at) w)) (at + length (end_tag o.name)) rest t)
        → Rest o w k at (60 ∷ 47 ∷ s) t
    go (rest, e, y) =
        let h : Holds o w (holding_text (closed o at) w) = rw z (text_held es) in
        ([], rest, holding_text (closed o at) w, e, rw append-nil h, rw add-zero y)

text_back : (o : Open) (w : List ℕ) (k : Element → State) (at b : ℕ) (s : List ℕ) (t : Element)
    → Goes (step (in_text o w k) at b) (suc at) s t → Means (in_text o w k) at (b ∷ s) t
unfolding step Means is
text_back o w k at b s t m z es =
    choose (suc at) s t (text_byte b) _ _ m
    (λ h m. held_too o w k at b s t (m (simp length-append (omega arith)) (every_snoc b es h)))
    (λ _ m. choose (suc at) s t (is "<" b) _ _ m
    (λ h m. rw (eqb-true b 60 h, m.1) (text_ended o w k at m.0 t z es (rw add-zero at m.2)))
    (λ _ m. absurd m))

-- white space before elements belongs to them
space_elements : {depth at b : ℕ} {s : List ℕ} {ts : Elements} → white b ≡ true → AreElements depth (suc at) s ts → AreElements depth at (b ∷ s) ts
space_elements h (no_more es) = no_more (every_more h es)
space_elements {depth} {at} {b} h (one_more {space} {one} {others} {t} {ts} es x xs) =
    one_more {space = b ∷ space} {t = t} {ts = ts} (every_more h es) (rw (later at (length space)) at x) (rw (later at (length space)) at xs)

spaces_elements : {depth at : ℕ} {w s : List ℕ} {ts : Elements} → Every white w → AreElements depth (at + length w) s ts → AreElements depth at (w ++ s) ts
spaces_elements {at} all_done h = rw add-zero at h
spaces_elements {at} (every_more {b} {s} e es) h = space_elements e (spaces_elements es (rw (later at (length s)) h))

-- The text goes on with more elements and the end tag, and then as the state says.
abbrev Others : (o : Open) (f : Elements → Elements) (k : Element → State) (at : ℕ) (s : List ℕ) (t : Element) → Type 0
Others o f k at s t =
    (inner rest : List ℕ) × (ts : Elements) × (s ≡ inner ++ (end_tag o.name ++ rest)) × AreElements (suc o.depth) at inner ts
    × Means (k (holding_elements (closed o (at + length inner)) (f ts))) (at + length inner + length (end_tag o.name)) rest t

-- from a child's `<` on
child_too : (o : Open) (f : Elements → Elements) (k : Element → State) (at : ℕ) (s : List ℕ) (t : Element)
    → One (suc o.depth) at (60 ∷ []) (λ u. after_child o (λ us. f (u ∷ᵉ us)) k) (suc at) s t
    → 1 ≤ o.depth
    → (inner rest : List ℕ) × (u : Element) × (us : Elements) × (60 ∷ s ≡ inner ++ (end_tag o.name ++ rest)) × AreElements (suc o.depth) at inner (u ∷ᵉ us)
    × Means (k (holding_elements (closed o (at + length inner)) (f (u ∷ᵉ us)))) (at + length inner + length (end_tag o.name)) rest t
unfolding Means
child_too o f k at s t (one, rest₁, u, e, x, m) d = go (m d)
  where
    go : Others o (λ us. f (u ∷ᵉ us)) k (suc at + length one) rest₁ t
        → (inner rest : List ℕ) × (u : Element) × (us : Elements) × (60 ∷ s ≡ inner ++ (end_tag o.name ++ rest))
        × AreElements (suc o.depth) at inner (u ∷ᵉ us)
        × Means (k (holding_elements (closed o (at + length inner)) (f (u ∷ᵉ us)))) (at + length inner + length (end_tag o.name)) rest t
    go (inner, rest, us, e₁, xs, y) =
        let z : suc at + length one + length inner ≡ at + length ((60 ∷ one) ++ inner) = simp length-append (omega arith) in
        let z₁ : suc at + length one ≡ at + 0 + length (60 ∷ one) = omega arith in
        let x₁ : IsElement (suc o.depth) (at + 0) (60 ∷ one) u = rw add-zero x in
        let xs₁ : AreElements (suc o.depth) (at + 0 + length (60 ∷ one)) inner us = rw z₁ at xs in
        ((60 ∷ one) ++ inner, rest, u, us, ap (λ r. 60 ∷ r) (rw (e, e₁) (sym (append_assoc one inner _))), one_more {space = []} {t = u} {ts = us} all_done x₁ xs₁, rw z at y)

among_back : (o : Open) (f : Elements → Elements) (k : Element → State) (at b : ℕ) (s : List ℕ) (t : Element)
    → Goes (step (after_child o f k) at b) (suc at) s t → Means (after_child o f k) at (b ∷ s) t
unfolding step Means is
among_back o f k at b s t m d =
    choose (suc at) s t (white b) _ _ m
    (λ h m. white_too h (m d))
    (λ _ m. choose (suc at) s t (is "<" b) _ _ m
    (λ h m. rw (eqb-true b 60 h) (⊎_elim ended_too child (m (omega arith) refl)))
    (λ _ m. absurd m))
  where
    white_too : white b ≡ true → Others o f k (suc at) s t → Others o f k at (b ∷ s) t
    white_too h (inner, rest, ts, e, xs, y) =
        let z : suc at + length inner ≡ at + length (b ∷ inner) = omega arith in
        (b ∷ inner, rest, ts, ap (λ r. b ∷ r) e, space_elements h xs, rw z at y)

    ended_too : ((rest : List ℕ) × (s ≡ 47 ∷ rest) × Means (ending o (holding_elements (closed o at) (f []ᵉ)) k) (suc (suc at)) rest t) → Others o f k at (60 ∷ s) t
    ended_too (rest, e, y) =
        let (rest₁, e₁, y₁) = ended_here o (holding_elements (closed o at) (f []ᵉ)) k at rest t y in
        ([], rest₁, []ᵉ, rw e e₁, no_more all_done, rw add-zero y₁)

    child : One (suc o.depth) at (60 ∷ []) (λ u. after_child o (λ us. f (u ∷ᵉ us)) k) (suc at) s t → Others o f k at (60 ∷ s) t
    child x = let (inner, rest, u, us, e, xs, y) = child_too o f k at s t x d in (inner, rest, u ∷ᵉ us, e, xs, y)

blank_back : (o : Open) (w : List ℕ) (k : Element → State) (at b : ℕ) (s : List ℕ) (t : Element)
    → Goes (step (blank o w k) at b) (suc at) s t → Means (blank o w k) at (b ∷ s) t
unfolding step Means is
blank_back o w k at b s t m d z es =
    choose (suc at) s t (white b) _ _ m
    (λ h m. held_too o w k at b s t (m d (simp length-append (omega arith)) (every_snoc b es h)))
    (λ _ m. choose (suc at) s t (is "<" b) _ _ m
    (λ h m. rw (eqb-true b 60 h) (⊎_elim ended_too child (m (omega arith) refl)))
    (λ _ m. choose (suc at) s t (text_byte b) _ _ m
    (λ h m. held_too o w k at b s t (m (simp length-append (omega arith)) (every_snoc b (white_texts es) h)))
    (λ _ m. absurd m)))
  where
    ended_too : ((rest : List ℕ) × (s ≡ 47 ∷ rest) × Means (ending o (holding_text (closed o at) w) k) (suc (suc at)) rest t) → Rest o w k at (60 ∷ s) t
    ended_too (rest, e, y) = rw e (text_ended o w k at rest t z (white_texts es) y)

    child : One (suc o.depth) at (60 ∷ []) (λ u. after_child o (λ us. u ∷ᵉ us) k) (suc at) s t → Rest o w k at (60 ∷ s) t
    child x = elements (child_too o (λ us. us) k at s t x d)
      where
        elements : ((inner rest : List ℕ) × (u : Element) × (us : Elements) × (60 ∷ s ≡ inner ++ (end_tag o.name ++ rest))
            × AreElements (suc o.depth) at inner (u ∷ᵉ us)
            × Means (k (holding_elements (closed o (at + length inner)) (u ∷ᵉ us))) (at + length inner + length (end_tag o.name)) rest t)
            → Rest o w k at (60 ∷ s) t
        elements (inner, rest, u, us, e, xs, y) =
            let xs₁ : AreElements (suc o.depth) o.start (w ++ inner) (u ∷ᵉ us) = spaces_elements es (rw z at xs) in
            let l : at + length inner ≡ o.start + length (w ++ inner) = simp length-append (omega arith) in
            let h : Holds o (w ++ inner) (holding_elements (closed o (at + length inner)) (u ∷ᵉ us)) = rw l (elements_held xs₁) in
            (inner, rest, holding_elements (closed o (at + length inner)) (u ∷ᵉ us), e, h, y)

back : (q : State) (at b : ℕ) (s : List ℕ) (t : Element) → Goes (step q at b) (suc at) s t → Means q at (b ∷ s) t
back (fixed c cs q) = fixed_back c cs q
back opening = opening_back
back opened = opened_back
back before = before_back
back (angle depth from q k) = angle_back depth from q k
back (naming depth from name room k) = naming_back depth from name room k
back (capitals n letters k) = capitals_back n letters k
back (blank o w k) = blank_back o w k
back (in_text o w k) = text_back o w k
back (after_child o f k) = among_back o f k
back (after u) = after_back u

pub stopped : {n : ℕ} {t : Element} → stops_at n ≡ root_is t → ⊥
stopped e = let z : ◌≡◌ {A = ℕ} 0 1 = cc in absurd (omega arith)

-- the end is only where the root has ended
end_means : (q : State) (at : ℕ) (t : Element) → run q at [] ≡ root_is t → Means q at [] t
unfolding run ended Means
end_means (after u) at t e = (all_done, (cc))
end_means (fixed c cs q) at t e = absurd (stopped e)
end_means opening at t e = absurd (stopped e)
end_means opened at t e = absurd (stopped e)
end_means before at t e = absurd (stopped e)
end_means (angle depth from q k) at t e = absurd (stopped e)
end_means (naming depth from name room k) at t e = absurd (stopped e)
end_means (capitals n letters k) at t e = absurd (stopped e)
end_means (blank o w k) at t e = absurd (stopped e)
end_means (in_text o w k) at t e = absurd (stopped e)
end_means (after_child o f k) at t e = absurd (stopped e)

run_means : (q : State) (at : ℕ) (s : List ℕ) (t : Element) → run q at s ≡ root_is t → Means q at s t
unfolding run
run_means q at [] t e = end_means q at t e
run_means q at (b ∷ s) t e = back q at b s t (go (λ r. run_means r (suc at) s t) (step q at b) e)
  where
    go : ((r : State) → run r (suc at) s ≡ root_is t → Means r (suc at) s t) → (x : Option State)
        → elim x as (λ _. Reading) [ some next ↦ run next (suc at) s | none ↦ stops_at at ] ≡ root_is t → Goes x (suc at) s t
    go f (some r) e = f r e
    go f none e = stopped e

pub sound : (s : List ℕ) (t : Element) → read s ≡ root_is t → IsMessage s t
unfolding read Means
sound s t e = run_means opening 0 s t e refl
