-- How the machine runs on over a child: its name and start tag, what it holds, its end tag; and the numbers that are put down behind it.
use Prim.Native.Nat.{ℕ, ◌+◌, ◌*◌, ◌-◌, ◌≤◌, ◌<◌}
use mathlib.Core.List.{List, [], ◌∷◌}
use mathlib.Core.Option.{none, some}
use mathlib.Core.Bool.{true, false}
use mathlib.Core.Path.{◌≡◌, refl, sym, ap, subst, ◌∙◌}
use native.Mathlib.Omega.{arith}
use lib.ListN.{length, get_or, drop, length-append, length-drop}
use lib.Seq.{length-take-le}
use borrow.Author.Tests.{ne_eqb, le-leb, lt-leb}
use Rattle.paper.specs.Bytes.{bytes, is, letter, letter_or_digit}
use Rattle.paper.specs.Form.{Element, holding_text, holding_elements, end_tag}
use Rattle.paper.specs.Rows.{head_of}
use Rattle.paper.specs.Computed.Reading.{closed, State, angle, naming, blank, step, ended, stops_at}
use Rattle.form_ranks.specs.Ranks.{rank}
use Rattle.form_ranks.proofs.Classes.{letter_from, name_from}
use Rattle.form_names.specs.Names.{name_number}
use Rattle.form_names.proofs.Laws.{number_below}
use Rattle.tree.specs.Laid.{between, Numbers}
use Rattle.form_scans.specs.Scans.{Scan, from, Scanned, stops, Word, end_of, Tag, Opened, Name}
use Rattle.std.specs.Prelude.{Result, Ok, Err}
use Rattle.form_scans.specs.declared.Stop.{Stop}
use Rattle.form_scans.proofs.Laws.{from_next, from_stuck, from_short, reached, halts, first, via, giving, chain}
use Rattle.form.specs.Reads.{known_number, Roomy, Kept, PutDown, Numbered, numbered_text, numbered_elements, Holds, Whole, held_scan, held_next, close_of, ContentRead, Placed, read_scan, read_next, ElementRead, InsideRead}
use Rattle.form.specs.declared.Read.{Read}
use Rattle.form.specs.declared.Held.{Held}
use Rattle.form.proofs.Numbering.{kept_same, kept_on, put_kept, put_agrees, put_there, Agree, all_stay}

-- what a rank says of a byte
module _ (b : ℕ) {r : ℕ} (e : r ≡ rank b) where
  pub is_letter : 6 ≤ r → letter b ≡ true
  is_letter l = letter_from b ∙ le-leb 6 (rank b) (omega (arith, e, l))

  pub is_no_letter : r < 6 → letter b ≡ false
  is_no_letter l = letter_from b ∙ lt-leb 6 (rank b) (omega (arith, e, l))

  pub in_name : 5 ≤ r → letter_or_digit b ≡ true
  in_name l = name_from b ∙ le-leb 5 (rank b) (omega (arith, e, l))

  pub not_in_name : r < 5 → letter_or_digit b ≡ false
  not_in_name l = name_from b ∙ lt-leb 5 (rank b) (omega (arith, e, l))

-- an answer that stops
pub element_stops : {s before after : List ℕ} {lt i left : ℕ} {n : Stop} → Kept before after i
    → ((depth : ℕ) → depth + left ≡ 13 → (x : State × (Element → State)) → from s (angle depth lt x.0 x.1) (lt + 1) ≡ stops_at n.at)
    → ElementRead s before after lt i left (Err n)
unfolding read_scan
element_stops k f = record { kept = k; reads = λ depth d. stops (f depth d); goes = tt }

-- no letter, too deep, and its name
module _ (s : List ℕ) (depth lt : ℕ) (q : State) (k : Element → State) (at : ℕ) (h : at < length s) where
  angle_stuck : letter (get_or s at 0) ≡ false → (get_or s at 0 ≡ 47 → ⊥) → from s (angle depth lt q k) at ≡ stops_at at
  unfolding step is
  angle_stuck e n = from_stuck s _ at h (rw (e, ne_eqb _ 47 n))

  angle_deep : letter (get_or s at 0) ≡ true → 12 < depth → from s (angle depth lt q k) at ≡ stops_at at
  unfolding step
  angle_deep e l = from_stuck s _ at h (rw (e, lt-leb depth 12 l))

  angle_names : letter (get_or s at 0) ≡ true → depth ≤ 12
      → from s (angle depth lt q k) at ≡ from s (naming depth lt (get_or s at 0 ∷ []) 31 k) (at + 1)
  angle_names e l = from_next s _ at h (name_begins e l)
    where
      name_begins : letter (get_or s at 0) ≡ true → depth ≤ 12 → step (angle depth lt q k) at (get_or s at 0) ≡ some (naming depth lt (get_or s at 0 ∷ []) 31 k)
      name_begins e l = unfold step in rw (e, le-leb depth 12 l)

name_full : (depth lt : ℕ) (name : List ℕ) (k : Element → State) (at b : ℕ) → letter_or_digit b ≡ true → step (naming depth lt name 0 k) at b ≡ none
unfolding step
name_full depth lt name k at b e = rw e

module _ (s tree : List ℕ) (lt i left : ℕ) (h : lt + 1 < length s) where
  pub no_letter : letter (get_or s (lt + 1) 0) ≡ false → (get_or s (lt + 1) 0 ≡ 47 → ⊥) → ElementRead s tree tree lt i left (Err (record { at = lt + 1 }))
  no_letter e n = element_stops kept_same (λ depth _ x. angle_stuck s depth lt x.0 x.1 (lt + 1) h e n)

  pub too_deep : letter (get_or s (lt + 1) 0) ≡ true → left ≡ 0 → ElementRead s tree tree lt i left (Err (record { at = lt + 1 }))
  too_deep e z = element_stops kept_same (λ depth d x. angle_deep s depth lt x.0 x.1 (lt + 1) h e (omega (arith, d, z)))

  module _ (e : ℕ) (l : letter (get_or s (lt + 1) 0) ≡ true) (n : Name s (lt + 1) e) (m : (left ≡ 0 → ⊥)) where
    named : (depth : ℕ) → depth + left ≡ 13 → (x : State × (Element → State))
        → from s (angle depth lt x.0 x.1) (lt + 1) ≡ from s (naming depth lt (between (lt + 1) e s) (lt + 1 + 32 - e) x.1) e
    named depth d x = angle_names s depth lt x.0 x.1 (lt + 1) h l (omega (arith, d, m)) ∙ n.spelt.names depth lt x.1

    pub name_short : e ≡ length s → ElementRead s tree tree lt i left (Err (record { at = e }))
    unfolding ended
    name_short z = element_stops kept_same (λ depth d x. named depth d x ∙ from_short s _ e (omega (arith, z)) refl)

    pub name_long : e < length s → letter_or_digit (get_or s e 0) ≡ true → ElementRead s tree tree lt i left (Err (record { at = e }))
    name_long j f =
        let full : lt + 1 + 32 - e ≡ 0 = let o = n.other j f in omega (arith, o) in
        element_stops kept_same (λ depth d x. named depth d x ∙ stuck depth x.1 full)
      where
        stuck : (depth : ℕ) (k : Element → State) → lt + 1 + 32 - e ≡ 0
            → from s (naming depth lt (between (lt + 1) e s) (lt + 1 + 32 - e) k) e ≡ stops_at e
        stuck depth k z = rw z (from_stuck s _ e j (name_full depth lt _ k e (get_or s e 0) f))

    module _ {r : Scan} (t : (depth room : ℕ) → Opened s e (between (lt + 1) e s) depth lt (naming depth lt (between (lt + 1) e s) room) r) where
      tagged : (depth : ℕ) → depth + left ≡ 13
          → Scanned s (lt + 1) (λ (x : State × (Element → State)). angle depth lt x.0 x.1)
          (λ x (o : Tag (between (lt + 1) e s) depth lt (end_of r)). blank o.tag [] x.1) r
      tagged depth d = let j = n.spelt.rises in first (omega (arith, j)) (named depth d) (via (λ x. x.1) (t depth (lt + 1 + 32 - e)))

      -- where it goes on
      pub tag_goes : left ≤ 13 → {p : ℕ} → r ≡ Ok p → (p ≤ length s) × (lt + 2 + length (between (lt + 1) e s) ≤ p)
      unfolding end_of
      tag_goes d {p} f =
          let y = reached (tagged (13 - left) (omega (arith, d))) f in
          (y.within, let k = y.got.long in let m = ap end_of f in omega (arith, k, m))

      pub tag_stops : {z : Stop} → r ≡ Err z → ElementRead s tree tree lt i left (Err z)
      unfolding read_scan
      tag_stops f = record { kept = kept_same; reads = λ depth d. halts (tagged depth d) f; goes = tt }

      pub element_read : {p : ℕ} {after : List ℕ} {y : Result Read Stop} → r ≡ Ok p → InsideRead s tree after lt e p i left y → ElementRead s tree after lt i left y
      unfolding end_of
      element_read {p} f c = record {
        kept = c.kept;
        reads = λ depth d.
            chain (tagged depth d) f
            (λ o. via (λ x. x.1) (c.reads depth d (record { tag = o.tag; its_name = o.its_name; its_depth = o.its_depth; its_at = o.its_at; its_start = o.its_start ∙ ap end_of f; long = let k = o.long in let m = ap end_of f in omega (arith, k, m) })));
        goes = c.goes;
      }

-- the bytes of an end tag
end_long : (name : List ℕ) → length (end_tag name) ≡ length name + 3
unfolding end_tag bytes
end_long name = let a = length-append name (bytes ">") in omega (arith, a)

pub part_long : (s : List ℕ) (a e : ℕ) → a ≤ e → e ≤ length s → length (between a e s) ≡ e - a
part_long s a e l h = length-take-le (e - a) (drop a s) (let k = length-drop a s in omega (arith, k, l, h))

-- What an element holds, its end tag, and its numbers.
pub as_held : {s before after : List ℕ} {start i left : ℕ} {r h : Result Held Stop} → r ≡ h → ContentRead s before after start i left r → ContentRead s before after start i left h
as_held {s} {before} {after} {start} {i} {left} e c = subst (λ z. ContentRead s before after start i left z) e c

whole_kept : {before tree : List ℕ} (i : ℕ) → Kept before tree (i + 1) → Kept before tree i
whole_kept i k = record { length_kept = k.length_kept; kept = λ j l. k.kept j (omega (arith, l)) }

finished : {s tree after : List ℕ} (i next : ℕ) (t : Element) → ((n : ℕ) → Agree tree after (i + 1) n) → Numbers s after i (head_of t) next → Holds s tree t (i + 1) next
    → Numbered s after t i next
unfolding head_of Holds
finished i next (holding_text h w) a n e = numbered_text n e
finished i next (holding_elements h ts) a n (l, all) = numbered_elements n l (all_stay all (a next))

module _ (s before tree : List ℕ) (lt e start i left : ℕ) {n : Stop} where
  pub held_stops : 1 ≤ left → ContentRead s before tree start (i + 1) (left - 1) (Err n) → InsideRead s before tree lt e start i left (Err n)
  unfolding held_scan read_scan
  held_stops one c = record {
    kept = whole_kept i c.kept;
    reads = λ depth d o. halts (c.reads o.tag (let j = o.its_depth in omega (arith, d, j, one))) refl;
    goes = tt;
  }

-- An element of a name and a depth, whose first child has number i + 1, up to behind its end tag.
module _ (i : ℕ) {s before tree : List ℕ} {start left : ℕ} {h : Held} (c : ContentRead s before tree start (i + 1) left (Ok h))
    {name : List ℕ} {r : Scan} (w : Word s h.close (end_tag name) r) {depth lt : ℕ} (o : Tag name depth lt start) where
  pub closing : depth + left ≡ 12 → Scanned s start (blank o.tag []) (λ k (a : Whole s tree o.tag h.close (i + 1) h.next). k a.element) r
  unfolding held_scan held_next close_of
  closing d =
      let w' : Word s h.close (end_tag o.tag.name) r = subst (λ n. Word s h.close (end_tag n) r) (sym o.its_name) w in
      chain (c.reads o.tag (let j = o.its_depth in omega (arith, d, j))) refl (λ a. giving (λ _. a) (λ k _. refl) (via (λ k. k a.element) w'.reads))

  -- It has its numbers, once they are put down.
  pub numbered_then : {after : List ℕ} {number : ℕ} → PutDown tree after i lt number start h.close h.next (known_number h.text) → number ≡ name_number name → start ≤ length s
      → 7 * i ≤ start + 41 → (a : Whole s tree o.tag h.close (i + 1) h.next) → Roomy s after → Numbered s after a.element i h.next
  unfolding closed
  numbered_then p number_is sl few a roomy =
      let k = (put_kept p).length_kept in
      let rl = roomy.long in
      let sh = roomy.short in
      let (g₁, g₂, g₃, g₄, g₅) = c.goes in
      let ol = o.long in
      let nb = number_below name in
      finished i h.next a.element (put_agrees p)
      (put_there p s (head_of a.element) (omega (arith, k, rl)) (omega (arith, g₃, g₄, few, sh)) (omega (arith, g₁)) (omega (arith, ol, sl, sh))
      (omega (arith, sl, sh)) (omega (arith, g₃, sh)) (omega (arith, nb, number_is)) (sym (ap (λ h. h.at) a.its_head ∙ o.its_at))
      (number_is ∙ ap name_number (sym (ap (λ h. h.name) a.its_head ∙ o.its_name))) (sym (ap (λ h. h.start) a.its_head ∙ o.its_start))
      (sym (ap (λ h. h.close) a.its_head)) g₅)
      (a.holds (record { short = sh; long = omega (arith, k, rl) }))

module _ (s before tree : List ℕ) (lt e start i left : ℕ) {h : Held} (c : ContentRead s before tree start (i + 1) (left - 1) (Ok h)) (one : 1 ≤ left)
    {r : Scan} (w : Word s h.close (end_tag (between (lt + 1) e s)) r) where
  pub end_stops : {n : Stop} → r ≡ Err n → InsideRead s before tree lt e start i left (Err n)
  unfolding read_scan
  end_stops f = record { kept = whole_kept i c.kept; reads = λ depth d o. halts (closing i c w o (omega (arith, d, one))) f; goes = tt }

  module _ (after : List ℕ) (number q : ℕ) (f : r ≡ Ok q) (p : PutDown tree after i lt number start h.close h.next (known_number h.text)) (few : 7 * i + 4 * left ≤ lt + 48)
      (le : lt + 1 < e) (es : e < start) (sl : start ≤ length s) (number_is : number ≡ name_number (between (lt + 1) e s)) where
    placed : (depth : ℕ) (o : Tag (between (lt + 1) e s) depth lt start) → Whole s tree o.tag h.close (i + 1) h.next → Placed s after i h.next
    placed depth o a = record { element = a.element; numbered = numbered_then i c w o p number_is sl (omega (arith, few, one, le, es)) a }

    pub inside_read : InsideRead s before after lt e start i left (Ok (record { at = q; next = h.next }))
    unfolding read_scan read_next placed
    inside_read = record {
      kept = kept_on (whole_kept i c.kept) (put_kept p) (omega arith);
      reads = λ depth d o. subst (λ z. Scanned s start (blank o.tag []) (λ k (a : Placed s after i h.next). k a.element) z) f (giving (placed depth o) (λ k _. refl) (closing i c w o (omega (arith, d, one))));
      goes =
          let (g₁, g₂, g₃, g₄, g₅) = c.goes in
          let g = w.goes q f in
          let l₁ = end_long (between (lt + 1) e s) in
          let l₂ = part_long s (lt + 1) e (omega (arith, le)) (omega (arith, es, sl)) in
          (omega (arith, g₁), omega (arith, g₄, g, l₁, l₂, le, es));
    }
