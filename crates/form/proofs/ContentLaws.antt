-- How the machine runs on over what an element holds: text, children, end tags; and over a child.
use Prim.Native.Nat.{ℕ, zero, suc, ◌+◌, ◌*◌, ◌-◌, ◌≤◌, ◌<◌}
use mathlib.Core.List.{List, [], ◌∷◌, ◌++◌}
use mathlib.Core.Option.{none, some}
use mathlib.Core.Bool.{Bool, true, false}
use mathlib.Core.Path.{◌≡◌, refl, sym, ap, subst, ◌∙◌}
use mathlib.Core.Logic.{◌⊎◌, inl, inr, ⊎_elim}
use native.Mathlib.Decide.{dec_le}
use native.Mathlib.Omega.{arith}
use lib.ListN.{length, get_or, take, drop}
use lib.Seq.{drop-cons}
use lib.Dec.{eqb}
use borrow.Author.Tests.{eqb-true, eqb-false}
use Rattle.paper.specs.Bytes.{bytes, is, from_to, one_of, white, text_byte, value_character, capital, letter, Every, every_none, every_more}
use Rattle.paper.specs.Form.{Element, Elements, holding_text, holding_elements, []ᵉ, ◌∷ᵉ◌, end_tag}
use Rattle.paper.specs.Rows.{head_of}
use Rattle.paper.specs.Computed.Reading.{Open, closed, State, angle, blank, in_text, after_child, want, ending, step, ended}
use Rattle.form_scans.specs.Scans.{from, Scanned, to, Along, White, Values, Text}
use Rattle.tree.specs.Laid.{between}
use Rattle.form.specs.Reads.{Kept, Roomy, Numbered, AllNumbered, none_numbered, more_numbered, Child, ChildAt, Known, known_number, TextKnown, HeldTo, HeldAt, held_scan, held_next, close_of, read_scan, read_next, Holds, Whole, ContentRead, Placed, ElementRead}
use Rattle.std.specs.Prelude.{Result, Ok, Err}
use Rattle.form_scans.specs.declared.Stop.{Stop}
use Rattle.form.specs.declared.Read.{Read}
use Rattle.form.specs.declared.Held.{Held}
use Rattle.form.specs.declared.Kind.{Kind}
use Rattle.form.specs.declared.Kind.TheVariants as text
use Rattle.paper_grammar.proofs.Complete.{among_stays}
use Rattle.form_scans.proofs.Laws.{from_next, from_stuck, from_short, want_step, want_stuck, want_append, text_step, reached, halts, first, via}
use Rattle.form.proofs.Numbering.{kept_same, kept_on, Agree, agree_same, agree_on, kept_agree, narrow, numbered_stays}

-- two states from which the machine runs alike
module _ (s : List ℕ) (q r : State) (p : ℕ) where
  pub alike_short : length s ≤ p → ended q ≡ none → ended r ≡ none → from s q p ≡ from s r p
  alike_short l e f = from_short s q p l e ∙ sym (from_short s r p l f)

  pub alike_stuck : p < length s → step q p (get_or s p 0) ≡ none → step r p (get_or s p 0) ≡ none → from s q p ≡ from s r p
  alike_stuck l e f = from_stuck s q p l e ∙ sym (from_stuck s r p l f)

  pub alike_next : p < length s → {q₁ r₁ : State} → step q p (get_or s p 0) ≡ some q₁ → step r p (get_or s p 0) ≡ some r₁
      → from s q₁ (p + 1) ≡ from s r₁ (p + 1) → from s q p ≡ from s r p
  alike_next l e f g = from_next s q p l e ∙ (g ∙ sym (from_next s r p l f))

-- behind a `<` that begins no child, an end tag alone goes on
angle_ends : (s : List ℕ) (depth lt : ℕ) (w : List ℕ) (q : State) (k : Element → State) (p : ℕ) → get_or s p 0 ≡ 60 → (Child s p → ⊥)
    → from s (angle depth lt (want w q) k) (p + 1) ≡ from s (want (47 ∷ w) q) (p + 1)
unfolding ended want step letter capital from_to is
angle_ends s depth lt w q k p z n = go (dec_le (length s) (p + 1))
  where
    slash : p + 1 < length s → (c : Bool) → eqb (get_or s (p + 1) 0) 47 ≡ c → get_or s (p + 1) 0 ≡ 47
    slash l true e = eqb-true _ _ e
    slash l false e = absurd (n (record { angled = z; within = l; no_slash = eqb-false _ _ e }))

    go : Dec (length s ≤ p + 1) → from s (angle depth lt (want w q) k) (p + 1) ≡ from s (want (47 ∷ w) q) (p + 1)
    go (yes l) = alike_short s _ _ (p + 1) l refl refl
    go (no l) =
        let h : p + 1 < length s = omega arith in
        let e : get_or s (p + 1) 0 ≡ 47 = slash h (eqb (get_or s (p + 1) 0) 47) refl in
        alike_next s _ _ (p + 1) h (rw e) (want_step 47 w q (p + 1) (get_or s (p + 1) 0) e) refl

-- a `<` in an element, and text behind white space
module _ (o : Open) (k : Element → State) (at b : ℕ) where
  blank_angle : (w : List ℕ) → b ≡ 60
      → step (blank o w k) at b ≡ some (angle (suc o.depth) at (ending o (holding_text (closed o at) w) k) (λ t. after_child o (λ ts. t ∷ᵉ ts) k))
  unfolding step white one_of is
  blank_angle w e = rw e

  text_angle : (w : List ℕ) → b ≡ 60 → step (in_text o w k) at b ≡ some (want (47 ∷ []) (ending o (holding_text (closed o at) w) k))
  unfolding step text_byte one_of is want
  text_angle w e = rw e

  among_angle : (f : Elements → Elements) → b ≡ 60
      → step (after_child o f k) at b
      ≡ some (angle (suc o.depth) at (ending o (holding_elements (closed o at) (f []ᵉ)) k) (λ t. after_child o (λ ts. f (t ∷ᵉ ts)) k))
  unfolding step white one_of is
  among_angle f e = rw e

  blank_text : (w : List ℕ) → white b ≡ false → is "<" b ≡ false → text_byte b ≡ true → step (blank o w k) at b ≡ some (in_text o (w ++ (b ∷ [])) k)
  unfolding step
  blank_text w e f g = rw (e, f, g)

module _ (s : List ℕ) (o : Open) (k : Element → State) (p : ℕ) where
  -- text up to a byte that is none ends there
  pub text_ends : (w : List ℕ) → (p < length s → text_byte (get_or s p 0) ≡ false)
      → from s (in_text o w k) p ≡ from s (want (end_tag o.name) (k (holding_text (closed o p) w))) p
  unfolding ended want step end_tag bytes is ending
  text_ends w t = go (dec_le (length s) p)
    where
      at_byte : (h : p < length s) → (c : Bool) → is "<" (get_or s p 0) ≡ c
          → from s (in_text o w k) p ≡ from s (want (end_tag o.name) (k (holding_text (closed o p) w))) p
      at_byte h true e =
          alike_next s _ _ p h (text_angle o k p (get_or s p 0) w (eqb-true _ _ e))
          (want_step 60 (47 ∷ (o.name ++ bytes ">")) _ p (get_or s p 0) (eqb-true _ _ e))
          (sym (want_append s (47 ∷ []) (o.name ++ bytes ">") (p + 1) _))
      at_byte h false e = alike_stuck s _ _ p h (rw (t h, e)) (want_stuck 60 (47 ∷ (o.name ++ bytes ">")) _ p (get_or s p 0) (eqb-false _ _ e))

      go : Dec (length s ≤ p) → from s (in_text o w k) p ≡ from s (want (end_tag o.name) (k (holding_text (closed o p) w))) p
      go (yes l) = alike_short s _ _ p l refl refl
      go (no l) = let h : p < length s = omega arith in at_byte h (is "<" (get_or s p 0)) refl

  -- white space that no child follows is text
  pub blank_is_text : (w : List ℕ) → (p < length s → white (get_or s p 0) ≡ false) → (Child s p → ⊥) → from s (blank o w k) p ≡ from s (in_text o w k) p
  unfolding ended step is ending want
  blank_is_text w t n = go (dec_le (length s) p)
    where
      other : (h : p < length s) → (c : Bool) → text_byte (get_or s p 0) ≡ c → is "<" (get_or s p 0) ≡ false → from s (blank o w k) p ≡ from s (in_text o w k) p
      other h true e f = alike_next s _ _ p h (blank_text o k p (get_or s p 0) w (t h) f e) (text_step o w k p (get_or s p 0) e) refl
      other h false e f = alike_stuck s _ _ p h (rw (t h, f, e)) (rw (e, f))

      at_byte : (h : p < length s) → (c : Bool) → is "<" (get_or s p 0) ≡ c → from s (blank o w k) p ≡ from s (in_text o w k) p
      at_byte h true e =
          alike_next s _ _ p h (blank_angle o k p (get_or s p 0) w (eqb-true _ _ e)) (text_angle o k p (get_or s p 0) w (eqb-true _ _ e))
          (angle_ends s (suc o.depth) p (o.name ++ bytes ">") _ _ p (eqb-true _ _ e) n
          ∙ want_append s (47 ∷ []) (o.name ++ bytes ">") (p + 1) _)
      at_byte h false e = other h (text_byte (get_or s p 0)) refl e

      go : Dec (length s ≤ p) → from s (blank o w k) p ≡ from s (in_text o w k) p
      go (yes l) = alike_short s _ _ p l refl refl
      go (no l) = let h : p < length s = omega arith in at_byte h (is "<" (get_or s p 0)) refl

  -- behind children, white space that no child follows comes before the end tag
  pub among-ends : (f : Elements → Elements) → (p < length s → white (get_or s p 0) ≡ false) → (Child s p → ⊥)
      → from s (after_child o f k) p ≡ from s (want (end_tag o.name) (k (holding_elements (closed o p) (f []ᵉ)))) p
  unfolding ended want step end_tag bytes is ending
  among-ends f t n = go (dec_le (length s) p)
    where
      at_byte : (h : p < length s) → (c : Bool) → is "<" (get_or s p 0) ≡ c
          → from s (after_child o f k) p ≡ from s (want (end_tag o.name) (k (holding_elements (closed o p) (f []ᵉ)))) p
      at_byte h true e =
          alike_next s _ _ p h (among_angle o k p (get_or s p 0) f (eqb-true _ _ e))
          (want_step 60 (47 ∷ (o.name ++ bytes ">")) _ p (get_or s p 0) (eqb-true _ _ e))
          (angle_ends s (suc o.depth) p (o.name ++ bytes ">") _ _ p (eqb-true _ _ e) n)
      at_byte h false e = alike_stuck s _ _ p h (rw (t h, e)) (want_stuck 60 (47 ∷ (o.name ++ bytes ">")) _ p (get_or s p 0) (eqb-false _ _ e))

      go : Dec (length s ≤ p) → from s (after_child o f k) p ≡ from s (want (end_tag o.name) (k (holding_elements (closed o p) (f []ᵉ)))) p
      go (yes l) = alike_short s _ _ p l refl refl
      go (no l) = let h : p < length s = omega arith in at_byte h (is "<" (get_or s p 0)) refl

  -- a child begins
  pub blank_child : (w : List ℕ) → Child s p
      → from s (blank o w k) p
      ≡ from s (angle (suc o.depth) p (ending o (holding_text (closed o p) w) k) (λ t. after_child o (λ ts. t ∷ᵉ ts) k)) (p + 1)
  blank_child w c = from_next s _ p (omega (arith, c.within)) (blank_angle o k p (get_or s p 0) w c.angled)

  pub among_child : (f : Elements → Elements) → Child s p
      → from s (after_child o f k) p
      ≡ from s (angle (suc o.depth) p (ending o (holding_elements (closed o p) (f []ᵉ)) k) (λ t. after_child o (λ ts. f (t ∷ᵉ ts)) k)) (p + 1)
  among_child f c = from_next s _ p (omega (arith, c.within)) (among_angle o k p (get_or s p 0) f c.angled)

-- What has been read of an element's contents: nothing, or children, which the machine is behind and which have their numbers, whatever is put down after them.
pub record SoFar (s tree : List ℕ) (o : Open) (start i at next : ℕ) : Type 0 where
  pub before_these : Elements → Elements
  pub runs : (k : Element → State) → from s (blank o [] k) start ≡ from s (after_child o before_these k) at
  pub numbered : Roomy s tree → (tree' : List ℕ) → Agree tree tree' i next → (ts : Elements) (n : ℕ) → AllNumbered s tree' ts next n
      → AllNumbered s tree' (before_these ts) i n

pub record Passed (s before tree : List ℕ) (left start i at next : ℕ) : Type 0 where
  pub kept : Kept before tree i
  pub rises : start ≤ at
  pub within : at ≤ length s
  pub counted : i ≤ next
  pub enough : 7 * next + start ≤ 7 * i + at
  pub passes : ((at ≡ start) × (next ≡ i)) ⊎ ((i < next) × ((o : Open) → o.depth + left ≡ 12 → SoFar s tree o start i at next))

pub none_passed : (s tree : List ℕ) (left start i : ℕ) → start ≤ length s → Passed s tree tree left start i start i
none_passed s tree left start i h =
    record { kept = kept_same; rises = omega arith; within = h; counted = omega arith; enough = omega arith; passes = inl (refl, refl) }

-- the end: text, or the end tag behind children
module _ {s before tree : List ℕ} {left start i at next p close : ℕ} (known : Kind) {c : Bool} (b : Passed s before tree left start i at next) (w : White s at p)
    (x : ChildAt s p c) (n : c ≡ false) (h : HeldTo s start at p close (known_number known)) where
  in_children : at ≡ start → ((at ≡ start) × (next ≡ i)) ⊎ ((i < next) × ((o : Open) → o.depth + left ≡ 12 → SoFar s tree o start i at next)) → next ≡ i
  in_children z (inl (a, e)) = e
  in_children z (inr (l, _)) = let e = b.enough in absurd (omega (arith, z, l, e))

  no_more : (at ≡ start → ⊥) → (i < next) × ((o : Open) → o.depth + left ≡ 12 → SoFar s tree o start i at next)
  no_more m = ⊎_elim (λ y. absurd (m y.0)) (λ y. y) b.passes

  text_content : at ≡ start → ContentRead s before tree start i left (Ok (record { close = close; next = next; text = known }))
  unfolding held_scan held_next close_of Holds head_of
  text_content z =
      let (along, over) = h.text z in
      let l = w.through.rises in
      let l₂ = along.rises in
      let l₃ = along.within in
      let y = in_children z b.passes in
      record {
        kept = b.kept;
        reads = λ o d.
            let (w₁, f) = (rw z at w).through.blanks o [] in
            let (w₂, g) = along.texts o w₁ in
            to {p = close} (omega (arith, l, l₂, z)) l₃ (record { element = holding_text (closed o close) w₂; its_head = refl; holds = λ _. y })
            (λ k. f k ∙ (blank_is_text s o k p w₁ w.other (x.not_there n) ∙ (g k ∙ text_ends s o k close w₂ over)));
        goes = (
          omega (arith, y),
          omega (arith, l, l₂, z),
          l₃,
          omega (arith, y, l, l₂, z),
          h.is_known (λ k a u. w.through.all_white k (omega (arith, a, z)) u) (omega (arith, l, z)) z,
        );
      }

  children_content : (at ≡ start → ⊥) → ContentRead s before tree start i left (Ok (record { close = close; next = next; text = known }))
  unfolding held_scan held_next close_of Holds head_of
  children_content m =
      let (j, f) = no_more m in
      let l = b.rises in
      let l₂ = w.through.rises in
      let l₃ = w.through.within in
      let q : close ≡ p = h.behind_children m in
      let en = b.enough in
      record {
        kept = b.kept;
        reads = λ o d.
            let g = f o d in
            subst (λ z. Scanned s start (blank o []) (λ k (a : Whole s tree o z i next). want (end_tag o.name) (k a.element)) (Ok z)) (sym q)
            (to {p = p} (omega (arith, l, l₂)) l₃
            (record {
              element = holding_elements (closed o p) (g.before_these []ᵉ);
              its_head = refl;
              holds = λ r. (j, g.numbered r tree agree_same []ᵉ next (none_numbered refl));
            })
            (λ k. g.runs k ∙ (w.through.stays (after_child o g.before_these k) (among_stays o g.before_these k)
            ∙ among-ends s o k p g.before_these w.other (x.not_there n))));
        goes = (omega (arith, j), omega (arith, l, l₂, q), omega (arith, l₃, q), omega (arith, en, l₂, q), nothing_known (h.nothing_known m));
      }
    where
      nothing_known : known_number known ≡ 0 → Known s start close (known_number known)
      nothing_known z = record {
        small = omega (arith, z);
        white_known = λ y. absurd (omega (arith, z, y));
        values_known = λ y. absurd (omega (arith, z, y));
      }

  pub content_read : ContentRead s before tree start i left (Ok (record { close = close; next = next; text = known }))
  content_read = go (eqb at start) refl
    where
      go : (z : Bool) → eqb at start ≡ z → ContentRead s before tree start i left (Ok (record { close = close; next = next; text = known }))
      go true z = text_content (eqb-true at start z)
      go false z = children_content (eqb-false at start z)

-- the same, as the code answers it
pub content_ends : {s before tree : List ℕ} {left start i at next p : ℕ} {c : Bool} {r : Held} → Passed s before tree left start i at next → White s at p
    → ChildAt s p c → c ≡ false → HeldAt s start at p next r → ContentRead s before tree start i left (Ok r)
unfolding HeldAt
content_ends {s} {before} {tree} {left} {start} {i} {r = r} b w x z (e, h) =
    subst (λ n. ContentRead s before tree start i left (Ok (record { close = r.close; next = n; text = r.text }))) (sym e) (content_read r.text b w x z h)

-- one more child
module _ {s before tree tree' : List ℕ} {left start i at next p : ℕ} {c : Bool} {r : Result Read Stop} (b : Passed s before tree left start i at next) (w : White s at p)
    (h : ChildAt s p c) (e : c ≡ true) (x : ElementRead s tree tree' p next left r) where
  -- the machine from the beginning up to a child, which is one more behind those passed
  record Behind (o : Open) : Type 0 where
    before_these : Elements → Elements
    numbered : Roomy s tree → (after : List ℕ) → Agree tree after i next → (ts : Elements) (n : ℕ) → AllNumbered s after ts next n
        → AllNumbered s after (before_these ts) i n
    reads : Scanned s start (blank o []) (λ k (a : Placed s tree' next (read_next r)). after_child o (λ ts. before_these (a.element ∷ᵉ ts)) k) (read_scan r)

  begun : (o : Open) → o.depth + left ≡ 12 → Behind o
  begun o d = ⊎_elim at_first then b.passes
    where
      at_first : (at ≡ start) × (next ≡ i) → Behind o
      at_first (z, y) =
          let (w', f) = (rw z at w).through.blanks o [] in
          let l = b.rises in
          let l' = w.through.rises in
          record {
            before_these = λ ts. ts;
            numbered = λ _ after _ ts n m. subst (λ j. AllNumbered s after ts j n) y m;
            reads =
                first (omega (arith, l, l')) (λ k. f k ∙ blank_child s o k p w' (h.there e))
                (via (λ k. (ending o (holding_text (closed o p) w') k, λ t. after_child o (λ ts. t ∷ᵉ ts) k)) (x.reads (suc o.depth) (omega (arith, d))));
          }

      then : (i < next) × ((o : Open) → o.depth + left ≡ 12 → SoFar s tree o start i at next) → Behind o
      then (j, g) =
          let f = g o d in
          let l = b.rises in
          let l' = w.through.rises in
          record {
            before_these = f.before_these;
            numbered = f.numbered;
            reads =
                first (omega (arith, l, l'))
                (λ k. f.runs k ∙ (w.through.stays (after_child o f.before_these k) (among_stays o f.before_these k) ∙ among_child s o k p f.before_these (h.there e)))
                (via (λ k. (ending o (holding_elements (closed o p) (f.before_these []ᵉ)) k, λ t. after_child o (λ ts. f.before_these (t ∷ᵉ ts)) k))
                (x.reads (suc o.depth) (omega (arith, d))));
          }

  pub content_stops : {n : Stop} → r ≡ Err n → ContentRead s before tree' start i left (Err n)
  unfolding held_scan read_scan
  content_stops {n} z = record {
    kept = kept_on b.kept x.kept b.counted;
    reads = λ o d. halts (begun o d).reads (ap read_scan z);
    goes = tt;
  }

  pub one_goes : {y : Read} → r ≡ Ok y → (next < y.next) × (7 * y.next + p ≤ 7 * next + y.at)
  one_goes z = rw z at x.goes

  pub one_passed : left ≤ 12 → {y : Read} → r ≡ Ok y → Passed s before tree' left start i y.at y.next
  unfolding read_scan read_next
  one_passed l {y} z =
      let (j, en) = one_goes z in
      let g = reached (x.reads (13 - left) (omega (arith, l))) (ap read_scan z) in
      let l₁ = g.rises in
      let l₃ = b.rises in
      let l₄ = w.through.rises in
      let cn = b.counted in
      let eb = b.enough in
      record {
        kept = kept_on b.kept x.kept b.counted;
        rises = omega (arith, l₁, l₃, l₄);
        within = g.within;
        counted = omega (arith, j, cn);
        enough = omega (arith, en, eb, l₄);
        passes = inr (omega (arith, j, cn), λ o d. behind_it o d);
      }
    where
      behind_it : (o : Open) → o.depth + left ≡ 12 → SoFar s tree' o start i y.at y.next
      behind_it o d =
          let f = begun o d in
          let g = reached f.reads (ap read_scan z) in
          let cn = b.counted in
          let (j, _) = one_goes z in
          record {
            before_these = λ ts. f.before_these (g.got.element ∷ᵉ ts);
            runs = g.runs;
            numbered = λ roomy after a ts m u.
                let rs : Roomy s tree = record { short = roomy.short; long = let k = x.kept.length_kept in let k' = roomy.long in omega (arith, k, k') } in
                let mine : Numbered s tree' g.got.element next y.next = subst (λ v. Numbered s tree' g.got.element next v) (ap read_next z) (g.got.numbered roomy) in
                f.numbered rs after (agree_on (kept_agree x.kept) a (omega (arith, j))) (g.got.element ∷ᵉ ts) m
                (more_numbered (numbered_stays mine (narrow a (omega (arith, cn)) (omega arith))) u);
          }

-- Every byte between two offsets is of a kind.
every_from : (q : ℕ → Bool) (s : List ℕ) (m a : ℕ) → a + m ≤ length s → ((k : ℕ) → a ≤ k → k < a + m → q (get_or s k 0) ≡ true) → Every q (take m (drop a s))
every_from q s zero a l f = every_none
every_from q s (suc m) a l f =
    rw (drop-cons s a 0 (omega (arith, l)))
    (every_more (f a (omega arith) (omega arith)) (every_from q s m (suc a) (omega (arith, l)) (λ k u v. f k (omega (arith, u)) (omega (arith, v)))))

every-between : (q : ℕ → Bool) (s : List ℕ) (a b : ℕ) → a ≤ b → b ≤ length s → ((k : ℕ) → a ≤ k → k < b → q (get_or s k 0) ≡ true) → Every q (between a b s)
every-between q s a b l h f = every_from q s (b - a) a (omega (arith, l, h)) (λ k u v. f k u (omega (arith, v, l)))

along_then : {s : List ℕ} {a b c : ℕ} → Along s a b → Along s b c → Along s a c
along_then x y = record {
  rises = let l = x.rises in let m = y.rises in omega (arith, l, m);
  within = y.within;
  texts = λ o w. let (w₁, f) = x.texts o w in let (w₂, g) = y.texts o w₁ in (w₂, λ k. f k ∙ g k);
}

unknown : {s : List ℕ} {start close : ℕ} → Known s start close 0
unknown = record { small = omega arith; white_known = λ e. absurd (omega (arith, e)); values_known = λ e. absurd (omega (arith, e)) }

-- what stands behind white space, as `ending` finds it
module _ (s : List ℕ) (start at p : ℕ) where
  pub behind_children : (at ≡ start → ⊥) → HeldTo s start at p p 0
  behind_children m = record {
    behind_children = λ _. refl;
    text = λ z. absurd (m z);
    is_known = λ _ _ z. absurd (m z);
    nothing_known = λ _. refl;
  }

  module _ (v close : ℕ) (x : Values s p v) (y : Text s v close) (z : at ≡ start) where
    ends_with : (known : ℕ) → (((k : ℕ) → start ≤ k → k < p → white (get_or s k 0) ≡ true) → start ≤ p → Known s start close known) → HeldTo s start at p close known
    ends_with known f = record {
      behind_children = λ m. absurd (m z);
      text = λ _. (along_then x.along y.along, y.other);
      is_known = λ g l _. f g l;
      nothing_known = λ m. absurd (m z);
    }

    white_alone : close ≡ p → HeldTo s start at p close 1
    white_alone e = ends_with 1 (λ g l. record {
      small = omega arith;
      white_known = λ _. let h = y.along.within in every-between white s start close (omega (arith, l, e)) h (λ k u w. g k u (omega (arith, w, e)));
      values_known = λ d. absurd (omega (arith, d));
    })

    values_alone : p ≡ start → close ≡ v → HeldTo s start at p close 3
    values_alone a b = ends_with 3 (λ g l. record {
      small = omega arith;
      white_known = λ d. absurd (omega (arith, d));
      values_known = λ _.
          let h = y.along.within in
          let i = x.along.rises in
          every-between value_character s start close (omega (arith, i, a, b)) h (λ k u w. x.in_set k (omega (arith, u, a)) (omega (arith, w, b)));
    })

    pub text_alone : {known : Kind} → TextKnown start p v close known → HeldTo s start at p close (known_number known)
    text_alone {known = text.Any} t = ends_with 0 (λ _ _. unknown)
    text_alone {known = text.White} t = white_alone (t.white_known refl)
    text_alone {known = text.Values} t = let (a, b) = t.values_known refl in values_alone a b
