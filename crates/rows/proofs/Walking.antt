-- Laws about the walk itself: an element by what it holds, and a group's children one after the other.
use Rattle.std.specs.Prelude.{Result, Ok, Err}
use Prim.Native.Nat.{ℕ, ◌+◌, ◌<◌, ◌≤◌}
use mathlib.Core.List.{List}
use mathlib.Core.Bool.{true, false}
use mathlib.Core.Option.{Option, none, some}
use mathlib.Core.Path.{◌≡◌, refl, sym, ap, ◌∙◌}
use native.Mathlib.Omega.{arith}
use borrow.Author.Tests.{eq-eqb, ne_eqb}
use Rattle.paper.specs.Bytes.{bytes}
use Rattle.paper.specs.Form.{Head, Element, Elements, holding_text, holding_elements, []ᵉ, ◌∷ᵉ◌}
use Rattle.paper.specs.Rows.{name, name_in, rows as the_rows, instant_changes, every_row, leaf, group, group_under, Place, Contents, text, elements, Row, Profile, row_of, head_of, longest_of}
use Rattle.paper.specs.Values.{among}
use Rattle.paper.specs.Refusals.{Refusal, refuse, ◌or_else◌, ends, only_white, first_at, Sought, never, early, found, seek, Left, from_here, Judgement, walk, walk_all}
use Rattle.paper.specs.Answers.{refusal_found, refusal_of, numbered}
use Rattle.paper.specs.declared.Fault.{Fault}
use Rattle.paper.specs.declared.Fault.TheVariants.{NotAllowedThere, Withdrawn}
use Rattle.paper.proofs.Laws.{false_not_true, none_or_else, or_else_none}
use Rattle.tree.specs.Laid.{between, Entry, Laid, laid_text, laid_elements, LaidAll, laid_none, laid_more}
use Rattle.tree.proofs.Laws.{Cell, at_cell, close_cell, next_cell, entry_of}
use Rattle.rows_places.specs.Numbers.{of_entry, places_left, places_of, holds_at, row_at, Stands}
use Rattle.rows_places.specs.Seek.{ResolvedBetween, Seeks, SeekPromise}
use Rattle.rows_contents.specs.Judged.{withdrawn_by, at_text, judgement, Judged}
use Rattle.rows_contents.specs.declared.Judging.{Judging}
use Rattle.rows_contents.proofs.Judgings.{withdrawn_refused, group_judged, elements_judged, leaf_judged}
use Rattle.rows.specs.Walk.{unless_found, Walks, WalksAll}
use Rattle.rows_places.specs.declared.Left as code
use Rattle.rows_places.specs.declared.Placed.{Placed}
use Rattle.rows_places.specs.declared.Unplaced.{Unplaced}
use Rattle.rows_places.specs.declared.Unplaced.TheVariants.{Never, Early}

-- what an entry holds
module _ (rows places : List (List ℕ)) (e : ℕ) where
  pub holds_places : of_entry rows e 3 ≡ 0 → holds_at rows places e ≡ elements (places_of rows places e)
  unfolding holds_at
  holds_places k = rw (eq-eqb _ _ k)

  pub holds_text : (of_entry rows e 3 ≡ 0 → ⊥) → holds_at rows places e ≡ text (of_entry rows e 3)
  unfolding holds_at
  holds_text k = rw (ne_eqb _ _ k)

-- elements one after the other
pub all_up : {s tree : List ℕ} {ts : Elements} {i next : ℕ} → LaidAll s tree ts i next → i ≤ next
all_up (laid_none e) = omega arith
all_up (laid_more one others) = omega (arith, (entry_of one).numbers.after_it, all_up others)

pub record Sibling (s tree : List ℕ) (ts : Elements) (i next : ℕ) : Type 0 where
  pub one : Element
  pub others : Elements
  pub middle : ℕ
  pub are : ts ≡ one ∷ᵉ others
  pub laid : Laid s tree one i middle
  pub laid_behind : LaidAll s tree others middle next

pub sibling : {s tree : List ℕ} {ts : Elements} {i next : ℕ} → LaidAll s tree ts i next → i < next → Sibling s tree ts i next
sibling (laid_none e) h = absurd (omega arith)
sibling (laid_more {t = t} {ts = ts} {middle = m} one others) h = record { one = t; others = ts; middle = m; are = refl; laid = one; laid_behind = others }

pub no_sibling : {s tree : List ℕ} {ts : Elements} {i next : ℕ} → LaidAll s tree ts i next → next ≤ i → ts ≡ []ᵉ
no_sibling (laid_none e) h = refl
no_sibling (laid_more one others) h = absurd (omega (arith, (entry_of one).numbers.after_it, all_up others))

-- where the first of some elements stands
pub first_child : (otherwise : ℕ) {s tree : List ℕ} {ts : Elements} {i next at : ℕ} → LaidAll s tree ts i next → i < next → Cell tree i 0 at → at ≡ first_at ts otherwise
unfolding first_at
first_child otherwise (laid_none e) h c = absurd (omega arith)
first_child otherwise (laid_more one others) h c = at_cell (entry_of one) c

-- one element by what is judged of it and what it holds
module _ (profile : Profile) (judge : Judgement) (holder : Option Element) (parent : ℕ) (r : Row) (h : Head) where
  module _ (w : List ℕ) where
    abbrev text_held : Contents → Option Refusal
    text_held o = elim o as (λ _. Option Refusal) [ text longest ↦ none | elements places ↦ only_white r.row places h w ]

    pub walk_white : (ps : List Place) → r.holds ≡ elements ps → judge holder parent r (holding_text h w) ≡ none
        → walk profile judge (holding_text h w) holder parent r ≡ only_white r.row ps h w
    unfolding walk
    walk_white ps e n = none_or_else n ∙ ap (λ (o : Contents). text_held o) e

    pub walk_leaf : (n : ℕ) → r.holds ≡ text n → {o : Option Refusal} → judge holder parent r (holding_text h w) ≡ o
        → walk profile judge (holding_text h w) holder parent r ≡ o
    unfolding walk
    walk_leaf n e j = ap (λ (o : Contents). judge holder parent r (holding_text h w) or_else text_held o) e ∙ or_else_none _ ∙ j

    pub walk_refused_text : {x : Refusal} → judge holder parent r (holding_text h w) ≡ some x → walk profile judge (holding_text h w) holder parent r ≡ some x
    unfolding walk ◌or_else◌
    walk_refused_text j = rw j

  module _ (ts : Elements) where
    abbrev elements_held : Contents → Option Refusal
    elements_held o =
        elim o as (λ _. Option Refusal) [
          | text longest ↦ refuse 3 r.row (first_at ts h.start)
          | elements places ↦ walk_all profile judge ts (holding_elements h ts) r.row (from_here places) h.close
        ]

    pub walk_group : (ps : List Place) → r.holds ≡ elements ps → judge holder parent r (holding_elements h ts) ≡ none
        → walk profile judge (holding_elements h ts) holder parent r ≡ walk_all profile judge ts (holding_elements h ts) r.row (from_here ps) h.close
    unfolding walk
    walk_group ps e n = none_or_else n ∙ ap (λ (o : Contents). elements_held o) e

    pub walk_in_leaf : (n : ℕ) → r.holds ≡ text n → judge holder parent r (holding_elements h ts) ≡ none
        → walk profile judge (holding_elements h ts) holder parent r ≡ refuse 3 r.row (first_at ts h.start)
    unfolding walk
    walk_in_leaf m e n = none_or_else n ∙ ap (λ (o : Contents). elements_held o) e

    pub walk_refused_elements : {x : Refusal} → judge holder parent r (holding_elements h ts) ≡ some x → walk profile judge (holding_elements h ts) holder parent r ≡ some x
    unfolding walk ◌or_else◌
    walk_refused_elements j = rw j

-- one child by what comes of it
module _ (profile : Profile) (judge : Judgement) (t : Element) (ts : Elements) (holder : Element) (row : ℕ) (left : Left) (close : ℕ) where
  abbrev after : Sought → Option Refusal
  after q =
      elim q as (λ _. Option Refusal) [
        | never ↦ refuse 3 row (head_of t).at
        | early first ↦ refuse 4 first (head_of t).at
        | found k rest ↦ walk profile judge t (some holder) row (row_of profile row k) or_else walk_all profile judge ts holder row rest close
      ]

  child_step : {q : Sought} → seek left (head_of t).name ≡ q → walk_all profile judge (t ∷ᵉ ts) holder row left close ≡ after q
  unfolding walk
  child_step e = ap (λ (q : Sought). after q) e

-- The children of a group as entry e that are left, from one on, and the places left for them: the walk goes on with them as it would with all.
pub record Remaining (profile : Profile) (s tree : List ℕ) (rows places : List (List ℕ)) (judging : Judging) (e row : ℕ) (h : Head) (ts : Elements) (next : ℕ) (left : code.Left)
    (child : ℕ) : Type 0 where
  pub rest : Elements
  pub laid : LaidAll s tree rest child next
  pub from_first : of_entry rows e 4 ≤ left.from
  pub to_is : left.to ≡ of_entry rows e 5
  pub seen_inside : left.seen ≡ true → left.from < left.to
  pub goes_on :
      walk_all profile (judgement judging) ts (holding_elements h ts) (of_entry rows e 0) (from_here (places_of rows places e)) h.close ≡
      walk_all profile (judgement judging) rest (holding_elements h ts) row (places_left rows places left.from left.seen left.to) h.close

-- The walk among the children of element i as entry e, before a child: what the code has read of both, and what remains.
pub record Among (s tree : List ℕ) (rows places : List (List ℕ)) (judging : Judging) (i e row next : ℕ) (left : code.Left) (child : ℕ) : Type 0 where
  pub child_behind : i < child
  pub row_is : row ≡ of_entry rows e 0
  pub next_is : Cell tree i 4 next
  pub remaining : (profile : Profile) → Stands profile rows places → (h : Head) (n : ℕ) → Entry s tree i h n → (ts : Elements) → LaidAll s tree ts (i + 1) n
      → Remaining profile s tree rows places judging e row h ts n left child

-- before the first child
pub group_starts : {s tree : List ℕ} {rows places : List (List ℕ)} {judging : Judging} {i e row next from to : ℕ} → row ≡ of_entry rows e 0 → from ≡ of_entry rows e 4
    → to ≡ of_entry rows e 5 → Cell tree i 4 next → Among s tree rows places judging i e row next (record { from = from; seen = false; to = to }) (i + 1)
unfolding places_of places_left
group_starts p r q c =
    record {
      child_behind = omega arith;
      row_is = p;
      next_is = c;
      remaining = λ profile st h n entry ts l.
          record { rest = ts; laid = l; from_first = omega arith; to_is = q; seen_inside = λ f. false_not_true f; goes_on = rw (p, q, r) };
    }

-- one child
module _ {s tree : List ℕ} {rows places : List (List ℕ)} {judging : Judging} {i e row next : ℕ} {left : code.Left} {child : ℕ}
    (among : Among s tree rows places judging i e row next left child) (inside : child < next) where
  module _ {profile : Profile} (st : Stands profile rows places) {h : Head} {n : ℕ} (entry : Entry s tree i h n) {ts : Elements} (l : LaidAll s tree ts (i + 1) n) where
    abbrev rem : Remaining profile s tree rows places judging e row h ts n left child
    rem = among.remaining profile st h n entry ts l

    abbrev it : Sibling s tree rem.rest child n
    it = sibling rem.laid (omega (arith, next_cell entry among.next_is, inside))

    child_entry : Entry s tree child (head_of it.one) it.middle
    child_entry = entry_of it.laid

    with_it : {q : Sought} → seek (places_left rows places left.from left.seen left.to) (head_of it.one).name ≡ q
        → walk_all profile (judgement judging) ts (holding_elements h ts) (of_entry rows e 0) (from_here (places_of rows places e)) h.close
        ≡ after profile (judgement judging) it.one it.others (holding_elements h ts) row (places_left rows places left.from left.seen left.to) h.close q
    with_it q =
        rem.goes_on ∙ ap (λ (us : Elements). walk_all profile (judgement judging) us (holding_elements h ts) row (places_left rows places left.from left.seen left.to) h.close) it.are ∙
        child_step profile (judgement judging) it.one it.others (holding_elements h ts) row (places_left rows places left.from left.seen left.to) h.close q

    resolved : ResolvedBetween profile rows places row left.from left.to
    resolved k low high =
        let start : of_entry rows e 4 ≤ k = omega (arith, rem.from_first, low) in
        let end : k < of_entry rows e 5 = omega (arith, rem.to_is, high) in
        rw among.row_is (record { first_stands = st.first_stands e k start end; second_stands = st.second_stands e k start end })

    module _ (q : Result Placed Unplaced) (seeks : SeekPromise tree rows places child left.from left.seen left.to q) where
      there : Seeks profile rows places row (head_of it.one).name (places_left rows places left.from left.seen left.to) left.from left.to q
      there = seeks profile row s (head_of it.one) it.middle resolved rem.seen_inside child_entry

      not_there : {at : ℕ} {o : Option Refusal} (u : Unplaced) → q ≡ Err u → Cell tree child 0 at → o ≡ unless_found row at (Err u)
          → o ≡ walk_all profile (judgement judging) ts (holding_elements h ts) (of_entry rows e 0) (from_here (places_of rows places e)) h.close
      unfolding Seeks unless_found
      not_there {at} {o} u q_is c f = go u (rw q_is at there) f
        where
          go : (u : Unplaced) → Seeks profile rows places row (head_of it.one).name (places_left rows places left.from left.seen left.to) left.from left.to (Err u) → o ≡ unless_found row at (Err u)
              → o ≡ walk_all profile (judgement judging) ts (holding_elements h ts) (of_entry rows e 0) (from_here (places_of rows places e)) h.close
          go Never sk g = g ∙ rw (at_cell child_entry c) (sym (with_it sk))
          go (Early k) sk g = g ∙ rw (at_cell child_entry c) (sym (with_it sk))

      module _ {placed : Placed} (q_is : q ≡ Ok placed) (f : Result Unit Fault) (walks : Walks s tree rows places judging row child placed.entry f) where
        found_there : Seeks profile rows places row (head_of it.one).name (places_left rows places left.from left.seen left.to) left.from left.to (Ok placed)
        found_there = rw q_is at there

        rises : of_entry rows e 4 ≤ placed.left.from
        unfolding Seeks
        rises = omega (arith, rem.from_first, found_there.0)

        stays : placed.left.seen ≡ true → placed.left.from < left.to
        unfolding Seeks
        stays = found_there.1

        to_stays : placed.left.to ≡ left.to
        unfolding Seeks
        to_stays = found_there.2

        -- row 42 is named InstdAmt
        amount_named : of_entry rows placed.entry 0 ≡ 42 → (head_of it.one).name ≡ bytes "InstdAmt"
        unfolding Seeks name name_in the_rows instant_changes every_row leaf group group_under bytes
        amount_named k = found_there.3.name_is ∙ ap name k

        below : walk_all profile (judgement judging) ts (holding_elements h ts) (of_entry rows e 0) (from_here (places_of rows places e)) h.close
            ≡ refusal_found f or_else walk_all profile (judgement judging) it.others (holding_elements h ts) row (places_left rows places placed.left.from placed.left.seen left.to) h.close
        unfolding Seeks
        below =
            with_it found_there.4 ∙
            ap (λ (r : Row). walk profile (judgement judging) it.one (some (holding_elements h ts)) row r or_else walk_all profile (judgement judging) it.others (holding_elements h ts) row (places_left rows places placed.left.from placed.left.seen left.to) h.close)
            found_there.3.row_is ∙
            ap (λ (o : Option Refusal). o or_else walk_all profile (judgement judging) it.others (holding_elements h ts) row (places_left rows places placed.left.from placed.left.seen left.to) h.close)
            (sym (walks profile st it.one it.middle it.laid amount_named (some (holding_elements h ts))))

        refused : {fault : Fault} → f ≡ Err fault
            → refusal_found (Err fault) ≡ walk_all profile (judgement judging) ts (holding_elements h ts) (of_entry rows e 0) (from_here (places_of rows places e)) h.close
        unfolding refusal_found ◌or_else◌
        refused g = sym (below ∙ rw g)

        passed : f ≡ Ok tt → {after : ℕ} → Cell tree child 4 after → Remaining profile s tree rows places judging e row h ts n placed.left after
        unfolding refusal_found ◌or_else◌
        passed g c =
            record { rest = it.others; laid = rw (next_cell child_entry c) it.laid_behind; from_first = rises; to_is = to_stays ∙ rem.to_is; seen_inside = rw to_stays stays; goes_on = rw to_stays (below ∙ rw g) }

  pub no_way_back : {after : ℕ} → Cell tree child 4 after → after ≤ child → (f : Result Unit Fault) → WalksAll s tree rows places judging i e f
  no_way_back c back f profile st h n entry ts l =
      let e = child_entry st entry l in absurd (omega (arith, next_cell e c, e.numbers.after_it, back))

  pub child_not_found : (u : Unplaced) → SeekPromise tree rows places child left.from left.seen left.to (Err u) → {at : ℕ} → Cell tree child 0 at
      → (fault : Fault) → refusal_found (Err fault) ≡ unless_found row at (Err u) → WalksAll s tree rows places judging i e (Err fault)
  child_not_found u seeks c fault f profile st h n entry ts l = not_there st entry l (Err u) seeks u refl c f

  module _ (placed : Placed) (seeks : SeekPromise tree rows places child left.from left.seen left.to (Ok placed)) (f : Result Unit Fault)
      (walks : Walks s tree rows places judging row child placed.entry f) where
    pub child_refused : {fault : Fault} → f ≡ Err fault → WalksAll s tree rows places judging i e (Err fault)
    child_refused g profile st h n entry ts l = refused st entry l (Ok placed) seeks refl f walks g

    pub child_passed : {after : ℕ} → f ≡ Ok tt → Cell tree child 4 after → child < after
        → Among s tree rows places judging i e row next placed.left after
    child_passed g c on =
        record {
          child_behind = omega (arith, among.child_behind, on);
          row_is = among.row_is;
          next_is = among.next_is;
          remaining = λ profile st h n entry ts l. passed st entry l (Ok placed) seeks refl f walks g c;
        }

-- behind the last child
pub group_ends : {s tree : List ℕ} {rows places : List (List ℕ)} {judging : Judging} {i e row next : ℕ} {left : code.Left} {child : ℕ}
    → Among s tree rows places judging i e row next left child → next ≤ child → {close : ℕ} → Cell tree i 3 close
    → (f : Result Unit Fault) → refusal_found f ≡ ends (places_left rows places left.from left.seen left.to) close → WalksAll s tree rows places judging i e f
unfolding walk
group_ends among past c f g profile st h n entry ts l =
    let rem = among.remaining profile st h n entry ts l in
    g ∙ rw (close_cell entry c) (sym (rem.goes_on ∙ rw (no_sibling rem.laid (omega (arith, next_cell entry among.next_is, past)))))

-- element i as entry e, by what the code has read of both
module _ (s tree : List ℕ) (rows places : List (List ℕ)) (judging : Judging) (parent i e : ℕ) {row : ℕ} (row_is : row ≡ of_entry rows e 0) where
  -- its row is withdrawn
  pub withdrawn : {at : ℕ} → among row (withdrawn_by judging) ≡ true → Cell tree i 0 at → Walks s tree rows places judging parent i e (Err (Withdrawn row at))
  unfolding row_at refusal_found refusal_of numbered refuse head_of
  withdrawn w at_is profile st _ next (laid_text {h = h} {w = v} entry n w_is) amount holder =
      rw (row_is, at_cell entry at_is)
      (sym (walk_refused_text profile (judgement judging) holder parent (row_at rows places e) h v
      (withdrawn_refused judging holder parent (row_at rows places e) (holding_text h v) (rw (← row_is) w))))
  withdrawn w at_is profile st _ next (laid_elements {h = h} {ts = ts} entry more all) amount holder =
      rw (row_is, at_cell entry at_is)
      (sym (walk_refused_elements profile (judgement judging) holder parent (row_at rows places e) h ts
      (withdrawn_refused judging holder parent (row_at rows places e) (holding_elements h ts) (rw (← row_is) w))))

  -- it is not, and the judgement is of what a leaf holds
  module _ {longest following : ℕ} (longest_is : longest ≡ of_entry rows e 3) (following_is : Cell tree i 4 following) (stays : among row (withdrawn_by judging) ≡ false) where
    row_stays : among (row_at rows places e).row (withdrawn_by judging) ≡ false
    unfolding row_at
    row_stays = rw (← row_is) stays

    pub text_in_group : (f : Result Unit Fault) → following ≤ i + 1 → longest ≡ 0
        → ((h : Head) (n : ℕ) → Entry s tree i h n → refusal_found f ≡ only_white (of_entry rows e 0) (places_of rows places e) h (between h.start h.close s))
        → Walks s tree rows places judging parent i e f
    unfolding row_at
    text_in_group f short none_long g profile st _ next (laid_text {h = h} {w = w} entry n w_is) amount holder =
        let holds = holds_places rows places e (sym longest_is ∙ none_long) in
        g h _ entry ∙ ap (only_white (of_entry rows e 0) (places_of rows places e) h) (sym w_is) ∙
        sym (walk_white profile (judgement judging) holder parent (row_at rows places e) h w _ holds
        (group_judged judging holder parent (row_at rows places e) row_stays (holding_text h w) _ holds))
    text_in_group f short none_long g profile st _ next (laid_elements entry more all) amount holder = absurd (omega (arith, next_cell entry following_is))

    pub text_in_leaf : (f : Result Unit Fault) → following ≤ i + 1 → (longest ≡ 0 → ⊥) → Judged (at_text judging) s tree parent i row longest f
        → Walks s tree rows places judging parent i e f
    unfolding row_at head_of longest_of
    text_in_leaf f short long g profile st _ next (laid_text {h = h} {w = w} entry n w_is) amount holder =
        let holds = holds_text rows places e (λ z. long (longest_is ∙ z)) in
        g (row_at rows places e) h _ entry (sym row_is) (ap longest_of holds ∙ sym longest_is) (λ k. amount (sym row_is ∙ k)) ∙
        ap (at_text judging parent (row_at rows places e) h) (sym w_is) ∙
        sym (walk_leaf profile (judgement judging) holder parent (row_at rows places e) h w _ holds
        (leaf_judged judging holder parent (row_at rows places e) row_stays h w _ holds))
    text_in_leaf f short long g profile st _ next (laid_elements entry more all) amount holder = absurd (omega (arith, next_cell entry following_is))

    pub elements_in_group : (f : Result Unit Fault) → i + 1 < following → longest ≡ 0 → WalksAll s tree rows places judging i e f → Walks s tree rows places judging parent i e f
    unfolding row_at
    elements_in_group f many none_long g profile st _ next (laid_text entry n w_is) amount holder = absurd (omega (arith, next_cell entry following_is))
    elements_in_group f many none_long g profile st _ next (laid_elements {h = h} {ts = ts} entry more all) amount holder =
        g profile st h _ entry ts all ∙
        sym (walk_group profile (judgement judging) holder parent (row_at rows places e) h ts _ (holds_places rows places e (sym longest_is ∙ none_long))
        (elements_judged judging holder parent (row_at rows places e) row_stays h ts))

    pub elements_in_leaf : {at : ℕ} → i + 1 < following → (longest ≡ 0 → ⊥) → Cell tree (i + 1) 0 at → Walks s tree rows places judging parent i e (Err (NotAllowedThere row at))
    unfolding row_at refusal_found refusal_of numbered refuse
    elements_in_leaf many long at_is profile st _ next (laid_text entry n w_is) amount holder = absurd (omega (arith, next_cell entry following_is))
    elements_in_leaf many long at_is profile st _ next (laid_elements {h = h} {ts = ts} entry more all) amount holder =
        rw (row_is, first_child h.start all more at_is)
        (sym (walk_in_leaf profile (judgement judging) holder parent (row_at rows places e) h ts _ (holds_text rows places e (λ z. long (longest_is ∙ z)))
        (elements_judged judging holder parent (row_at rows places e) row_stays h ts)))
