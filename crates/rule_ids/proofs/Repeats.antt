-- Block ids: one block against the earlier ones, and block after block.
use Rattle.std.specs.Prelude.{if◌then◌else◌}
use Prim.Native.Nat.{ℕ, ◌+◌, ◌≤◌, ◌<◌}
use mathlib.Core.List.{List, [], ◌∷◌, ◌++◌}
use mathlib.Core.Option.{Option, none, some}
use mathlib.Core.Bool.{Bool, true, false, ◌||◌, not, or-false}
use mathlib.Core.Path.{◌≡◌, refl, sym, ap, ◌∙◌}
use native.Mathlib.Omega.{arith}
use lib.ListN.{length, get_or, length-append}
use Rattle.paper.specs.Bytes.{same}
use Rattle.paper.specs.Form.{Element}
use Rattle.paper.specs.Rows.{head_of}
use Rattle.paper.specs.Payments.{text_of, child, blocks}
use Rattle.paper.specs.Refusals.{Refusal, refuse, unless, ◌or_else◌, among_texts, repeated, ids_refusal}
use Rattle.paper.specs.Answers.{refusal_found}
use Rattle.paper.specs.declared.Fault.{Fault}
use Rattle.tree.specs.Laid.{LaidAt}
use Rattle.rule_limits.specs.Ordered.{BlocksAt, no_blocks, more_blocks, Ordered}
use Rattle.std.specs.Prelude.{Result, Ok, Err, Some, None}
use Rattle.std.specs.Prelude as code
use Rattle.std.specs.Result.{IsErrAnd}
use Rattle.tree_routes.specs.Finds.{Finds}
use Rattle.tree_routes.proofs.WhatIsFound.{found_none, found_some}
use Rattle.rule_ids.specs.Ids.{with_id, with_ids, id_refusal}
use Rattle.rule_limits.proofs.First.{FirstBlock, first_block, no_block_left, stands_at, one_fewer}
use Rattle.rule_limits.proofs.Refusing.{leaves, later}

-- one id among those of a block, and among those of earlier blocks and one more
or_nothing : (a b : Bool) → (a || b) ≡ ((a || false) || b)
or_nothing true b = refl
or_nothing false b = refl

or_true : (a b : Bool) → b ≡ true → (a || b) ≡ true
or_true true b e = refl
or_true false b e = e

module _ (w : List ℕ) where
  among_more : (earlier : List (List ℕ)) (o : Option Element)
      → among_texts w (with_id earlier o) ≡ (among_texts w (with_id [] o) || among_texts w earlier)
  unfolding among_texts with_id
  among_more earlier none = refl
  among_more earlier (some t) = or_nothing (same w (text_of t)) (among_texts w earlier)

  still_among : (earlier : List (List ℕ)) (bs : List Element) → among_texts w earlier ≡ true → among_texts w (with_ids earlier bs) ≡ true
  unfolding with_ids
  still_among earlier [] h = h
  still_among earlier (b ∷ bs) h =
      let o = child 11 b in
      still_among (with_id earlier o) bs (among_more earlier o ∙ or_true (among_texts w (with_id [] o)) (among_texts w earlier) h)

pub id_absent : (w : List ℕ) {s tree : List ℕ} {o : Option Element} {f : code.Option ℕ} → Finds s tree o f → f ≡ None → false ≡ among_texts w (with_id [] o)
unfolding among_texts with_id
id_absent w found e = sym (rw (found_none found e))

pub id_there : (w : List ℕ) {s tree u v : List ℕ} {o : Option Element} {f : code.Option ℕ} {i : ℕ} {r : Bool} → Finds s tree o f → f ≡ Some i
    → u ≡ w → ((t : Element) → LaidAt s tree i t → v ≡ text_of t) → r ≡ same u v → r ≡ among_texts w (with_id [] o)
unfolding among_texts with_id
id_there w {v = v} {o} found e g h d =
    let t = found_some found e in
    let x : among_texts w (with_id [] o) ≡ among_texts w (text_of t.it ∷ []) = ap (λ (p : Option Element). among_texts w (with_id [] p)) t.is_it in
    d ∙ ap (λ (a : List ℕ). same a v) g ∙ ap (same w) (h t.it t.laid) ∙ sym (x ∙ or-false (same w (text_of t.it)))

-- Block j is next, of k, and no block before it has the id.
pub record Unmatched (s tree order w : List ℕ) (bs : List Element) (j k : ℕ) : Type 0 where
  rest : List Element
  rest_at : BlocksAt s tree order j rest
  rest_many : k ≡ j + length rest
  earlier : List (List ℕ)
  ids_are : with_ids [] bs ≡ with_ids earlier rest
  not_among : among_texts w earlier ≡ false

-- what `has_id` answers
abbrev pub HasId : (s tree : List ℕ) (block id : ℕ) (r : Bool) → Type 0
HasId s tree block id r =
    (b t : Element) → LaidAt s tree block b → LaidAt s tree id t → r ≡ among_texts (text_of t) (with_id [] (child 11 b))

module _ {s tree order : List ℕ} where
  pub unmatched : (w : List ℕ) {bs : List Element} {k : ℕ} → BlocksAt s tree order 0 bs → k ≡ length bs → Unmatched s tree order w bs 0 k
  unfolding among_texts
  unmatched w {bs} at e = record { rest = bs; rest_at = at; rest_many = omega arith; earlier = []; ids_are = refl; not_among = refl }

  module _ {t : Element} {bs : List Element} {j k id block : ℕ} {r : Bool} (laid : LaidAt s tree id t) (u : Unmatched s tree order (text_of t) bs j k)
      (here : block ≡ get_or order j 0) (h : j < k) (has : HasId s tree block id r) where
    answer : (f : FirstBlock s tree order j u.rest) → r ≡ among_texts (text_of t) (with_id [] (child 11 f.one))
    answer f = has f.one t (stands_at here f.one_laid) laid

    onward : (f : FirstBlock s tree order j u.rest)
        → with_ids [] bs ≡ with_ids (with_id u.earlier (child 11 f.one)) f.others
    unfolding with_ids
    onward f = u.ids_are ∙ ap (with_ids u.earlier) f.first_is

    joined : (f : FirstBlock s tree order j u.rest) → among_texts (text_of t) (with_id u.earlier (child 11 f.one)) ≡ r
    joined f =
        among_more (text_of t) u.earlier (child 11 f.one) ∙ rw (← answer f, u.not_among) (or-false r)

    pub matched : r ≡ true → true ≡ among_texts (text_of t) (with_ids [] bs)
    matched e =
        let f = first_block u.rest_at u.rest_many h in
        sym (ap (among_texts (text_of t)) (onward f) ∙ still_among (text_of t) (with_id u.earlier (child 11 f.one)) f.others (joined f ∙ e))

    pub still_unmatched : r ≡ false → Unmatched s tree order (text_of t) bs (j + 1) k
    still_unmatched e =
        let f = first_block u.rest_at u.rest_many h in
        record {
          rest = f.others;
          rest_at = f.others_at;
          rest_many = one_fewer j u.rest_many f.first_is;
          earlier = with_id u.earlier (child 11 f.one);
          ids_are = onward f;
          not_among = joined f ∙ e;
        }

  pub never_matched : {w : List ℕ} {bs : List Element} {j k : ℕ} → Unmatched s tree order w bs j k → k ≤ j → false ≡ among_texts w (with_ids [] bs)
  unfolding with_ids
  never_matched {w} u h =
      sym (ap (among_texts w) (u.ids_are ∙ ap (with_ids u.earlier) (no_block_left u.rest_at u.rest_many h)) ∙ u.not_among)

-- one block's id, and the rest
repeated_is : (earlier : List (List ℕ)) (b : Element) (bs : List Element)
    → repeated earlier (b ∷ bs) ≡ id_refusal earlier b or_else repeated (with_id earlier (child 11 b)) bs
unfolding repeated id_refusal unless with_id ◌or_else◌ refuse
repeated_is earlier b bs = go (child 11 b)
  where
    by : (c : Bool) (r : Option Refusal) (x : Refusal) → ◌≡◌ {A = Option Refusal} (if c then some x else r) ((if not c then none else some x) or_else r)
    by true r x = refl
    by false r x = refl

    go : (o : Option Element) → ◌≡◌ {A = Option Refusal}
        (elim o [
          | none ↦ refuse 11 11 0
          | some id ↦ if among_texts (text_of id) earlier then refuse 11 11 (head_of id).at else repeated (text_of id ∷ earlier) bs
        ])
        (unless (λ w. not (among_texts w earlier)) 11 11 o or_else repeated (with_id earlier o) bs)
    go none = refl
    go (some id) = by (among_texts (text_of id) earlier) (repeated (text_of id ∷ earlier) bs) _

with_ids_last : (earlier : List (List ℕ)) (bs : List Element) (b : Element)
    → with_ids earlier (bs ++ b ∷ []) ≡ with_id (with_ids earlier bs) (child 11 b)
unfolding with_ids
with_ids_last earlier [] b = refl
with_ids_last earlier (x ∷ bs) b = with_ids_last (with_id earlier (child 11 x)) bs b

blocks_and : {s tree order : List ℕ} {k n : ℕ} {b : Element} {bs : List Element} → BlocksAt s tree order k bs → n ≡ k + length bs
    → LaidAt s tree (get_or order n 0) b → BlocksAt s tree order k (bs ++ b ∷ [])
blocks_and {order = order} {k} {n} no_blocks e l =
    let x : k ≡ n = omega arith in
    more_blocks (stands_at (ap (λ (m : ℕ). get_or order m 0) x) l) no_blocks
blocks_and {k = k} {n} (more_blocks {bs = bs} x rest) e l = more_blocks x (blocks_and rest (let y : n ≡ k + 1 + length bs = omega arith in y) l)

-- Before the id of block k, of n blocks: what is left decides.
pub record BeforeId (s tree order : List ℕ) (root : Element) (k n : ℕ) : Type 0 where
  before : List Element
  before_at : BlocksAt s tree order 0 before
  before_many : k ≡ length before
  rest : List Element
  rest_at : BlocksAt s tree order k rest
  rest_many : n ≡ k + length rest
  refusal_is : ids_refusal root ≡ repeated (with_ids [] before) rest

-- what `id_at` answers at block k
abbrev pub IdAt : (s tree order : List ℕ) (k : ℕ) (f : Result Unit Fault) → Type 0
IdAt s tree order k f =
    (bs : List Element) (b : Element) → BlocksAt s tree order 0 bs → k ≡ length bs → k < 16 → LaidAt s tree (get_or order k 0) b
    → refusal_found f ≡ id_refusal (with_ids [] bs) b

module _ {s tree order : List ℕ} {root : Element} where
  pub before_ids : {n : ℕ} → Ordered s tree order root → n ≡ length (blocks root) → BeforeId s tree order root 0 n
  unfolding ids_refusal with_ids
  before_ids o e =
      record { before = []; before_at = no_blocks; before_many = refl; rest = blocks root; rest_at = o.blocks_at; rest_many = omega arith; refusal_is = refl }

  module _ {k n : ℕ} (w : BeforeId s tree order root k n) where
    pub no_id_left : n ≤ k → refusal_found (Ok tt) ≡ ids_refusal root
    unfolding refusal_found repeated
    no_id_left h = sym (w.refusal_is ∙ ap (repeated (with_ids [] w.before)) (no_block_left w.rest_at w.rest_many h))

    module _ (f : Result Unit Fault) (h : k < n) (few : n ≤ 16) (at : IdAt s tree order k f) where
      here : (x : FirstBlock s tree order k w.rest) → refusal_found f ≡ id_refusal (with_ids [] w.before) x.one
      here x = at w.before x.one w.before_at w.before_many (omega arith) x.one_laid

      split : (x : FirstBlock s tree order k w.rest) → ids_refusal root ≡
          id_refusal (with_ids [] w.before) x.one or_else
          repeated (with_id (with_ids [] w.before) (child 11 x.one)) x.others
      split x = w.refusal_is ∙ ap (repeated (with_ids [] w.before)) x.first_is ∙ repeated_is (with_ids [] w.before) x.one x.others

      pub id-refused : (r : Result Unit Fault) {fault : Fault} → f ≡ Err fault → IsErrAnd r (λ d. d ≡ fault) → refusal_found r ≡ ids_refusal root
      id-refused r e is =
          let x = first_block w.rest_at w.rest_many h in
          leaves r (repeated (with_id (with_ids [] w.before) (child 11 x.one)) x.others) (here x) e is ∙ sym (split x)

      pub id_passed : f ≡ Ok tt → BeforeId s tree order root (k + 1) n
      id_passed e =
          let x = first_block w.rest_at w.rest_many h in
          let y : k + 1 ≡ length (w.before ++ x.one ∷ []) = omega (arith, w.before_many, length-append w.before (x.one ∷ [])) in
          record {
            before = w.before ++ x.one ∷ [];
            before_at = blocks_and w.before_at (let z : k ≡ 0 + length w.before = omega (arith, w.before_many) in z) x.one_laid;
            before_many = y;
            rest = x.others;
            rest_at = x.others_at;
            rest_many = one_fewer k w.rest_many x.first_is;
            refusal_is =
                split x ∙ later (repeated (with_id (with_ids [] w.before) (child 11 x.one)) x.others) (here x) e ∙
                ap (λ (ids : List (List ℕ)). repeated ids x.others) (sym (with_ids_last [] w.before x.one));
          }
