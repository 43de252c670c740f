-- The walk over the ordinals: what is answered of each pair, and the marks that say which payments were named.
use Rattle.std.specs.Prelude.{if◌then◌else◌}
use Prim.Native.Nat.{ℕ, zero, suc, ◌+◌, ◌<◌, ◌≤◌}
use native.Mathlib.Omega.{arith}
use native.Mathlib.Nat.{add-zero}
use mathlib.Core.List.{List, [], ◌∷◌, map}
use mathlib.Core.Option.{none, some}
use mathlib.Core.Bool.{Bool, true, false, ◌||◌}
use mathlib.Core.Path.{◌≡◌, refl, sym, ap, ◌∙◌, subst}
use lib.ListN.{length, get_or, drop, set, replicate, length-map, length-set, length-replicate, get_or-replicate, drop_of_length-le}
use lib.Seq.{drop-cons, get_or-set_same, get_or-set_other}
use lib.Dec.{eqb}
use borrow.Author.Tests.{eqb-true, eqb-false, lt-ltb, le-ltb}
use Rattle.paper.specs.Form.{Element}
use Rattle.paper.specs.Values.{among}
use Rattle.paper.specs.Payments.{Payment, payments}
use Rattle.paper.specs.Accepted.{All, all_none, all_more}
use Rattle.paper.specs.Fields.{Value, values_of, differ_from}
use Rattle.paper.specs.Regrouping.{RegroupingAnswer, answered, pairing, all_values}
use Rattle.tree_fields.specs.Routes.{RoutesAre}
use Rattle.rule_limits.specs.Ordered.{IsPayment, payment_in, PaymentsAt, no_payments, more_payments}
use Rattle.tree_leaves.specs.Readable.{ReadMoney}
use Rattle.move_alike.specs.Alike.{amount_in}
use Rattle.paper.specs.Answers.{perhaps, regrouping_says}
use Rattle.std.specs.Prelude.{Ok, Err, Some, None, Result}
use Rattle.std.specs.Prelude as code
use Rattle.move_pairs.specs.Pairs.{InOrder, Marked, IsThere, Taken, pairs_say, not_regrouped}
use Rattle.move_pairs.specs.declared.InBlock.{InBlock}
use Rattle.move_pairs.specs.declared.Unpaired.{Unpaired}
use Rattle.move_pairs.specs.declared.Unpaired.TheVariants.{OrdinalTooLarge, NamedBefore, FieldsDiffer}

-- the payment that stands at a place among payments
pub record There (s tree order : List ℕ) (k : ℕ) (v : List Value) : Type 0 where
  pub it : Payment
  pub at : IsPayment s tree (payment_in order k) it
  pub amount : ReadMoney (amount_in it)
  pub values : v ≡ values_of it

there : {s tree order : List ℕ} (first : ℕ) (ps : List Payment) (k : ℕ) → PaymentsAt s tree order first ps → All (λ p. ReadMoney (amount_in p)) ps
    → k < length ps → There s tree order (first + k) (get_or (map values_of ps) k [])
there first [] k no_payments all_none h = absurd (omega arith)
there {s} {tree} {order} first (p ∷ ps) zero (more_payments a b) (all_more m n) h =
    record { it = p; at = rw (add-zero first) a; amount = m; values = refl }
there {s} {tree} {order} first (p ∷ ps) (suc k) (more_payments a b) (all_more m n) h =
    let e : first + 1 + k ≡ first + suc k = omega arith in
    subst (λ (i : ℕ). There s tree order i (get_or (map values_of ps) k [])) e (there (first + 1) ps k b n (omega arith))

module _ {s tree order : List ℕ} {n : ℕ} {root : Element} (o : InOrder s tree order n root) where
  pub how_long : length (all_values root) ≡ n
  unfolding all_values
  how_long = length-map (payments root) (values_of) ∙ o.number_is

  pub payment_there : (k : ℕ) → k < n → There s tree order k (get_or (all_values root) k [])
  unfolding all_values
  payment_there k h =
      let t = there 0 (payments root) k o.stand o.amounts (omega (arith, o.number_is)) in
      subst (λ (i : ℕ). There s tree order i (get_or (map values_of (payments root)) k [])) (zero-add k) t
    where
      zero-add : (k : ℕ) → 0 + k ≡ k
      zero-add k = omega arith

-- one pair
module _ (first : List (List Value)) (k : ℕ) (named ks : List ℕ) (second : List (List Value)) (h : k < length ks) (l : k < length second) where
  pub too_large : length first ≤ get_or ks k 0 → pairing first k named (drop k ks) (drop k second) ≡ answered 18 k 0
  unfolding pairing
  too_large b = rw (drop-cons ks k 0 h, drop-cons second k [] l, le-ltb (get_or ks k 0) (length first) b)

  pub named_before : get_or ks k 0 < length first → among (get_or ks k 0) named ≡ true → pairing first k named (drop k ks) (drop k second) ≡ answered 19 k 0
  unfolding pairing
  named_before b e = rw (drop-cons ks k 0 h, drop-cons second k [] l, lt-ltb (get_or ks k 0) (length first) b, e)

  pub fields_differ : {field : ℕ} → get_or ks k 0 < length first → among (get_or ks k 0) named ≡ false
      → differ_from 1 (get_or first (get_or ks k 0) []) (get_or second k []) ≡ some field → pairing first k named (drop k ks) (drop k second) ≡ answered 20 k field
  unfolding pairing
  fields_differ b e d = rw (drop-cons ks k 0 h, drop-cons second k [] l, lt-ltb (get_or ks k 0) (length first) b, e, d)

  pub pair_agrees : get_or ks k 0 < length first → among (get_or ks k 0) named ≡ false → differ_from 1 (get_or first (get_or ks k 0) []) (get_or second k []) ≡ none
      → pairing first k named (drop k ks) (drop k second) ≡ pairing first (suc k) (get_or ks k 0 ∷ named) (drop (suc k) ks) (drop (suc k) second)
  unfolding pairing
  pair_agrees b e d = rw (drop-cons ks k 0 h, drop-cons second k [] l, lt-ltb (get_or ks k 0) (length first) b, e, d)

no_pair : (first : List (List Value)) (k : ℕ) (named ks : List ℕ) (second : List (List Value)) → length ks ≤ k → length second ≤ k
    → pairing first k named (drop k ks) (drop k second) ≡ answered 0 0 0
unfolding pairing
no_pair first k named ks second h l = rw (drop_of_length-le ks h, drop_of_length-le second l)

-- what is marked after one mark more
mark_more : (named : List ℕ) (marks : List Bool) (o : ℕ) → ((x : ℕ) → x < 64 → among x named ≡ get_or marks x false) → o < length marks
    → (x : ℕ) → x < 64 → among x (o ∷ named) ≡ get_or (set marks o true) x false
unfolding among
mark_more named marks o m h x l = go (eqb x o) refl
  where
    go : (t : Bool) → eqb x o ≡ t → (t || among x named) ≡ get_or (set marks o true) x false
    go true e = sym (ap (λ (n : ℕ). get_or (set marks o true) n false) (eqb-true x o e) ∙ get_or-set_same marks o true false h)
    go false e = m x l ∙ sym (get_or-set_other marks o x true false (eqb-false x o e))

-- How far the walk has come: these payments were named, as the marks say, and what is answered from here on is the answer.
pub record SoFar (first second : List (List Value)) (ks : List ℕ) (marks : List Bool) (k : ℕ) : Type 0 where
  pub long : length marks ≡ 64
  pub named : List ℕ
  pub marked : (o : ℕ) → o < 64 → among o named ≡ get_or marks o false
  pub from_here : pairing first 0 [] ks second ≡ pairing first k named (drop k ks) (drop k second)

pub at_start : (first second : List (List Value)) (ks : List ℕ) → SoFar first second ks (replicate 64 false) 0
unfolding among
at_start first second ks =
    record {
      long = length-replicate {A = Bool} 64 false;
      named = [];
      marked = λ o h. sym (get_or-replicate 64 o false false h);
      from_here = refl;
    }

-- what `differing_pair` says of a payment of the first message and one of the second
abbrev pub Compares : (routes : List (List ℕ)) (s1 tree1 : List ℕ) → InBlock → (s2 tree2 : List ℕ) → InBlock → code.Option ℕ → Type 0
Compares routes s1 tree1 first s2 tree2 second r =
    (p q : Payment) → RoutesAre routes → IsThere s1 tree1 first p → IsThere s2 tree2 second q → perhaps r ≡ differ_from 1 (values_of p) (values_of q)

module _ {s1 tree1 order1 s2 tree2 order2 : List ℕ} {n : ℕ} {root1 root2 : Element} (ks : List ℕ) {marks : List Bool} {k : ℕ}
    (a : InOrder s1 tree1 order1 n root1) (b : InOrder s2 tree2 order2 n root2) (l : length ks ≡ n)
    (far : SoFar (all_values root1) (all_values root2) ks marks k) where
  pub at_end : n ≤ k → answered 0 0 0 ≡ pairing (all_values root1) 0 [] ks (all_values root2)
  at_end h = sym (far.from_here ∙ no_pair (all_values root1) k far.named ks (all_values root2) (omega arith) (omega (arith, how_long b)))

  module _ {o : ℕ} (h : k < n) (e : o ≡ get_or ks k 0) where
    in_list : k < length ks
    in_list = omega arith

    in_second : k < length (all_values root2)
    in_second = omega (arith, how_long b)

    pub answers_18 : n ≤ o → answered 18 k 0 ≡ pairing (all_values root1) 0 [] ks (all_values root2)
    answers_18 g =
        sym (far.from_here ∙ too_large (all_values root1) k far.named ks (all_values root2) in_list in_second (omega (arith, how_long a)))

    module _ (g : o < n) {after : List Bool} {before : Bool} (m : Marked marks o after before) where
      in_first : get_or ks k 0 < length (all_values root1)
      in_first = omega (arith, how_long a)

      few : o < 64
      few = omega (arith, a.few)

      is_named : among (get_or ks k 0) far.named ≡ before
      is_named = ap (λ (y : ℕ). among y far.named) (sym e) ∙ far.marked o few ∙ sym (m few).0

      pub answers_19 : before ≡ true → answered 19 k 0 ≡ pairing (all_values root1) 0 [] ks (all_values root2)
      answers_19 t = sym (far.from_here ∙ named_before (all_values root1) k far.named ks (all_values root2) in_list in_second in_first (is_named ∙ t))

      module _ (t : before ≡ false) {one two : InBlock} (x : Taken tree1 order1 o one) (y : Taken tree2 order2 k two)
          {routes : List (List ℕ)} (w : RoutesAre routes) (r : code.Option ℕ) (c : Compares routes s1 tree1 one s2 tree2 two r) where
        compared : differ_from 1 (get_or (all_values root1) (get_or ks k 0) []) (get_or (all_values root2) k []) ≡ perhaps r
        compared =
            let p = payment_there a o g in
            let q = payment_there b k h in
            ap (λ (y : ℕ). differ_from 1 (get_or (all_values root1) y []) (get_or (all_values root2) k [])) (sym e)
            ∙ rw (p.values, q.values)
            (sym (c p.it q.it w (x s1 p.it few p.at p.amount) (y s2 q.it (omega (arith, a.few)) q.at q.amount)))

        pub answers_20 : {field : ℕ} → r ≡ Some field → answered 20 k field ≡ pairing (all_values root1) 0 [] ks (all_values root2)
        unfolding perhaps
        answers_20 z =
            sym (far.from_here
            ∙ fields_differ (all_values root1) k far.named ks (all_values root2) in_list in_second in_first (is_named ∙ t) (compared ∙ ap perhaps z))

        pub goes_on : r ≡ None → SoFar (all_values root1) (all_values root2) ks after (k + 1)
        unfolding perhaps
        goes_on z =
            record {
              long = ap length (m few).1 ∙ (length-set marks o true ∙ far.long);
              named = get_or ks k 0 ∷ far.named;
              marked = rw ((m few).1, ← e) (mark_more far.named marks o far.marked (omega (arith, few, far.long)));
              from_here =
                  far.from_here
                  ∙ pair_agrees (all_values root1) k far.named ks (all_values root2) in_list in_second in_first (is_named ∙ t) (compared ∙ ap perhaps z)
                  ∙ moved (omega arith);
            }
          where
            moved : {i j : ℕ} → i ≡ j
                → pairing (all_values root1) i (get_or ks k 0 ∷ far.named) (drop i ks) (drop i (all_values root2))
                ≡ pairing (all_values root1) j (get_or ks k 0 ∷ far.named) (drop j ks) (drop j (all_values root2))
            moved p = rw p

-- What the walk says is what is said of the messages.
pub said_alike : (why : Unpaired) → regrouping_says (Err (not_regrouped why)) ≡ pairs_say (Err why)
unfolding regrouping_says pairs_say
said_alike (OrdinalTooLarge k) = refl
said_alike (NamedBefore k) = refl
said_alike (FieldsDiffer k field) = refl

-- Two answers that meet `pairing`'s contract agree.
paired_by : RegroupingAnswer → Result Unit Unpaired
paired_by a =
    if eqb a.number 0 then Ok tt else
    if eqb a.number 18 then Err (OrdinalTooLarge a.k) else
    if eqb a.number 19 then Err (NamedBefore a.k) else Err (FieldsDiffer a.k a.field)

paired_again : (p : Result Unit Unpaired) → paired_by (pairs_say p) ≡ p
unfolding paired_by pairs_say answered
paired_again (Ok tt) = refl
paired_again (Err (OrdinalTooLarge k)) = refl
paired_again (Err (NamedBefore k)) = refl
paired_again (Err (FieldsDiffer k field)) = refl

pub one_pairing : (p q : Result Unit Unpaired) → pairs_say p ≡ pairs_say q → p ≡ q
one_pairing p q e = sym (paired_again p) ∙ ap paired_by e ∙ paired_again q
