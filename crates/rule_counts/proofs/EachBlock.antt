-- Counts and sums: where a block's payments end, and block after block.
use Prim.Native.Nat.{ℕ, suc, ◌+◌, ◌-◌, ◌≤◌, ◌<◌}
use mathlib.Core.List.{List, [], ◌∷◌, ◌++◌, map}
use mathlib.Core.Option.{Option, none, some}
use mathlib.Core.Path.{◌≡◌, refl, sym, ap, ◌∙◌, subst}
use native.Mathlib.Omega.{arith}
use native.Mathlib.Numerals.{add-one}
use lib.ListN.{length, get_or, length-append, length-map}
use lib.Dec.{eqb}
use Rattle.paper.specs.Form.{Element}
use Rattle.paper.specs.Values.{number, cents}
use Rattle.paper.specs.Payments.{Payment, child, all_of, blocks, payments_of, payments_from, payments, sum_of, total}
use Rattle.paper.specs.Refusals.{Refusal, unless, ◌or_else◌, block_counts, counts_refusal}
use Rattle.paper.specs.Answers.{refusal_found}
use Rattle.paper.specs.Accepted.{All, all_none, all_more}
use Rattle.paper.specs.declared.Fault.{Fault}
use Rattle.std.specs.Prelude.{Result, Ok, Err}
use Rattle.std.specs.Result.{IsErrAnd}
use Rattle.paper.proofs.Laws.{all_joined}
use Rattle.tree.specs.Laid.{LaidAt}
use Rattle.rule_limits.specs.declared.PaymentAt.{PaymentAt}
use Rattle.rule_limits.specs.Ordered.{PaymentsAt, no_payments, more_payments, payment_in, Ordered}
use Rattle.rule_limits.proofs.First.{first_block, no_block_left, first_payment, stands_at, payment_there, one_fewer}
use Rattle.rule_limits.proofs.Refusing.{leaves, later}
use Rattle.tree_leaves.specs.Readable.{ReadBlock, ReadPayment, Readable}
use Rattle.rule_totals.proofs.Amounts.{first_has, others_have, amounts}
use Rattle.rule_counts.specs.Counted.{InBlock, BehindBlock, BlocksFrom, block_refusal, header_refusal}

-- Payment i is next, of n, and these of block k's payments are left.
pub record Passing (s tree order : List ℕ) (k : ℕ) (ps rest : List Payment) (from i n : ℕ) : Type 0 where
  left : List Payment
  left_at : PaymentsAt s tree order i (left ++ rest)
  left_many : n ≡ i + length (left ++ rest)
  left_mine : All (InBlock k) left
  end_is : from + length ps ≡ i + length left

module _ {s tree order : List ℕ} {k from n : ℕ} {ps rest : List Payment} where
  pub passing : PaymentsAt s tree order from (ps ++ rest) → n ≡ from + length (ps ++ rest) → All (InBlock k) ps
      → Passing s tree order k ps rest from from n
  passing at e mine = record { left = ps; left_at = at; left_many = e; left_mine = mine; end_is = refl }

  module _ {i : ℕ} {q : PaymentAt} (w : Passing s tree order k ps rest from i n) (h : i < n) (few : n ≤ 64) (here : i < 64 → q ≡ payment_in order i) where
    pub block_over : (q.number ≡ k → ⊥) → i ≡ from + length ps
    block_over other = go w.left w.left_at w.left_mine w.end_is
      where
        go : (left : List Payment) → PaymentsAt s tree order i (left ++ rest) → All (InBlock k) left → from + length ps ≡ i + length left → i ≡ from + length ps
        go [] at mine e = omega arith
        go (p ∷ left) (more_payments at more) (all_more is mine) e = absurd (other ((payment_there (here (omega arith)) at).number_is ∙ is))

    pub block_goes : All (BehindBlock k) rest → q.number ≡ k → Passing s tree order k ps rest from (i + 1) n
    block_goes behind same = go w.left w.left_at w.left_many w.left_mine w.end_is
      where
        go : (left : List Payment) → PaymentsAt s tree order i (left ++ rest) → n ≡ i + length (left ++ rest) → All (InBlock k) left
            → from + length ps ≡ i + length left → Passing s tree order k ps rest from (i + 1) n
        go [] at many mine e =
            let f = first_payment at many h in
            let x : k < f.one.block_number = first_has f.first_is behind in
            let y : q.number ≡ f.one.block_number = (payment_there (here (omega arith)) f.one_there).number_is in
            absurd (omega arith)
        go (p ∷ left) (more_payments at more) many (all_more is mine) e =
            let x : n ≡ i + 1 + length (left ++ rest) = omega arith in
            let y : from + length ps ≡ i + 1 + length left = omega arith in
            record { left = left; left_at = more; left_many = x; left_mine = mine; end_is = y }

  pub payments_over : {i : ℕ} → Passing s tree order k ps rest from i n → n ≤ i → n ≡ from + length ps
  payments_over {i} w h = omega (arith, w.left_many, w.end_is, length-append w.left rest)

-- all of two lists
module _ {A : Type 0} {P : A → Type 0} where
  all_left : (l m : List A) → All P (l ++ m) → All P l
  all_left [] m h = all_none
  all_left (a ∷ l) m (all_more p h) = all_more p (all_left l m h)

  all_right : (l : List A) {m : List A} → All P (l ++ m) → All P m
  all_right [] h = h
  all_right (a ∷ l) (all_more p h) = all_right l h

-- payments that stand one after the other, taken apart
module _ {s tree order : List ℕ} where
  payments_left : {k : ℕ} (ps qs : List Payment) → PaymentsAt s tree order k (ps ++ qs) → PaymentsAt s tree order k ps
  payments_left [] qs at = no_payments
  payments_left {k = k} (p ∷ ps) qs (more_payments a at) = more_payments a (payments_left {k = k + 1} ps qs at)

  payments_right : {k n : ℕ} (ps : List Payment) {qs : List Payment} → PaymentsAt s tree order k (ps ++ qs) → n ≡ k + length ps
      → PaymentsAt s tree order n qs
  payments_right {k} {n} [] {qs} at e = subst (λ (m : ℕ). PaymentsAt s tree order m qs) (let x : k ≡ n = omega arith in x) at
  payments_right {k} {n} (p ∷ ps) (more_payments a at) e = payments_right {k = k + 1} ps at (let x : n ≡ k + 1 + length ps = omega arith in x)

-- the payments of a block and those of the blocks behind it
mine_are : (k : ℕ) (b : Element) → All (InBlock k) (payments_of k b)
unfolding payments_of
mine_are k b = go (all_of 37 b)
  where
    go : (ts : List Element) → All (InBlock k) (map (λ t. record { own = t; block = b; block_number = k }) ts)
    go [] = all_none
    go (t ∷ ts) = all_more refl (go ts)

behind_are : (k m : ℕ) → k < m → (bs : List Element) → All (BehindBlock k) (payments_from m bs)
unfolding payments_from payments_of
behind_are k m h [] = all_none
behind_are k m h (b ∷ bs) = all_joined (go (all_of 37 b)) (behind_are k (suc m) (omega arith) bs)
  where
    go : (ts : List Element) → All (BehindBlock k) (map (λ t. record { own = t; block = b; block_number = m }) ts)
    go [] = all_none
    go (t ∷ ts) = all_more h (go ts)

owns_are : (k : ℕ) (b : Element) → map (λ p. p.own) (payments_of k b) ≡ all_of 37 b
unfolding payments_of
owns_are k b = go (all_of 37 b)
  where
    go : (ts : List Element) → map (λ (p : Payment). p.own) (map (λ (t : Element). record { own = t; block = b; block_number = k }) ts) ≡ ts
    go [] = refl
    go (t ∷ ts) = ap (λ (l : List Element). t ∷ l) (go ts)

payments_split : (k : ℕ) (b : Element) (bs : List Element) → payments_from k (b ∷ bs) ≡ payments_of k b ++ payments_from (k + 1) bs
unfolding payments_from
payments_split k b bs = ap (λ (m : ℕ). payments_of k b ++ payments_from m bs) (sym (add-one k))

-- refusals one after the other
or_joined : (a b c : Option Refusal) → a or_else (b or_else c) ≡ (a or_else b) or_else c
unfolding ◌or_else◌
or_joined none b c = refl
or_joined (some r) b c = refl

block_counts_more : (b : Element) (bs : List Element) → block_counts (b ∷ bs) ≡ block_refusal b or_else block_counts bs
unfolding block_counts block_refusal
block_counts_more b bs = or_joined _ _ _

-- one block's count and sum, by its payments
module _ (b : Element) (ps : List Payment) (from : ℕ) {to : ℕ} (many : to ≡ from + length ps) (owns : map (λ p. p.own) ps ≡ all_of 37 b) where
  pub block_is : {sum : ℕ} → sum ≡ amounts ps
      → unless (λ w. eqb (number w) (to - from)) 12 14 (child 14 b) or_else unless (λ w. eqb (cents w) sum) 13 15 (child 15 b) ≡ block_refusal b
  unfolding block_refusal
  block_is {sum} summed =
      let x : to - from ≡ length (all_of 37 b) = omega (arith, length-map ps (λ (p : Payment). p.own), ap length owns) in
      ap (λ (n : ℕ). unless (λ w. eqb (number w) n) 12 14 (child 14 b) or_else unless (λ w. eqb (cents w) sum) 13 15 (child 15 b)) x ∙
      ap (λ (n : ℕ). unless (λ w. eqb (number w) (length (all_of 37 b))) 12 14 (child 14 b) or_else
      unless (λ w. eqb (cents w) n) 13 15 (child 15 b)) (summed ∙ ap sum_of owns)

-- what `block_end` and `in_block` answer
abbrev pub EndsAt : (order : List ℕ) (k from n to : ℕ) → Type 0
EndsAt order k from n to =
    (s tree : List ℕ) (ps rest : List Payment) → PaymentsAt s tree order from (ps ++ rest) → n ≡ from + length (ps ++ rest) → n ≤ 64
    → All (InBlock k) ps → All (BehindBlock k) rest → to ≡ from + length ps

abbrev pub BlockSays : (s tree order : List ℕ) (block from to : ℕ) (f : Result Unit Fault) → Type 0
BlockSays s tree order block from to f =
    (b : Element) (ps : List Payment) → LaidAt s tree block b → PaymentsAt s tree order from ps → to ≡ from + length ps → to ≤ 64
    → map (λ p. p.own) ps ≡ all_of 37 b → ReadBlock b → All ReadPayment ps → refusal_found f ≡ block_refusal b

-- Block k is next, with its payments from payment n on: what is left decides.
pub record BlocksLeft (s tree order : List ℕ) (k n many_blocks many_payments : ℕ) (bs : List Element) : Type 0 where
  rest : List Element
  rest_from : BlocksFrom s tree order k n many_blocks many_payments rest
  refusal_is : block_counts bs ≡ block_counts rest

-- One block, with its own refusal, and the blocks behind it.
record OneBlock (s tree order : List ℕ) (k n many_blocks many_payments : ℕ) (bs : List Element) (to : ℕ) (f : Result Unit Fault) : Type 0 where
  one : Element
  others : List Element
  found_is : refusal_found f ≡ block_refusal one
  others_from : BlocksFrom s tree order (k + 1) to many_blocks many_payments others
  split : block_counts bs ≡ block_refusal one or_else block_counts others

module _ {s tree order : List ℕ} {bs : List Element} {many_blocks many_payments : ℕ} where
  pub blocks_left : {k n : ℕ} → BlocksFrom s tree order k n many_blocks many_payments bs → BlocksLeft s tree order k n many_blocks many_payments bs
  blocks_left w = record { rest = bs; rest_from = w; refusal_is = refl }

  module _ {k n : ℕ} (w : BlocksLeft s tree order k n many_blocks many_payments bs) where
    pub blocks_done : many_blocks ≤ k → refusal_found (Ok tt) ≡ block_counts bs
    unfolding refusal_found block_counts
    blocks_done h = sym (w.refusal_is ∙ ap (block_counts) (no_block_left w.rest_from.blocks_at w.rest_from.blocks_many h))

    module _ {to block : ℕ} (f : Result Unit Fault) (h : k < many_blocks) (here : k < 16 → block ≡ get_or order k 0) (ends : EndsAt order k n many_payments to)
        (says : BlockSays s tree order block n to f) where
      one_block : OneBlock s tree order k n many_blocks many_payments bs to f
      one_block =
          let v = w.rest_from in
          let x = first_block v.blocks_at v.blocks_many h in
          let b = x.one in
          let ps = payments_of k b in
          let qs = payments_from (k + 1) x.others in
          let parts : payments_from k w.rest ≡ ps ++ qs = ap (payments_from k) x.first_is ∙ payments_split k b x.others in
          let at : PaymentsAt s tree order n (ps ++ qs) = subst (PaymentsAt s tree order n) parts v.payments_at in
          let many : many_payments ≡ n + length (ps ++ qs) = v.payments_many ∙ ap (λ (l : List Payment). n + length l) parts in
          let read : All ReadPayment (ps ++ qs) = subst (All ReadPayment) parts v.read_payments in
          let end : to ≡ n + length ps = ends s tree ps qs at many v.few_payments (mine_are k b) (behind_are k (k + 1) (omega arith) x.others) in
          let few : to ≤ 64 = omega (arith, v.few_payments, length-append ps qs) in
          let after : many_payments ≡ to + length qs = omega (arith, length-append ps qs) in
          record {
            one = b;
            others = x.others;
            found_is =
                says b ps (stands_at (here (omega (arith, v.few_blocks))) x.one_laid) (payments_left ps qs at) end few (owns_are k b)
                (first_has x.first_is v.read_blocks) (all_left ps qs read);
            others_from =
                record {
                  blocks_at = x.others_at;
                  blocks_many = one_fewer k v.blocks_many x.first_is;
                  payments_at = payments_right ps at end;
                  payments_many = after;
                  few_blocks = v.few_blocks;
                  few_payments = v.few_payments;
                  read_blocks = others_have x.first_is v.read_blocks;
                  read_payments = all_right ps read;
                };
            split = w.refusal_is ∙ ap (block_counts) x.first_is ∙ block_counts_more b x.others;
          }

      pub block_refused : (r : Result Unit Fault) {fault : Fault} → f ≡ Err fault → IsErrAnd r (λ d. d ≡ fault) → refusal_found r ≡ block_counts bs
      block_refused r e is =
          let o = one_block in
          leaves r (block_counts o.others) o.found_is e is ∙ sym o.split

      pub block_passed : f ≡ Ok tt → BlocksLeft s tree order (k + 1) to many_blocks many_payments bs
      block_passed e =
          let o = one_block in
          record { rest = o.others; rest_from = o.others_from; refusal_is = o.split ∙ later (block_counts o.others) o.found_is e }

-- the whole: header, then blocks
module _ {s tree order : List ℕ} {root : Element} {many_blocks many_payments : ℕ} (ordered : Ordered s tree order root)
    (all_blocks : many_blocks ≡ length (blocks root)) (all_payments : many_payments ≡ length (payments root)) (few_payments : many_payments ≤ 64)
    (few_blocks : many_blocks ≤ 16) (read : Readable root) where
  pub all_from : BlocksFrom s tree order 0 0 many_blocks many_payments (blocks root)
  unfolding payments
  all_from =
      record {
        blocks_at = ordered.blocks_at;
        blocks_many = omega arith;
        payments_at = ordered.payments_at;
        payments_many = omega arith;
        few_blocks = few_blocks;
        few_payments = few_payments;
        read_blocks = read.in_blocks;
        read_payments = read.in_payments;
      }

pub whole_is : (root : Element) {n c : ℕ} → n ≡ length (payments root) → c ≡ total root
    → header_refusal n c root or_else block_counts (blocks root) ≡ counts_refusal root
unfolding counts_refusal header_refusal
whole_is root {c = c} e d =
    ap (λ (n : ℕ). header_refusal n c root or_else block_counts (blocks root)) e ∙
    ap (λ (m : ℕ). header_refusal (length (payments root)) m root or_else block_counts (blocks root)) d ∙ sym (or_joined _ _ _)
