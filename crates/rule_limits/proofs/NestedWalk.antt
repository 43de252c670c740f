-- The nested walk over blocks and payments: what is known before a block and before a payment of a block, and each step from one to the next.
use Prim.Native.Nat.{ℕ, suc, ◌+◌, ◌≤◌, ◌<◌}
use mathlib.Core.List.{List, [], ◌∷◌, ◌++◌}
use mathlib.Core.Bool.{true}
use mathlib.Core.Option.{Option, none, some}
use mathlib.Core.Path.{◌≡◌, refl, sym, ap, ◌∙◌, subst}
use native.Mathlib.Omega.{arith}
use native.Mathlib.Nat.{zero-add, add-zero}
use native.Mathlib.Numerals.{add-one}
use lib.ListN.{length, set, length-set}
use Rattle.paper.specs.Form.{Element, Elements}
use Rattle.paper.specs.Payments.{Payment, listed, all_named, all_of, child, blocks, payments_from, payments}
use Rattle.paper.specs.Refusals.{Refusal, refuse, ◌or_else◌, sixty_fifth, too_many, limits_refusal}
use Rattle.form_names.specs.Names.{is_sought}
use Rattle.tree.specs.Laid.{Laid, LaidAll, LaidAt}
use Rattle.tree.proofs.Laws.{Cell, few_enough, at_cell, entry_of}
use Rattle.tree_routes.specs.Finds.{Next}
use Rattle.tree_routes.proofs.Laws.{ends_at, next_one, next_none}
use Rattle.rule_limits.specs.Ordered.{BlocksAt, no_blocks, more_blocks, IsPayment, PaymentsAt, no_payments, more_payments, Ordered, Limited, is_within, is_excess}
use Rattle.rule_limits.specs.declared.PaymentAt.{PaymentAt}
use Rattle.std.specs.Prelude.{Ok, Err, Some, None}
use Rattle.std.specs.Prelude as code
use Rattle.paper.specs.Answers.{refusal_of, numbered}
use Rattle.paper.specs.declared.Fault.{Fault}
use Rattle.paper.specs.declared.Fault.TheVariants.{TooMany}
use Rattle.rule_limits.proofs.Buffer.{Agrees, agrees, wrote_block, block_stands, three, three_length, wrote_payment, payment_stands}
use Rattle.rule_limits.proofs.Steps.{paid, blocks_are, no_blocks_are, payments_from_are, no_payments_from, excess_block, next_block, no_block, excess_payment, next_payment, no_payment}

-- what `first_in` and `next_in` answer
abbrev pub FirstIn : (tree : List ℕ) (i row r : ℕ) → Type 0
FirstIn tree i row r = (s : List ℕ) (t : Element) (next : ℕ) → is_sought row ≡ true → Laid s tree t i next → Next s tree row (all_of row t) r next

abbrev pub NextIn : (tree : List ℕ) (i stop row r : ℕ) → Type 0
NextIn tree i stop row r =
    (s : List ℕ) (t : Element) (ts : Elements) (next : ℕ) → is_sought row ≡ true → Laid s tree t i next → LaidAll s tree ts next stop
    → Next s tree row (all_named row (listed ts)) r stop

row_10 : is_sought 10 ≡ true
unfolding is_sought
row_10 = refl

row_37 : is_sought 37 ≡ true
unfolding is_sought
row_37 = refl

-- the blocks among some elements
abbrev blocks_in : Elements → List Element
blocks_in ts = all_named 10 (listed ts)

-- Before the block at element i, after b blocks and n payments: what is left decides the refusal, the numbers and the order.
pub record BeforeBlock (s tree order : List ℕ) (root : Element) (b n i stop : ℕ) : Type 0 where
  rest : List Element
  next_is : Next s tree 10 rest i stop
  refusal_is : limits_refusal root ≡ too_many b n rest
  blocks_left : length (blocks root) ≡ b + length rest
  payments_left : length (payments root) ≡ n + length (payments_from b rest)
  order_is : 208 ≤ length order → (other : List ℕ) → Agrees order other b n → BlocksAt s tree other b rest
      → PaymentsAt s tree other n (payments_from b rest) → Ordered s tree other root

-- Before the payment at element j of the block at element i.
pub record BeforePayment (s tree order : List ℕ) (root : Element) (b n i j after stop : ℕ) : Type 0 where
  block : Element
  block_is : Laid s tree block i after
  later : Elements
  later_are : LaidAll s tree later after stop
  rest : List Element
  next_is : Next s tree 37 rest j after
  refusal_is : limits_refusal root ≡ (sixty_fifth n rest or_else too_many (suc b) (n + length rest) (blocks_in later))
  blocks_left : length (blocks root) ≡ b + 1 + length (blocks_in later)
  payments_left : length (payments root) ≡ n + length (paid b block rest ++ payments_from (suc b) (blocks_in later))
  order_is : 208 ≤ length order → (other : List ℕ) → Agrees order other (b + 1) n → BlocksAt s tree other (b + 1) (blocks_in later)
      → PaymentsAt s tree other n (paid b block rest ++ payments_from (suc b) (blocks_in later)) → Ordered s tree other root

module _ {s tree order : List ℕ} {root : Element} where
  -- the walk begins before the first block of the element that holds the blocks
  pub begins : {holder : Element} {i j stop : ℕ} → child 2 root ≡ some holder → LaidAt s tree i holder → Cell tree i 4 stop → FirstIn tree i 10 j
      → BeforeBlock s tree order root 0 0 j stop
  unfolding limits_refusal payments
  begins {holder} {i} {j} {stop} e l c first =
      let y : Next s tree 10 (blocks root) j l.next =
      subst (λ (ts : List Element). Next s tree 10 ts j l.next) (sym (blocks_are root holder e)) (first s holder l.next row_10 l.laid) in
      record {
        rest = blocks root;
        next_is = subst (λ (h : ℕ). Next s tree 10 (blocks root) j h) (sym (ends_at l.laid c)) y;
        refusal_is = refl;
        blocks_left = sym (zero-add (length (blocks root)));
        payments_left = sym (zero-add (length (payments_from 0 (blocks root))));
        order_is = λ room other a bs ps. record { blocks_at = bs; payments_at = ps };
      }

  -- the walk is at its end
  pub finishes : {b n i stop : ℕ} → BeforeBlock s tree order root b n i stop → stop ≤ i → 208 ≤ length order
      → Limited s tree order root (Ok (record { blocks = b; payments = n }))
  finishes {b} {n} w h room =
      let e = next_none w.next_is h in
      let x : payments_from b w.rest ≡ [] = ap (payments_from b) e ∙ no_payments_from b in
      is_within
      (w.refusal_is ∙ ap (too_many b n) e ∙ no_block b n)
      (w.blocks_left ∙ ap (λ (ts : List Element). b + length ts) e ∙ add-zero b)
      (w.payments_left ∙ ap (λ (ps : List Payment). n + length ps) x ∙ add-zero n)
      (w.order_is room order (agrees order b n) (subst (BlocksAt s tree order b) (sym e) no_blocks) (subst (PaymentsAt s tree order n) (sym x) no_payments))

  -- no element holds blocks
  pub holds_none : child 2 root ≡ none → Limited s tree order root (Ok (record { blocks = 0; payments = 0 }))
  unfolding limits_refusal payments
  holds_none e =
      let x : blocks root ≡ [] = no_blocks_are root e in
      let y : payments_from 0 (blocks root) ≡ [] = ap (payments_from 0) x ∙ no_payments_from 0 in
      is_within (ap (too_many 0 0) x ∙ no_block 0 0) (ap length x) (ap length y)
      (record { blocks_at = subst (BlocksAt s tree order 0) (sym x) no_blocks; payments_at = subst (PaymentsAt s tree order 0) (sym y) no_payments })

  -- a block in excess; a payment in excess
  pub block_exceeds : {b n i stop r : ℕ} → BeforeBlock s tree order root b n i stop → i < stop → b ≡ 16 → Cell tree i 0 r
      → limits_refusal root ≡ refuse 5 10 r
  block_exceeds {b} {n} w h e c =
      let f = next_one w.next_is h in
      w.refusal_is ∙ ap (too_many b n) f.first_is ∙ ap (λ (m : ℕ). too_many m n (f.one ∷ blocks_in f.later)) e ∙
      excess_block n f.one (blocks_in f.later) ∙ ap (refuse 5 10) (sym (at_cell (entry_of f.one_laid) c))

  pub payment_exceeds : {b n i j after stop r : ℕ} → BeforePayment s tree order root b n i j after stop → j < after → n ≡ 64 → Cell tree j 0 r
      → limits_refusal root ≡ refuse 5 37 r
  payment_exceeds {b} {n} w h e c =
      let f = next_one w.next_is h in
      let others = all_named 37 (listed f.later) in
      let rest = too_many (suc b) (n + length w.rest) (blocks_in w.later) in
      w.refusal_is ∙ ap (λ (ts : List Element). sixty_fifth n ts or_else rest) f.first_is ∙
      ap (λ (m : ℕ). sixty_fifth m (f.one ∷ others) or_else rest) e ∙ excess_payment f.one others rest ∙
      ap (refuse 5 37) (sym (at_cell (entry_of f.one_laid) c))

  -- into a block
  pub enters : {now : List ℕ} {b n i j after stop : ℕ} → BeforeBlock s tree order root b n i stop → i < stop → b < 16
      → (b < 16 → i < 65536 → now ≡ set order b i) → Cell tree i 4 after → FirstIn tree i 37 j
      → BeforePayment s tree now root b n i j after stop
  enters {now} {b} {n} {i} {j} {after} {stop} w h few put c first =
      let f = next_one w.next_is h in
      let t = f.one in
      let later = blocks_in f.later in
      let x : after ≡ f.one_next = ends_at f.one_laid c in
      let p : payments_from b w.rest ≡ paid b t (all_of 37 t) ++ payments_from (suc b) later = ap (payments_from b) f.first_is ∙ payments_from_are b t later in
      let l : Laid s tree t i after = subst (λ (m : ℕ). Laid s tree t i m) (sym x) f.one_laid in
      let q : now ≡ set order b i = put few (omega (arith, few_enough (entry_of l))) in
      let y : b + suc (length later) ≡ b + 1 + length later = omega arith in
      record {
        block = t;
        block_is = l;
        later = f.later;
        later_are = subst (λ (m : ℕ). LaidAll s tree f.later m stop) (sym x) f.later_laid;
        rest = all_of 37 t;
        next_is = first s t after row_37 l;
        refusal_is = w.refusal_is ∙ ap (too_many b n) f.first_is ∙ next_block b n t later (λ e. omega arith);
        blocks_left = w.blocks_left ∙ ap (λ (ts : List Element). b + length ts) f.first_is ∙ y;
        payments_left = w.payments_left ∙ ap (λ (ps : List Payment). n + length ps) p;
        order_is = λ room other a bs ps.
            let room_before : 208 ≤ length order = omega (arith, room, ap length q, length-set order b i) in
            let before = subst (λ (l : List ℕ). Agrees l other (b + 1) n) q a in
            w.order_is room_before other (wrote_block order other b n i few room_before before)
            (subst (BlocksAt s tree other b) (sym f.first_is)
            (more_blocks (subst (λ (m : ℕ). LaidAt s tree m t) (sym (block_stands order other b n i few room_before before)) (record { next = after; laid = l })) bs))
            (subst (PaymentsAt s tree other n) (sym p) ps);
      }

  -- past a payment
  pub passes : {now : List ℕ} {b n i j k after stop : ℕ} → BeforePayment s tree order root b n i j after stop → j < after → b < 16 → n < 64
      → (n < 64 → j < 65536 → i < 65536 → b < 65536 → now ≡ three order n j i b) → NextIn tree j after 37 k
      → BeforePayment s tree now root b (n + 1) i k after stop
  passes {now} {b} {n} {i} {j} {k} {after} {stop} w h few fewer put next =
      let f = next_one w.next_is h in
      let t = f.one in
      let others = all_named 37 (listed f.later) in
      let blocks_after = blocks_in w.later in
      let payments_after = payments_from (suc b) blocks_after in
      let this : Payment = record { own = t; block = w.block; block_number = b } in
      let p : paid b w.block w.rest ++ payments_after ≡ this ∷ (paid b w.block others ++ payments_after) =
      ap (λ (ts : List Element). paid b w.block ts ++ payments_after) f.first_is in
      let q : now ≡ three order n j i b =
      put fewer (omega (arith, few_enough (entry_of f.one_laid))) (omega (arith, few_enough (entry_of w.block_is))) (omega arith) in
      let x : n + suc (length others) ≡ n + 1 + length others = omega arith in
      let y : n + suc (length (paid b w.block others ++ payments_after)) ≡ n + 1 + length (paid b w.block others ++ payments_after) = omega arith in
      let there : IsPayment s tree (record { own = j; block = i; number = b }) this =
      record { own_is = record { next = f.one_next; laid = f.one_laid }; block_is = record { next = after; laid = w.block_is }; number_is = refl } in
      record {
        block = w.block;
        block_is = w.block_is;
        later = w.later;
        later_are = w.later_are;
        rest = others;
        next_is = next s t f.later f.one_next row_37 f.one_laid f.later_laid;
        refusal_is =
            w.refusal_is ∙
            ap (λ (ts : List Element). sixty_fifth n ts or_else too_many (suc b) (n + length ts) blocks_after) f.first_is ∙
            ap (λ (r : Option Refusal). r or_else too_many (suc b) (n + suc (length others)) blocks_after) (next_payment n t others (λ e. omega arith)) ∙
            ap (λ (m : ℕ). sixty_fifth (n + 1) others or_else too_many (suc b) m blocks_after) x;
        blocks_left = w.blocks_left;
        payments_left = w.payments_left ∙ ap (λ (ps : List Payment). n + length ps) p ∙ y;
        order_is = λ room other a bs ps.
            let room_before : 208 ≤ length order = omega (arith, room, ap length q, three_length order n j i b) in
            let before = subst (λ (l : List ℕ). Agrees l other (b + 1) (n + 1)) q a in
            w.order_is room_before other (wrote_payment order other (b + 1) n j i b (omega arith) fewer room_before before) bs
            (subst (PaymentsAt s tree other n) (sym p)
            (more_payments (subst (λ (r : PaymentAt). IsPayment s tree r this) (sym (payment_stands order other (b + 1) n j i b (omega arith) fewer room_before before)) there) ps));
      }

  -- out of a block
  pub leaves : {b n i j k after stop : ℕ} → BeforePayment s tree order root b n i j after stop → after ≤ j → NextIn tree i stop 10 k
      → BeforeBlock s tree order root (b + 1) n k stop
  leaves {b} {n} {i} {j} {k} {after} {stop} w h next =
      let e = next_none w.next_is h in
      let blocks_after = blocks_in w.later in
      let p : paid b w.block w.rest ++ payments_from (suc b) blocks_after ≡ payments_from (b + 1) blocks_after =
      ap (λ (ts : List Element). paid b w.block ts ++ payments_from (suc b) blocks_after) e ∙ ap (λ (m : ℕ). payments_from m blocks_after) (sym (add-one b)) in
      record {
        rest = blocks_after;
        next_is = next s w.block w.later after row_10 w.block_is w.later_are;
        refusal_is =
            w.refusal_is ∙ ap (λ (ts : List Element). sixty_fifth n ts or_else too_many (suc b) (n + length ts) blocks_after) e ∙
            no_payment n (too_many (suc b) (n + 0) blocks_after) ∙ ap (λ (m : ℕ). too_many m (n + 0) blocks_after) (sym (add-one b)) ∙
            ap (λ (m : ℕ). too_many (b + 1) m blocks_after) (add-zero n);
        blocks_left = w.blocks_left;
        payments_left = w.payments_left ∙ ap (λ (ps : List Payment). n + length ps) p;
        order_is = λ room other a bs ps. w.order_is room other a bs (subst (PaymentsAt s tree other n) (sym p) ps);
      }

-- what holds of a walk over the blocks of element `initiation`, whatever message is laid out
abbrev pub Along : (tree : List ℕ) (initiation : ℕ) → ((s : List ℕ) (root : Element) → Type 0) → Type 0
Along tree initiation P = (s : List ℕ) (root holder : Element) → child 2 root ≡ some holder → LaidAt s tree initiation holder → P s root

-- What is known where the walk was left, at its end or by the label: whether an element is in excess, and the fault of that.
pub record Exit (tree before order : List ℕ) (initiation b n : ℕ) (excess : code.Option Fault) : Type 0 where
  pub few_blocks : b ≤ 16
  pub few_payments : n ≤ 64
  pub when_within : excess ≡ None → Along tree initiation (λ s root. 208 ≤ length before → Limited s tree order root (Ok (record { blocks = b; payments = n })))
  pub when_excess : (fault : Fault) → excess ≡ Some fault → Along tree initiation (λ s root. Limited s tree order root (Err fault))
  pub five : (fault : Fault) → excess ≡ Some fault → (refusal_of fault).number ≡ 5

-- by the label, with the fault of a row's element
by_label : {tree before new : List ℕ} {initiation b m row r : ℕ} {excess : code.Option Fault} → b ≤ 16 → m ≤ 64
    → Along tree initiation (λ s root. limits_refusal root ≡ refuse 5 row r) → excess ≡ Some (TooMany row r) → Exit tree before new initiation b m excess
unfolding refusal_of numbered
by_label {tree = tree} {new = new} {row = row} {r = r} few f w e =
    record {
      few_blocks = few;
      few_payments = f;
      when_within = λ z s root holder c l room. let x : ◌≡◌ {A = ℕ} 0 1 = cc in absurd (omega (arith, x));
      when_excess = λ fault z s root holder c l.
          let t : TooMany _ _ ≡ fault = cc in subst (λ (g : Fault). Limited s tree new root (Err g)) t (is_excess (w s root holder c l));
      five = λ fault z. let t : TooMany row r ≡ fault = cc in subst (λ (g : Fault). (refusal_of g).number ≡ 5) t refl;
    }

module _ {tree before order new : List ℕ} {initiation b n m i stop : ℕ} {excess : code.Option Fault} (few : b ≤ 16) (fewer : n ≤ 64) where
  pub left_at_end : stop ≤ i → length order ≡ length before → Along tree initiation (λ s root. BeforeBlock s tree order root b n i stop)
      → new ≡ order → m ≡ n → excess ≡ None → Exit tree before new initiation b m excess
  left_at_end h long w p q e =
      record {
        few_blocks = few;
        few_payments = omega arith;
        when_within = λ z s root holder c l room. rw (p, q) (finishes (w s root holder c l) h (omega arith));
        when_excess = λ fault z s root holder c l. let x : ◌≡◌ {A = ℕ} 0 1 = cc in absurd (omega (arith, x));
        five = λ fault z. let x : ◌≡◌ {A = ℕ} 0 1 = cc in absurd (omega (arith, x));
      }

  pub left_at_block : {r : ℕ} → i < stop → b ≡ 16 → Along tree initiation (λ s root. BeforeBlock s tree order root b n i stop) → m ≡ n → Cell tree i 0 r
      → excess ≡ Some (TooMany 10 r) → Exit tree before new initiation b m excess
  left_at_block h x w q c e = by_label few (omega arith) (λ s root holder d l. block_exceeds (w s root holder d l) h x c) e

  pub left_at_payment : {j after r : ℕ} → j < after → n ≡ 64 → Along tree initiation (λ s root. BeforePayment s tree order root b n i j after stop) → m ≡ n
      → Cell tree j 0 r → excess ≡ Some (TooMany 37 r) → Exit tree before new initiation b m excess
  left_at_payment h x w q c e = by_label few (omega arith) (λ s root holder d l. payment_exceeds (w s root holder d l) h x c) e
