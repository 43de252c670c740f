-- Each stage of the verdict refuses nothing exactly where what `Accepted` says of it holds.
use Rattle.std.specs.Prelude.{if◌then◌else◌}
use Prim.Native.Nat.{ℕ, suc, ◌+◌, ◌≤◌}
use native.Mathlib.Omega.{arith}
use mathlib.Core.List.Memᴰ
use mathlib.Core.List.{List, [], ◌∷◌, map, Memᴰ}
use mathlib.Core.Bool.{Bool, true, false, ◌&&◌, ◌||◌, not}
use mathlib.Core.Option.{Option, none, some}
use mathlib.Core.Path.{◌≡◌, refl, sym, ◌∙◌, ap, subst}
use mathlib.Core.Logic.{◌↔◌, ◌⊎◌, inl, inr, ⊎_elim}
use borrow.Author.Tests.{eqb-true, eqb-false, eq-eqb, ne_eqb, leb-true, le-leb, not-false}
use lib.ListN.{length, length-append, length-map}
use lib.Dec.{eqb, leb}
use Rattle.paper.specs.Bytes.{value_character, every, same}
use Rattle.paper.specs.Form.{Head, Element, holding_text, holding_elements}
use Rattle.paper.specs.Rows.{Contents, text, elements, Row, Profile, row_of, longest_of, head_of}
use Rattle.paper.specs.Values.{among, lies_from, allowed, number, cents}
use Rattle.paper.specs.Payments.{Payment, text_of, all_of, blocks, header_count, header_sum, block_id, block_count, block_sum, instructed_amount, payments, payments_from, payments_of, in_payment, in_block, sum_of, total}
use Rattle.paper.specs.Refusals.{Refusal, refuse, ◌or_else◌, text_refusal, leaf_refusal, value_refusal, no_judgement, among_texts, unless, sixty_fifth, too_many, in_both, in_neither, usage_of, usage, repeated, block_counts, rows_refusal, values_refusal, limits_refusal, usage_refusal, ids_refusal, counts_refusal}
use Rattle.paper.specs.Accepted.{All, all_none, all_more, EachWith, each_none, each_more, Distinct, distinct_none, distinct_more, AnyElement, RightText, RightLeaf, RightElement, There, Says, RowsKept, LimitsKept, ValuesRight, NotBoth, Used, UsageKept, IdsApart, Sum, sum_none, sum_more, Truthful, CountsTrue}
use Rattle.paper.proofs.Laws.{amount_is, false_not_true, some_not_none, or_right, both_left, both_right, every_says, every_tests, same_says, same_tests, among_member, among_not, all_member, all_map, all_from}
use Rattle.paper_acceptance.proofs.Rows.{neither, or_none, refuses, RowsApart, walk_conforms, conforms_walk}

-- 6 to 8 and 28 at one element
-- a test that is passed, where the refusal behind it is not given; and back
passed : (t : Bool) {r later : Option Refusal} → (if t then r else later) ≡ none → (r ≡ none → ⊥) → (t ≡ false) × (later ≡ none)
passed true e n = absurd (n e)
passed false e n = (refl, e)

text_right : (parent : ℕ) (r : Row) (h : Head) (w : List ℕ) → text_refusal parent r h w ≡ none → RightText parent r h w
unfolding text_refusal lies_from
text_right parent r h w e =
    let a = passed (not (leb 1 (length w) && leb (length w) (longest_of r.holds))) e (refuses _ _ _) in
    let b = passed (not (every value_character w)) a.1 (refuses _ _ _) in
    let c = passed (not (allowed parent r.row h.currency w)) b.1 (refuses _ _ _) in
    let l = not-false _ a.0 in
    record {
      not_empty = leb-true 1 (length w) (both_left (leb 1 (length w)) _ l);
      not_too_long = leb-true (length w) _ (both_right (leb 1 (length w)) _ l);
      characters = every_says value_character w (not-false _ b.0);
      value = not-false _ c.0;
    }

right_text : (parent : ℕ) (r : Row) (h : Head) (w : List ℕ) → RightText parent r h w → text_refusal parent r h w ≡ none
unfolding text_refusal lies_from
right_text parent r h w c =
    rw (le-leb 1 (length w) c.not_empty, le-leb (length w) (longest_of r.holds) c.not_too_long, every_tests c.characters, c.value)

leaf_right : (parent : ℕ) (r : Row) (t : Element) → leaf_refusal parent r t ≡ none ↔ RightLeaf parent r t
unfolding leaf_refusal RightLeaf
leaf_right parent r (holding_elements h ts) = ((λ e. tt), (λ c. refl))
leaf_right parent r (holding_text h w) = go r.holds
  where
    go : (holds : Contents) → ◌≡◌ {A = Option Refusal} (elim holds [ text longest ↦ text_refusal parent r h w | elements places ↦ none ]) none
        ↔ (elim holds as (λ _. Type 0) [ text longest ↦ RightText parent r h w | elements places ↦ Unit {0} ])
    go (text longest) = (text_right parent r h w, right_text parent r h w)
    go (elements places) = ((λ e. tt), (λ c. refl))

module _ (withdrawn : List ℕ) (holder : Option Element) (parent : ℕ) (r : Row) (t : Element) where
  element_right : value_refusal withdrawn holder parent r t ≡ none → RightElement withdrawn holder parent r t
  unfolding value_refusal
  element_right e =
      let a = passed (among r.row withdrawn) e (refuses _ _ _) in
      record { not_withdrawn = (λ m. false_not_true (sym a.0 ∙ among_member m)); leaf = (leaf_right parent r t).0 a.1 }

  right_element : RightElement withdrawn holder parent r t → value_refusal withdrawn holder parent r t ≡ none
  unfolding value_refusal
  right_element c = rw (among_not r.row withdrawn c.not_withdrawn) ((leaf_right parent r t).1 c.leaf)

-- a leaf that says a number, which is tested by `eqb`
unless-number : (means : List ℕ → ℕ) (truth number row : ℕ) (o : Option Element) → unless (λ w. eqb (means w) truth) number row o ≡ none ↔ Says means o truth
unfolding unless
unless-number means truth number row none = ((λ e. refuses _ _ _ e), (λ s. some_not_none (sym s.stands_there)))
unless-number means truth number row (some u) = ((λ e. go (eqb (means (text_of u)) truth) refl e), back)
  where
    go : (b : Bool) → eqb (means (text_of u)) truth ≡ b → (if b then none else refuse number row (head_of u).at) ≡ none → Says means (some u) truth
    go true p q = record { leaf = u; stands_there = refl; says = eqb-true (means (text_of u)) truth p }
    go false p q = refuses _ _ _ q

    back : Says means (some u) truth → (if eqb (means (text_of u)) truth then none else refuse number row (head_of u).at) ≡ none
    back s =
        let e = s.stands_there in
        let g : u ≡ s.leaf = cc in
        rw (eq-eqb (means (text_of u)) truth (ap (λ (x : Element). means (text_of x)) g ∙ s.says))

-- 11: a text is among texts
among_texts_says : (w : List ℕ) (vs : List (List ℕ)) → among_texts w vs ≡ true → Memᴰ w vs
unfolding among_texts
among_texts_says w [] e = false_not_true e
among_texts_says w (v ∷ vs) e = go (same w v) refl e (λ f. among_texts_says w vs f)
  where
    go : (t : Bool) → same w v ≡ t → (t || among_texts w vs) ≡ true → (among_texts w vs ≡ true → Memᴰ w vs) → Memᴰ w (v ∷ vs)
    go true p q below = Memᴰ.head (same_says w v p)
    go false p q below = Memᴰ.tail (below q)

among_texts_not : (w : List ℕ) (vs : List (List ℕ)) → (Memᴰ w vs → ⊥) → among_texts w vs ≡ false
among_texts_not w vs n = go (among_texts w vs) refl
  where
    go : (t : Bool) → among_texts w vs ≡ t → t ≡ false
    go true e = absurd (n (among_texts_says w vs e))
    go false e = refl

among_texts_member : {w : List ℕ} {vs : List (List ℕ)} → Memᴰ w vs → among_texts w vs ≡ true
unfolding among_texts
among_texts_member {w} (Memᴰ.head {x = v} e) = rw (ap (λ (u : List ℕ). same w u) (sym e) ∙ same_tests w)
among_texts_member {w} (Memᴰ.tail {x = v} m) = or_right (same w v) (among_texts_member m)

-- texts that are new: no two alike, and none among earlier ones
record New (earlier ws : List (List ℕ)) : Type 0 where
  distinct : Distinct ws
  not_earlier : All (λ w. Memᴰ w earlier → ⊥) ws

new_first : {w : List ℕ} {earlier ws : List (List ℕ)} → (Memᴰ w earlier → ⊥) → New (w ∷ earlier) ws → New earlier (w ∷ ws)
new_first n h =
    record {
      distinct = distinct_more (λ m. all_member h.not_earlier m (Memᴰ.head refl)) h.distinct;
      not_earlier = all_more n (all_map (λ v k m. k (Memᴰ.tail m)) h.not_earlier);
    }

first_not_earlier : {w : List ℕ} {earlier ws : List (List ℕ)} → New earlier (w ∷ ws) → Memᴰ w earlier → ⊥
first_not_earlier h = all_member h.not_earlier (Memᴰ.head refl)

new_rest : {w : List ℕ} {earlier ws : List (List ℕ)} → New earlier (w ∷ ws) → New (w ∷ earlier) ws
new_rest {w} {earlier} {ws} h = go h.distinct h.not_earlier
  where
    go : Distinct (w ∷ ws) → All (λ v. Memᴰ v earlier → ⊥) (w ∷ ws) → New (w ∷ earlier) ws
    go (distinct_more n d) (all_more _ a) =
        record { distinct = d; not_earlier = all_from (λ v m k. ⊎_elim (λ e. n (Memᴰ.cast (sym e) m)) (all_member a m) (Memᴰ.cases_cons k)) }

-- 5
within_64 : (n : ℕ) (ts : List Element) → n ≤ 64 → sixty_fifth n ts ≡ none → n + length ts ≤ 64
unfolding sixty_fifth
within_64 n [] l e = omega arith
within_64 n (t ∷ ts) l e = go (eqb n 64) refl e (λ m f. within_64 (suc n) ts m f)
  where
    go : (b : Bool) → eqb n 64 ≡ b → (if b then refuse 5 37 (head_of t).at else sixty_fifth (suc n) ts) ≡ none
        → (suc n ≤ 64 → sixty_fifth (suc n) ts ≡ none → suc n + length ts ≤ 64) → n + suc (length ts) ≤ 64
    go true p q below = refuses _ _ _ q
    go false p q below = let d = eqb-false n 64 p in let m : suc n ≤ 64 = omega (arith, d) in let r = below m q in omega arith

sixty_four : (n : ℕ) (ts : List Element) → n + length ts ≤ 64 → sixty_fifth n ts ≡ none
unfolding sixty_fifth
sixty_four n [] l = refl
sixty_four n (t ∷ ts) l = rw (ne_eqb n 64 (λ e. omega (arith, e))) (sixty_four (suc n) ts (omega arith))

length_from : (n : ℕ) (b : Element) (bs : List Element) → length (payments_from n (b ∷ bs)) ≡ length (all_of 37 b) + length (payments_from (suc n) bs)
unfolding payments_from payments_of
length_from n b bs = simp (length-append, length-map)

within_limits : (b n m : ℕ) (ts : List Element) → b ≤ 16 → n ≤ 64 → too_many b n ts ≡ none → (b + length ts ≤ 16) × (n + length (payments_from m ts) ≤ 64)
unfolding too_many payments_from
within_limits b n m [] l k e = (omega arith, omega arith)
within_limits b n m (t ∷ ts) l k e = go (eqb b 16) refl e (λ c p q f. within_limits (suc b) c (suc m) ts p q f)
  where
    go : (c : Bool) → eqb b 16 ≡ c
        → (if c then refuse 5 10 (head_of t).at else (sixty_fifth n (all_of 37 t) or_else too_many (suc b) (n + length (all_of 37 t)) ts)) ≡ none
        → ((c : ℕ) → suc b ≤ 16 → c ≤ 64 → too_many (suc b) c ts ≡ none → (suc b + length ts ≤ 16) × (c + length (payments_from (suc m) ts) ≤ 64))
        → (b + suc (length ts) ≤ 16) × (n + length (payments_from m (t ∷ ts)) ≤ 64)
    go true p q below = refuses _ _ _ q
    go false p q below =
        let d = eqb-false b 16 p in
        let s = neither _ _ q in
        let w = within_64 n (all_of 37 t) k s.0 in
        let r = below (n + length (all_of 37 t)) (omega (arith, d)) w s.1 in
        (omega (arith, r.0), omega (arith, r.1, length_from m t ts))

limits_within : (b n m : ℕ) (ts : List Element) → b + length ts ≤ 16 → n + length (payments_from m ts) ≤ 64 → too_many b n ts ≡ none
unfolding too_many
limits_within b n m [] l k = refl
limits_within b n m (t ∷ ts) l k =
    let e = length_from m t ts in
    rw (ne_eqb b 16 (λ d. omega (arith, d)))
    (or_none (sixty_four n (all_of 37 t) (omega (arith, e))) (limits_within (suc b) _ (suc m) ts (omega arith) (omega (arith, e))))

pub limits_kept : (root : Element) → limits_refusal root ≡ none ↔ LimitsKept root
unfolding limits_refusal payments
limits_kept root = (
  (λ e.
      let l = within_limits 0 0 0 (blocks root) (omega arith) (omega arith) e in
      record { few_blocks = omega (arith, l.0); few_payments = omega (arith, l.1) }),
  (λ k. limits_within 0 0 0 (blocks root) (omega (arith, k.few_blocks)) (omega (arith, k.few_payments))),
)

-- 9 and 10
not_both : (k : ℕ) (p : Payment) → in_both k p ≡ none ↔ NotBoth k p
unfolding in_both NotBoth
not_both k p = go (in_payment (k ∷ []) p) (in_block (k ∷ []) p)
  where
    go : (o q : Option Element)
        → ◌≡◌ {A = Option Refusal} (elim o [ none ↦ none | some t ↦ elim q [ none ↦ none | some u ↦ refuse 9 k (head_of t).at ] ]) none ↔ (There o → There q → ⊥)
    go none q = ((λ e a b. some_not_none (sym a.is_it)), (λ n. refl))
    go (some t) none = ((λ e a b. some_not_none (sym b.is_it)), (λ n. refl))
    go (some t) (some u) = ((λ e a b. refuses _ _ _ e), (λ n. absurd (n (record { it = t; is_it = refl }) (record { it = u; is_it = refl }))))

somewhere : (k : ℕ) (p : Payment) → in_neither k p ≡ none ↔ (There (in_payment (k ∷ []) p) ⊎ There (in_block (k ∷ []) p))
unfolding in_neither
somewhere k p = go (in_payment (k ∷ []) p) (in_block (k ∷ []) p)
  where
    go : (o q : Option Element)
        → ◌≡◌ {A = Option Refusal} (elim o [ some t ↦ none | none ↦ elim q [ some u ↦ none | none ↦ refuse 10 k (head_of p.own).at ] ]) none ↔ (There o ⊎ There q)
    go (some t) q = ((λ e. inl (record { it = t; is_it = refl })), (λ s. refl))
    go none (some u) = ((λ e. inr (record { it = u; is_it = refl })), (λ s. refl))
    go none none = ((λ e. refuses _ _ _ e), (λ s. ⊎_elim (λ a. some_not_none (sym a.is_it)) (λ a. some_not_none (sym a.is_it)) s))

used : (p : Payment) → usage_of p ≡ none ↔ Used p
unfolding usage_of
used p = (
  (λ e.
      let a = neither _ _ e in
      let b = neither _ _ a.1 in
      let c = neither _ _ b.1 in
      record {
        somewhere = (somewhere 16 p).0 b.0;
        type_once = (not_both 16 p).0 a.0;
        charges_once = (not_both 36 p).0 c.0;
        ultimate_debtor_once = (not_both 34 p).0 c.1;
      }),
  (λ u.
      or_none ((not_both 16 p).1 u.type_once)
      (or_none ((somewhere 16 p).1 u.somewhere) (or_none ((not_both 36 p).1 u.charges_once) ((not_both 34 p).1 u.ultimate_debtor_once)))),
)

usage_used : (ps : List Payment) → usage ps ≡ none → All Used ps
unfolding usage
usage_used [] e = all_none
usage_used (p ∷ ps) e = let a = neither _ _ e in all_more ((used p).0 a.0) (usage_used ps a.1)

used_usage : {ps : List Payment} → All Used ps → usage ps ≡ none
unfolding usage
used_usage all_none = refl
used_usage (all_more {a = p} u h) = or_none ((used p).1 u) (used_usage h)

pub usage_kept : (root : Element) → usage_refusal root ≡ none ↔ UsageKept root
unfolding usage_refusal UsageKept
usage_kept root = ((λ e. usage_used (payments root) e), (λ u. used_usage u))

-- 11: the ids of some blocks, each with its own, and new
abbrev HasId : Element → List ℕ → Type 0
HasId b id = Says (λ w. w) (block_id b) id

record NewIds (earlier : List (List ℕ)) (bs : List Element) : Type 0 where
  its_ids : List (List ℕ)
  has_its_own : EachWith HasId bs its_ids
  new : New earlier its_ids

ids_new : (earlier : List (List ℕ)) (bs : List Element) → repeated earlier bs ≡ none → NewIds earlier bs
unfolding repeated
ids_new earlier [] e = record { its_ids = []; has_its_own = each_none; new = record { distinct = distinct_none; not_earlier = all_none } }
ids_new earlier (b ∷ bs) e = go (block_id b) refl e (λ w f. ids_new (w ∷ earlier) bs f)
  where
    fresh : (t : Element) → block_id b ≡ some t → (c : Bool) → among_texts (text_of t) earlier ≡ c
        → (if c then refuse 11 11 (head_of t).at else repeated (text_of t ∷ earlier) bs) ≡ none
        → (repeated (text_of t ∷ earlier) bs ≡ none → NewIds (text_of t ∷ earlier) bs) → NewIds earlier (b ∷ bs)
    fresh t s true p q below = refuses _ _ _ q
    fresh t s false p q below =
        let n = below q in
        record {
          its_ids = text_of t ∷ n.its_ids;
          has_its_own = each_more (record { leaf = t; stands_there = s; says = refl }) n.has_its_own;
          new = new_first (λ m. false_not_true (sym p ∙ among_texts_member m)) n.new;
        }

    go : (o : Option Element) → block_id b ≡ o
        → ◌≡◌ {A = Option Refusal}
        (elim o [
          | none ↦ refuse 11 11 0
          | some t ↦ if among_texts (text_of t) earlier then refuse 11 11 (head_of t).at else repeated (text_of t ∷ earlier) bs
        ]) none
        → ((w : List ℕ) → repeated (w ∷ earlier) bs ≡ none → NewIds (w ∷ earlier) bs) → NewIds earlier (b ∷ bs)
    go none s f above = refuses _ _ _ f
    go (some t) s f above = fresh t s (among_texts (text_of t) earlier) refl f (above (text_of t))

new_ids : (earlier : List (List ℕ)) {bs : List Element} {ws : List (List ℕ)} → EachWith HasId bs ws → New earlier ws → repeated earlier bs ≡ none
unfolding repeated
new_ids earlier each_none n = refl
new_ids earlier (each_more {a = b} {b = w} {l = bs} s h) n = go s.stands_there s.says (new_ids (w ∷ earlier) h (new_rest n))
  where
    go : {o : Option Element} {t : Element} → o ≡ some t → text_of t ≡ w → repeated (w ∷ earlier) bs ≡ none
        → ◌≡◌ {A = Option Refusal}
        (elim o [
          | none ↦ refuse 11 11 0
          | some t ↦ if among_texts (text_of t) earlier then refuse 11 11 (head_of t).at else repeated (text_of t ∷ earlier) bs
        ]) none
    go e f below = rw (e, f, among_texts_not w earlier (first_not_earlier n)) below

pub ids_apart : (root : Element) → ids_refusal root ≡ none ↔ IdsApart root
unfolding ids_refusal
ids_apart root = (
  (λ e. let n = ids_new [] (blocks root) e in record { ids = n.its_ids; has_its_own = n.has_its_own; distinct = n.new.distinct }),
  (λ i. new_ids [] i.has_its_own (record { distinct = i.distinct; not_earlier = all_from (λ w m n. Memᴰ.not-nil n) })),
)

-- amounts that stand there add up to what is computed
abbrev pub HasAmount : Element → Type 0
HasAmount t = There (instructed_amount t)

pub sums : {ts : List Element} → All HasAmount ts → Sum ts (sum_of ts)
unfolding sum_of
sums all_none = sum_none
sums (all_more {a = t} h k) = sum_more (record { leaf = h.it; stands_there = h.is_it; says = sym (amount_is t h.is_it) }) (sums k)

pub sum_is : {ts : List Element} {n : ℕ} → Sum ts n → n ≡ sum_of ts
unfolding sum_of
sum_is sum_none = refl
sum_is (sum_more {t = t} s h) = let a = sym s.says ∙ sym (amount_is t s.stands_there) in let b = sum_is h in omega (arith, a, b)

-- the payments' elements
abbrev pub own_elements : Element → List Element
own_elements root = map (λ p. p.own) (payments root)

-- 12 and 13
truthful : (stated_count stated_sum : Option Element) (row_of_count row_of_sum : ℕ) (ts : List Element) (later : Option Refusal) → All HasAmount ts
    → unless (λ w. eqb (number w) (length ts)) 12 row_of_count stated_count or_else unless (λ w. eqb (cents w) (sum_of ts)) 13 row_of_sum stated_sum or_else later ≡ none
    ↔ Truthful stated_count stated_sum ts × (later ≡ none)
truthful stated_count stated_sum j k ts later amounts = (
  (λ e.
      let a = neither _ _ e in
      let b = neither _ _ a.1 in (
        record {
          count_is = (unless-number number (length ts) 12 j stated_count).0 a.0;
          sum = sum_of ts;
          is_sum = sums amounts;
          sum_is = (unless-number cents (sum_of ts) 13 k stated_sum).0 b.0;
        },
        b.1,
      )),
  (λ t.
      or_none ((unless-number number (length ts) 12 j stated_count).1 t.0.count_is)
      (or_none ((unless-number cents (sum_of ts) 13 k stated_sum).1 (subst (λ (n : ℕ). Says cents stated_sum n) (sum_is t.0.is_sum) t.0.sum_is)) t.1)),
)

abbrev BlockTruthful : Element → Type 0
BlockTruthful b = Truthful (block_count b) (block_sum b) (all_of 37 b)

counts_of_blocks : {bs : List Element} → All (λ b. All HasAmount (all_of 37 b)) bs → block_counts bs ≡ none ↔ All BlockTruthful bs
unfolding block_counts
counts_of_blocks all_none = ((λ e. all_none), (λ h. refl))
counts_of_blocks (all_more {a = b} {rest = bs} amounts h) =
    let t = truthful (block_count b) (block_sum b) 14 15 (all_of 37 b) (block_counts bs) amounts in
    ((λ e. let r = t.0 e in all_more r.0 ((counts_of_blocks h).0 r.1)), (λ a. t.1 (first_of a, (counts_of_blocks h).1 (rest_of a))))
  where
    first_of : All BlockTruthful (b ∷ bs) → BlockTruthful b
    first_of (all_more p q) = p

    rest_of : All BlockTruthful (b ∷ bs) → All BlockTruthful bs
    rest_of (all_more p q) = q

pub counts_true : (root : Element) → All HasAmount (own_elements root) → All (λ b. All HasAmount (all_of 37 b)) (blocks root) → counts_refusal root ≡ none ↔ CountsTrue root
unfolding counts_refusal total
counts_true root amounts of_each =
    let t = truthful (header_count root) (header_sum root) 6 7 (own_elements root) (block_counts (blocks root)) amounts in
    let c = counts_of_blocks of_each in
    let same_count = length-map (payments root) (λ (p : Payment). p.own) in (
      (λ e. let r = t.0 (rw same_count e) in record { of_message = r.0; of_blocks = c.0 r.1 }),
      (λ a. rw same_count at (t.1 (a.of_message, c.1 a.of_blocks))),
    )

-- 3 and 4, 6 to 8: over the tree
pub rows_kept : (profile : Profile) → ((parent k : ℕ) → RowsApart (row_of profile parent k)) → (root : Element) → rows_refusal profile root ≡ none ↔ RowsKept profile root
unfolding rows_refusal RowsKept no_judgement
rows_kept profile apart root = (
  (λ e. walk_conforms profile no_judgement AnyElement (λ holder parent r t n. record {}) root none 0 (row_of profile 0 1) e),
  (λ c. conforms_walk profile no_judgement AnyElement (λ holder parent r t d. refl) apart root none 0 (row_of profile 0 1) (apart 0 1) c),
)

pub values_right : (profile : Profile) → ((parent k : ℕ) → RowsApart (row_of profile parent k)) → (root : Element)
    → values_refusal profile root ≡ none ↔ ValuesRight profile root
unfolding values_refusal ValuesRight
values_right profile apart root = (
  (λ e. walk_conforms profile (value_refusal profile.withdrawn) (RightElement profile.withdrawn) (element_right profile.withdrawn) root none 0 (row_of profile 0 1) e),
  (λ c. conforms_walk profile (value_refusal profile.withdrawn) (RightElement profile.withdrawn) (right_element profile.withdrawn) apart root none 0 (row_of profile 0 1) (apart 0 1) c),
)
