-- What stands in a message whose root conforms to the rows: its blocks and payments, the leaves that must be there, and the pairs of the table.
use Prim.Native.Nat.{ℕ, suc}
use mathlib.Core.List.Memᴰ
use mathlib.Core.List.{List, [], ◌∷◌, ◌++◌, map, Memᴰ}
use mathlib.Core.Bool.{Bool, true, false}
use mathlib.Core.Option.{Option, none, some}
use mathlib.Core.Path.{◌≡◌, refl, sym, ap, ◌∙◌, subst}
use mathlib.Core.Logic.{⊎_elim, ◌⊎◌, inl, inr}
use Rattle.paper.specs.Bytes.{same}
use Rattle.paper.specs.Form.{Element}
use Rattle.paper.specs.Rows.{Row, Profile, row_of}
use Rattle.paper.specs.Payments.{Payment, all_of, child, follow, blocks, of_header, header_count, header_sum, block_id, block_count, block_sum, instructed_amount, payments, payments_of, payments_from, in_payment, in_block, either_of, inherited}
use Rattle.paper.specs.Refusals.{among_texts}
use Rattle.paper.specs.Fields.{plain, or_means, amount_field, remittance, fields}
use Rattle.paper.specs.Table.{pairs, first_pairs, last_pairs, must_be_there, PairsThere}
use Rattle.paper.specs.Accepted.{All, all_none, all_more, EachWith, each_none, each_more, There, AnyElement, RowsKept, Used, UsageKept, AcceptedTree}
use Rattle.paper.proofs.Laws.{false_not_true, some_not_none, both_left, both_right, all_joined, all_map, follow_one}
use Rattle.paper_acceptance.proofs.Routes.{must_take, steps, step_all, choice_there, follow_conforms, follow_there, StandsAs, EndsAs}
use Rattle.paper_acceptance.proofs.Proper.{leads, Proper, root_route, block_route, payment_route, bic_or_not, to_not_provided}

module _ (profile : Profile) (proper : Proper profile) (Right : (holder : Option Element) (parent : ℕ) → Row → Element → Type 0) where
  abbrev pub As : (parent k : ℕ) → Element → Type 0
  As parent k t = StandsAs profile Right parent k t

  pub stands : (parent k : ℕ) (route : List ℕ) (t : Element) → leads profile parent k route ≡ true → As parent k t → There (follow route t)
  stands parent k route t e c =
      follow_there profile Right proper.apart parent k route t (both_left (steps profile parent k route) _ e) (both_right (steps profile parent k route) _ e) c

  pub ends_as : (parent k : ℕ) (route : List ℕ) (t u : Element) → leads profile parent k route ≡ true → As parent k t → follow route t ≡ some u
      → EndsAs profile Right parent k route u
  ends_as parent k route t u e c f = follow_conforms profile Right proper.apart parent k route t u (both_left (steps profile parent k route) _ e) c f

  -- a payment's own element and its block's
  pub record PaymentAs (p : Payment) : Type 0 where
    pub own_as : As 10 37 p.own
    pub block_as : As 2 10 p.block

  mapped : (n : ℕ) (b : Element) → As 2 10 b → {ts : List Element} → All (As 10 37) ts → All PaymentAs (map (λ t. record { own = t; block = b; block_number = n }) ts)
  mapped n b c all_none = all_none
  mapped n b c (all_more h k) = all_more (record { own_as = h; block_as = c }) (mapped n b c k)

  payments_as_from : (n : ℕ) {bs : List Element} → All (As 2 10) bs → All PaymentAs (payments_from n bs)
  unfolding payments_from payments_of steps
  payments_as_from n all_none = all_none
  payments_as_from n (all_more {a = b} h k) =
      all_joined (mapped n b h (step_all profile Right proper.apart 2 10 37 b (both_left _ _ proper.to_payments) h)) (payments_as_from (suc n) k)

  module _ (root : Element) (conforms : As 0 1 root) where
    pub blocks_as : All (As 2 10) (blocks root)
    unfolding blocks steps EndsAs follow
    blocks_as = go (child 2 root) refl
      where
        go : (o : Option Element) → child 2 root ≡ o → All (As 2 10) (elim o [ none ↦ [] | some order ↦ all_of 10 order ])
        go none e = all_none
        go (some order) e =
            step_all profile Right proper.apart 1 2 10 order (both_left _ _ proper.to_blocks)
            (follow_conforms profile Right proper.apart 0 1 (2 ∷ []) root order proper.to_order conforms (there e))
          where
            there : {o : Option Element} → o ≡ some order → ◌≡◌ {A = Option Element} (elim o [ none ↦ none | some v ↦ some v ]) (some order)
            there e = rw e

    pub payments_as : All PaymentAs (payments root)
    unfolding payments
    payments_as = payments_as_from 0 blocks_as

child_of : (k : ℕ) (t : Element) → There (follow (k ∷ []) t) → There (child k t)
child_of k t h = record { it = h.it; is_it = sym (follow_one k t) ∙ h.is_it }

-- The leaves that the rules speak of are there in every message that keeps the rows.
pub record LeavesThere (root : Element) : Type 0 where
  pub count_there : There (header_count root)
  pub sum_there : There (header_sum root)
  pub id_of_each : All (λ b. There (block_id b)) (blocks root)
  pub count_of_each : All (λ b. There (block_count b)) (blocks root)
  pub sum_of_each : All (λ b. There (block_sum b)) (blocks root)
  pub amount_of_each : All (λ p. There (instructed_amount p.own)) (payments root)

pub leaves_there : (profile : Profile) → Proper profile → (root : Element) → RowsKept profile root → LeavesThere root
unfolding RowsKept of_header among_texts same
leaves_there profile proper root kept =
    record {
      count_there = stands profile proper AnyElement 0 1 (2 ∷ 3 ∷ 6 ∷ []) root (root_route proper _ refl) (none, kept);
      sum_there = stands profile proper AnyElement 0 1 (2 ∷ 3 ∷ 7 ∷ []) root (root_route proper _ refl) (none, kept);
      id_of_each = each_block (λ b c. child_of 11 b (stands profile proper AnyElement 2 10 (11 ∷ []) b (block_route proper _ refl) c));
      count_of_each = each_block (λ b c. child_of 14 b (stands profile proper AnyElement 2 10 (14 ∷ []) b (block_route proper _ refl) c));
      sum_of_each = each_block (λ b c. child_of 15 b (stands profile proper AnyElement 2 10 (15 ∷ []) b (block_route proper _ refl) c));
      amount_of_each = all_map (λ p c. stands profile proper AnyElement 10 37 (41 ∷ 42 ∷ []) p.own (payment_route proper _ refl) c.own_as) (payments_as profile proper AnyElement root (none, kept));
    }
  where
    each_block : {P : Element → Type 0} → ((b : Element) → As profile proper AnyElement 2 10 b → P b) → All P (blocks root)
    each_block f = all_map f (blocks_as profile proper AnyElement root (none, kept))

-- No pair of an accepted payment's row is absent but the fourth, the seventh and the eighth: the ultimate debtor's, the creditor's BIC, the text of Ustrd or Ref.
pub either_there : {o q : Option Element} → There o ⊎ There q → There (either_of o q)
unfolding either_of
either_there {o = none} {q = q} h = ⊎_elim (λ t. some_not_none (sym t.is_it)) (λ t. t) h
either_there {o = some t} {q = q} h = record { it = t; is_it = refl }

module _ (profile : Profile) (proper : Proper profile) (Right : (holder : Option Element) (parent : ℕ) → Row → Element → Type 0) where
  pairs_there : (p : Payment) → PaymentAs profile proper Right p → Used p → PairsThere p
  unfolding PairsThere must_be_there pairs first_pairs last_pairs in_payment in_block inherited among_texts same
  pairs_there p c u =
      each_more (λ _. stands profile proper Right 10 37 (38 ∷ 40 ∷ []) p.own (payment_route proper _ refl) c.own_as)
      (each_more (λ _. stands profile proper Right 10 37 (45 ∷ 27 ∷ 28 ∷ []) p.own (payment_route proper _ refl) c.own_as)
      (each_more (λ _. stands profile proper Right 10 37 (44 ∷ 25 ∷ []) p.own (payment_route proper _ refl) c.own_as)
      (each_more (λ e. false_not_true e)
      (each_more (λ _. either_there u.somewhere)
      (each_more (λ _. stands profile proper Right 2 10 (26 ∷ 27 ∷ 28 ∷ []) p.block (block_route proper _ refl) c.block_as) (each_more (λ e. false_not_true e) (each_more (λ e. false_not_true e) each_none)))))))

-- two statements of each of a list
both_of : {A : Type 0} {P Q R : A → Type 0} {l : List A} → ((a : A) → P a → Q a → R a) → All P l → All Q l → All R l
both_of f all_none all_none = all_none
both_of f (all_more p h) (all_more q k) = all_more (f _ p q) (both_of f h k)

pub no_other_absent : (profile : Profile) → Proper profile → (root : Element) → AcceptedTree profile root → All PairsThere (payments root)
unfolding RowsKept UsageKept
no_other_absent profile proper root a =
    both_of (pairs_there profile proper AnyElement) (payments_as profile proper AnyElement root (none, a.but_counts.rows)) a.but_counts.usage

-- Nor is one of fields 4 to 7, 10, 11, 13 and 14.
unfoldable pub never_absent : List Bool
never_absent =
    false ∷ false ∷ false ∷ true ∷ true ∷ true ∷ true ∷ false ∷ false ∷ true ∷ true ∷ false ∷ true ∷ true ∷ false ∷ false ∷ false ∷ []

unfoldable pub FieldsThere : Payment → Type 0
FieldsThere p = EachWith (λ must f. must ≡ true → There f.element) never_absent (fields p)

-- a route, and from its end another
pub follow_on : (route more : List ℕ) (t u : Element) {o : Option Element} → follow route t ≡ some u → follow more u ≡ o → follow (route ++ more) t ≡ o
unfolding follow
follow_on [] more t u e f = let g : t ≡ u = cc in ap (follow more) g ∙ f
follow_on (j ∷ route) more t u {o} e f = go (child j t) e (λ w g. follow_on route more w u g f)
  where
    go : (p : Option Element) → ◌≡◌ {A = Option Element} (elim p [ none ↦ none | some w ↦ follow route w ]) (some u)
        → ((w : Element) → follow route w ≡ some u → follow (route ++ more) w ≡ o)
        → ◌≡◌ {A = Option Element} (elim p [ none ↦ none | some w ↦ follow (route ++ more) w ]) o
    go none q below = some_not_none (sym q)
    go (some w) q below = below w q

-- a route and one row more
pub follow_joined : (route : List ℕ) (k : ℕ) (t u : Element) {o : Option Element} → follow route t ≡ some u → child k u ≡ o → follow (route ++ (k ∷ [])) t ≡ o
follow_joined route k t u e f = follow_on route (k ∷ []) t u e (follow_one k u ∙ f)

module _ (profile : Profile) (proper : Proper profile) (Right : (holder : Option Element) (parent : ℕ) → Row → Element → Type 0) where
  -- at the end of a route that leads to row k under a parent one of some rows must be there
  one_at_end : (b : Element) → As profile proper Right 2 10 b → (route : List ℕ) (parent k : ℕ) (choice : List ℕ) → leads profile 2 10 route ≡ true
      → ((u : Element) → EndsAs profile Right 2 10 route u → As profile proper Right parent k u) → must_take (row_of profile parent k) choice ≡ true
      → (u : There (follow route b)) × (j : ℕ) × Memᴰ j choice × There (child j u.it)
  one_at_end b c route parent k choice l ends must =
      let u = stands profile proper Right 2 10 route b l c in
      let d = ends u.it (ends_as profile proper Right 2 10 route b u.it l c u.is_it) in
      let n = choice_there profile Right u.it d.0 parent (row_of profile parent k) choice must d.1 in
      (u, n.0, n.1, n.2)

  -- of two rows the one or the other
  pub either_row : (P : ℕ → Type 0) {Q : Type 0} {i j k : ℕ} → Memᴰ k (i ∷ j ∷ []) → P k → (P i → Q) → (P j → Q) → Q
  either_row P m h f g = ⊎_elim (λ e. f (subst P e h)) (λ n. g (subst P (Memᴰ.eq_of_singleton n) h)) (Memᴰ.cases_cons m)

  joined : (b : Element) (route : List ℕ) (u : There (follow route b)) (k : ℕ) → There (child k u.it) → There (follow (route ++ (k ∷ [])) b)
  joined b route u k v = record { it = v.it; is_it = follow_joined route k b u.it u.is_it v.is_it }

  date_there : (b : Element) → As profile proper Right 2 10 b → There (either_of (follow (22 ∷ 23 ∷ []) b) (follow (22 ∷ 58 ∷ []) b))
  unfolding EndsAs among_texts same
  date_there b c =
      let n = one_at_end b c (22 ∷ []) 10 22 (23 ∷ 58 ∷ []) (block_route proper _ refl) (λ u e. e) proper.date_or_time in
      let u = n.0 in
      either_row (λ k. There (child k u.it)) n.2 n.3 (λ d. either_there (inl (joined b (22 ∷ []) u 23 d))) (λ t. either_there (inr (joined b (22 ∷ []) u 58 t)))

  agent_there : (b : Element) → As profile proper Right 2 10 b → There (either_of (follow (29 ∷ 30 ∷ 31 ∷ []) b) (follow (29 ∷ 30 ∷ 32 ∷ 33 ∷ []) b))
  unfolding EndsAs among_texts same joined
  agent_there b c =
      let n = one_at_end b c (29 ∷ 30 ∷ []) 29 30 (31 ∷ 32 ∷ []) agent_leads (λ u e. e) (bic_or_not proper) in
      let u = n.0 in
      either_row (λ k. There (child k u.it)) n.2 n.3 (λ bic. either_there (inl (joined b (29 ∷ 30 ∷ []) u 31 bic))) (λ other. either_there (inr (not_provided u other)))
    where
      agent_leads : leads profile 2 10 (29 ∷ 30 ∷ []) ≡ true
      agent_leads = block_route proper _ refl

      not_provided : (u : There (follow (29 ∷ 30 ∷ []) b)) → There (child 32 u.it) → There (follow (29 ∷ 30 ∷ 32 ∷ 33 ∷ []) b)
      not_provided u v =
          let conforms = ends_as profile proper Right 2 10 (29 ∷ 30 ∷ []) b u.it agent_leads c u.is_it in
          let d = follow_conforms profile Right proper.apart 29 30 (32 ∷ []) u.it v.it (to_not_provided proper) conforms (follow_one 32 u.it ∙ v.is_it) in
          joined b (29 ∷ 30 ∷ 32 ∷ []) (joined b (29 ∷ 30 ∷ []) u 32 v) 33 (child_of 33 v.it (stands profile proper Right 30 32 (33 ∷ []) v.it proper.not_provided d))

  some_fields_there : (p : Payment) → PaymentAs profile proper Right p → FieldsThere p
  unfolding FieldsThere never_absent fields plain or_means amount_field remittance in_payment in_block inherited among_texts same
  some_fields_there p c =
      each_more (λ e. false_not_true e)
      (each_more (λ e. false_not_true e)
      (each_more (λ e. false_not_true e)
      (each_more (λ _. date_there p.block c.block_as)
      (each_more (λ _. stands profile proper Right 2 10 (24 ∷ 25 ∷ []) p.block (block_route proper _ refl) c.block_as)
      (each_more (λ _. stands profile proper Right 2 10 (26 ∷ 27 ∷ 28 ∷ []) p.block (block_route proper _ refl) c.block_as)
      (each_more (λ _. agent_there p.block c.block_as)
      (each_more (λ e. false_not_true e)
      (each_more (λ e. false_not_true e)
      (each_more (λ _. stands profile proper Right 10 37 (38 ∷ 40 ∷ []) p.own (payment_route proper _ refl) c.own_as)
      (each_more (λ _. stands profile proper Right 10 37 (41 ∷ 42 ∷ []) p.own (payment_route proper _ refl) c.own_as)
      (each_more (λ e. false_not_true e)
      (each_more (λ _. stands profile proper Right 10 37 (44 ∷ 25 ∷ []) p.own (payment_route proper _ refl) c.own_as)
      (each_more (λ _. stands profile proper Right 10 37 (45 ∷ 27 ∷ 28 ∷ []) p.own (payment_route proper _ refl) c.own_as)
      (each_more (λ e. false_not_true e)
      (each_more (λ e. false_not_true e)
      (each_more (λ e. false_not_true e) each_none))))))))))))))))

pub fields_there : (profile : Profile) → Proper profile → (root : Element) → RowsKept profile root → All FieldsThere (payments root)
unfolding RowsKept
fields_there profile proper root kept = all_map (some_fields_there profile proper AnyElement) (payments_as profile proper AnyElement root (none, kept))
