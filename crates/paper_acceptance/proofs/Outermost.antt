-- The outermost element of each pair of the table: a pair is there exactly where its outermost element is.
use Prim.Native.Nat.{ℕ}
use mathlib.Core.List.{List, [], ◌∷◌}
use mathlib.Core.Bool.{true}
use mathlib.Core.Option.{Option, none, some}
use mathlib.Core.Path.{◌≡◌, refl, sym, ◌∙◌}
use mathlib.Core.Logic.{◌↔◌, ⊎_elim, ◌⊎◌, inl, inr}
use Rattle.paper.specs.Bytes.{same}
use Rattle.paper.specs.Form.{Element}
use Rattle.paper.specs.Rows.{Row, Profile, row_of}
use Rattle.paper.specs.Payments.{Payment, child, follow, in_payment, in_block, either_of, inherited}
use Rattle.paper.specs.Refusals.{among_texts}
use Rattle.paper.specs.Table.{pairs, first_pairs, last_pairs}
use Rattle.paper.specs.Accepted.{EachWith, each_none, each_more, There}
use Rattle.paper.proofs.Laws.{some_not_none, both_left, both_right, follow_one}
use Rattle.paper_acceptance.proofs.Routes.{steps, choice_there, follow_conforms, EndsAs}
use Rattle.paper_acceptance.proofs.Proper.{leads, leads_on, Proper, one_route, block_optional_routes, payment_optional_routes, block_route, payment_route}
use Rattle.paper_acceptance.proofs.Present.{As, PaymentAs, stands, follow_on, either_there, either_row}

-- the outermost element of each pair's route
unfoldable pub outermost : Payment → List (Option Element)
outermost p =
    in_payment (38 ∷ []) p ∷ in_payment (45 ∷ []) p ∷ in_payment (44 ∷ []) p ∷ inherited (34 ∷ []) p ∷ inherited (16 ∷ []) p ∷ in_block (26 ∷ []) p ∷
    in_payment (43 ∷ []) p ∷ in_payment (48 ∷ []) p ∷ []

-- Where the end of a route is there, its first row is.
first_there : (j : ℕ) (js : List ℕ) (t : Element) → There (follow (j ∷ js) t) → There (follow (j ∷ []) t)
unfolding follow
first_there j js t h = go (child j t) h.is_it
  where
    go : (o : Option Element) → ◌≡◌ {A = Option Element} (elim o [ none ↦ none | some u ↦ follow js u ]) (some h.it)
        → There (elim o as (λ _. Option Element) [ none ↦ none | some u ↦ some u ])
    go none e = some_not_none (sym e)
    go (some u) e = record { it = u; is_it = refl }

-- One of two is there; and so of two others that are there with them.
which_there : {o q : Option Element} → There (either_of o q) → There o ⊎ There q
unfolding either_of
which_there {o = none} h = inr h
which_there {o = some t} h = inl (record { it = t; is_it = refl })

either_with : {o q r u : Option Element} → There o ↔ There r → There q ↔ There u → There (either_of o q) ↔ There (either_of r u)
either_with a b = (
  (λ h. either_there (⊎_elim (λ t. inl (a.0 t)) (λ t. inr (b.0 t)) (which_there h))),
  (λ h. either_there (⊎_elim (λ t. inl (a.1 t)) (λ t. inr (b.1 t)) (which_there h))),
)

module _ (profile : Profile) (proper : Proper profile) (Right : (holder : Option Element) (parent : ℕ) → Row → Element → Type 0) where
  -- Where its first row is there, so is the end of a route that leads on.
  led_on : (parent k j : ℕ) (js : List ℕ) (t : Element) → leads_on profile parent k (j ∷ js) ≡ true → As profile proper Right parent k t
      → There (follow (j ∷ js) t) ↔ There (follow (j ∷ []) t)
  unfolding EndsAs
  led_on parent k j js t e c = (
    first_there j js t,
    λ h.
        let d = follow_conforms profile Right proper.apart parent k (j ∷ []) t h.it (both_left (steps profile parent k (j ∷ [])) _ e) c h.is_it in
        let v = stands profile proper Right k j js h.it (both_right (steps profile parent k (j ∷ [])) _ e) d in
        record { it = v.it; is_it = follow_on (j ∷ []) js t h.it h.is_it v.is_it },
  )

  -- where the end of a route is always there, so is its first row
  always : (parent k j : ℕ) (js : List ℕ) (t : Element) → leads profile parent k (j ∷ js) ≡ true → As profile proper Right parent k t
      → There (follow (j ∷ js) t) ↔ There (follow (j ∷ []) t)
  always parent k j js t e c = (first_there j js t, λ h. stands profile proper Right parent k (j ∷ js) t e c)

  -- remittance information holds a free text or a reference
  remittance_with : (t : Element) → As profile proper Right 10 37 t
      → There (either_of (follow (48 ∷ 49 ∷ []) t) (follow (48 ∷ 50 ∷ 51 ∷ 55 ∷ []) t)) ↔ There (follow (48 ∷ []) t)
  unfolding EndsAs
  remittance_with t c = ((λ h. ⊎_elim (first_there 48 (49 ∷ []) t) (first_there 48 (50 ∷ 51 ∷ 55 ∷ []) t) (which_there h)), back)
    where
      back : There (follow (48 ∷ []) t) → There (either_of (follow (48 ∷ 49 ∷ []) t) (follow (48 ∷ 50 ∷ 51 ∷ 55 ∷ []) t))
      back h =
          let u = h.it in
          let d = follow_conforms profile Right proper.apart 10 37 (48 ∷ []) t u proper.to_remittance c h.is_it in
          let n = choice_there profile Right u d.0 37 (row_of profile 37 48) (49 ∷ 50 ∷ []) proper.free_or_reference d.1 in
          either_row profile proper Right (λ k. There (child k u)) n.1 n.2
          (λ free. either_there (inl (record { it = free.it; is_it = follow_on (48 ∷ []) (49 ∷ []) t u h.is_it (follow_one 49 u ∙ free.is_it) })))
          (λ group.
          let ref = (led_on 37 48 50 (51 ∷ 55 ∷ []) u proper.to_reference d).1 (record { it = group.it; is_it = follow_one 50 u ∙ group.is_it }) in
          either_there (inr (record { it = ref.it; is_it = follow_on (48 ∷ []) (50 ∷ 51 ∷ 55 ∷ []) t u h.is_it ref.is_it })))

  module _ (p : Payment) (c : PaymentAs profile proper Right p) where
    own_always : (j : ℕ) (js : List ℕ) → leads profile 10 37 (j ∷ js) ≡ true → There (in_payment (j ∷ js) p) ↔ There (in_payment (j ∷ []) p)
    unfolding in_payment
    own_always j js e = always 10 37 j js p.own e c.own_as

    block_always : (j : ℕ) (js : List ℕ) → leads profile 2 10 (j ∷ js) ≡ true → There (in_block (j ∷ js) p) ↔ There (in_block (j ∷ []) p)
    unfolding in_block
    block_always j js e = always 2 10 j js p.block e c.block_as

    own_on : (j : ℕ) (js : List ℕ) → among_texts (j ∷ js) payment_optional_routes ≡ true → There (in_payment (j ∷ js) p) ↔ There (in_payment (j ∷ []) p)
    unfolding in_payment
    own_on j js m = led_on 10 37 j js p.own (one_route (leads_on profile 10 37) payment_optional_routes proper.payment_leads_on (j ∷ js) m) c.own_as

    block_on : (j : ℕ) (js : List ℕ) → among_texts (j ∷ js) block_optional_routes ≡ true → There (in_block (j ∷ js) p) ↔ There (in_block (j ∷ []) p)
    unfolding in_block
    block_on j js m = led_on 2 10 j js p.block (one_route (leads_on profile 2 10) block_optional_routes proper.block_leads_on (j ∷ js) m) c.block_as

    pub pairs_with : EachWith (λ outer o. There o ↔ There outer) (outermost p) (pairs p)
    unfolding outermost pairs first_pairs last_pairs inherited in_payment among_texts same
    pairs_with =
        each_more (own_always 38 (40 ∷ []) (payment_route proper _ refl))
        (each_more (own_always 45 (27 ∷ 28 ∷ []) (payment_route proper _ refl))
        (each_more (own_always 44 (25 ∷ []) (payment_route proper _ refl))
        (each_more (either_with (own_on 34 (35 ∷ []) refl) (block_on 34 (35 ∷ []) refl))
        (each_more ((λ h. h), (λ h. h))
        (each_more (block_always 26 (27 ∷ 28 ∷ []) (block_route proper _ refl))
        (each_more (own_on 43 (30 ∷ 31 ∷ []) refl)
        (each_more (remittance_with p.own c.own_as) each_none)))))))
