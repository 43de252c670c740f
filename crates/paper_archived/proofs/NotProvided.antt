-- A payment whose agent was not provided equals none of a message that is accepted as new: there the agent is a BIC, which is never NOTPROVIDED.
use Rattle.std.specs.Prelude.{if◌then◌else◌}
use Prim.Native.Nat.{ℕ}
use native.Mathlib.Omega.{arith}
use mathlib.Core.List.Memᴰ
use mathlib.Core.List.{List, [], ◌∷◌, Memᴰ}
use mathlib.Core.Bool.{Bool, true, false, ◌||◌}
use mathlib.Core.Option.{Option, none, some}
use mathlib.Core.Path.{◌≡◌, refl, sym, ap, ◌∙◌, subst}
use mathlib.Core.Logic.{⊎_elim}
use borrow.Author.Tests.{not-true}
use lib.ListN.{get_or}
use Rattle.paper.specs.Bytes.{bytes, same}
use Rattle.paper.specs.Form.{Head, Element, Elements, holding_text, holding_elements, []ᵉ, ◌∷ᵉ◌}
use Rattle.paper.specs.Rows.{either, Row, leaf, group, group_under, rows, instant_changes, every_row, Profile, for_new, as_new, name_in, name, row_of, head_of, Arranged, end, chosen, Conforms, Conform}
use Rattle.paper.specs.Values.{among, shaped, bic, right_for}
use Rattle.paper.specs.Payments.{Payment, text_of, listed, children, all_named, all_of, child, follow, payments, in_block, either_of}
use Rattle.paper.specs.Refusals.{rows_at, among_texts}
use Rattle.paper.specs.Fields.{Value, absent, a_text, text_value, plain, or_means, amount_field, remittance, fields, values_of}
use Rattle.paper.specs.Accepted.{There, RightText, RightElement, ValuesRight, Accepted}
use Rattle.paper.proofs.Laws.{false_not_true, some_not_none, both_right, same_says, same_tests, same_differs, all_member}
use Rattle.paper_acceptance.proofs.Arranged.{rows_of}
use Rattle.paper_acceptance.proofs.Routes.{takes, step, choice_there, right_conforms, StandsAs, EndsAs}
use Rattle.paper_acceptance.proofs.Proper.{Proper, new_proper, block_route, bic_or_not}
use Rattle.paper_acceptance.proofs.Present.{As, payments_as, stands, ends_as, follow_joined}
use Rattle.paper_acceptance.proofs.RightValues.{right_value, leaf_text}
use Rattle.paper_archived.proofs.AsBefore.{row_is}

-- what field 7 comes to
abbrev agent_value : Element → Value
agent_value b = text_value (either_of (follow (29 ∷ 30 ∷ 31 ∷ []) b) (follow (29 ∷ 30 ∷ 32 ∷ 33 ∷ []) b))

field_7 : (p : Payment) → get_or (values_of p) 6 absent ≡ agent_value p.block
unfolding values_of fields plain or_means amount_field remittance in_block
field_7 p = refl

-- the debtor's agent of a payment was not provided: row 32 stands there
unfoldable pub AgentNotProvided : Payment → Type 0
AgentNotProvided p = There (in_block (29 ∷ 30 ∷ 32 ∷ []) p)

-- right texts of rows 31 and 33
a_bic : {h : Head} {w : List ℕ} → RightText 30 (leaf 31 "BICFI" 11) h w → w ≡ bytes "NOTPROVIDED" → ⊥
unfolding right_for leaf bytes among bic
a_bic {h} {w} r e =
    let b : bic w ≡ true = right_value _ _ _ w r.value in
    let n = not-true (same w (bytes "NOTPROVIDED")) (both_right (shaped "XXXXAAXX" w || shaped "XXXXAAXXXXX" w) _ b) in
    false_not_true (sym n ∙ ap (λ (v : List ℕ). same v (bytes "NOTPROVIDED")) e ∙ same_tests (bytes "NOTPROVIDED"))

the_word : {h : Head} {w : List ℕ} → RightText 32 (leaf 33 "Id" 35) h w → w ≡ bytes "NOTPROVIDED"
unfolding right_for leaf bytes among
the_word {h} {w} r = same_says w (bytes "NOTPROVIDED") (right_value _ _ _ w r.value)

-- An agent is one of two: where row 32 stands, row 31 does not.
names_differ : name 32 ≡ name 31 → ⊥
unfolding name name_in every_row rows instant_changes leaf group group_under bytes same
names_differ e = false_not_true (ap (λ (w : List ℕ). same w (name 31)) e)

one_chosen : {ks : List ℕ} → Arranged (either (31 ∷ 32 ∷ []) ∷ []) ks → (k : ℕ) × (ks ≡ k ∷ [])
one_chosen (chosen {k = k} m end) = (k, refl)

module _ (profile : Profile) (Right : (holder : Option Element) (parent : ℕ) → Row → Element → Type 0) where
  none_behind : (ts : Elements) (holder : Element) (row : ℕ) → Conform profile Right ts holder row [] → ts ≡ []ᵉ
  unfolding Conforms
  none_behind []ᵉ holder row c = refl
  none_behind (t ∷ᵉ ts) holder row c = absurd c

  one_child : (t : Element) (ts : Elements) (holder : Element) (row k : ℕ) → Conform profile Right (t ∷ᵉ ts) holder row (k ∷ []) → ts ≡ []ᵉ
  unfolding Conforms
  one_child t ts holder row k c = none_behind ts holder row c.2

  no_bic : (t : Element) (holder : Option Element) (u : Element)
      → Conforms profile Right t holder 29 (group_under 29 30 "FinInstnId" (either (31 ∷ 32 ∷ []) ∷ [])) → child 32 t ≡ some u → child 31 t ≡ none
  unfolding Conforms child all_of children all_named listed group_under
  no_bic (holding_text h w) holder u c e = refl
  no_bic (holding_elements h []ᵉ) holder u c e = refl
  no_bic (holding_elements h (t ∷ᵉ ts)) holder u c e = go ts alone (same (head_of t).name (name 32)) refl e
    where
      alone : ts ≡ []ᵉ
      alone =
          let k = one_chosen c.2 in
          one_child t ts (holding_elements h (t ∷ᵉ ts)) 30 k.0 (subst (λ (ks : List ℕ). Conform profile Right (t ∷ᵉ ts) (holding_elements h (t ∷ᵉ ts)) 30 ks) k.1 c.3)

      go : (us : Elements) → us ≡ []ᵉ → (b : Bool) → same (head_of t).name (name 32) ≡ b
          → ◌≡◌ {A = Option Element} (elim (if b then t ∷ all_named 32 (listed us) else all_named 32 (listed us)) [ [] ↦ none | v ∷ vs ↦ some v ]) (some u)
          → ◌≡◌ {A = Option Element}
          (elim (if same (head_of t).name (name 31) then t ∷ all_named 31 (listed us) else all_named 31 (listed us)) [ [] ↦ none | v ∷ vs ↦ some v ]) none
      go (v ∷ᵉ us) p b q e = let z : ◌≡◌ {A = ℕ} 0 1 = cc in absurd (omega (arith, z))
      go []ᵉ p false q e = some_not_none (sym e)
      go []ᵉ p true q e = rw (same_differs (head_of t).name (name 31) (λ f. names_differ (sym (same_says (head_of t).name (name 32) q) ∙ f)))

module _ (profile : Profile) (proper : Proper profile) where
  abbrev Right : (holder : Option Element) (parent : ℕ) → Row → Element → Type 0
  Right = RightElement profile.withdrawn

  -- the debtor's agent of a block, and what stands in it
  record Agent (b : Element) : Type 0 where
    it : Element
    is_it : follow (29 ∷ 30 ∷ []) b ≡ some it
    stands_as : StandsAs profile Right 29 30 it

  agent : (b : Element) → As profile proper Right 2 10 b → Agent b
  unfolding EndsAs among_texts same
  agent b c =
      let u = stands profile proper Right 2 10 (29 ∷ 30 ∷ []) b (block_route proper _ refl) c in
      record { it = u.it; is_it = u.is_it; stands_as = ends_as profile proper Right 2 10 (29 ∷ 30 ∷ []) b u.it (block_route proper _ refl) c u.is_it }

  module _ (b : Element) (a : Agent b) where
    in_agent : (k : ℕ) {o : Option Element} → child k a.it ≡ o → follow (29 ∷ 30 ∷ k ∷ []) b ≡ o
    in_agent k e = follow_joined (29 ∷ 30 ∷ []) k b a.it a.is_it e

    child_as : (k : ℕ) (u : Element) → among k (31 ∷ 32 ∷ []) ≡ true → child k a.it ≡ some u → StandsAs profile Right 30 k u
    unfolding takes rows_of rows_at group_under
    child_as k u m e = step profile Right proper.apart 29 30 k a.it u (rw proper.agent_is m) a.stands_as e

    -- Row 32 stands there: field 7 is NOTPROVIDED.
    says_so : (u : Element) → child 32 a.it ≡ some u → agent_value b ≡ a_text (bytes "NOTPROVIDED")
    unfolding among EndsAs leaf text_value either_of follow
    says_so u e =
        let none_there = no_bic profile Right a.it a.stands_as.0 u (subst (λ (r : Row). Conforms profile Right a.it a.stands_as.0 29 r) proper.agent_is a.stands_as.1) e in
        let v = stands profile proper Right 30 32 (33 ∷ []) u proper.not_provided (child_as 32 u refl e) in
        let d = ends_as profile proper Right 30 32 (33 ∷ []) u v.it proper.not_provided (child_as 32 u refl e) v.is_it in
        let right = leaf_text profile proper v.it 32 (row_of profile 32 33) 35 (ap (λ (r : Row). r.holds) proper.not_provided_is) d in
        let word = the_word (subst (λ (r : Row). RightText 32 r (head_of v.it) (text_of v.it)) proper.not_provided_is right) in
        rw (in_agent 31 none_there, follow_joined (29 ∷ 30 ∷ 32 ∷ []) 33 b u (in_agent 32 e) (sym (follow_joined [] 33 u u refl refl) ∙ v.is_it), word)

    -- It does not: field 7 is a BIC.
    a_bic_there : (u : Element) → child 31 a.it ≡ some u → agent_value b ≡ a_text (bytes "NOTPROVIDED") → ⊥
    unfolding among leaf text_value either_of
    a_bic_there u e f =
        let right = leaf_text profile proper u 30 (row_of profile 30 31) 11 (ap (λ (r : Row). r.holds) proper.bic_is) (child_as 31 u refl e) in
        let is_text : a_text (text_of u) ≡ a_text (bytes "NOTPROVIDED") = rw (in_agent 31 e) at f in
        a_bic (subst (λ (r : Row). RightText 30 r (head_of u) (text_of u)) proper.bic_is right) cc

    provided : ((u : Element) → child 32 a.it ≡ some u → ⊥) → agent_value b ≡ a_text (bytes "NOTPROVIDED") → ⊥
    provided none_there f =
        let n = choice_there profile Right a.it a.stands_as.0 29 (row_of profile 29 30) (31 ∷ 32 ∷ []) (bic_or_not proper) a.stands_as.1 in
        ⊎_elim (λ e. here (subst (λ (k : ℕ). There (child k a.it)) e n.2))
        (λ m. other (subst (λ (k : ℕ). There (child k a.it)) (Memᴰ.eq_of_singleton m) n.2)) (Memᴰ.cases_cons n.1)
      where
        here : There (child 31 a.it) → ⊥
        here t = a_bic_there t.it t.is_it f

        other : There (child 32 a.it) → ⊥
        other t = none_there t.it t.is_it

  -- of an accepted message's payments
  pub not_provided : (s : List ℕ) (m : Accepted profile s) {p : Payment} → Memᴰ p (payments m.root) → AgentNotProvided p → get_or (values_of p) 6 absent ≡ a_text (bytes "NOTPROVIDED")
  unfolding AgentNotProvided ValuesRight in_block
  not_provided s m {p} i h =
      let c = all_member (payments_as profile proper Right m.root (none, m.tree.but_counts.values)) i in
      let a = agent p.block c.block_as in
      field_7 p ∙ says_so p.block a h.it (sym (in_agent p.block a 32 refl) ∙ h.is_it)

-- in a message that is accepted as new
module _ (profile : Profile) (proper : Proper profile) where
  none_withdrawn : (b : Element) (a : Agent (as_new profile) (new_proper proper) b) (u : Element) → child 32 a.it ≡ some u → ⊥
  unfolding as_new for_new among row_of
  none_withdrawn b a u e =
      let d = child_as (as_new profile) (new_proper proper) b a 32 u refl e in
      (right_conforms (as_new profile) (RightElement (32 ∷ [])) u d.0 30 (row_of (as_new profile) 30 32) d.1).not_withdrawn (Memᴰ.head (row_is profile.rows 30 32))

  pub always_provided : (s : List ℕ) (m : Accepted (as_new profile) s) {q : Payment} → Memᴰ q (payments m.root)
      → get_or (values_of q) 6 absent ≡ a_text (bytes "NOTPROVIDED") → ⊥
  unfolding ValuesRight
  always_provided s m {q} i e =
      let c = all_member (payments_as (as_new profile) (new_proper proper) (RightElement (as_new profile).withdrawn) m.root (none, m.tree.but_counts.values)) i in
      let a = agent (as_new profile) (new_proper proper) q.block c.block_as in
      provided (as_new profile) (new_proper proper) q.block a (none_withdrawn q.block a) (sym (field_7 q) ∙ e)
