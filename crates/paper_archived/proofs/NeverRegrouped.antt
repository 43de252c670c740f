-- A payment whose agent was not provided: row 32 stands under no agent of a message that is accepted as new, so that payment equals none of the second's, and is in no regrouping.
use Prim.Native.Nat.{ℕ, suc}
use mathlib.Core.List.{List, ◌∷◌, Memᴰ}
use mathlib.Core.Path.{◌≡◌, refl, sym, ap, ◌∙◌, subst}
use lib.ListN.{get_or}
use Rattle.paper.specs.Rows.{Profile, as_new}
use Rattle.paper.specs.Payments.{Payment, payments}
use Rattle.paper.specs.Fields.{Value, absent, values_of}
use Rattle.paper.specs.Accepted.{EachWith, each_none, each_more, Accepted}
use Rattle.paper.specs.Regrouping.{At, at_first, at_later, Regroups}
use Rattle.paper_acceptance.proofs.Proper.{Proper, new_proper}
use Rattle.paper_pairing.proofs.Regroups.{at_within}
use Rattle.paper_archived.proofs.NotProvided.{AgentNotProvided, not_provided, always_provided}

-- the place of one of a list; what a list is paired with
place_of : {A : Type 0} {a : A} {l : List A} → Memᴰ a l → (k : ℕ) × At l k a
place_of (Memᴰ.head {x = b} {xs = l} e) = (0, subst (λ c. At (b ∷ l) 0 c) (sym e) at_first)
place_of (Memᴰ.tail m) = let k = place_of m in (suc k.0, at_later k.1)

one_place : {A : Type 0} {a b : A} {l : List A} {k : ℕ} → At l k a → At l k b → a ≡ b
one_place at_first at_first = refl
one_place (at_later h) (at_later k) = one_place h k

paired_with : {A B : Type 0} {R : A → B → Type 0} {l : List A} {m : List B} {a : A} → EachWith R l m → Memᴰ a l → (b : B) × Memᴰ b m × R a b
paired_with {R = R} (each_more {b = b} r h) (Memᴰ.head e) = (b, Memᴰ.head refl, subst (λ c. R c b) (sym e) r)
paired_with (each_more r h) (Memᴰ.tail i) = let q = paired_with h i in (q.0, Memᴰ.tail q.1, q.2)
paired_with each_none m = elim m [ ]

module _ (profile : Profile) (proper : Proper profile) where
  -- row 32 stands under no agent
  pub never_withdrawn : (s : List ℕ) (m : Accepted (as_new profile) s) {q : Payment} → Memᴰ q (payments m.root) → AgentNotProvided q → ⊥
  never_withdrawn s m i n = always_provided profile proper s m i (not_provided (as_new profile) (new_proper proper) s m i n)

  -- A payment whose agent was not provided equals none of the second's.
  pub equals_none : (first second : List ℕ) (a : Accepted profile first) (b : Accepted (as_new profile) second) {p q : Payment} → Memᴰ p (payments a.root) → AgentNotProvided p
      → Memᴰ q (payments b.root) → values_of p ≡ values_of q → ⊥
  equals_none first second a b i n j e =
      always_provided profile proper second b j (sym (ap (λ (l : List Value). get_or l 6 absent) e) ∙ not_provided profile proper first a i n)

  -- So no message with such a payment is regrouped.
  pub all_provided : (first second file : List ℕ) (r : Regroups profile first second file) {p : Payment} → Memᴰ p (payments r.first_accepted.root) → AgentNotProvided p → ⊥
  all_provided first second file r {p} i n =
      let k = place_of i in
      let q = paired_with r.paired (r.every_payment k.0 (at_within k.1)) in
      let e : p ≡ q.2.one = one_place k.1 q.2.is_named in
      equals_none first second r.first_accepted r.second_accepted i n q.1 (ap values_of e ∙ q.2.equal)
