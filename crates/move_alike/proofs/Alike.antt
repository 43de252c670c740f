-- Two elements that may be absent, compared by what is found of them; remittance, by its parts.
use Prim.Native.Nat.{ℕ}
use mathlib.Core.List.{List, ◌∷◌}
use mathlib.Core.Option.{Option, none, some}
use mathlib.Core.Bool.{Bool, true, false, not}
use mathlib.Core.Path.{◌≡◌, refl, sym, ap, ◌∙◌}
use lib.Dec.{eqb}
use lib.Pointwise.{pointwise}
use denote.Bor.{Bor}
use Rattle.std.specs.Prelude.{Some, None}
use Rattle.std.specs.Prelude as code
use Rattle.std.specs.Option.{MatchOption, is_some, option_eq, unwrap_or}
use Rattle.std.specs.Cmp.Lexicographic.{same_text, other_text}
use Rattle.paper.specs.Bytes.{same}
use Rattle.paper.specs.Form.{Element}
use Rattle.paper.specs.Values.{cents}
use Rattle.paper.specs.Payments.{Payment, text_of, child, in_payment}
use Rattle.paper.specs.Fields.{Value, absent, a_text, in_cents, text_value, text_value_or, cents_value, issuer_text, remittance_value, same_issuer, same_value}
use Rattle.paper.proofs.Laws.{false_not_true, some_not_none, same_tests, same_differs}
use Rattle.tree_routes.specs.Finds.{Finds, found_at, found_nothing, onward}
use Rattle.tree_routes.proofs.Laws.{follow_step}

-- The code's test of two texts is the rules' test.
pointwise_same : (v w : List ℕ) → pointwise eqb v w ≡ same v w
pointwise_same v w = go (pointwise eqb v w) refl
  where
    go : (r : Bool) → r ≡ pointwise eqb v w → r ≡ same v w
    go true e = rw (same_text v w e) (sym (same_tests w))
    go false e = sym (same_differs v w (other_text v w e))

-- what is said of a text or of cents, where there are some
abbrev pub IsText : Value → code.Option (Bor (List ℕ)) → Type 0
IsText x v = MatchOption v (x ≡ absent) (λ w. x ≡ a_text w.now)

abbrev pub IsCents : Value → code.Option ℕ → Type 0
IsCents x v = MatchOption v (x ≡ absent) (λ n. x ≡ in_cents n)

pub no_text : {o : Option Element} → o ≡ none → text_value o ≡ absent
unfolding text_value
no_text e = rw e

pub a_text_there : {o : Option Element} {t : Element} {w : List ℕ} → o ≡ some t → w ≡ text_of t → text_value o ≡ a_text w
unfolding text_value
a_text_there e p = rw (e, p)

pub no_cents : {o : Option Element} → o ≡ none → cents_value o ≡ absent
unfolding cents_value
no_cents e = rw e

pub cents_there : {o : Option Element} {t : Element} {n : ℕ} → o ≡ some t → n ≡ cents (text_of t) → cents_value o ≡ in_cents n
unfolding cents_value
cents_there e p = rw (e, p)

pub texts_alike : (x y : Value) (v w : code.Option (Bor (List ℕ))) → IsText x v → IsText y w
    → option_eq (λ (a b : Bor (List ℕ)). pointwise eqb a.now b.now) v w ≡ same_value x y
unfolding same_value
texts_alike x y None None p q = sym (rw (p, q))
texts_alike x y None (Some b) p q = sym (rw (p, q))
texts_alike x y (Some a) None p q = sym (rw (p, q))
texts_alike x y (Some a) (Some b) p q = rw (p, q) (pointwise_same a.now b.now)

pub cents_alike : (x y : Value) (v w : code.Option ℕ) → IsCents x v → IsCents y w → option_eq eqb v w ≡ same_value x y
unfolding same_value
cents_alike x y None None p q = sym (rw (p, q))
cents_alike x y None (Some n) p q = sym (rw (p, q))
cents_alike x y (Some m) None p q = sym (rw (p, q))
cents_alike x y (Some m) (Some n) p q = sym (rw (p, q))

-- a text, or what its absence means
pub text_or : (o : Option Element) (v : code.Option (Bor (List ℕ))) (otherwise : Bor (List ℕ)) → IsText (text_value o) v
    → text_value_or otherwise.now o ≡ a_text (unwrap_or v otherwise).now
unfolding text_value text_value_or
text_or none None otherwise p = refl
text_or none (Some w) otherwise p = cc
text_or (some t) None otherwise p = cc
text_or (some t) (Some w) otherwise p = p

pub given_alike : {x y : Value} (a b : List ℕ) {r : Bool} → r ≡ pointwise eqb a b → x ≡ a_text a → y ≡ a_text b → r ≡ same_value x y
unfolding same_value
given_alike a b e p q = rw (p, q) (e ∙ pointwise_same a b)

-- remittance
same_issuers : (i j : Option Element) → same_issuer (issuer_text i) (issuer_text j) ≡ same_value (text_value i) (text_value j)
unfolding same_issuer issuer_text text_value same_value
same_issuers none none = refl
same_issuers none (some u) = refl
same_issuers (some t) none = refl
same_issuers (some t) (some u) = refl

module _ (i j : Option Element) where
  pub references_differ : (r q : Option Element) {x : Bool} → x ≡ same_value (text_value r) (text_value q) → x ≡ false
      → false ≡ same_value (remittance_value none i r) (remittance_value none j q)
  unfolding text_value same_value remittance_value
  references_differ none none e d = false_not_true (sym d ∙ e)
  references_differ none (some u) e d = refl
  references_differ (some t) none e d = refl
  references_differ (some t) (some u) e d = let y : same (text_of t) (text_of u) ≡ false = sym e ∙ d in sym (rw y)

  pub no_reference : (r q : Option Element) {x : Bool} → x ≡ same_value (text_value r) (text_value q) → x ≡ true → r ≡ none
      → true ≡ same_value (remittance_value none i r) (remittance_value none j q)
  unfolding text_value same_value remittance_value
  no_reference none none e d p = refl
  no_reference none (some u) e d p = false_not_true (sym e ∙ d)
  no_reference (some t) q e d p = some_not_none p

  pub references_agree : (r q : Option Element) {x y : Bool} → x ≡ same_value (text_value r) (text_value q) → x ≡ true → (r ≡ none → ⊥)
      → y ≡ same_value (text_value i) (text_value j) → y ≡ same_value (remittance_value none i r) (remittance_value none j q)
  unfolding text_value same_value remittance_value
  references_agree none q e d n h = absurd (n refl)
  references_agree (some t) none e d n h = false_not_true (sym e ∙ d)
  references_agree (some t) (some u) e d n h =
      let z : same (text_of t) (text_of u) ≡ true = sym e ∙ d in
      h ∙ sym (rw z (same_issuers i j))

  -- with a free text, remittance is that text
  pub a_free_text : (r q f g : Option Element) {x : Bool} → (f ≡ none → g ≡ none → ⊥) → x ≡ same_value (text_value f) (text_value g)
      → x ≡ same_value (remittance_value f i r) (remittance_value g j q)
  unfolding text_value same_value remittance_value
  a_free_text r q none none n e = absurd (n refl refl)
  a_free_text r q (some t) (some u) n e = e
  a_free_text r none (some t) none n e = e
  a_free_text r (some u) (some t) none n e = e
  a_free_text none q none (some u) n e = e
  a_free_text (some t) q none (some u) n e = e

  pub not_free : (r q f g : Option Element) {x : Bool} → f ≡ none → g ≡ none → x ≡ same_value (remittance_value none i r) (remittance_value none j q)
      → x ≡ same_value (remittance_value f i r) (remittance_value g j q)
  not_free r q f g p d e = rw (p, d) e

-- where none stands, none is found
pub none_found : {s tree : List ℕ} {o : Option Element} {f : code.Option ℕ} → Finds s tree o f → o ≡ none → f ≡ None
none_found (found_at l) e = some_not_none e
none_found found_nothing e = refl

pub none_there : {s tree : List ℕ} {o : Option Element} {f : code.Option ℕ} {x : Bool} → Finds s tree o f → is_some f ≡ not x → x ≡ true → o ≡ none
none_there (found_at l) e d = cc (ap not d)
none_there found_nothing e d = refl

pub one_there : {s tree : List ℕ} {o : Option Element} {f : code.Option ℕ} {x : Bool} → Finds s tree o f → is_some f ≡ not x → x ≡ false → o ≡ none → ⊥
one_there (found_at l) e d n = some_not_none n
one_there found_nothing e d n = cc (ap not d)

-- a route in the payment, from the first child of its first row's name
pub in_payment_found : (k : ℕ) (ks : List ℕ) (p : Payment) {s tree : List ℕ} {found : code.Option ℕ} → Finds s tree (onward ks (child k p.own)) found
    → Finds s tree (in_payment (k ∷ ks) p) found
unfolding in_payment
in_payment_found k ks p f = rw (follow_step k ks p.own) f
