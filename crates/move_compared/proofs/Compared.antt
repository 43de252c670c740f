-- The fields of two payments, compared by what is found of them.
use Prim.Native.Nat.{ℕ, zero, suc, ◌+◌, ◌-◌, ◌<◌, ◌≤◌}
use native.Mathlib.Omega.{arith}
use mathlib.Core.List.{List}
use mathlib.Core.Option.{Option, none, some}
use mathlib.Core.Bool.{Bool, true, false}
use mathlib.Core.Path.{◌≡◌, refl, sym, ap, ◌∙◌}
use lib.ListN.{length, get_or, drop}
use lib.Seq.{drop-cons}
use Rattle.paper.specs.Bytes.{bytes}
use Rattle.paper.specs.Payments.{Payment}
use Rattle.paper.specs.Fields.{Value, absent, text_value, text_value_or, cents_value, remittance_value, plain, or_means, amount_field, remittance, fields, same_value, field_element, values_of, differ_from}
use Rattle.tree_leaves.specs.Readable.{ReadMoney}
use Rattle.move_alike.specs.Alike.{free_of, issuer_of, reference_of, amount_in}
use Rattle.move_compared.specs.Compared.{value_at}
use Rattle.paper.specs.Answers.{perhaps}
use Rattle.std.specs.Prelude.{Some, None}
use Rattle.std.specs.Prelude as code

-- each of the seventeen fields
plain_value : (p : Payment) (k : ℕ) → k < 17 → (k ≡ 0 → ⊥) → (k ≡ 1 → ⊥) → (k ≡ 10 → ⊥) → (k ≡ 16 → ⊥)
    → get_or (values_of p) k absent ≡ text_value (field_element (suc k) p)
unfolding values_of field_element fields plain or_means amount_field remittance
plain_value p zero h a b c d = absurd (a refl)
plain_value p (suc zero) h a b c d = absurd (b refl)
plain_value p (suc (suc zero)) h a b c d = refl
plain_value p (suc (suc (suc zero))) h a b c d = refl
plain_value p (suc (suc (suc (suc zero)))) h a b c d = refl
plain_value p (suc (suc (suc (suc (suc zero))))) h a b c d = refl
plain_value p (suc (suc (suc (suc (suc (suc zero)))))) h a b c d = refl
plain_value p (suc (suc (suc (suc (suc (suc (suc zero))))))) h a b c d = refl
plain_value p (suc (suc (suc (suc (suc (suc (suc (suc zero)))))))) h a b c d = refl
plain_value p (suc (suc (suc (suc (suc (suc (suc (suc (suc zero))))))))) h a b c d = refl
plain_value p (suc (suc (suc (suc (suc (suc (suc (suc (suc (suc zero)))))))))) h a b c d = absurd (c refl)
plain_value p (suc (suc (suc (suc (suc (suc (suc (suc (suc (suc (suc zero))))))))))) h a b c d = refl
plain_value p (suc (suc (suc (suc (suc (suc (suc (suc (suc (suc (suc (suc zero)))))))))))) h a b c d = refl
plain_value p (suc (suc (suc (suc (suc (suc (suc (suc (suc (suc (suc (suc (suc zero))))))))))))) h a b c d = refl
plain_value p (suc (suc (suc (suc (suc (suc (suc (suc (suc (suc (suc (suc (suc (suc zero)))))))))))))) h a b c d = refl
plain_value p (suc (suc (suc (suc (suc (suc (suc (suc (suc (suc (suc (suc (suc (suc (suc zero))))))))))))))) h a b c d = refl
plain_value p (suc (suc (suc (suc (suc (suc (suc (suc (suc (suc (suc (suc (suc (suc (suc (suc zero)))))))))))))))) h a b c d = absurd (d refl)
plain_value p (suc (suc (suc (suc (suc (suc (suc (suc (suc (suc (suc (suc (suc (suc (suc (suc (suc k))))))))))))))))) h a b c d = absurd (omega arith)

pub amount_element : (p : Payment) {field : ℕ} → field ≡ 11 → ReadMoney (amount_in p) → ReadMoney (field_element field p)
unfolding field_element fields plain or_means amount_field remittance
amount_element p e m = rw e m

module _ (p q : Payment) {field : ℕ} {r : Bool} where
  pub batch_field : field ≡ 1 → r ≡ same_value (text_value_or (bytes "true") (field_element field p)) (text_value_or (bytes "true") (field_element field q))
      → r ≡ same_value (value_at field p) (value_at field q)
  unfolding values_of field_element fields plain or_means amount_field remittance
  batch_field f e = rw f (rw f at e)

  pub priority_field : field ≡ 2 → r ≡ same_value (text_value_or (bytes "NORM") (field_element field p)) (text_value_or (bytes "NORM") (field_element field q))
      → r ≡ same_value (value_at field p) (value_at field q)
  unfolding values_of field_element fields plain or_means amount_field remittance
  priority_field f e = rw f (rw f at e)

  pub cents_field : field ≡ 11 → r ≡ same_value (cents_value (field_element field p)) (cents_value (field_element field q))
      → r ≡ same_value (value_at field p) (value_at field q)
  unfolding values_of field_element fields plain or_means amount_field remittance
  cents_field f e = rw f (rw f at e)

  pub remittance_field : field ≡ 17
      → r ≡ same_value (remittance_value (free_of p) (issuer_of p) (reference_of p)) (remittance_value (free_of q) (issuer_of q) (reference_of q))
      → r ≡ same_value (value_at field p) (value_at field q)
  unfolding values_of fields plain or_means amount_field remittance
  remittance_field f e = rw f e

  pub plain_field : 1 ≤ field → field ≤ 17 → (field ≡ 17 → ⊥) → (field ≡ 1 → ⊥) → (field ≡ 2 → ⊥) → (field ≡ 11 → ⊥)
      → r ≡ same_value (text_value (field_element field p)) (text_value (field_element field q)) → r ≡ same_value (value_at field p) (value_at field q)
  plain_field h k a b c d e =
      let s : suc (field - 1) ≡ field = omega arith in
      let v : (x : Payment) → get_or (values_of x) (field - 1) absent ≡ text_value (field_element field x) =
      λ x. plain_value x (field - 1) (omega arith) (λ z. b (omega arith)) (λ z. c (omega arith)) (λ z. d (omega arith)) (λ z. a (omega arith))
      ∙ ap (λ (n : ℕ). text_value (field_element n x)) s in
      e ∙ sym (both_values (v p) (v q))
    where
      both_values : {v w x y : Value} → v ≡ x → w ≡ y → same_value v w ≡ same_value x y
      both_values p q = cc

-- the fields from one on
differ_goes : (n i : ℕ) (vs ws : List Value) → i < length vs → i < length ws → same_value (get_or vs i absent) (get_or ws i absent) ≡ true
    → differ_from n (drop i vs) (drop i ws) ≡ differ_from (suc n) (drop (suc i) vs) (drop (suc i) ws)
unfolding differ_from
differ_goes n i vs ws h k e = rw (drop-cons vs i absent h, drop-cons ws i absent k, e)

differ_stops : (n i : ℕ) (vs ws : List Value) → i < length vs → i < length ws → same_value (get_or vs i absent) (get_or ws i absent) ≡ false
    → differ_from n (drop i vs) (drop i ws) ≡ some n
unfolding differ_from
differ_stops n i vs ws h k e = rw (drop-cons vs i absent h, drop-cons ws i absent k, e)

seventeen : (p : Payment) → length (values_of p) ≡ 17
unfolding values_of fields
seventeen p = refl

abbrev pub from_field : (field : ℕ) → Payment → Payment → Option ℕ
from_field field p q = differ_from field (drop (field - 1) (values_of p)) (drop (field - 1) (values_of q))

module _ (p q : Payment) (field : ℕ) {r : Bool} (low : 1 ≤ field) (high : field < 18) (e : r ≡ same_value (value_at field p) (value_at field q)) where
  pub field_agrees : r ≡ true → from_field field p q ≡ from_field (field + 1) p q
  field_agrees d =
      let x : suc field ≡ field + 1 = omega arith in
      let y : suc (field - 1) ≡ field + 1 - 1 = omega arith in
      differ_goes field (field - 1) (values_of p) (values_of q) (omega (arith, seventeen p)) (omega (arith, seventeen q)) (sym e ∙ d)
      ∙ moved x y
    where
      moved : {m n i j : ℕ} → m ≡ n → i ≡ j
          → differ_from m (drop i (values_of p)) (drop i (values_of q)) ≡ differ_from n (drop j (values_of p)) (drop j (values_of q))
      moved x y = cc

  pub field_differs : r ≡ false → some field ≡ from_field field p q
  field_differs d =
      sym (differ_stops field (field - 1) (values_of p) (values_of q) (omega (arith, seventeen p)) (omega (arith, seventeen q)) (sym e ∙ d))

pub no_field_differs : (p q : Payment) {field : ℕ} → field ≡ 18 → none ≡ from_field field p q
unfolding values_of fields differ_from
no_field_differs p q e = rw e

-- Two answers that meet `differing`'s contract agree.
field_by : Option ℕ → code.Option ℕ
field_by none = None
field_by (some field) = Some field

field_again : (f : code.Option ℕ) → field_by (perhaps f) ≡ f
unfolding field_by perhaps
field_again None = refl
field_again (Some field) = refl

pub one_field : (f g : code.Option ℕ) → perhaps f ≡ perhaps g → f ≡ g
one_field f g e = sym (field_again f) ∙ ap field_by e ∙ field_again g
