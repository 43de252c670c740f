-- Two answers on a leaf that meet the contract are the same.
use Rattle.std.specs.Prelude.{Result, Ok, Err}
use Prim.Native.Nat.{ℕ}
use mathlib.Core.Path.{◌≡◌, refl, ap, sym, ◌∙◌}
use mathlib.Core.List.{List, []}
use native.Mathlib.Omega.{arith}
use Rattle.paper.specs.Form.{Head}
use Rattle.paper.specs.Rows.{Row, text, longest_of}
use Rattle.paper.specs.Refusals.{refuse}
use Rattle.paper.proofs.Laws.{number_of, offset_of}
use Rattle.leaf_values.specs.Judgements.{told, Judges}
use Rattle.leaf_values.specs.declared.Unfit.{Unfit}
use Rattle.leaf_values.specs.declared.Unfit.TheVariants.{EmptyOrTooLong, NotInTheSet, NotAllowed}

differ : {A : Type 0} {m n : ℕ} → (m ≡ n → ⊥) → m ≡ n → A
differ f e = absurd (f e)

told_one : (row : ℕ) (h : Head) (a b : Result Unit Unfit) → told row h a ≡ told row h b → a ≡ b
unfolding told refuse number_of offset_of
told_one row h (Ok _) (Ok _) e = refl
told_one row h (Ok _) (Err EmptyOrTooLong) e = differ (omega arith) (ap number_of e)
told_one row h (Ok _) (Err (NotInTheSet j)) e = differ (omega arith) (ap number_of e)
told_one row h (Ok _) (Err NotAllowed) e = differ (omega arith) (ap number_of e)
told_one row h (Err EmptyOrTooLong) (Ok _) e = differ (omega arith) (ap number_of e)
told_one row h (Err EmptyOrTooLong) (Err EmptyOrTooLong) e = refl
told_one row h (Err EmptyOrTooLong) (Err (NotInTheSet j)) e = differ (omega arith) (ap number_of e)
told_one row h (Err EmptyOrTooLong) (Err NotAllowed) e = differ (omega arith) (ap number_of e)
told_one row h (Err (NotInTheSet i)) (Ok _) e = differ (omega arith) (ap number_of e)
told_one row h (Err (NotInTheSet i)) (Err EmptyOrTooLong) e = differ (omega arith) (ap number_of e)
told_one row h (Err (NotInTheSet i)) (Err (NotInTheSet j)) e = ap (λ k. Err (NotInTheSet k)) (omega (arith, ap offset_of e))
told_one row h (Err (NotInTheSet i)) (Err NotAllowed) e = differ (omega arith) (ap number_of e)
told_one row h (Err NotAllowed) (Ok _) e = differ (omega arith) (ap number_of e)
told_one row h (Err NotAllowed) (Err EmptyOrTooLong) e = differ (omega arith) (ap number_of e)
told_one row h (Err NotAllowed) (Err (NotInTheSet j)) e = differ (omega arith) (ap number_of e)
told_one row h (Err NotAllowed) (Err NotAllowed) e = refl

-- a leaf of a row with this longest length, and an element with this currency
row_of_leaf : (row longest : ℕ) → Row
row_of_leaf row longest = record { row = row; under = 0; name = []; holds = text longest }

head_in : (currency : List ℕ) → Head
head_in currency = record { name = []; currency = currency; at = 0; start = 0; close = 0 }

pub one_judgement :
    (parent row longest : ℕ) (currency w : List ℕ) (a b : Result Unit Unfit) → Judges parent row longest currency w a →
    Judges parent row longest currency w b → a ≡ b
unfolding longest_of row_of_leaf head_in
one_judgement parent row longest currency w a b ja jb =
    let r = row_of_leaf row longest in
    let h = head_in currency in
    told_one row h a b (sym (ja.judged r h refl refl refl) ∙ jb.judged r h refl refl refl)
