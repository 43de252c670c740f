-- The point, and money by where it stands.
use Rattle.std.specs.Prelude.{if◌then◌else◌}
use Prim.Native.Nat.{ℕ, suc, ◌+◌, ◌*◌, ◌-◌, ◌<◌, ◌≤◌}
use mathlib.Core.Path.{◌≡◌, refl, ap, sym, subst, ◌∙◌}
use mathlib.Core.List.{List, [], ◌∷◌, ◌++◌}
use mathlib.Core.Bool.{Bool, true, false, cond, ◌&&◌}
use native.Mathlib.Numerals.{add-one}
use native.Mathlib.Omega.{arith}
use lib.ListN.{length, get_or, take, drop, length-take}
use lib.Seq.{take_all}
use lib.Dec.{eqb}
use Rattle.std.specs.Prelude.{Option, Some, None}
use Rattle.std.specs.Option.{is_some, MatchOption}
use Rattle.std.specs.List.{position_or_len}
use Rattle.std.proofs.lemmas.List.Recursion.{is_position_or_len}
use Rattle.paper.specs.Bytes.{is, same, bytes}
use Rattle.paper.specs.Values.{number_after, number, digits, lies_from, amount, before_point, behind_point, money, cents}
use Rattle.leaf_numbers.specs.Readings.{as_count, in_cents}
use Rattle.leaf_texts.proofs.Laws.{drop_end, rest_is, same_is, same_refl, pairwise-length}

-- where the point stands
pub point_is : (w : List ℕ) → length (before_point w) ≡ position_or_len (λ b. eqb b 46) w
unfolding before_point is
point_is = is_position_or_len (λ w. length (before_point w)) (λ b. eqb b 46) refl (λ b w. by (eqb b 46) b w)
  where
    by : (c : Bool) (b : ℕ) (w : List ℕ) → length (if c then [] else b ∷ before_point w) ≡ cond c 0 (1 + length (before_point w))
    by true b w = refl
    by false b w = omega arith

-- the texts before and behind the point, by where it stands
before_is : (w : List ℕ) → before_point w ≡ take (length (before_point w)) w
unfolding before_point
before_is [] = refl
before_is (b ∷ w) = by (is "." b) (before_is w)
  where
    by :
        (c : Bool) → before_point w ≡ take (length (before_point w)) w →
        (if c then [] else b ∷ before_point w) ≡ take (length (if c then [] else b ∷ before_point w)) (b ∷ w)
    by true e = refl
    by false e = ap (λ (v : List ℕ). b ∷ v) e

pub point_within : (w : List ℕ) → length (before_point w) ≤ length w
point_within w = omega (arith, ap length (before_is w), length-take (length (before_point w)) w)

behind_is : (w : List ℕ) → behind_point w ≡ drop (suc (length (before_point w))) w
unfolding before_point behind_point
behind_is [] = refl
behind_is (b ∷ w) = by (is "." b) (behind_is w)
  where
    by :
        (c : Bool) → behind_point w ≡ drop (suc (length (before_point w))) w →
        (if c then w else behind_point w) ≡ drop (length (if c then [] else b ∷ before_point w)) w
    by true e = refl
    by false e = e

-- where the text before the point is as long as the whole, there is none
pub no_point : (w : List ℕ) → length w ≡ length (before_point w) → behind_point w ≡ []
no_point w e = behind_is w ∙ drop_end w (suc (length (before_point w))) (omega arith)

-- the two digits behind the point, by how many there are
pub hundredths_none : (s : List ℕ) → length s ≡ 0 → number (take 2 (s ++ bytes "00")) ≡ 0
unfolding number number_after bytes
hundredths_none [] e = refl
hundredths_none (b ∷ s) e = absurd (omega arith)

pub hundredths_one : (s : List ℕ) → length s ≡ 1 → number (take 2 (s ++ bytes "00")) ≡ (get_or s 0 0 - 48) * 10
unfolding number number_after bytes
hundredths_one [] e = absurd (omega arith)
hundredths_one (b ∷ []) e = omega arith
hundredths_one (b ∷ d ∷ s) e = absurd (omega arith)

pub hundredths_two :
    (s : List ℕ) → (length s ≡ 0 → ⊥) → (length s ≡ 1 → ⊥) →
    number (take 2 (s ++ bytes "00")) ≡ (get_or s 0 0 - 48) * 10 + (get_or s 1 0 - 48)
unfolding number number_after bytes
hundredths_two [] e f = absurd (e refl)
hundredths_two (b ∷ []) e f = absurd (f refl)
hundredths_two (b ∷ d ∷ s) e f = omega arith

-- money by where the point stands: the digits before it and, where it stands inside the text, those behind it
module _ (w : List ℕ) (p : ℕ) (stands : p ≡ length (before_point w)) where
  before : before_point w ≡ take p w
  before = before_is w ∙ ap (λ (n : ℕ). take n w) (sym stands)

  behind : behind_point w ≡ take (length w - (p + 1)) (drop (p + 1) w)
  behind =
      behind_is w ∙
      ap (λ (n : ℕ). drop n w) (ap suc (sym stands) ∙ sym (add-one p)) ∙
      sym (rest_is w (p + 1))

  pub no_money : digits 1 15 (take p w) ≡ false → in_cents w ≡ None
  unfolding in_cents money
  no_money d = rw (before, d)

  module _ (n : ℕ) (whole : digits 1 15 (take p w) ≡ true) (spelling : n ≡ number (take p w)) where
    pub whole_money : p ≡ length w → in_cents w ≡ Some (n * 100)
    unfolding in_cents money cents bytes number number_after
    whole_money e = rw (no_point w (sym e ∙ stands), before, whole, all, same_refl w) (ap Some (rw (← spelling') (omega arith)))
      where
        all : take p w ≡ w
        all = take_all p w (omega arith)

        spelling' : n ≡ number w
        spelling' = spelling ∙ ap number all

    module _ (inside : p < length w) where
      not_same : same w (before_point w) ≡ false
      not_same = same_is w (before_point w) ∙ pairwise-length eqb w (before_point w) (λ e. absurd (omega arith))

      pub part_not_money : digits 1 2 (take (length w - (p + 1)) (drop (p + 1) w)) ≡ false → in_cents w ≡ None
      unfolding in_cents money
      part_not_money d = rw (not_same, before, whole, behind, d)

      pub part_money :
          (h : ℕ) → digits 1 2 (take (length w - (p + 1)) (drop (p + 1) w)) ≡ true →
          h ≡ number (take 2 (take (length w - (p + 1)) (drop (p + 1) w) ++ bytes "00")) → in_cents w ≡ Some (n * 100 + h)
      unfolding in_cents money cents
      part_money h d k = rw (not_same, before, whole, behind, d, ← spelling, ← k)

-- what a reading of money says
pub in_cents-number : (w : List ℕ) (n : ℕ) → in_cents w ≡ Some n → (money w ≡ true) × (cents w ≡ n)
unfolding in_cents
in_cents-number w n = by (money w)
  where
    by : (c : Bool) → (if c then Some (cents w) else None) ≡ Some n → (c ≡ true) × (cents w ≡ n)
    by true e = (refl, cc)
    by false e = (cc, cc)

-- what a count that is read says of its text
pub count_is : (w : List ℕ) (n : ℕ) → as_count w ≡ Some n → (digits 1 15 w ≡ true) × (n ≡ number w)
unfolding as_count
count_is w n = by (digits 1 15 w)
  where
    by : (c : Bool) → (if c then Some (number w) else None) ≡ Some n → (c ≡ true) × (n ≡ number w)
    by true e = (refl, cc)
    by false e = (cc, cc)

pub no_count : (w : List ℕ) → as_count w ≡ None → digits 1 15 w ≡ false
unfolding as_count
no_count w = by (digits 1 15 w)
  where
    by : (c : Bool) → (if c then Some (number w) else None) ≡ None → c ≡ false
    by true e = cc
    by false e = refl

-- whether there are cents, and which
pub is_money : (w : List ℕ) → is_some (in_cents w) ≡ money w
unfolding in_cents
is_money w = by (money w)
  where
    by : (c : Bool) → is_some (if c then Some (cents w) else None) ≡ c
    by true = refl
    by false = refl

pub is_amount : (w : List ℕ) (o : Option ℕ) (r : Bool) → o ≡ in_cents w → MatchOption o (r ≡ false) (λ n. r ≡ lies_from 1 99999999999 n) → r ≡ amount w
unfolding in_cents amount
is_amount w o r e h = by (money w) (subst (λ x. MatchOption x (r ≡ false) (λ n. r ≡ lies_from 1 99999999999 n)) e h)
  where
    by : (c : Bool) → MatchOption (if c then Some (cents w) else None) (r ≡ false) (λ n. r ≡ lies_from 1 99999999999 n) → r ≡ (c && lies_from 1 99999999999 (cents w))
    by true k = k
    by false k = k
