-- Money said plainly: a hundred times the whole part, and the fraction padded to two digits; never above fifteen digits and two.
use Prim.Native.Nat.{ℕ, suc, ◌+◌, ◌*◌, ◌-◌, ◌^◌, ◌<◌, ◌≤◌}
use mathlib.Core.Path.{◌≡◌, refl, ap, sym, subst, ◌∙◌}
use mathlib.Core.List.{List, [], ◌∷◌, ◌++◌}
use mathlib.Core.Bool.{Bool, true, false, ◌&&◌, ◌||◌}
use native.Mathlib.Nat.{pow-succ', pow-le-pow_right, mul-le-mul_right, mul_assoc}
use native.Mathlib.Omega.{arith}
use lib.ListN.{length, take}
use lib.Dec.{eqb, leb}
use borrow.Author.Tests.{leb-true}
use Rattle.paper.specs.Bytes.{bytes, from_to, digit, every, same}
use Rattle.paper.specs.Values.{number_after, number, digits, before_point, behind_point, money, cents}
use Rattle.paper.proofs.Laws.{both_left, both_right}
use Rattle.leaf_texts.proofs.Laws.{same_is, pairwise-same-length}
use Rattle.leaf_money.proofs.Cents.{no_point, in_cents-number, count_is}
use Rattle.leaf_numbers.proofs.Laws.{digits_most, digits-digits}
use Rattle.leaf_numbers.specs.Readings.{as_count, in_cents}
use Rattle.std.specs.Prelude.{Some}

digit_worth : (b : ℕ) → digit b ≡ true → b - 48 ≤ 9
unfolding digit from_to
digit_worth b e = let h : b ≤ 57 = leb-true b 57 (both_right (leb 48 b) (leb b 57) e) in omega arith

-- so many digits spell a number below that power of ten
number_after_below : (k : ℕ) (w : List ℕ) → every digit w ≡ true → number_after k w < suc k * 10 ^ length w
unfolding number_after every
number_after_below k [] e = omega arith
number_after_below k (b ∷ w) e =
    let d : b - 48 ≤ 9 = digit_worth b (both_left (digit b) (every digit w) e) in
    let h : number_after (k * 10 + (b - 48)) w < suc (k * 10 + (b - 48)) * 10 ^ length w
    = number_after_below (k * 10 + (b - 48)) w (both_right (digit b) (every digit w) e) in
    let m : suc (k * 10 + (b - 48)) * 10 ^ length w ≤ suc k * 10 * 10 ^ length w = mul-le-mul_right (10 ^ length w) (omega arith) in
    let q : suc k * 10 ^ suc (length w) ≡ suc k * 10 * 10 ^ length w
    = ap (λ (n : ℕ). suc k * n) (pow-succ' 10 (length w)) ∙ sym (mul_assoc (suc k) 10 (10 ^ length w)) in
    omega arith

number_below : (high : ℕ) (w : List ℕ) → every digit w ≡ true → length w ≤ high → number w < 10 ^ high
unfolding number
number_below high w e h =
    let n : number_after 0 w < 1 * 10 ^ length w = number_after_below 0 w e in
    let p : 10 ^ length w ≤ 10 ^ high = pow-le-pow_right (omega arith) h in
    omega arith

fraction_below : (v : List ℕ) → every digit v ≡ true → length v ≤ 2 → number (take 2 (v ++ bytes "00")) < 100
unfolding number number_after every bytes
fraction_below [] e h = omega arith
fraction_below (a ∷ []) e h = let p : a - 48 ≤ 9 = digit_worth a (both_left (digit a) true e) in omega arith
fraction_below (a ∷ b ∷ []) e h =
    let p : a - 48 ≤ 9 = digit_worth a (both_left (digit a) (digit b && true) e) in
    let q : b - 48 ≤ 9 = digit_worth b (both_left (digit b) true (both_right (digit a) (digit b && true) e)) in
    omega arith
fraction_below (a ∷ b ∷ c ∷ v) e h = absurd (omega arith)

same_length : (s t : List ℕ) → same s t ≡ true → length s ≡ length t
same_length s t e = pairwise-same-length eqb s t (sym (same_is s t) ∙ e)

-- what is behind the point of money is at most two digits, and none where no point is written
behind-digits : (w : List ℕ) → money w ≡ true → (every digit (behind_point w) ≡ true) × (length (behind_point w) ≤ 2)
unfolding money
behind-digits w e = by (same w (before_point w)) refl (both_right (digits 1 15 (before_point w)) (same w (before_point w) || digits 1 2 (behind_point w)) e)
  where
    by :
        (c : Bool) → same w (before_point w) ≡ c → (c || digits 1 2 (behind_point w)) ≡ true →
        (every digit (behind_point w) ≡ true) × (length (behind_point w) ≤ 2)
    by true s t = rw (no_point w (same_length w (before_point w) s)) (unfold every in refl, omega arith)
    by false s t = (digits-digits 1 2 (behind_point w) t, digits_most 1 2 (behind_point w) t)

-- Of money, the cents are a hundred times the whole part and the fraction padded to two digits, and lie below 10^17.
pub cents_are : (w : List ℕ) → cents w ≡ 100 * number (before_point w) + number (take 2 (behind_point w ++ bytes "00"))
unfolding cents
cents_are w = omega arith

pub cents_below : (w : List ℕ) → money w ≡ true → cents w < 10 ^ 17
unfolding money cents
cents_below w e =
    let d = both_left (digits 1 15 (before_point w)) (same w (before_point w) || digits 1 2 (behind_point w)) e in
    let b = behind-digits w e in
    let n : number (before_point w) < 10 ^ 15
    = number_below 15 (before_point w) (digits-digits 1 15 (before_point w) d) (digits_most 1 15 (before_point w) d) in
    let f : number (take 2 (behind_point w ++ bytes "00")) < 100 = fraction_below (behind_point w) b.0 b.1 in
    omega arith

-- What the code reads as cents is that number.
pub reading_is :
    (w : List ℕ) (n : ℕ) → in_cents w ≡ Some n →
    (n ≡ 100 * number (before_point w) + number (take 2 (behind_point w ++ bytes "00"))) × (n < 10 ^ 17)
reading_is w n e =
    let m = in_cents-number w n e in
    (sym m.1 ∙ cents_are w, subst (λ (k : ℕ). k < 10 ^ 17) m.1 (cents_below w m.0))

-- a count that is read lies below 10^15
pub count_below : (w : List ℕ) (n : ℕ) → as_count w ≡ Some n → n < 10 ^ 15
count_below w n e =
    let m = count_is w n e in
    omega (arith, m.1, number_below 15 w (digits-digits 1 15 w m.0) (digits_most 1 15 w m.0))
