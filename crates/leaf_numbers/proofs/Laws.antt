-- Numbers spelled by digits, and the point.
use Prim.Native.Nat.{ℕ, ◌+◌, ◌*◌, ◌-◌, ◌^◌, ◌<◌, ◌≤◌, min}
use mathlib.Core.Path.{◌≡◌, refl, ap, sym, ◌∙◌}
use mathlib.Core.List.{List, [], ◌∷◌, ◌++◌}
use mathlib.Core.Bool.{Bool, true, false, ◌&&◌}
use native.Mathlib.Numerals.{add-one}
use native.Mathlib.Nat.{pow-suc, pow-le-pow_right}
use native.Mathlib.Omega.{arith}
use lib.ListN.{length, get_or, take, drop, length-take}
use lib.Seq.{take-suc, take_all}
use lib.Dec.{leb}
use borrow.Author.Tests.{leb-true, leb-false}
use Rattle.std.specs.Prelude.{Option, Some, None, IfSome}
use Rattle.std.specs.Option.{is_some}
use Rattle.paper.specs.Bytes.{digit, every}
use Rattle.paper.specs.Values.{number_after, number, lies_from, digits, piece}
use Rattle.leaf_numbers.specs.Readings.{Spells, as_count}
use Rattle.paper.proofs.Laws.{both_left, both_right}

-- a digit more at the end
number_snoc : (k : ℕ) (xs : List ℕ) (b : ℕ) → number_after k (xs ++ b ∷ []) ≡ number_after k xs * 10 + (b - 48)
unfolding number_after
number_snoc k [] b = refl
number_snoc k (x ∷ xs) b = number_snoc (k * 10 + (x - 48)) xs b

number_goes : (s : List ℕ) (i : ℕ) → i < length s → number (take (i + 1) s) ≡ number (take i s) * 10 + (get_or s i 0 - 48)
unfolding number
number_goes s i h = rw (add-one, take-suc s i 0 h) (number_snoc 0 (take i s) (get_or s i 0))

pub number_next :
    (s : List ℕ) (n i d : ℕ) → i < length s → n ≡ number (take i s) → d ≡ get_or s i 0 - 48 → n * 10 + d ≡ number (take (i + 1) s)
number_next s n i d h e f = rw (e, f) (sym (number_goes s i h))

-- A number of i bytes, each worth less than 256, and of one byte more; of at most fifteen.
pub Small : (n i : ℕ) → Type 0
Small n i = n + 29 ≤ 29 * 10 ^ i

pub small_zero : Small 0 0
unfolding Small
small_zero = omega arith

pub small_goes : (n i d : ℕ) → Small n i → d < 256 → Small (n * 10 + d) (i + 1)
unfolding Small
small_goes n i d h k = rw (add-one, pow-suc) (omega arith)

pub small_fits : (n i : ℕ) → Small n i → i ≤ 15 → n < 29000000000000000
unfolding Small
small_fits n i h k = let p : 10 ^ i ≤ 10 ^ 15 = pow-le-pow_right (omega arith) k in omega arith

-- a walk along the first bytes, fifteen at most, has their number
pub spells_first : (s : List ℕ) (m n i : ℕ) → m ≡ min (length s) 15 → length (take m s) ≤ i → i ≤ 15 → n ≡ number (take i (take m s)) → Small n i → Spells s n
spells_first s m n i k h j e b = record { spells = e ∙ ap number (take_all i (take m s) h ∙ same_first); bounded = small_fits n i b j }
  where
    same_first : take m s ≡ take 15 s
    same_first = by (leb (length s) 15) refl
      where
        by : (c : Bool) → leb (length s) 15 ≡ c → take m s ≡ take 15 s
        by true l = let g = leb-true (length s) 15 l in take_all m s (omega (arith, g, k)) ∙ sym (take_all 15 s g)
        by false l = let g = leb-false (length s) 15 l in let e : m ≡ 15 = omega (arith, g, k) in ap (λ (j : ℕ). take j s) e

-- so many digits are no more than that
pub digits_most : (low high : ℕ) (w : List ℕ) → digits low high w ≡ true → length w ≤ high
unfolding digits lies_from
digits_most low high w e =
    leb-true (length w) high
    (both_right (leb low (length w)) (leb (length w) high) (both_left (leb low (length w) && leb (length w) high) (every digit w) e))

pub digits-digits : (low high : ℕ) (w : List ℕ) → digits low high w ≡ true → every digit w ≡ true
unfolding digits
digits-digits low high w e = both_right (lies_from low high (length w)) (every digit w) e

-- the number of a text of at most fifteen bytes
pub spelled : (w : List ℕ) (n : ℕ) → Spells w n → length w ≤ 15 → n ≡ number w
spelled w n e h = e.spells ∙ ap number (take_all 15 w h)

-- the number of a part of a text
pub spelled_part : (w : List ℕ) (from size n : ℕ) → size ≤ 15 → Spells (take size (drop from w)) n → n ≡ number (piece from size w)
unfolding piece
spelled_part w from size n h e = spelled (take size (drop from w)) n e (omega (arith, length-take size (drop from w)))

-- a count that is read, where it is one
pub count_read : (w : List ℕ) (o : Option ℕ) → is_some o ≡ digits 1 15 w → IfSome o (λ n. Spells w n) → o ≡ as_count w
unfolding as_count
count_read w (Some n) e h = rw (← e) (ap Some (spelled w n h (digits_most 1 15 w (sym e))))
count_read w None e h = rw (← e)
