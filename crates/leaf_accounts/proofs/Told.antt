-- What the parts of the paper's rule say, by what the code was told of a text split behind its fourth character.
use Prim.Native.Nat.{ℕ, ◌%◌, ◌<◌}
use mathlib.Core.Path.{◌≡◌, sym, ap, ◌∙◌}
use mathlib.Core.List.{List}
use mathlib.Core.Bool.{Bool, false}
use native.Mathlib.Omega.{arith}
use lib.ListN.{length, take, drop, length-take}
use Rattle.std.specs.Cmp.Lexicographic.{pointwise}
use Rattle.paper.specs.Bytes.{bytes, every, capital_or_digit}
use Rattle.paper.specs.Values.{shaped, lies_from, number, piece, moved, read_after}
use Rattle.leaf_texts.specs.Shapes.{fits_byte}
use Rattle.leaf_texts.proofs.Laws.{shaped_is, pairwise-length, rest_is, every-capital_or_digit}
use Rattle.leaf_numbers.specs.Readings.{Spells}
use Rattle.leaf_numbers.proofs.Laws.{spelled_part}
use Rattle.leaf_accounts.specs.Remainders.{remainder_after}
use Rattle.leaf_accounts.proofs.Account.{moved_told}

pub shape_short : (w : List ℕ) → length w < 4 → shaped "AA00" (take 4 w) ≡ false
unfolding bytes
shape_short w h =
    shaped_is "AA00" (take 4 w) ∙ pairwise-length fits_byte (bytes "AA00") (take 4 w) (λ e. omega (arith, e, length-take 4 w))

pub check_told : (w : List ℕ) (n : ℕ) (r : Bool) → Spells (take 2 (drop 2 w)) n → r ≡ lies_from 2 98 n → lies_from 2 98 (number (piece 2 2 w)) ≡ r
check_told w n r h e = rw (← spelled_part w 2 2 n (omega arith) h) (sym e)

module _ (w : List ℕ) where
  pub shape_told : (head : List ℕ) (r : Bool) → head ≡ take 4 w → r ≡ pointwise fits_byte (bytes "AA00") head → shaped "AA00" (take 4 w) ≡ r
  shape_told head r h e = shaped_is "AA00" (take 4 w) ∙ ap (pointwise fits_byte (bytes "AA00")) (sym h) ∙ sym e

  pub rest_told : (rest : List ℕ) (r : Bool) → rest ≡ drop 4 w → r ≡ every (fits_byte 88) rest → every capital_or_digit (drop 4 w) ≡ r
  rest_told rest r k e = ap (every capital_or_digit) (sym k) ∙ sym (every-capital_or_digit rest) ∙ sym e

  pub moved_split :
      (head rest : List ℕ) (r q : ℕ) → head ≡ take 4 w → rest ≡ drop 4 w → r ≡ remainder_after 0 rest → q ≡ remainder_after r head →
      read_after 0 (moved w) % 97 ≡ q
  moved_split head rest r q h k e f = moved_told w r q (e ∙ ap (remainder_after 0) (k ∙ sym (rest_is w 4))) (f ∙ ap (remainder_after r) h)
