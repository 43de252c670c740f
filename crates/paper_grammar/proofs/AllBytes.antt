-- A text of the form is made of bytes: no number above 255 stands in it. So what completes a beginning is made of bytes too.
use Prim.Native.Nat.{ℕ, ◌≤◌}
use Prim.Native.Char.{Char, code}
use mathlib.Core.List.{List, [], ◌∷◌, ◌++◌}
use mathlib.Core.Bool.{Bool, true, false, ◌&&◌, not, false≢true}
use mathlib.Core.Path.{◌≡◌, refl}
use native.Mathlib.Omega.{arith}
use lib.Dec.{leb}
use borrow.Author.Tests.{leb-true, le-leb, eqb-true}
use Rattle.paper.specs.Bytes.{bytes, is, from_to, one_of, white, text_byte, capital, digit, letter, letter_or_digit, Every, every_none as all_done, every_more, every}
use Rattle.paper.specs.Form.{Element, IsName, letter_and, root_tag, start_tag, amount_tag, end_tag, IsStartTag, of_root, of_amount, of_any_other, IsElement, of_text, of_elements, no_more, one_more, declaration, no_declaration, one_declaration, IsMessage, whole, OfTheForm}
use Rattle.paper_grammar.proofs.Tags.{both}
use Rattle.paper_grammar.proofs.Sound.{either, white_text}

unfoldable pub is_byte : ℕ → Bool
is_byte b = leb b 255

every_append : {p : ℕ → Bool} {s t : List ℕ} → Every p s → Every p t → Every p (s ++ t)
every_append all_done h = h
every_append (every_more e es) h = every_more e (every_append es h)

every_as : {p q : ℕ → Bool} → ((b : ℕ) → p b ≡ true → q b ≡ true) → {s : List ℕ} → Every p s → Every q s
every_as f all_done = all_done
every_as f (every_more {b} e es) = every_more (f b e) (every_as f es)

tested : (p : ℕ → Bool) (s : List ℕ) → every p s ≡ true → Every p s
unfolding every
tested p [] h = all_done
tested p (b ∷ s) h = let (e, es) = both (p b) (every p s) h in every_more e (tested p s es)

-- each class is one of bytes
below_byte : (z b : ℕ) → z ≤ 255 → leb b z ≡ true → is_byte b ≡ true
unfolding is_byte
below_byte z b l h = let k = leb-true b z h in le-leb b 255 (omega arith)

range_byte : (a z : Char) (b : ℕ) → code z ≤ 255 → from_to a z b ≡ true → is_byte b ≡ true
unfolding from_to
range_byte a z b l h = below_byte (code z) b l (both (leb (code a) b) (leb b (code z)) h).1

this_byte : (c : Char) (b : ℕ) → code c ≤ 255 → is c b ≡ true → is_byte b ≡ true
unfolding is is_byte
this_byte c b l h = let e = eqb-true b (code c) h in le-leb b 255 (omega arith)

capital_byte : (b : ℕ) → capital b ≡ true → is_byte b ≡ true
unfolding capital
capital_byte b h = range_byte "A" "Z" b (omega arith) h

letter_byte : (b : ℕ) → letter b ≡ true → is_byte b ≡ true
unfolding letter
letter_byte b h = either (from_to "a" "z" b) (capital b) h (range_byte "a" "z" b (omega arith)) (capital_byte b)

letter_or_digit_byte : (b : ℕ) → letter_or_digit b ≡ true → is_byte b ≡ true
unfolding letter_or_digit digit
letter_or_digit_byte b h = either (letter b) (digit b) h (letter_byte b) (range_byte "0" "9" b (omega arith))

text_is_byte : (b : ℕ) → text_byte b ≡ true → is_byte b ≡ true
unfolding text_byte one_of
text_is_byte b h =
    either (leb 32 b && leb b 255) (one_of "\t\n\r" b) (both _ (not (one_of "<&" b)) h).0
    (λ e. below_byte 255 b (omega arith) (both (leb 32 b) (leb b 255) e).1)
    (λ e. either (is "\t" b) (one_of "\n\r" b) e (this_byte "\t" b (omega arith))
    (λ e. either (is "\n" b) (one_of "\r" b) e (this_byte "\n" b (omega arith))
    (λ e. either (is "\r" b) false e (this_byte "\r" b (omega arith)) (λ e. absurd (false≢true e)))))

white_byte : (b : ℕ) → white b ≡ true → is_byte b ≡ true
white_byte b h = text_is_byte b (white_text b h)

-- names and tags
name_bytes : {name : List ℕ} → IsName name → Every is_byte name
name_bytes (letter_and {b} e es _) = every_more (letter_byte b e) (every_as letter_or_digit_byte es)

tag_bytes : {depth : ℕ} {tag name currency : List ℕ} → IsStartTag depth tag name currency → Every is_byte tag × Every is_byte name
unfolding root_tag start_tag amount_tag bytes is_byte every
tag_bytes of_root = (tested is_byte root_tag refl, tested is_byte (bytes "Document") refl)
tag_bytes (of_amount _ es) = (
  every_append (tested is_byte (bytes "<InstdAmt Ccy=\"") refl) (every_append (every_as capital_byte es) (tested is_byte (bytes "\">") refl)),
  tested is_byte
      (bytes "InstdAmt") refl,
)
tag_bytes (of_any_other _ n _) = let h = name_bytes n in (every_more refl (every_append h (every_more refl all_done)), h)

end_bytes : {name : List ℕ} → Every is_byte name → Every is_byte (end_tag name)
unfolding end_tag bytes is_byte
end_bytes h = every_more refl (every_more refl (every_append h (every_more refl all_done)))

element_bytes : {depth at : ℕ} {one : List ℕ} {t : Element} → IsElement depth at one t → Every is_byte one
element_bytes h =
    elim h as (λ depth at one t _. Every is_byte one) (λ depth at inner ts _. Every is_byte inner) [
      | of_text d s e ↦ let (x, y) = tag_bytes s in every_append x (every_append (every_as text_is_byte e) (end_bytes y))
      | of_elements d s (es → ih) ↦ let (x, y) = tag_bytes s in every_append x (every_append ih (end_bytes y))
      | no_more e ↦ every_as white_byte e
      | one_more e (x → ih) (xs → ihs) ↦ every_append (every_as white_byte e) (every_append ih ihs)
    ]

pub all_bytes : {s : List ℕ} {t : Element} → IsMessage s t → Every is_byte s
unfolding declaration bytes is_byte every
all_bytes (whole no_declaration w x z) = every_append (every_as white_byte w) (every_append (element_bytes x) (every_as white_byte z))
all_bytes (whole one_declaration w x z) =
    every_append (tested is_byte declaration refl) (every_append (every_as white_byte w) (every_append (element_bytes x) (every_as white_byte z)))

every_later : {p : ℕ → Bool} (s : List ℕ) {t : List ℕ} → Every p (s ++ t) → Every p t
every_later [] h = h
every_later (b ∷ s) (every_more e es) = every_later s es

pub completed_by_bytes : (s rest : List ℕ) → OfTheForm (s ++ rest) → Every is_byte rest
unfolding OfTheForm
completed_by_bytes s rest (t, h) = every_later s (all_bytes h)
