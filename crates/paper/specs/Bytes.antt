-- Bytes and characters (docs/RULES.md, 2 and 4). A text is a list of bytes, and a byte is its number.
use Rattle.std.specs.Prelude.{ℕ, List, [], ◌∷◌, ◌++◌, Bool, true, false, ◌&&◌, ◌||◌, not, ◌≡◌, eqb, leb}
use Prim.Native.Char.{Char, code}
use Prim.Native.String.{String, [] as []ˢ, ◌∷◌ as ◌∷ˢ◌}

-- the bytes of a quoted text
unfoldable pub bytes : String → List ℕ
bytes []ˢ = []
bytes (c ∷ˢ s) = code c ∷ bytes s

-- the byte is that of this character; of a character from one to another; of one of these
unfoldable pub is : Char → ℕ → Bool
is c b = eqb b (code c)

unfoldable pub from_to : Char → Char → ℕ → Bool
from_to first last b = leb (code first) b && leb b (code last)

unfoldable pub one_of : String → ℕ → Bool
one_of []ˢ b = false
one_of (c ∷ˢ s) b = is c b || one_of s b

-- White space is space, tab, LF, CR.
unfoldable pub white : ℕ → Bool
white = one_of " \t\n\r"

-- Text is bytes from 32 up and tab, LF, CR, without `<` and `&`.
unfoldable pub text_byte : ℕ → Bool
text_byte b = ((leb 32 b && leb b 255) || one_of "\t\n\r" b) && not (one_of "<&" b)

unfoldable pub capital : ℕ → Bool
capital = from_to "A" "Z"

unfoldable pub digit : ℕ → Bool
digit = from_to "0" "9"

unfoldable pub letter : ℕ → Bool
letter b = from_to "a" "z" b || capital b

unfoldable pub letter_or_digit : ℕ → Bool
letter_or_digit b = letter b || digit b

unfoldable pub capital_or_digit : ℕ → Bool
capital_or_digit b = capital b || digit b

-- The characters of values: a-z A-Z 0-9 / - ? : ( ) . , ' + and space.
unfoldable pub value_character : ℕ → Bool
value_character b = letter_or_digit b || one_of "/-?:().,'+ " b

-- Each byte of a text is of a kind: as a statement, and as a test.
pub data Every (p : ℕ → Bool) : List ℕ → Type 0 where
  every_none : Every p []
  every_more : {b : ℕ} {s : List ℕ} → p b ≡ true → Every p s → Every p (b ∷ s)

unfoldable pub every : (ℕ → Bool) → List ℕ → Bool
every p [] = true
every p (b ∷ s) = p b && every p s

-- Two texts are equal, byte for byte.
unfoldable pub same : List ℕ → List ℕ → Bool
same [] [] = true
same [] (c ∷ t) = false
same (b ∷ s) [] = false
same (b ∷ s) (c ∷ t) = eqb b c && same s t

-- what each of several is written as, one after the other
unfoldable pub each : {A : Type 0} → (A → List ℕ) → List A → List ℕ
each f [] = []
each f (a ∷ l) = f a ++ each f l
