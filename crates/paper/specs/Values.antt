-- What a value may be (docs/RULES.md, 4): a rule for each kind, over the text alone. (Length and characters are refusals 6 and 7, and are asked first.)
use Rattle.std.specs.Prelude.{ℕ, ◌+◌, ◌*◌, ◌-◌, ◌%◌, List, [], ◌∷◌, ◌++◌, Bool, true, false, ◌&&◌, ◌||◌, not, length, get_or, take, drop, eqb, leb, if◌then◌else◌}
use Prim.Native.Char.{Char, code}
use Prim.Native.String.{String, [] as []ˢ, ◌∷◌ as ◌∷ˢ◌}
use Rattle.paper.specs.Bytes.{bytes, is, capital, digit, capital_or_digit, every, same}

-- the number is one of these; it lies from low to high
unfoldable pub among : ℕ → List ℕ → Bool
among n [] = false
among n (k ∷ ks) = eqb n k || among n ks

unfoldable pub lies_from : (low high n : ℕ) → Bool
lies_from low high n = leb low n && leb n high

-- the number that digits spell
unfoldable pub number_after : ℕ → List ℕ → ℕ
number_after n [] = n
number_after n (b ∷ s) = number_after (n * 10 + (b - code "0")) s

unfoldable pub number : List ℕ → ℕ
number = number_after 0

-- A shape, byte for byte: `0` is any digit, `A` any capital, `X` any capital or digit, every other character itself.
unfoldable pub fits : Char → ℕ → Bool
fits c b =
    if is "0" (code c) then digit b else
    if is "A" (code c) then capital b else
    if is "X" (code c) then capital_or_digit b else is c b

unfoldable pub shaped : String → List ℕ → Bool
shaped []ˢ [] = true
shaped []ˢ (b ∷ s) = false
shaped (c ∷ˢ p) [] = false
shaped (c ∷ˢ p) (b ∷ s) = fits c b && shaped p s

-- the bytes of a text from a place on, so many
unfoldable pub piece : (from size : ℕ) → List ℕ → List ℕ
piece from size w = take size (drop from w)

-- Rows 4, 11, 39, 40: no `/` first or last, no `//`.
unfoldable pub two_slashes : List ℕ → Bool
two_slashes [] = false
two_slashes (b ∷ s) = (is "/" b && is "/" (get_or s 0 0)) || two_slashes s

unfoldable pub id : List ℕ → Bool
id w = not (is "/" (get_or w 0 0)) && not (is "/" (get_or w (length w - 1) 0)) && not (two_slashes w)

-- Row 21: one to four capitals or digits.
unfoldable pub purpose : List ℕ → Bool
purpose w = lies_from 1 4 (length w) && every capital_or_digit w

-- Row 23: `YYYY-MM-DD`, a true day of the years 2000 to 2099, where every fourth is a leap year.
unfoldable pub days_in : (year month : ℕ) → ℕ
days_in year month =
    if eqb month 2 then (if eqb (year % 4) 0 then 29 else 28) else
    if among month (4 ∷ 6 ∷ 9 ∷ 11 ∷ []) then 30 else 31

unfoldable pub true_day : (year month day : ℕ) → Bool
true_day year month day = lies_from 2000 2099 year && lies_from 1 12 month && lies_from 1 (days_in year month) day

unfoldable pub date : List ℕ → Bool
date w = shaped "0000-00-00" w && true_day (number (piece 0 4 w)) (number (piece 5 2 w)) (number (piece 8 2 w))

-- Row 5: such a day, `T`, `hh:mm:ss` up to 23:59:59.
unfoldable pub date_and_time : List ℕ → Bool
date_and_time w =
    shaped "0000-00-00T00:00:00" w && date (piece 0 10 w) && leb (number (piece 11 2 w)) 23 && leb (number (piece 14 2 w)) 59 &&
    leb (number (piece 17 2 w)) 59

-- Row 58: a date and time as in row 5, then its zone: `Z`, or a sign and `hh:mm` from 00:00 to 14:00, minutes up to 59.
unfoldable pub zone : List ℕ → Bool
zone w =
    same w (bytes "Z") ||
    ((shaped "+00:00" w || shaped "-00:00" w) && leb (number (piece 4 2 w)) 59 && leb (number (piece 1 2 w) * 60 + number (piece 4 2 w)) (14 * 60))

unfoldable pub date_time_zone : List ℕ → Bool
date_time_zone w = date_and_time (take 19 w) && zone (drop 19 w)

-- Rows 6, 14: digits; leading zeros allowed. The count is their number.
unfoldable pub count : List ℕ → Bool
count w = leb 1 (length w) && every digit w

-- Rows 7, 15, 42: 1 to 15 digits, then optionally a point and one or two digits.
unfoldable pub before_point : List ℕ → List ℕ
before_point [] = []
before_point (b ∷ s) = if is "." b then [] else b ∷ before_point s

unfoldable pub behind_point : List ℕ → List ℕ
behind_point [] = []
behind_point (b ∷ s) = if is "." b then s else behind_point s

unfoldable pub digits : (low high : ℕ) → List ℕ → Bool
digits low high w = lies_from low high (length w) && every digit w

unfoldable pub money : List ℕ → Bool
money w = digits 1 15 (before_point w) && (same w (before_point w) || digits 1 2 (behind_point w))

-- in cents: the whole part's number a hundred times, and the number of the two digits behind the point, zeros where they are not written
unfoldable pub cents : List ℕ → ℕ
cents w = number (before_point w) * 100 + number (take 2 (behind_point w ++ bytes "00"))

-- Row 42 lies from 0.01 to 999999999.99.
unfoldable pub amount : List ℕ → Bool
amount w = money w && lies_from 1 99999999999 (cents w)

-- Row 31: four capitals or digits, two capitals, two or five capitals or digits; never `NOTPROVIDED`.
unfoldable pub bic : List ℕ → Bool
bic w = (shaped "XXXXAAXX" w || shaped "XXXXAAXXXXX" w) && not (same w (bytes "NOTPROVIDED"))

-- Row 28: two capitals, two check digits from 02 to 98, capitals or digits; the whole length by country, another country refused.
pub record Country : Type 0 where
  pub letters : List ℕ
  pub size : ℕ

unfoldable pub country : String → ℕ → Country
country letters size = record { letters = bytes letters; size = size }

unfoldable pub countries : List Country
countries =
    country "BE" 16 ∷ country "FI" 18 ∷ country "NL" 18 ∷ country "AT" 20 ∷ country "LU" 20 ∷ country "DE" 22 ∷ country "IE" 22 ∷
    country "ES" 24 ∷ country "PT" 25 ∷ country "FR" 27 ∷ country "GR" 27 ∷ country "IT" 27 ∷ []

unfoldable pub of_a_country : List Country → List ℕ → Bool
of_a_country [] w = false
of_a_country (c ∷ cs) w = (same c.letters (take 2 w) && eqb (length w) c.size) || of_a_country cs w

-- First four characters moved to the end, A to Z read as 10 to 35, the number leaves 1 when divided by 97.
unfoldable pub moved : List ℕ → List ℕ
moved w = drop 4 w ++ take 4 w

unfoldable pub read_after : ℕ → List ℕ → ℕ
read_after n [] = n
read_after n (b ∷ s) = read_after (if digit b then n * 10 + (b - code "0") else n * 100 + (b - code "A" + 10)) s

unfoldable pub iban : List ℕ → Bool
iban w =
    shaped "AA00" (take 4 w) && lies_from 2 98 (number (piece 2 2 w)) && every capital_or_digit (drop 4 w) && of_a_country countries w &&
    eqb (read_after 0 (moved w) % 97) 1

-- The row of a leaf decides its rule; the row above it where it matters: row 19 is `SEPA`, and under row 53 `SCOR`. Row 42 has its currency. Names, free text,
-- issuers and references are free. (These are the leaves of both profiles; no text is right for any other row.)
unfoldable pub right_for : (parent row : ℕ) (currency text : List ℕ) → Bool
right_for parent row currency w =
    if among row (4 ∷ 11 ∷ 39 ∷ 40 ∷ []) then id w else
    if eqb row 12 then same w (bytes "TRF") else
    if eqb row 13 then same w (bytes "true") || same w (bytes "false") else
    if eqb row 17 then same w (bytes "NORM") || same w (bytes "HIGH") else
    if eqb row 19 then same w (if eqb parent 53 then bytes "SCOR" else bytes "SEPA") else
    if eqb row 33 then same w (bytes "NOTPROVIDED") else
    if eqb row 36 then same w (bytes "SLEV") else
    if eqb row 21 then purpose w else
    if eqb row 23 then date w else
    if eqb row 5 then date_and_time w else
    if eqb row 57 then same w (bytes "INST") else
    if eqb row 58 then date_time_zone w else
    if among row (6 ∷ 14 ∷ []) then count w else
    if among row (7 ∷ 15 ∷ []) then money w else
    if eqb row 42 then amount w && same currency (bytes "EUR") else
    if eqb row 31 then bic w else
    if eqb row 28 then iban w else among row (9 ∷ 25 ∷ 35 ∷ 49 ∷ 54 ∷ 55 ∷ [])

-- Text of spaces alone is allowed nowhere.
unfoldable pub spaces_alone : List ℕ → Bool
spaces_alone w = every (is " ") w

unfoldable pub allowed : (parent row : ℕ) (currency text : List ℕ) → Bool
allowed parent row currency w = not (spaces_alone w) && right_for parent row currency w
