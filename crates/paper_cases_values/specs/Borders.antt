-- The borders of what a value may be (docs/RULES.md, 4), of the longest lengths (3), of the kinds of bytes (2 and 4), and of numbers written in bytes (10): of each rule
-- texts that just keep it and texts that just break it.
use Rattle.std.specs.Prelude.{ℕ, zero, suc, ◌+◌, List, [], ◌∷◌, ◌++◌, map, Bool, true, false, ◌≡◌, if◌then◌else◌}
use Prim.Native.String.{String}
use Rattle.std.proofs.Math.Option.{Option}
use Rattle.paper.specs.Bytes.{bytes, white, text_byte, capital, digit, letter, letter_or_digit, capital_or_digit, value_character}
use Rattle.paper.specs.Rows.{Profile, first_profile, instant_profile, row_of}
use Rattle.paper.specs.Values.{allowed, number, cents}
use Rattle.paper.specs.Refusals.{Refusal, refuse, text_refusal}
use Rattle.paper.specs.Host.{four_bytes, numbers_held}

-- so many numbers from one on; so many times one number
unfoldable pub up_from : (first size : ℕ) → List ℕ
up_from first zero = []
up_from first (suc size) = first ∷ up_from (suc first) size

unfoldable pub repeat : (size n : ℕ) → List ℕ
repeat zero n = []
repeat (suc size) n = n ∷ repeat size n

-- of the numbers below 300 those of a kind, in rising order
unfoldable pub those : (ℕ → Bool) → List ℕ → List ℕ
those kind [] = []
those kind (n ∷ ns) = if kind n then n ∷ those kind ns else those kind ns

unfoldable pub all_of_kind : (ℕ → Bool) → List ℕ
all_of_kind kind = those kind (up_from 0 300)

-- what the row says of each of some texts, under its parent
unfoldable pub said_of : (parent row : ℕ) (currency : String) → List String → List Bool
said_of parent row currency texts = map (λ w. allowed parent row (bytes currency) (bytes w)) texts

-- one answer for each of some texts
unfoldable pub each_says : Bool → List String → List Bool
each_says answer texts = map (λ w. answer) texts

-- a leaf that stands at offset 7 and holds so many spaces
unfoldable pub of_spaces : Profile → (parent row size : ℕ) → Option Refusal
of_spaces profile parent row size =
    text_refusal parent (row_of profile parent row) (record { name = []; currency = []; at = 7; start = 70; close = 70 + size }) (repeat size 32)

pub data Case : Type 0 where
  -- texts that a row under a parent allows, and texts that it doesn't; the same for row 42 with a currency
  allows refuses : (parent row : ℕ) (texts : List String) → Case
  allows_in refuses_in : (currency : String) (texts : List String) → Case
  -- what a text comes to in cents; the number that digits spell
  in_cents spells : String → ℕ → Case
  -- a leaf's longest length in a profile
  longest : Profile → (parent row size : ℕ) → Case
  -- the bytes of a kind
  kind : (ℕ → Bool) → List ℕ → Case
  -- a table's number as four bytes; how many numbers so many bytes hold
  written_as : ℕ → List ℕ → Case
  hold : (table_bytes numbers : ℕ) → Case

unfoldable pub Holds : Case → Type 0
Holds (allows parent row texts) = said_of parent row "" texts ≡ each_says true texts
Holds (refuses parent row texts) = said_of parent row "" texts ≡ each_says false texts
Holds (allows_in currency texts) = said_of 41 42 currency texts ≡ each_says true texts
Holds (refuses_in currency texts) = said_of 41 42 currency texts ≡ each_says false texts
Holds (in_cents text n) = cents (bytes text) ≡ n
Holds (spells text n) = number (bytes text) ≡ n
-- An empty leaf is 6. Spaces alone are 8, too many spaces are 6.
Holds (longest profile parent row size) =
    of_spaces profile parent row 0 ∷ of_spaces profile parent row size ∷ of_spaces profile parent row (suc size) ∷ [] ≡
    refuse 6 row 7 ∷ refuse 8 row 7 ∷ refuse 6 row 7 ∷ []
Holds (kind k those_of_it) = all_of_kind k ≡ those_of_it
Holds (written_as n four) = four_bytes n ≡ four
Holds (hold size numbers) = numbers_held (repeat size 1) ≡ numbers

-- The kinds of bytes. White space is space, tab, line feed, carriage return. Text is bytes from 32 up and tab, line feed, carriage return, without `<` and `&`. Letters,
-- digits and capitals are ASCII.
unfoldable pub kind_cases : List Case
kind_cases =
    kind white (bytes "\t\n\r ") ∷
    kind text_byte (bytes "\t\n\r" ++ (up_from 32 6 ++ (up_from 39 21 ++ up_from 61 195))) ∷
    kind capital (bytes "ABCDEFGHIJKLMNOPQRSTUVWXYZ") ∷
    kind digit (bytes "0123456789") ∷
    kind letter (bytes "ABCDEFGHIJKLMNOPQRSTUVWXYZabcdefghijklmnopqrstuvwxyz") ∷
    kind letter_or_digit (bytes "0123456789ABCDEFGHIJKLMNOPQRSTUVWXYZabcdefghijklmnopqrstuvwxyz") ∷
    kind capital_or_digit (bytes "0123456789ABCDEFGHIJKLMNOPQRSTUVWXYZ") ∷
    kind value_character (bytes " '()+,-./0123456789:?ABCDEFGHIJKLMNOPQRSTUVWXYZabcdefghijklmnopqrstuvwxyz") ∷ []

-- The longest length of each leaf, under each row that it stands under: of those that both profiles have, in either; of the instant profile's own.
unfoldable pub shared_longest : Profile → List Case
shared_longest profile =
    longest profile 3 4 35 ∷ longest profile 3 5 19 ∷ longest profile 3 6 15 ∷ longest profile 3 7 18 ∷ longest profile 8 9 70 ∷
    longest profile 10 11 35 ∷ longest profile 10 12 3 ∷ longest profile 10 13 5 ∷ longest profile 10 14 15 ∷ longest profile 10 15 18 ∷
    longest profile 16 17 4 ∷ longest profile 18 19 4 ∷ longest profile 53 19 4 ∷ longest profile 20 21 4 ∷ longest profile 47 21 4 ∷ longest profile 22 23 10 ∷
    longest profile 24 25 70 ∷ longest profile 44 25 70 ∷ longest profile 27 28 34 ∷ longest profile 30 31 11 ∷ longest profile 32 33 35 ∷
    longest profile 34 35 70 ∷ longest profile 46 35 70 ∷ longest profile 10 36 4 ∷ longest profile 37 36 4 ∷ longest profile 38 39 35 ∷ longest profile 38 40 35 ∷
    longest profile 41 42 18 ∷ longest profile 48 49 140 ∷ longest profile 52 54 35 ∷ longest profile 51 55 35 ∷ []

unfoldable pub longest_cases : List Case
longest_cases =
    shared_longest first_profile ++ (shared_longest instant_profile ++ (longest instant_profile 56 57 35 ∷ longest instant_profile 22 58 25 ∷ []))

-- An id: no `/` first or last, no `//`. Nothing is trimmed.
unfoldable pub id_cases : List Case
id_cases =
    allows 3 4 ("M1" ∷ "A/B" ∷ "A/B/C" ∷ " /A" ∷ "A/ " ∷ "A/ /B" ∷ "-" ∷ "?:().,'+ " ∷ []) ∷
    refuses 3 4 ("/A" ∷ "A/" ∷ "A//B" ∷ "/" ∷ "//" ∷ "A/B//C" ∷ "A///B" ∷ " " ∷ "  " ∷ "" ∷ []) ∷
    allows 10 11 ("B1" ∷ "A/B" ∷ []) ∷
    refuses 10 11 ("/A" ∷ "A/" ∷ "A//B" ∷ " " ∷ []) ∷
    allows 38 39 ("I1" ∷ "A/B" ∷ []) ∷
    refuses 38 39 ("/A" ∷ "A/" ∷ "A//B" ∷ " " ∷ []) ∷
    allows 38 40 ("E1" ∷ "A/B" ∷ []) ∷
    refuses 38 40 ("/A" ∷ "A/" ∷ "A//B" ∷ " " ∷ []) ∷ []

-- Rows of one value or two: TRF, true or false, NORM or HIGH, SEPA under row 18 and SCOR under row 53, NOTPROVIDED, SLEV, INST.
unfoldable pub word_cases : List Case
word_cases =
    allows 10 12 ("TRF" ∷ []) ∷
    refuses 10 12 ("TRA" ∷ "CHK" ∷ "trf" ∷ "TR" ∷ "TRFF" ∷ " TRF" ∷ "TRF " ∷ "true" ∷ "   " ∷ "" ∷ []) ∷
    allows 10 13 ("true" ∷ "false" ∷ []) ∷
    refuses 10 13 ("TRUE" ∷ "True" ∷ "FALSE" ∷ "tru" ∷ "fals" ∷ "falsee" ∷ "1" ∷ "0" ∷ " true" ∷ "true " ∷ "" ∷ []) ∷
    allows 16 17 ("NORM" ∷ "HIGH" ∷ []) ∷
    refuses 16 17 ("norm" ∷ "high" ∷ "NOR" ∷ "HIG" ∷ "HIGHH" ∷ "URGP" ∷ "LOW" ∷ "" ∷ []) ∷
    allows 18 19 ("SEPA" ∷ []) ∷
    refuses 18 19 ("SCOR" ∷ "sepa" ∷ "SEP" ∷ "SEPAA" ∷ "URGP" ∷ "" ∷ []) ∷
    allows 53 19 ("SCOR" ∷ []) ∷
    refuses 53 19 ("SEPA" ∷ "scor" ∷ "SCO" ∷ "SCORR" ∷ "DISP" ∷ "" ∷ []) ∷
    allows 32 33 ("NOTPROVIDED" ∷ []) ∷
    refuses 32 33 ("NOTPROVIDE" ∷ "NOTPROVIDEDD" ∷ "notprovided" ∷ "AAAALULL" ∷ "" ∷ []) ∷
    allows 10 36 ("SLEV" ∷ []) ∷
    refuses 10 36 ("SHAR" ∷ "slev" ∷ "SLE" ∷ "SLEVV" ∷ "" ∷ []) ∷
    allows 37 36 ("SLEV" ∷ []) ∷
    refuses 37 36 ("DEBT" ∷ "slev" ∷ []) ∷
    allows 56 57 ("INST" ∷ []) ∷
    refuses 56 57 ("INSTX" ∷ "INS" ∷ "inst" ∷ "SEPA" ∷ " INST" ∷ "INST " ∷ "    " ∷ "" ∷ []) ∷ []

-- A purpose code: one to four capitals or digits.
unfoldable pub purpose_cases : List Case
purpose_cases =
    allows 20 21 ("A" ∷ "Z" ∷ "0" ∷ "9" ∷ "SA" ∷ "AZ9" ∷ "SALA" ∷ "1234" ∷ []) ∷
    refuses 20 21 ("" ∷ "SALAR" ∷ "sALA" ∷ "SALa" ∷ "SA A" ∷ "SA/A" ∷ "SA:A" ∷ "SA@A" ∷ "SA[A" ∷ "SA-A" ∷ " " ∷ []) ∷
    allows 47 21 ("GDDS" ∷ "X" ∷ []) ∷
    refuses 47 21 ("" ∷ "GDDSS" ∷ "gdds" ∷ " " ∷ []) ∷ []

-- A date: `YYYY-MM-DD`, a true day of the years 2000 to 2099, where every fourth is a leap year. Each month's last day, and the day after it.
unfoldable pub date_cases : List Case
date_cases =
    allows 22 23
    ("2026-01-31" ∷ "2026-02-28" ∷ "2026-03-31" ∷ "2026-04-30" ∷ "2026-05-31" ∷ "2026-06-30" ∷
    "2026-07-31" ∷ "2026-08-31" ∷ "2026-09-30" ∷ "2026-10-31" ∷ "2026-11-30" ∷ "2026-12-31" ∷ []) ∷
    refuses 22 23
    ("2026-01-32" ∷ "2026-02-29" ∷ "2026-03-32" ∷ "2026-04-31" ∷ "2026-05-32" ∷ "2026-06-31" ∷
    "2026-07-32" ∷ "2026-08-32" ∷ "2026-09-31" ∷ "2026-10-32" ∷ "2026-11-31" ∷ "2026-12-32" ∷ []) ∷
    allows 22 23 ("2000-02-29" ∷ "2024-02-29" ∷ "2028-02-29" ∷ "2096-02-29" ∷ "2024-02-01" ∷ []) ∷
    refuses 22 23 ("2024-02-30" ∷ "2025-02-29" ∷ "2027-02-29" ∷ "2030-02-29" ∷ "2099-02-29" ∷ []) ∷
    allows 22 23 ("2000-01-01" ∷ "2099-12-31" ∷ "2026-12-01" ∷ "2026-01-01" ∷ []) ∷
    refuses 22 23 ("1999-12-31" ∷ "2100-01-01" ∷ "0000-01-01" ∷ "9999-01-01" ∷ "2026-00-10" ∷ "2026-13-01" ∷ "2026-01-00" ∷ "2026-02-00" ∷ []) ∷
    refuses 22 23
    ("2026-3-04" ∷ "2026-03-4" ∷ "26-03-04" ∷ "20260304" ∷ "2026/03/04" ∷ "2026-03/04" ∷ "2026-03-04 " ∷ " 2026-03-04" ∷ "2026-03-041" ∷
    "202:-03-04" ∷ "202/-03-04" ∷ "2026-0:-04" ∷ "2026-03-0:" ∷ "2026-03-0/" ∷ "2O26-03-04" ∷ "2026-03-04T08:30:00" ∷ "" ∷ "   " ∷ []) ∷ []

-- A date and time: such a day, `T`, `hh:mm:ss` up to 23:59:59.
unfoldable pub time_cases : List Case
time_cases =
    allows 3 5 ("2026-03-02T08:30:00" ∷ "2026-03-02T00:00:00" ∷ "2026-03-02T23:59:59" ∷ "2024-02-29T19:09:09" ∷ "2000-01-01T00:00:00" ∷ []) ∷
    refuses 3 5
    ("2026-03-02T24:00:00" ∷ "2026-03-02T23:60:00" ∷ "2026-03-02T23:59:60" ∷ "2026-03-02T99:00:00" ∷ "2026-02-29T08:30:00" ∷ "1999-12-31T08:30:00" ∷
    "2100-01-01T08:30:00" ∷ "2026-13-02T08:30:00" ∷ []) ∷
    refuses 3 5
    ("2026-03-02" ∷ "2026-03-02 08:30:00" ∷ "2026-03-02t08:30:00" ∷ "2026-03-02T08:30" ∷ "2026-03-02T08:30:0" ∷ "2026-03-02T08:30:000" ∷
    "2026-03-02T08.30.00" ∷ "2026-03-02T0830000" ∷ "2026-03-02T08:30:0:" ∷ "2026-03-02T0/:30:00" ∷ "2026-03-02T08:30:00Z" ∷ "2026/03/02T08:30:00" ∷ "" ∷ []) ∷ []

-- The same with a zone: `Z`, or a sign and `hh:mm` from 00:00 to 14:00.
unfoldable pub zone_cases : List Case
zone_cases =
    allows 22 58
    ("2026-03-04T08:30:00Z" ∷ "2026-03-04T08:30:00+00:00" ∷ "2026-03-04T08:30:00-00:00" ∷ "2026-03-04T08:30:00+14:00" ∷ "2026-03-04T08:30:00-14:00" ∷
    "2026-03-04T08:30:00+01:30" ∷ "2026-03-04T08:30:00+13:59" ∷ "2026-03-04T08:30:00-00:59" ∷ "2024-02-29T23:59:59Z" ∷ "2099-12-31T00:00:00-14:00" ∷ []) ∷
    refuses 22 58
    ("2026-03-04T08:30:00" ∷ "2026-03-04T08:30:00+14:01" ∷ "2026-03-04T08:30:00-14:01" ∷ "2026-03-04T08:30:00+15:00" ∷ "2026-03-04T08:30:00-24:00" ∷
    "2026-03-04T08:30:00+13:60" ∷ "2026-03-04T08:30:00+09:60" ∷ "2026-03-04T08:30:00-00:60" ∷ "2026-03-04T08:30:00+00:99" ∷ []) ∷
    refuses 22 58
    ("2026-03-04T08:30:00z" ∷ "2026-03-04T08:30:00ZZ" ∷ "2026-03-04T08:30:00Z+00:00" ∷ "2026-03-04T08:30:00+00:00Z" ∷ "2026-03-04T08:30:00+1:00" ∷
    "2026-03-04T08:30:00+01:0" ∷ "2026-03-04T08:30:00+0100" ∷ "2026-03-04T08:30:00+01" ∷ "2026-03-04T08:30:00+01:000" ∷ "2026-03-04T08:30:00+01.00" ∷
    "2026-03-04T08:30:0001:00" ∷ "2026-03-04T08:30:00 01:00" ∷ "2026-03-04T08:30:00,01:00" ∷ "2026-03-04T08:30:00+0/:00" ∷ "2026-03-04T08:30:00+00:0:" ∷
    "2026-03-04T08:30:00 Z" ∷ "2026-03-04T08:30:00Z " ∷ []) ∷
    refuses 22 58
    ("2026-02-29T08:30:00Z" ∷ "2026-04-31T08:30:00+01:00" ∷ "2100-01-01T08:30:00Z" ∷ "2026-03-04T24:00:00Z" ∷ "2026-03-04T23:60:00Z" ∷
    "2026-03-04T23:59:60Z" ∷ "2026-03-04Z" ∷ "2026-03-04" ∷ "2026-03-04T08:30Z" ∷ "2026-03-04 08:30:00Z" ∷
    "2026-03-04T08:30:00.0Z" ∷ "Z" ∷ "" ∷ "   " ∷ []) ∷ []

-- A count: digits; leading zeros are allowed. A number that digits spell.
unfoldable pub count_cases : List Case
count_cases =
    allows 3 6 ("0" ∷ "2" ∷ "9" ∷ "02" ∷ "000000000000002" ∷ "999999999999999" ∷ []) ∷
    refuses 3 6 ("" ∷ " " ∷ "+2" ∷ "-2" ∷ "2." ∷ "2.0" ∷ "2 " ∷ " 2" ∷ "2/" ∷ "2:" ∷ "/2" ∷ "two" ∷ "1A" ∷ []) ∷
    allows 10 14 ("1" ∷ "0010" ∷ []) ∷
    refuses 10 14 ("" ∷ "+1" ∷ "1.0" ∷ "1 " ∷ "1:" ∷ []) ∷
    spells "0" 0 ∷
    spells "9" 9 ∷
    spells "02" 2 ∷
    spells "10" 10 ∷
    spells "1234567890" 1234567890 ∷
    spells "000000000000064" 64 ∷
    spells "999999999999999" 999999999999999 ∷ []

-- A sum: 1 to 15 digits, then perhaps a point and one or two digits. `1.` and `.5` are none.
unfoldable pub sum_cases : List Case
sum_cases =
    allows 3 7
    ("0" ∷ "0.0" ∷ "0.00" ∷ "1" ∷ "1.5" ∷ "1.50" ∷ "01.5" ∷ "123456789012345" ∷ "999999999999999.9" ∷ "999999999999999.99" ∷ "000000000000001.5" ∷ []) ∷
    refuses 3 7
    ("1234567890123456" ∷ "0000000000000001" ∷ "1234567890123456.5" ∷ "1." ∷ ".5" ∷ "." ∷ "1.234" ∷ "1.000" ∷ "1,5" ∷ "1.5.5" ∷ "1..5" ∷ "1.5." ∷
    "+1" ∷ "-1" ∷ " 1" ∷ "1 " ∷ "1. 5" ∷ "1.5 " ∷ "1:" ∷ "1/" ∷ "1.:" ∷ "1.5:" ∷ "1.5/" ∷ "1E3" ∷ "" ∷ " " ∷ []) ∷
    allows 10 15 ("35.1" ∷ "35.10" ∷ "35" ∷ "123456789012345.67" ∷ []) ∷
    refuses 10 15 ("1234567890123456" ∷ "1." ∷ ".5" ∷ "1.234" ∷ "+1" ∷ "" ∷ []) ∷ []

-- An amount: a sum from 0.01 to 999999999.99; its currency is EUR.
unfoldable pub amount_cases : List Case
amount_cases =
    allows_in "EUR" ("0.01" ∷ "0.1" ∷ "1" ∷ "12.5" ∷ "12.50" ∷ "999999999" ∷ "999999999.9" ∷ "999999999.99" ∷ "000000000000.01" ∷ "000999999999.99" ∷ []) ∷
    refuses_in "EUR"
    ("0" ∷ "0.0" ∷ "0.00" ∷ "000.00" ∷ "1000000000" ∷ "1000000000.00" ∷ "1000000000.01" ∷ "999999999999999.99" ∷ "1." ∷ ".5" ∷ ".01" ∷ "0.001" ∷ "0.011" ∷
    "-1" ∷ "1,5" ∷ "0000000000000001" ∷ "" ∷ " " ∷ []) ∷
    refuses_in "USD" ("12.5" ∷ "0.01" ∷ []) ∷
    refuses_in "EUS" ("12.5" ∷ []) ∷
    refuses_in "EEU" ("12.5" ∷ []) ∷
    refuses_in "" ("12.5" ∷ []) ∷
    in_cents "0" 0 ∷
    in_cents "0.00" 0 ∷
    in_cents "0.01" 1 ∷
    in_cents "0.1" 10 ∷
    in_cents "0.10" 10 ∷
    in_cents "1" 100 ∷
    in_cents "1.0" 100 ∷
    in_cents "12.5" 1250 ∷
    in_cents "12.05" 1205 ∷
    in_cents "22.60" 2260 ∷
    in_cents "000000000000035.1" 3510 ∷
    in_cents "999999999.99" 99999999999 ∷
    in_cents "123456789012345" 12345678901234500 ∷
    in_cents "999999999999999.99" 99999999999999999 ∷ []

-- A BIC: four capitals or digits, two capitals, two or five capitals or digits; never NOTPROVIDED.
unfoldable pub bic_cases : List Case
bic_cases =
    allows 30 31 ("AAAALULL" ∷ "AAAALULLXXX" ∷ "0A9ZLU0Z" ∷ "9999ZZ99" ∷ "0000AA00000" ∷ "AAAALULL0A9" ∷ "NOTPROVI" ∷ "NOTPROVIDEE" ∷ []) ∷
    refuses 30 31
    ("NOTPROVIDED" ∷ "AAAALUL" ∷ "AAAALULLX" ∷ "AAAALULLXX" ∷ "AAAALULLXXXX" ∷ "AAAA1ULL" ∷ "AAAAL1LL" ∷ "AAAA9ULLXXX" ∷ "AAAAL0LLXXX" ∷
    "aAAALULL" ∷ "AAAAlULL" ∷ "AAAALuLL" ∷ "AAAALULl" ∷ "AAAALULLXXx" ∷ "AAA:LULL" ∷ "AAA/LULL" ∷ "AAAALUL:" ∷ "AAAA@ULL" ∷ "AAAAL[LL" ∷ "AAAALULL   " ∷
    "AAAA LULL" ∷ "" ∷ "        " ∷ []) ∷ []

-- An IBAN. One of each country; the same one digit shorter and one longer, with check digits that leave 1 by 97; other countries, with such check digits.
unfoldable pub iban_cases : List Case
iban_cases =
    allows 27 28
    ("BE68539007547034" ∷ "FI2112345600000785" ∷ "NL91ABNA0417164300" ∷ "AT611904300234573201" ∷ "LU280019400644750000" ∷ "DE89370400440532013000" ∷
    "IE29AIBK93115212345678" ∷ "ES9121000418450200051332" ∷ "PT50000201231234567890154" ∷ "FR1420041010050500013M02606" ∷ "GR1601101250000000012300695" ∷
    "IT60X0542811101000000123456" ∷ []) ∷
    refuses 27 28
    ("BE0853900754703" ∷ "FI211234560000078" ∷ "NL58ABNA041716430" ∷ "AT25190430023457320" ∷ "LU63001940064475000" ∷ "DE5137040044053201300" ∷
    "IE94AIBK9311521234567" ∷ "ES982100041845020005133" ∷ "PT5600020123123456789015" ∷ "FR8620041010050500013M0260" ∷ "GR560110125000000001230069" ∷
    "IT90X054281110100000012345" ∷ []) ∷
    refuses 27 28
    ("BE975390075470340" ∷ "FI59123456000007850" ∷ "NL33ABNA04171643000" ∷ "AT6019043002345732010" ∷ "LU6600194006447500000" ∷ "DE813704004405320130000" ∷
    "IE80AIBK931152123456780" ∷ "ES75210004184502000513320" ∷ "PT980002012312345678901540" ∷ "FR3820041010050500013M026060" ∷ "GR42011012500000000123006950" ∷
    "IT19X05428111010000001234560" ∷ []) ∷
    refuses 27 28 ("GB29NWBK60161331926819" ∷ "GB111234567890123456" ∷ "CH8512345678901234" ∷ "XX89123456789012" ∷ []) ∷
    -- Check digits from 02 to 98: 00, 01 and 99 are refused though they leave 1 by 97.
    allows 27 28 ("LU976541234567890064" ∷ "LU986541234567890046" ∷ "LU026541234567890028" ∷ []) ∷
    refuses 27 28 ("LU006541234567890064" ∷ "LU016541234567890046" ∷ "LU996541234567890028" ∷ []) ∷
    -- A to Z are read as 10 to 35. One character, one check digit or two neighbours changed.
    allows 27 28 ("FR61AZ041010050500013ZA2606" ∷ "NL43ZZZZ0417164300" ∷ []) ∷
    refuses 27 28
    ("FR61ZA041010050500013ZA2606" ∷ "FR61AZ041010050500013ZB2606" ∷ "NL43ZZZY0417164300" ∷ "NL44ZZZZ0417164300" ∷ "DE89370400440532013001" ∷ "DE98370400440532013000" ∷
    "DE89370400440532010300" ∷ []) ∷
    -- Capitals or digits alone; two capitals and two digits first. (Where a small letter or a colon is read on as capitals and digits are, these leave 1.)
    refuses 27 28
    ("FR4820041010050500013m02606" ∷ "lu606541234567890123" ∷ "LU08654123456789012:" ∷ "LU5665412345 67890123" ∷ "LU56 654123456789012" ∷ "L1566541234567890123" ∷
    "LUA66541234567890123" ∷ "LU" ∷ "LU56" ∷ "" ∷ "                    " ∷ []) ∷ []

-- Any text, but not spaces alone: names, free text, issuers and references.
unfoldable pub free_cases : List Case
free_cases =
    allows 8 9 ("x" ∷ " x" ∷ "x " ∷ "/" ∷ "//x/" ∷ "0" ∷ []) ∷
    refuses 8 9 ("" ∷ " " ∷ "     " ∷ []) ∷
    allows 24 25 ("x" ∷ "/" ∷ []) ∷
    refuses 24 25 ("" ∷ " " ∷ []) ∷
    allows 44 25 ("x" ∷ "/" ∷ []) ∷
    refuses 44 25 ("" ∷ " " ∷ []) ∷
    allows 34 35 ("x" ∷ "/" ∷ []) ∷
    refuses 34 35 ("" ∷ " " ∷ []) ∷
    allows 46 35 ("x" ∷ "/" ∷ []) ∷
    refuses 46 35 ("" ∷ " " ∷ []) ∷
    allows 48 49 ("x" ∷ "/" ∷ []) ∷
    refuses 48 49 ("" ∷ " " ∷ []) ∷
    allows 52 54 ("x" ∷ "/" ∷ []) ∷
    refuses 52 54 ("" ∷ " " ∷ []) ∷
    allows 51 55 ("x" ∷ "/" ∷ []) ∷
    refuses 51 55 ("" ∷ " " ∷ []) ∷ []

-- From C: a table's number is four bytes, high byte first; one to three bytes left at the table's end make no number.
unfoldable pub host_cases : List Case
host_cases =
    written_as 0 (0 ∷ 0 ∷ 0 ∷ 0 ∷ []) ∷
    written_as 1 (0 ∷ 0 ∷ 0 ∷ 1 ∷ []) ∷
    written_as 255 (0 ∷ 0 ∷ 0 ∷ 255 ∷ []) ∷
    written_as 256 (0 ∷ 0 ∷ 1 ∷ 0 ∷ []) ∷
    written_as 65535 (0 ∷ 0 ∷ 255 ∷ 255 ∷ []) ∷
    written_as 65536 (0 ∷ 1 ∷ 0 ∷ 0 ∷ []) ∷
    written_as 16777215 (0 ∷ 255 ∷ 255 ∷ 255 ∷ []) ∷
    written_as 16777216 (1 ∷ 0 ∷ 0 ∷ 0 ∷ []) ∷
    written_as 16909060 (1 ∷ 2 ∷ 3 ∷ 4 ∷ []) ∷
    written_as 999999999 (59 ∷ 154 ∷ 201 ∷ 255 ∷ []) ∷
    written_as 4294967295 (255 ∷ 255 ∷ 255 ∷ 255 ∷ []) ∷
    hold 0 0 ∷
    hold 3 0 ∷
    hold 4 1 ∷
    hold 7 1 ∷
    hold 8 2 ∷
    hold 5116 1279 ∷
    hold 5119 1279 ∷
    hold 5120 1280 ∷
    hold 5123 1280 ∷
    hold 5124 1281 ∷ []

unfoldable pub border_cases : List Case
border_cases =
    kind_cases ++
    (longest_cases ++
    (id_cases ++
    (word_cases ++
    (purpose_cases ++
    (date_cases ++
    (time_cases ++
    (zone_cases ++
    (count_cases ++
    (sum_cases ++
    (amount_cases ++
    (bic_cases ++
    (iban_cases ++
    (free_cases ++ host_cases)))))))))))))
