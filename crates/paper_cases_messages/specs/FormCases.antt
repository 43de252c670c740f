-- Cases of the written form (docs/RULES.md, 2), and of refusals 14, 1 and 2.
use Rattle.std.specs.Prelude.{List, [], ◌∷◌, ◌++◌}
use Rattle.paper.specs.Bytes.{bytes}
use Rattle.paper.specs.Form.{root_tag, declaration}
use Rattle.paper.specs.Refusals.{accepted}
use Rattle.paper_cases.specs.Cases.{refused_with, times, m1, m1_with}
use Rattle.paper_cases_messages.specs.Changed.{Case, message, lent, m1_but, replaced, nested, initiation}

-- 14: the table has under 1,280 numbers; before all else (M1 with 1,279 and 1,280: crates/paper_cases/specs/Cases.antt). 1: over 32,768 bytes; before 2.
unfoldable pub size_cases : List Case
size_cases =
    lent 1279 [] (refused_with 14 0 0) ∷
    lent 1279 (times 32769 32) (refused_with 14 0 0) ∷
    message (times 32769 32) (refused_with 1 0 32768) ∷
    message (times 32769 38) (refused_with 1 0 32768) ∷
    message (times 32768 32) (refused_with 2 0 32768) ∷
    message (times 32768 38) (refused_with 2 0 0) ∷ []

-- At offset 0 perhaps the declaration; then white space, one root, white space.
unfoldable pub around_cases : List Case
around_cases =
    message (declaration ++ m1) (accepted 1 2 3510) ∷
    message (declaration ++ m1_with "M1" "3" "35.10") (refused_with 12 6 185) ∷
    message (declaration ++ (bytes " \t\r\n" ++ m1)) (accepted 1 2 3510) ∷
    message (bytes " \t\r\n" ++ m1_with "M1" "3" "35.10") (refused_with 12 6 151) ∷
    message (m1 ++ bytes " \t\r\n") (accepted 1 2 3510) ∷
    message (bytes " " ++ (declaration ++ m1)) (refused_with 2 0 2) ∷
    message (declaration ++ (declaration ++ m1)) (refused_with 2 0 39) ∷
    message (bytes "<?xml version=\"1.1\" encoding=\"UTF-8\"?>" ++ m1) (refused_with 2 0 17) ∷
    message (bytes "<?xml version=\"1.0\" encoding=\"utf-8\"?>" ++ m1) (refused_with 2 0 30) ∷
    message (bytes "<?xml version='1.0' encoding='UTF-8'?>" ++ m1) (refused_with 2 0 14) ∷
    message (bytes "<?xml version=\"1.0\"?>" ++ m1) (refused_with 2 0 19) ∷
    message (bytes "x" ++ m1) (refused_with 2 0 0) ∷
    message (declaration ++ (bytes "x" ++ m1)) (refused_with 2 0 38) ∷
    message (m1 ++ bytes "x") (refused_with 2 0 1086) ∷
    message (m1 ++ m1) (refused_with 2 0 1086) ∷
    message (11 ∷ m1) (refused_with 2 0 0) ∷ []

-- The bytes so far begin a text of this form: the offset is the message's length.
unfoldable pub short_cases : List Case
short_cases =
    message (bytes "  ") (refused_with 2 0 2) ∷
    message (bytes "<") (refused_with 2 0 1) ∷
    message (bytes "<Docum") (refused_with 2 0 6) ∷
    message (bytes "<?xml ver") (refused_with 2 0 9) ∷
    message declaration (refused_with 2 0 38) ∷
    message root_tag (refused_with 2 0 65) ∷
    message (root_tag ++ bytes "<A>x</A") (refused_with 2 0 72) ∷
    message (root_tag ++ bytes "</Document") (refused_with 2 0 75) ∷
    message (root_tag ++ bytes "<A><InstdAmt Ccy=\"EU") (refused_with 2 0 85) ∷
    message (m1_but "</Document>\n" "</Document") (refused_with 2 0 1084) ∷ []

-- The root's start tag is exactly this; that tag is the root's alone.
unfoldable pub root_cases : List Case
root_cases =
    message (m1_but "001.09" "001.03") (refused_with 2 0 62) ∷
    message (m1_but "<Document " "<document ") (refused_with 2 0 1) ∷
    message (m1_but "<Document " "<Document  ") (refused_with 2 0 10) ∷
    message (m1_but "09\">" "09\" >") (refused_with 2 0 64) ∷
    message (m1_but "09\">" "09\"/>") (refused_with 2 0 64) ∷
    message (m1_but "=\"urn" "='urn") (refused_with 2 0 16) ∷
    message (bytes "<A></A>") (refused_with 2 0 1) ∷
    message (root_tag ++ bytes "<Document></Document></Document>") (refused_with 3 1 65) ∷
    message (root_tag ++ bytes "<Document x></Document></Document>") (refused_with 2 0 74) ∷
    message (root_tag ++ (root_tag ++ bytes "</Document></Document>")) (refused_with 2 0 74) ∷ []

-- A name is a letter and up to 31 letters or digits; every other start tag is `<Name>`. An element is closed by `</Name>` of its own name.
unfoldable pub name_cases : List Case
name_cases =
    message (initiation (bytes "<A2345678901234567890123456789012></A2345678901234567890123456789012>")) (refused_with 3 2 83) ∷
    message (initiation (bytes "<A23456789012345678901234567890123></A23456789012345678901234567890123>")) (refused_with 2 0 116) ∷
    message (initiation (bytes "<aZ0z9></aZ0z9>")) (refused_with 3 2 83) ∷
    message (initiation (bytes "<z></z>")) (refused_with 3 2 83) ∷
    message (initiation (bytes "<1A></1A>")) (refused_with 2 0 84) ∷
    message (initiation (bytes "<A-B></A-B>")) (refused_with 2 0 85) ∷
    message (initiation (bytes "<A:B></A:B>")) (refused_with 2 0 85) ∷
    message (initiation (bytes "<A_B></A_B>")) (refused_with 2 0 85) ∷
    message (initiation (bytes "<></>")) (refused_with 2 0 84) ∷
    message (initiation (bytes "< A></A>")) (refused_with 2 0 84) ∷
    message (initiation (bytes "<A ></A>")) (refused_with 2 0 85) ∷
    message (initiation (bytes "<A/>")) (refused_with 2 0 85) ∷
    message (initiation (bytes "<A x=\"1\"></A>")) (refused_with 2 0 85) ∷
    message (initiation (bytes "<A\t></A>")) (refused_with 2 0 85) ∷
    message (initiation (bytes "<!-- no -->")) (refused_with 2 0 84) ∷
    message (initiation (bytes "<?no?>")) (refused_with 2 0 84) ∷
    message (m1_but "</MsgId>" "</MsgID>") (refused_with 2 0 107) ∷
    message (m1_but "</MsgId>" "</MsgId >") (refused_with 2 0 108) ∷
    message (m1_but "</MsgId>" "</MsgIdd>") (refused_with 2 0 108) ∷
    message (m1_but "</MsgId>" "</MsgI>") (refused_with 2 0 107) ∷
    message (m1_but "</MsgId>" "</ MsgId>") (refused_with 2 0 103) ∷
    message (m1_but "</MsgId>" "</>") (refused_with 2 0 103) ∷
    message (m1_but "</MsgId>" "</GrpHdr>") (refused_with 2 0 103) ∷ []

-- Every start tag named InstdAmt is `<InstdAmt Ccy="XXX">` with three capitals, wherever it stands.
unfoldable pub amount_tag_cases : List Case
amount_tag_cases =
    message (m1_but "<InstdAmt Ccy=\"EUR\">" "<InstdAmt>") (refused_with 2 0 699) ∷
    message (m1_but "<MsgId>" "<InstdAmt>") (refused_with 2 0 101) ∷
    message (m1_but "<MsgId>" "<InstdAmt Ccy=\"EUR\">") (refused_with 2 0 116) ∷
    message (m1_but "<MsgId>M1</MsgId>" "<InstdAmt Ccy=\"USD\">M1</InstdAmt>") (refused_with 3 3 92) ∷
    message (m1_but "<MsgId>M1</MsgId>" "<InstdAmtX>M1</InstdAmtX>") (refused_with 3 3 92) ∷
    message (m1_but "<MsgId>M1</MsgId>" "<InstdAm>M1</InstdAm>") (refused_with 3 3 92) ∷
    message (m1_but "<MsgId>M1</MsgId>" "<instdAmt>M1</instdAmt>") (refused_with 3 3 92) ∷
    message (m1_but "<MsgId>" "<InstdAmtX Ccy=\"EUR\">") (refused_with 2 0 102) ∷
    message (m1_but "<MsgId>" "<MsgId Ccy=\"EUR\">") (refused_with 2 0 98) ∷
    message (m1_but "\"EUR\"" "\"EUr\"") (refused_with 2 0 707) ∷
    message (m1_but "\"EUR\"" "\"EU1\"") (refused_with 2 0 707) ∷
    message (m1_but "\"EUR\"" "\"EU\"") (refused_with 2 0 707) ∷
    message (m1_but "\"EUR\"" "\"EURO\"") (refused_with 2 0 708) ∷
    message (m1_but "\"EUR\"" "\"\"") (refused_with 2 0 705) ∷
    message (m1_but "\"EUR\"" "'EUR'") (refused_with 2 0 704) ∷
    message (m1_but " Ccy" " ccy") (refused_with 2 0 700) ∷
    message (m1_but " Ccy" "  Ccy") (refused_with 2 0 700) ∷
    message (m1_but "\"EUR\">" "\"EUR\" >") (refused_with 2 0 709) ∷
    message (m1_but "\"EUR\">" "\"EUR\"/>") (refused_with 2 0 709) ∷ []

-- An element holds either text or elements: behind text the letter of a child fails, behind a child any text. White space may stand around children.
unfoldable pub content_cases : List Case
content_cases =
    message (m1_but "<InitgPty>" "<InitgPty>x") (refused_with 2 0 203) ∷
    message (m1_but "<InitgPty>" "<InitgPty> x ") (refused_with 2 0 205) ∷
    message (m1_but "</InitgPty>" "x</InitgPty>") (refused_with 2 0 216) ∷
    message (m1_but "</InitgPty>" " x</InitgPty>") (refused_with 2 0 217) ∷
    message (m1_but "<CreDtTm>" "x<CreDtTm>") (refused_with 2 0 109) ∷
    message (m1_but "<CreDtTm>" " \t\r\n<CreDtTm>") (accepted 1 2 3510) ∷
    message (m1_but "<InitgPty>" "<InitgPty> \t\r\n") (accepted 1 2 3510) ∷
    message (m1_but "</InitgPty>" " \t\r\n</InitgPty>") (accepted 1 2 3510) ∷
    message (m1_but "M1</MsgId>" "M1<</MsgId>") (refused_with 2 0 102) ∷
    message (m1_but "<MsgId>M1" "<MsgId>M1<A></A>") (refused_with 2 0 102) ∷ []

-- Text is bytes from 32 up and tab, line feed, carriage return, without `<` and `&`; UTF-8 is not checked. What is not in the set of values is 7 later.
unfoldable pub text_cases : List Case
text_cases =
    message (m1_but "M1" "M>") (refused_with 7 4 100) ∷
    message (m1_but "M1" "M\"") (refused_with 7 4 100) ∷
    message (m1_but "M1" "M\t") (refused_with 7 4 100) ∷
    message (m1_but "M1" "M\n") (refused_with 7 4 100) ∷
    message (m1_but "M1" "M\r") (refused_with 7 4 100) ∷
    message (replaced (bytes "M1") (77 ∷ 127 ∷ []) m1) (refused_with 7 4 100) ∷
    message (replaced (bytes "M1") (77 ∷ 128 ∷ []) m1) (refused_with 7 4 100) ∷
    message (replaced (bytes "M1") (195 ∷ 255 ∷ []) m1) (refused_with 7 4 99) ∷
    message (m1_but "M1" "M&") (refused_with 2 0 100) ∷
    message (m1_but "M1" "&amp;") (refused_with 2 0 99) ∷
    message (replaced (bytes "M1") (77 ∷ 0 ∷ []) m1) (refused_with 2 0 100) ∷
    message (replaced (bytes "M1") (77 ∷ 8 ∷ []) m1) (refused_with 2 0 100) ∷
    message (replaced (bytes "M1") (77 ∷ 11 ∷ []) m1) (refused_with 2 0 100) ∷
    message (replaced (bytes "M1") (77 ∷ 12 ∷ []) m1) (refused_with 2 0 100) ∷
    message (replaced (bytes "M1") (77 ∷ 14 ∷ []) m1) (refused_with 2 0 100) ∷
    message (replaced (bytes "M1") (31 ∷ 77 ∷ []) m1) (refused_with 2 0 99) ∷
    message (replaced (bytes "M1") (11 ∷ []) m1) (refused_with 2 0 99) ∷ []

-- Depth is at most 12, the root's 1: at depth 13 the letter fails.
unfoldable pub depth_cases : List Case
depth_cases =
    message (root_tag ++ (nested 11 [] ++ bytes "</Document>")) (refused_with 3 1 65) ∷
    message (root_tag ++ (nested 11 (bytes "x") ++ bytes "</Document>")) (refused_with 3 1 65) ∷
    message (root_tag ++ (nested 12 [] ++ bytes "</Document>")) (refused_with 2 0 99) ∷
    message (root_tag ++ (nested 11 (bytes " <B></B>") ++ bytes "</Document>")) (refused_with 2 0 100) ∷ []

unfoldable pub form_cases : List Case
form_cases =
    size_cases ++
    (around_cases ++
    (short_cases ++
    (root_cases ++
    (name_cases ++
    (amount_tag_cases ++
    (content_cases ++
    (text_cases ++ depth_cases)))))))
