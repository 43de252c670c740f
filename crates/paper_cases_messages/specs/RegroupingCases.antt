-- Cases of the regrouping list and of the answers to a regrouping (docs/RULES.md, 9).
use Rattle.std.specs.Prelude.{ℕ, List, [], ◌∷◌, ◌++◌}
use Prim.Native.String.{String}
use Rattle.std.proofs.Math.Option.{none, some}
use Rattle.paper.specs.Bytes.{bytes}
use Rattle.paper.specs.Fields.{absent, a_text, in_cents, free_text, reference}
use Rattle.paper.specs.Regrouping.{answered}
use Rattle.paper_cases.specs.Cases.{m1, m2, m3, m1_with, list, message_refused_with}
use Rattle.paper_cases_messages.specs.Changed.{Case, moved, each_moved, to, differing, filed, often_is, archived, replaced, but, m1_but, m4, m4_new, m5, m5_new, m5_new_but}

-- the lists of ordinals 0, and 0, 1, 2
unfoldable pub one_alone : List ℕ
one_alone = bytes "RGL" ++ (0 ∷ 1 ∷ 0 ∷ 1 ∷ 0 ∷ 0 ∷ [])

unfoldable pub three_in_order : List ℕ
three_in_order = bytes "RGL" ++ (0 ∷ 1 ∷ 0 ∷ 3 ∷ 0 ∷ 0 ∷ 0 ∷ 1 ∷ 0 ∷ 2 ∷ [])

-- M5's row 16; M5 as a new message, with another one, in the payment and not in its block
unfoldable pub its_type : String
its_type = "<PmtTpInf><InstrPrty>HIGH</InstrPrty><SvcLvl><Cd>SEPA</Cd></SvcLvl><CtgyPurp><Cd>SALA</Cd></CtgyPurp></PmtTpInf>"

unfoldable pub m5_with_type : String → List ℕ
m5_with_type type = replaced (bytes "<Amt>") (bytes type ++ bytes "<Amt>") (m5_new_but its_type "")

-- The first message's refusal, or else the second's; then 15, the numbers of payments differ. The file is not looked at.
unfoldable pub message_cases : List Case
message_cases =
    moved [] [] [] (message_refused_with 1 2 0 0) ∷
    moved (m1_with "M1" "3" "35.10") (m1_with "M_" "2" "35.10") (list 0 1) (message_refused_with 1 12 6 147) ∷
    moved m1 (m1_with "M_" "2" "35.10") (list 0 1) (message_refused_with 2 7 4 100) ∷
    moved m1 (m1_with "M1" "2" "35.11") [] (message_refused_with 2 13 7 167) ∷
    moved m1 m5_new (list 0 1) (answered 15 0 0) ∷
    archived (moved m5 m1 (list 0 1) (answered 15 0 0)) ∷
    archived (moved m5 m1 [] (answered 15 0 0)) ∷ []

-- 16: `RGL`, the 16-bit version 1, a 16-bit count, then that many 16-bit ordinals, high byte first; no other byte. 17: another count than the payments'.
unfoldable pub file_cases : List Case
file_cases =
    moved m1 m1 [] (answered 16 0 0) ∷
    moved m1 m1 (bytes "RGL") (answered 16 0 0) ∷
    moved m1 m1 (bytes "RGL" ++ (0 ∷ 1 ∷ [])) (answered 16 0 0) ∷
    moved m1 m1 (bytes "RG" ++ (0 ∷ 1 ∷ 0 ∷ 2 ∷ 0 ∷ 0 ∷ 0 ∷ 1 ∷ [])) (answered 16 0 0) ∷
    moved m1 m1 (bytes "RGM" ++ (0 ∷ 1 ∷ 0 ∷ 2 ∷ 0 ∷ 0 ∷ 0 ∷ 1 ∷ [])) (answered 16 0 0) ∷
    moved m1 m1 (bytes "rgl" ++ (0 ∷ 1 ∷ 0 ∷ 2 ∷ 0 ∷ 0 ∷ 0 ∷ 1 ∷ [])) (answered 16 0 0) ∷
    moved m1 m1 (bytes "RGL" ++ (0 ∷ 2 ∷ 0 ∷ 2 ∷ 0 ∷ 0 ∷ 0 ∷ 1 ∷ [])) (answered 16 0 0) ∷
    moved m1 m1 (bytes "RGL" ++ (1 ∷ 1 ∷ 0 ∷ 2 ∷ 0 ∷ 0 ∷ 0 ∷ 1 ∷ [])) (answered 16 0 0) ∷
    moved m1 m1 (bytes "RGL" ++ (1 ∷ 0 ∷ 0 ∷ 2 ∷ 0 ∷ 0 ∷ 0 ∷ 1 ∷ [])) (answered 16 0 0) ∷
    moved m1 m1 (bytes "RGL" ++ (0 ∷ 0 ∷ 0 ∷ 2 ∷ 0 ∷ 0 ∷ 0 ∷ 1 ∷ [])) (answered 16 0 0) ∷
    moved m1 m1 (bytes "RGL" ++ (0 ∷ 1 ∷ 0 ∷ 1 ∷ 0 ∷ 0 ∷ 0 ∷ 1 ∷ [])) (answered 16 0 0) ∷
    moved m1 m1 (bytes "RGL" ++ (0 ∷ 1 ∷ 0 ∷ 3 ∷ 0 ∷ 0 ∷ 0 ∷ 1 ∷ [])) (answered 16 0 0) ∷
    moved m1 m1 (bytes "RGL" ++ (0 ∷ 1 ∷ 2 ∷ 0 ∷ 0 ∷ 0 ∷ 0 ∷ 1 ∷ [])) (answered 16 0 0) ∷
    moved m1 m1 (list 0 1 ++ (0 ∷ [])) (answered 16 0 0) ∷
    moved m1 m1 (list 0 1 ++ (0 ∷ 0 ∷ [])) (answered 16 0 0) ∷
    moved m1 m1 (bytes "RGL" ++ (0 ∷ 1 ∷ 0 ∷ 2 ∷ 0 ∷ 0 ∷ 0 ∷ [])) (answered 16 0 0) ∷
    moved m1 m1 (list 0 1) (answered 0 0 0) ∷
    moved m1 m1 (bytes "RGL" ++ (0 ∷ 1 ∷ 0 ∷ 0 ∷ [])) (answered 17 0 0) ∷
    moved m1 m1 one_alone (answered 17 0 0) ∷
    moved m1 m1 three_in_order (answered 17 0 0) ∷
    archived (moved m5 m5_new (bytes "RGL" ++ (0 ∷ 1 ∷ 0 ∷ 0 ∷ [])) (answered 17 0 0)) ∷
    filed [] (bytes "RGL" ++ (0 ∷ 1 ∷ 0 ∷ 0 ∷ [])) ∷
    filed (1 ∷ 0 ∷ []) (list 1 0) ∷
    filed (258 ∷ 65535 ∷ 255 ∷ []) (bytes "RGL" ++ (0 ∷ 1 ∷ 0 ∷ 3 ∷ 1 ∷ 2 ∷ 255 ∷ 255 ∷ 0 ∷ 255 ∷ [])) ∷ []

-- 18 an ordinal too large, 19 named before, 20 the two payments differ: in turn for each k.
unfoldable pub ordinal_cases : List Case
ordinal_cases =
    moved m1 m1 (list 2 1) (answered 18 0 0) ∷
    moved m1 m1 (list 0 2) (answered 18 1 0) ∷
    moved m1 m1 (list 255 255) (answered 18 0 0) ∷
    moved m1 m1 (bytes "RGL" ++ (0 ∷ 1 ∷ 0 ∷ 2 ∷ 1 ∷ 0 ∷ 0 ∷ 1 ∷ [])) (answered 18 0 0) ∷
    moved m1 m1 (bytes "RGL" ++ (0 ∷ 1 ∷ 0 ∷ 2 ∷ 0 ∷ 0 ∷ 1 ∷ 1 ∷ [])) (answered 18 1 0) ∷
    -- a difference at k = 0 comes before an ordinal too large or named before at k = 1
    moved m1 m1 (list 1 2) (answered 20 0 10) ∷
    moved m1 m1 (list 1 1) (answered 20 0 10) ∷
    -- named before comes before the difference that it makes
    moved m1 m1 (list 0 0) (answered 19 1 0) ∷
    moved m4_new m4_new three_in_order (answered 0 0 0) ∷
    archived (moved m4 m4_new (bytes "RGL" ++ (0 ∷ 1 ∷ 0 ∷ 3 ∷ 0 ∷ 0 ∷ 0 ∷ 1 ∷ 0 ∷ 0 ∷ [])) (answered 19 2 0)) ∷
    moved m2 m1 (list 1 0) (answered 0 0 0) ∷
    moved m3 m1 (list 0 1) (answered 20 1 8) ∷
    moved m1 (m1_but "E2" "E9") (list 0 1) (answered 20 1 10) ∷
    -- a payment of the first message that is nowhere in the second
    moved (m1_but "E2" "E9") m2 (list 1 0) (answered 20 0 10) ∷ []

-- What is no field may differ: ids of message and block, charges, the writing of counts and sums, white space.
unfoldable pub no_field_cases : List Case
no_field_cases =
    each_moved m5_new one_alone
    (to (m5_new_but "M5" "M6") (answered 0 0 0) ∷
    to (m5_new_but "B1" "B2") (answered 0 0 0) ∷
    to (m5_new_but "<ChrgBr>SLEV</ChrgBr>" "") (answered 0 0 0) ∷
    to (m5_new_but "12.5</CtrlSum>" "012.50</CtrlSum>") (answered 0 0 0) ∷
    to (m5_new_but "<PmtTpInf>" "\n<PmtTpInf> ") (answered 0 0 0) ∷ []) ∷ []

-- Field 1 absent means true, field 2 absent means NORM; the amount is compared in cents. 2, 3 and 8 are equal in the payment and in its block.
unfoldable pub equal_cases : List Case
equal_cases =
    each_moved m5_new one_alone
    (to (m5_new_but "12.5</InstdAmt>" "12.50</InstdAmt>") (answered 0 0 0) ∷
    to (m5_new_but "12.5</InstdAmt>" "00012.5</InstdAmt>") (answered 0 0 0) ∷
    to (m5_with_type its_type) (answered 0 0 0) ∷
    to (m5_with_type "<PmtTpInf><InstrPrty>HIGH</InstrPrty><SvcLvl><Cd>SEPA</Cd></SvcLvl></PmtTpInf>") (answered 20 0 3) ∷
    to (but "</Amt>" "</Amt><UltmtDbtr><Nm>Study 12</Nm></UltmtDbtr>" (m5_new_but "<UltmtDbtr><Nm>Study 12</Nm></UltmtDbtr>" "")) (answered 0 0 0) ∷
    to (but "</Amt>" "</Amt><UltmtDbtr><Nm>Study 13</Nm></UltmtDbtr>" (m5_new_but "<UltmtDbtr><Nm>Study 12</Nm></UltmtDbtr>" "")) (answered 20 0 8) ∷ []) ∷
    moved (m5_new_but "false" "true") (m5_new_but "<BtchBookg>false</BtchBookg>" "") one_alone (answered 0 0 0) ∷
    moved (m5_new_but "<InstrPrty>HIGH</InstrPrty>" "") (m5_new_but "HIGH" "NORM") one_alone (answered 0 0 0) ∷ []

-- Each of the seventeen fields changed, and absent where it may be: the lowest field that differs.
unfoldable pub different_cases : List Case
different_cases =
    each_moved m5_new one_alone
    (to (m5_new_but "false" "true") (answered 20 0 1) ∷
    to (m5_new_but "<BtchBookg>false</BtchBookg>" "") (answered 20 0 1) ∷
    to (m5_new_but "HIGH" "NORM") (answered 20 0 2) ∷
    to (m5_new_but "<InstrPrty>HIGH</InstrPrty>" "") (answered 20 0 2) ∷
    to (m5_new_but "SALA" "SALB") (answered 20 0 3) ∷
    to (m5_new_but "<CtgyPurp><Cd>SALA</Cd></CtgyPurp>" "") (answered 20 0 3) ∷
    to (m5_new_but "2026-03-04" "2026-03-05") (answered 20 0 4) ∷
    to (m5_new_but "Institute" "institute") (answered 20 0 5) ∷
    to (m5_new_but "LU566541234567890123" "BE68539007547034") (answered 20 0 6) ∷
    to (m5_new_but "AAAALULL" "AAAALULLXXX") (answered 20 0 7) ∷
    to (m5_new_but "Study 12" "Study 1") (answered 20 0 8) ∷
    to (m5_new_but "<UltmtDbtr><Nm>Study 12</Nm></UltmtDbtr>" "") (answered 20 0 8) ∷
    to (m5_new_but "I1" "I2") (answered 20 0 9) ∷
    to (m5_new_but "<InstrId>I1</InstrId>" "") (answered 20 0 9) ∷
    to (m5_new_but "E1" "E2") (answered 20 0 10) ∷
    to (but "12.5</C" "12.51</C" (but "12.5</C" "12.51</C" (m5_new_but "12.5</I" "12.51</I"))) (answered 20 0 11) ∷
    to (m5_new_but "BBBBLULL" "BBBBLULLXXX") (answered 20 0 12) ∷
    to (m5_new_but "<CdtrAgt><FinInstnId><BICFI>BBBBLULL</BICFI></FinInstnId></CdtrAgt>" "") (answered 20 0 12) ∷
    to (m5_new_but "A Weis" "A Weiss") (answered 20 0 13) ∷
    to (m5_new_but "LU699871234567898765" "LU415551234567898765") (answered 20 0 14) ∷
    to (m5_new_but "C Meyer" "C Meier") (answered 20 0 15) ∷
    to (m5_new_but "<UltmtCdtr><Nm>C Meyer</Nm></UltmtCdtr>" "") (answered 20 0 15) ∷
    to (m5_new_but "GDDS" "GDD") (answered 20 0 16) ∷
    to (m5_new_but "<Purp><Cd>GDDS</Cd></Purp>" "") (answered 20 0 16) ∷
    to (m5_new_but "RF18" "RF19") (answered 20 0 17) ∷
    to (m5_new_but "ISO" "LU") (answered 20 0 17) ∷
    to (m5_new_but "<Issr>ISO</Issr>" "") (answered 20 0 17) ∷
    -- several at once: the lowest
    to (but "SALA" "SALB" (m5_new_but "RF18" "RF19")) (answered 20 0 3) ∷
    to (but "E1" "E2" (m5_new_but "I1" "I2")) (answered 20 0 9) ∷ []) ∷
    archived (moved m5 m5_new one_alone (answered 20 0 7)) ∷
    moved (m5_new_but "<BtchBookg>false</BtchBookg>" "") m5_new one_alone (answered 20 0 1) ∷
    moved m1 (m1_but "AAAALULL" "AAAALULLXXX") (list 0 1) (answered 20 0 7) ∷
    moved (m5_new_but "<UltmtDbtr><Nm>Study 12</Nm></UltmtDbtr>" "") m5_new one_alone (answered 20 0 8) ∷
    -- Field 17: an issuer or none; free text of the same bytes; free text or none
    moved (m5_new_but "<Issr>ISO</Issr>" "") m5_new one_alone (answered 20 0 17) ∷
    moved (m5_new_but "<Issr>ISO</Issr>" "") (m5_new_but "<Issr>ISO</Issr>" "") one_alone (answered 0 0 0) ∷
    moved (m5_new_but "<Issr>ISO</Issr>" "")
    (m5_new_but "<Strd><CdtrRefInf><Tp><CdOrPrtry><Cd>SCOR</Cd></CdOrPrtry><Issr>ISO</Issr></Tp><Ref>RF18</Ref></CdtrRefInf></Strd>" "<Ustrd>RF18</Ustrd>") one_alone
    (answered 20 0 17) ∷
    moved (m5_new_but "<Strd><CdtrRefInf><Tp><CdOrPrtry><Cd>SCOR</Cd></CdOrPrtry><Issr>ISO</Issr></Tp><Ref>RF18</Ref></CdtrRefInf></Strd>" "<Ustrd>RF18</Ustrd>")
    (m5_new_but "<Issr>ISO</Issr>" "") one_alone (answered 20 0 17) ∷
    moved m1 (m1_but "</CdtrAcct>" "</CdtrAcct><RmtInf><Ustrd>x</Ustrd></RmtInf>") (list 0 1) (answered 20 0 17) ∷
    each_moved (m1_but "</CdtrAcct>" "</CdtrAcct><RmtInf><Ustrd>x</Ustrd></RmtInf>") (list 0 1)
    (to m1 (answered 20 0 17) ∷
    to (m1_but "</CdtrAcct>" "</CdtrAcct><RmtInf><Ustrd>y</Ustrd></RmtInf>") (answered 20 0 17) ∷
    to (m1_but "</CdtrAcct>" "</CdtrAcct><RmtInf><Ustrd>x </Ustrd></RmtInf>") (answered 20 0 17) ∷
    to (m1_but "</CdtrAcct>" "</CdtrAcct><RmtInf><Ustrd>x</Ustrd></RmtInf>") (answered 0 0 0) ∷ []) ∷ []

-- For 20 the differing field's part in the second message; the empty part at 0 where it is absent there, and for any other answer.
unfoldable pub differing_cases : List Case
differing_cases =
    differing m5_new (m5_new_but "false" "true") one_alone 298 4 ∷
    differing m5_new (m5_new_but "<BtchBookg>false</BtchBookg>" "") one_alone 0 0 ∷
    differing (m5_new_but "<BtchBookg>false</BtchBookg>" "") m5_new one_alone 298 5 ∷
    archived (differing m5 m5_new one_alone 638 8) ∷
    differing m5_new (but "12.5</C" "12.51</C" (but "12.5</C" "12.51</C" (m5_new_but "12.5</I" "12.51</I"))) one_alone 842 5 ∷
    differing m5_new (m5_new_but "<Issr>ISO</Issr>" "") one_alone 1160 4 ∷
    differing m1 (m1_but "E2" "E99") (list 0 1) 869 3 ∷
    differing m1 m3 (list 0 1) 0 0 ∷
    differing m3 m1 (list 0 1) 604 8 ∷
    differing m5_new m5_new one_alone 0 0 ∷
    differing m5_new (m5_new_but "false" "true") [] 0 0 ∷
    differing m1 m1 (list 0 0) 0 0 ∷
    differing m1 m5_new (list 0 1) 0 0 ∷
    differing m5_new (m5_new_but "E1" "E/") one_alone 0 0 ∷
    differing (m5_new_but "E1" "E/") m5_new one_alone 0 0 ∷ []

-- How often a payment, taken as its fields, stands among some.
unfoldable pub often_cases : List Case
often_cases =
    often_is (absent ∷ []) [] 0 ∷
    often_is (absent ∷ a_text (1 ∷ []) ∷ []) ((absent ∷ a_text (1 ∷ []) ∷ []) ∷ (absent ∷ a_text (2 ∷ []) ∷ []) ∷ (absent ∷ a_text (1 ∷ []) ∷ []) ∷ []) 2 ∷
    often_is (a_text (1 ∷ 2 ∷ []) ∷ []) ((a_text (1 ∷ []) ∷ []) ∷ (a_text (1 ∷ 2 ∷ 3 ∷ []) ∷ []) ∷ (free_text (1 ∷ 2 ∷ []) ∷ []) ∷ (absent ∷ []) ∷ []) 0 ∷
    often_is (in_cents 5 ∷ []) ((in_cents 5 ∷ []) ∷ (in_cents 6 ∷ []) ∷ (in_cents 5 ∷ absent ∷ []) ∷ [] ∷ []) 1 ∷
    often_is (reference none (1 ∷ []) ∷ [])
    ((reference none (1 ∷ []) ∷ []) ∷ (reference none (2 ∷ []) ∷ []) ∷ (reference (some []) (1 ∷ []) ∷ []) ∷ (free_text (1 ∷ []) ∷ []) ∷ []) 1 ∷
    often_is (reference (some (3 ∷ [])) (1 ∷ []) ∷ [])
    ((reference none (1 ∷ []) ∷ []) ∷ (reference (some (3 ∷ [])) (1 ∷ []) ∷ []) ∷ (reference (some (4 ∷ [])) (1 ∷ []) ∷ []) ∷ []) 1 ∷ []

unfoldable pub regrouping_cases : List Case
regrouping_cases =
    message_cases ++
    (file_cases ++
    (ordinal_cases ++ (differing_cases ++ often_cases)))

unfoldable pub comparing_cases : List Case
comparing_cases = no_field_cases ++ (equal_cases ++ different_cases)
