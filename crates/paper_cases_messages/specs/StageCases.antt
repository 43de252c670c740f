-- Cases of the stages from 5 on (docs/RULES.md, 4 to 6): limits, leaves, usage, block ids, counts and sums; and of the order of the stages.
use Rattle.std.specs.Prelude.{List, [], ◌∷◌, ◌++◌}
use Rattle.paper.specs.Bytes.{bytes}
use Rattle.paper.specs.Refusals.{accepted}
use Rattle.paper_cases.specs.Cases.{refused_with, m3, m1_with}
use Rattle.paper_cases_messages.specs.Changed.{Case, message, archived, either_way, but, m1_but, m4, m5_but, bare, initiation, copies, crowd}

-- 5: the 17th block or the 65th payment, whichever comes first in the file; 16 blocks and 64 payments are allowed.
unfoldable pub limit_cases : List Case
limit_cases =
    message (initiation (bare 3 ++ (crowd 63 ++ crowd 2))) (refused_with 5 37 11835) ∷
    message (initiation (bare 3 ++ (copies 15 (crowd 1) ++ (crowd 49 ++ crowd 1)))) (refused_with 5 10 15386) ∷
    message (initiation (bare 3 ++ (copies 15 (crowd 1) ++ (crowd 50 ++ crowd 1)))) (refused_with 5 37 15377) ∷ []

-- One leaf is tried 6, 7, 8.
unfoldable pub leaf_cases : List Case
leaf_cases =
    message (m1_but "M1" "/3456789012345678901234567890123456") (refused_with 8 4 92) ∷
    message (m1_but "M1" "12345678901234567890123456789012345") (accepted 1 2 3510) ∷
    message (m1_but "M1" "123456789012345678901234567890123456") (refused_with 6 4 92) ∷
    message (m1_but "M1" "/_3456789012345678901234567890123456") (refused_with 6 4 92) ∷
    message (m1_but "M1" "/_#") (refused_with 7 4 100) ∷
    message (m1_but "M1" "/") (refused_with 8 4 92) ∷
    message (m1_but "M1" "") (refused_with 6 4 92) ∷
    message (m1_but "M1" " ") (refused_with 8 4 92) ∷
    message (m1_but "M1" "\t") (refused_with 7 4 99) ∷
    message (m1_but "M1" "\n") (refused_with 7 4 99) ∷
    message (m1_but "M1" "                                   ") (refused_with 8 4 92) ∷
    message (m1_but "M1" "                                    ") (refused_with 6 4 92) ∷
    -- The currency is part of the value of row 42: 8, after 6 and 7 of its text.
    message (m1_but "EUR\">12.5" "USD\">12.5") (refused_with 8 42 690) ∷
    message (m1_but "EUR\">12.5" "USD\">1_") (refused_with 7 42 711) ∷
    message (m1_but "EUR\">12.5" "USD\">") (refused_with 6 42 690) ∷
    message (m1_but "EUR\">12.5" "EUR\">0.00") (refused_with 8 42 690) ∷
    message (m1_but "22.60" "0000000000000022.60") (refused_with 6 42 897) ∷ []

-- Each leaf, refused as its own row: empty 6, or a value that is not allowed 8.
unfoldable pub each_leaf_cases : List Case
each_leaf_cases =
    message (m1_but "2026-03-02T08:30:00" "2026-03-02T24:00:00") (refused_with 8 5 109) ∷
    message (m1_but ">2</NbOfTxs>" ">+2</NbOfTxs>") (refused_with 8 6 147) ∷
    message (m1_but ">35.10<" ">35.<") (refused_with 8 7 167) ∷
    message (m1_but "Trials" "") (refused_with 6 9 201) ∷
    message (m1_but "B1" "B/") (refused_with 8 11 245) ∷
    message (m1_but "TRF" "CHK") (refused_with 8 12 268) ∷
    either_way (m5_but "false" "FALSE") (refused_with 8 13 287) ∷
    message (m1_but "TRF</PmtMtd><NbOfTxs>2" "TRF</PmtMtd><NbOfTxs>2.0") (refused_with 8 14 288) ∷
    message (m1_but ">35.1<" ">.1<") (refused_with 8 15 308) ∷
    either_way (m5_but "HIGH" "LOW") (refused_with 8 17 368) ∷
    message (m1_but "SEPA" "SCOR") (refused_with 8 19 349) ∷
    either_way (m5_but "SALA" "sala") (refused_with 8 21 435) ∷
    message (m1_but "2026-03-04" "2026-02-29") (refused_with 8 23 395) ∷
    message (m1_but "Institute" " ") (refused_with 8 25 434) ∷
    message (m1_but "LU566541234567890123" "LU566541234567890124") (refused_with 8 28 473) ∷
    archived (message (m5_but "NOTPROVIDED" "AAAALULL") (refused_with 8 33 637)) ∷
    message (m1_but "AAAALULL" "NOTPROVIDED") (refused_with 8 31 543) ∷
    message (m1_but "Study 12" "") (refused_with 6 35 600) ∷
    archived (message (m5_but "SLEV" "SHAR") (refused_with 8 36 727)) ∷
    archived (message (m5_but "I1" "/I") (refused_with 8 39 769)) ∷
    message (m1_but "E1" "E//1") (refused_with 8 40 650) ∷
    archived (message (m5_but "BBBBLULL" "BBBB1ULL") (refused_with 8 31 892)) ∷
    message (m1_but "A Weis" "") (refused_with 6 25 737) ∷
    message (m1_but "LU699871234567898765" "GB29NWBK60161331926819") (refused_with 8 28 773) ∷
    archived (message (m5_but "C Meyer" "") (refused_with 6 35 1040)) ∷
    archived (message (m5_but "GDDS" "GDDSS") (refused_with 6 21 1074)) ∷
    archived (message (m5_but "SCOR" "SEPA") (refused_with 8 19 1135)) ∷
    archived (message (m5_but "ISO" "") (refused_with 6 54 1160)) ∷
    archived (message (m5_but "RF18" " ") (refused_with 8 55 1181)) ∷
    either_way (but "Travel 12" "Travel_12" m4) (refused_with 7 49 1111) ∷ []

-- 6 to 8 are one walk in the order of the file: a value further up comes before a length further down.
unfoldable pub value_order_cases : List Case
value_order_cases =
    message (but "Trials" "" (m1_but "M1" "M/")) (refused_with 8 4 92) ∷
    message (but "Trials" "" (m1_but "M1" "M_")) (refused_with 7 4 100) ∷
    message (but "E1" "E/" (m1_but "E2" "")) (refused_with 8 40 650) ∷
    message (but "E1" "" (m1_but "E2" "E/")) (refused_with 6 40 650) ∷ []

-- 9: 16, 36 or 34 stands in the payment and in its block. 10: 16 stands in neither. In each payment 16, then 36, then 34; then the next payment.
unfoldable pub usage_cases : List Case
usage_cases =
    message (m1_but "</PmtId>" "</PmtId><PmtTpInf><SvcLvl><Cd>SEPA</Cd></SvcLvl></PmtTpInf>") (refused_with 9 16 685) ∷
    archived (message (m5_but "</Amt>" "</Amt><ChrgBr>SLEV</ChrgBr>") (refused_with 9 36 871)) ∷
    message (m1_but "</Amt>" "</Amt><UltmtDbtr><Nm>Study 12</Nm></UltmtDbtr>") (refused_with 9 34 731) ∷
    message (m1_but "</Amt>" "</Amt><ChrgBr>SLEV</ChrgBr>") (accepted 1 2 3510) ∷
    message (m1_but "<PmtTpInf><SvcLvl><Cd>SEPA</Cd></SvcLvl></PmtTpInf>" "") (refused_with 10 16 579) ∷
    message (but "</PmtId>" "</PmtId><PmtTpInf><SvcLvl><Cd>SEPA</Cd></SvcLvl></PmtTpInf>" (m1_but "<PmtTpInf><SvcLvl><Cd>SEPA</Cd></SvcLvl></PmtTpInf>" ""))
    (refused_with 10 16 837) ∷
    -- all three in one payment; 36 and 34; 10 and 36
    archived (message (but "</PmtId>" "</PmtId><PmtTpInf><SvcLvl><Cd>SEPA</Cd></SvcLvl></PmtTpInf>"
    (m5_but "</Amt>" "</Amt><ChrgBr>SLEV</ChrgBr><UltmtDbtr><Nm>x</Nm></UltmtDbtr>")) (refused_with 9 16 825)) ∷
    archived (message (m5_but "</Amt>" "</Amt><ChrgBr>SLEV</ChrgBr><UltmtDbtr><Nm>x</Nm></UltmtDbtr>") (refused_with 9 36 871)) ∷
    archived (message (but "<PmtTpInf><InstrPrty>HIGH</InstrPrty><SvcLvl><Cd>SEPA</Cd></SvcLvl><CtgyPurp><Cd>SALA</Cd></CtgyPurp></PmtTpInf>" ""
    (m5_but "</Amt>" "</Amt><ChrgBr>SLEV</ChrgBr>")) (refused_with 10 16 637)) ∷
    -- 34 in the first payment, 16 in the second
    message (but "E2</EndToEndId></PmtId>" "E2</EndToEndId></PmtId><PmtTpInf><SvcLvl><Cd>SEPA</Cd></SvcLvl></PmtTpInf>"
    (m1_but "</Amt>" "</Amt><UltmtDbtr><Nm>x</Nm></UltmtDbtr>")) (refused_with 9 34 731) ∷
    -- a block that has none of them, behind one that has
    message (but "22.60</InstdAmt></Amt>" "22.60</InstdAmt></Amt><UltmtDbtr><Nm>x</Nm></UltmtDbtr>" m3) (accepted 2 2 3510) ∷ []

-- 11: a block's id equals an earlier block's, byte for byte.
unfoldable pub block_id_cases : List Case
block_id_cases =
    message m3 (accepted 2 2 3510) ∷
    message (but "B2" "B1" m3) (refused_with 11 11 854) ∷
    message (but "B2" "b1" m3) (accepted 2 2 3510) ∷
    message (but "B2" "B1 " m3) (accepted 2 2 3510) ∷
    message (but "B2" "B11" m3) (accepted 2 2 3510) ∷
    message (but "B1" "B12" (but "B2" "B1" m3)) (accepted 2 2 3510) ∷ []

-- 12 and 13: a count or a sum differs from the truth. The header's count, the header's sum, then each block's count and sum; as numbers.
unfoldable pub count_and_sum_cases : List Case
count_and_sum_cases =
    message (m1_with "M1" "000000000000002" "000000000000035.1") (accepted 1 2 3510) ∷
    message (m1_with "M1" "1" "35.10") (refused_with 12 6 147) ∷
    message (m1_with "M1" "2" "35.1") (accepted 1 2 3510) ∷
    message (m1_with "M1" "2" "35.09") (refused_with 13 7 167) ∷
    message (m1_with "M1" "2" "35") (refused_with 13 7 167) ∷
    message (m1_with "M1" "2" "3510") (refused_with 13 7 167) ∷
    message (m1_with "M1" "2" "35.01") (refused_with 13 7 167) ∷
    message (m1_but "12.5<" "12.50<") (accepted 1 2 3510) ∷
    message (m1_but "12.5<" "12.51<") (refused_with 13 7 167) ∷
    message (m1_but "TRF</PmtMtd><NbOfTxs>2" "TRF</PmtMtd><NbOfTxs>3") (refused_with 12 14 288) ∷
    message (m1_but "35.1<" "35.2<") (refused_with 13 15 308) ∷
    message (m1_but "35.1<" "35.100<") (refused_with 8 15 308) ∷
    -- two at once: header count and sum; header sum and block count; block count and sum
    message (but "35.1<" "35.2<" (m1_with "M1" "3" "35.11")) (refused_with 12 6 147) ∷
    message (but "TRF</PmtMtd><NbOfTxs>2" "TRF</PmtMtd><NbOfTxs>3" (m1_with "M1" "2" "35.11")) (refused_with 13 7 167) ∷
    message (but "35.1<" "35.2<" (m1_but "TRF</PmtMtd><NbOfTxs>2" "TRF</PmtMtd><NbOfTxs>3")) (refused_with 12 14 288) ∷
    -- the second block's count; its sum; the first block's sum and the second block's count
    message (but "TRF</PmtMtd><NbOfTxs>1</NbOfTxs><CtrlSum>22" "TRF</PmtMtd><NbOfTxs>2</NbOfTxs><CtrlSum>22" m3) (refused_with 12 14 897) ∷
    message (but "<CtrlSum>22.60" "<CtrlSum>22.61" m3) (refused_with 13 15 917) ∷
    message (but "<CtrlSum>12.5" "<CtrlSum>12.6" (but "TRF</PmtMtd><NbOfTxs>1</NbOfTxs><CtrlSum>22" "TRF</PmtMtd><NbOfTxs>2</NbOfTxs><CtrlSum>22" m3))
    (refused_with 13 15 308) ∷
    -- the header's numbers are those of the message, not of a block
    message (but "<NbOfTxs>2" "<NbOfTxs>1" m3) (refused_with 12 6 147) ∷
    message (but "<CtrlSum>35.10" "<CtrlSum>12.50" m3) (refused_with 13 7 167) ∷ []

-- The order of the stages: a message that breaks two, the later one's fault further up in the file where it can be.
unfoldable pub order_cases : List Case
order_cases =
    -- 2 before 3 and 4
    message (but "</Document>" "</Document >" (m1_but "<MsgId>M1</MsgId>" "")) (refused_with 2 0 1067) ∷
    message (but "</Document>" "</Document" (m1_but "<MsgId>M1</MsgId>" "<A></A>")) (refused_with 2 0 1074) ∷
    -- 3 and 4 before 5
    message (initiation (bare 3 ++ (crowd 65 ++ bytes "<Other></Other>"))) (refused_with 3 2 11765) ∷
    -- 3 and 4 before 6, 7 and 8
    message (but "</PmtInf>" "<Other></Other></PmtInf>" (m1_but "M1" "M_")) (refused_with 3 10 1046) ∷
    message (but "<EndToEndId>E2</EndToEndId>" "" (m1_but "M1" "")) (refused_with 4 40 855) ∷
    -- 6, 7 and 8 before 9 and 10
    message (but "B Klein" "B_Klein" (m1_but "</Amt>" "</Amt><UltmtDbtr><Nm>x</Nm></UltmtDbtr>")) (refused_with 7 25 983) ∷
    message (but "LU415551234567898765" "LU415551234567898766" (m1_but "<PmtTpInf><SvcLvl><Cd>SEPA</Cd></SvcLvl></PmtTpInf>" "")) (refused_with 8 28 931) ∷
    -- 9 and 10 before 11
    message (but "</Amt><Cdtr><Nm>B Klein" "</Amt><ChrgBr>SLEV</ChrgBr><Cdtr><Nm>B Klein" (but "</DbtrAgt>\n" "</DbtrAgt><ChrgBr>SLEV</ChrgBr>\n" (but "B2" "B1" m3)))
    (refused_with 9 36 1323) ∷
    -- 11 before 12 and 13
    message (but "<NbOfTxs>2" "<NbOfTxs>3" (but "B2" "B1" m3)) (refused_with 11 11 854) ∷
    message (but "<CtrlSum>35.10" "<CtrlSum>35.11" (but "B2" "B1" m3)) (refused_with 11 11 854) ∷
    -- 8 further down before 12 further up; 10 before 12
    message (but "LU415551234567898765" "LU415551234567898766" (m1_with "M1" "3" "35.10")) (refused_with 8 28 982) ∷
    message (but "<PmtTpInf><SvcLvl><Cd>SEPA</Cd></SvcLvl></PmtTpInf>" "" (m1_with "M1" "3" "35.10")) (refused_with 10 16 579) ∷ []

unfoldable pub stage_cases : List Case
stage_cases =
    limit_cases ++
    (leaf_cases ++ (each_leaf_cases ++ value_order_cases))

unfoldable pub later_stage_cases : List Case
later_stage_cases = usage_cases ++ (block_id_cases ++ (count_and_sum_cases ++ order_cases))
