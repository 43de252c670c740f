-- Cases of refusal 28 (docs/RULES.md, 3 and 6): a new message may not hold row 32, an archived one may. The verdict on a message is given as a new one, then as an archived one.
use Prim.Native.String.{String}
use Rattle.std.specs.Prelude.{ℕ, List, [], ◌∷◌, ◌++◌}
use Rattle.paper.specs.Bytes.{bytes}
use Rattle.paper.specs.Refusals.{accepted}
use Rattle.paper.specs.Regrouping.{answered}
use Rattle.paper_cases.specs.Cases.{refused_with, message_refused_with, times, list, a_bic, not_provided, m1, m2, m1_by, m3_by, i1, i2, i1_by}
use Rattle.paper_cases_messages.specs.Changed.{Case, lent, message, table, parts, moved, each_moved, to, differing, new_and_archived, either_way, archived, no_parts, replaced, but, m1_but, m4, m4_new, m5, m5_new, m5_new_but, bare_payment, copies}
use Rattle.paper_cases_messages.specs.RegroupingCases.{one_alone, three_in_order}

-- M1 with this for its BIC; M1 with NOTPROVIDED, changed a little
unfoldable pub m1_holding : (agent : String) → List ℕ
m1_holding agent = m1_by (bytes agent)

unfoldable pub unprovided_but : (old new : String) → List ℕ
unprovided_but old new = but old new (m1_by not_provided)

-- Row 32 is 28 at its `<`, whatever row 33 holds; that is 6, 7 or 8 on 33 in an archived message. What breaks the rows is 3 or 4 in both.
unfoldable pub withdrawn_row_cases : List Case
withdrawn_row_cases =
    new_and_archived (m1_by not_provided) (refused_with 28 32 543) (accepted 1 2 3510) ∷
    new_and_archived (m1_holding " <Othr> <Id>NOTPROVIDED</Id>\n</Othr> ") (refused_with 28 32 544) (accepted 1 2 3510) ∷
    new_and_archived (m1_holding "<Othr><Id></Id></Othr>") (refused_with 28 32 543) (refused_with 6 33 549) ∷
    new_and_archived (m1_holding "<Othr><Id>123456789012345678901234567890123456</Id></Othr>") (refused_with 28 32 543) (refused_with 6 33 549) ∷
    new_and_archived (m1_holding "<Othr><Id>NOT_PROVIDED</Id></Othr>") (refused_with 28 32 543) (refused_with 7 33 556) ∷
    new_and_archived (m1_holding "<Othr><Id>AAAALULL</Id></Othr>") (refused_with 28 32 543) (refused_with 8 33 549) ∷
    new_and_archived (m1_holding "<Othr><Id>notprovided</Id></Othr>") (refused_with 28 32 543) (refused_with 8 33 549) ∷
    either_way (m1_holding "<Othr></Othr>") (refused_with 4 33 549) ∷
    either_way (m1_holding "<Othr> </Othr>") (refused_with 4 33 550) ∷
    either_way (m1_holding "<Othr>x</Othr>") (refused_with 3 32 549) ∷
    either_way (m1_holding "<Othr><Nm>NOTPROVIDED</Nm></Othr>") (refused_with 3 32 549) ∷
    either_way (m1_holding "<Othr><Id>NOTPROVIDED</Id><Id>NOTPROVIDED</Id></Othr>") (refused_with 3 32 569) ∷
    either_way (m1_holding "<Othr><Id><A></A></Id></Othr>") (refused_with 3 33 553) ∷
    either_way (m1_holding "<BICFI>NOTPROVIDED</BICFI>") (refused_with 8 31 543) ∷
    -- it stands nowhere else: under the creditor's agent it is 3 on 30, whatever the debtor's is
    either_way (m1_but "</Amt>" "</Amt><CdtrAgt><FinInstnId><Othr><Id>NOTPROVIDED</Id></Othr></FinInstnId></CdtrAgt>") (refused_with 3 30 752) ∷
    either_way (unprovided_but "</Amt>" "</Amt><CdtrAgt><FinInstnId><Othr><Id>NOTPROVIDED</Id></Othr></FinInstnId></CdtrAgt>") (refused_with 3 30 762) ∷
    either_way (m1_but "<IBAN>LU566541234567890123</IBAN>" "<Othr><Id>NOTPROVIDED</Id></Othr>") (refused_with 3 27 473) ∷
    -- in the second of two blocks, in both
    new_and_archived (m3_by a_bic not_provided "B2") (refused_with 28 32 1153) (accepted 2 2 3510) ∷
    new_and_archived (m3_by not_provided not_provided "B2") (refused_with 28 32 543) (accepted 2 2 3510) ∷
    -- a message without it is answered alike
    either_way m1 (accepted 1 2 3510) ∷
    either_way m4_new (accepted 2 3 3515) ∷
    either_way m5_new (accepted 1 1 1250) ∷
    message m4 (refused_with 28 32 1741) ∷
    message m5 (refused_with 28 32 631) ∷ []

-- Where it comes: after 14, 1 to 5 and every leaf before it in the file, before every leaf behind it and before 9 to 13.
unfoldable pub withdrawn_order_cases : List Case
withdrawn_order_cases =
    lent 1279 (m1_by not_provided) (refused_with 14 0 0) ∷
    either_way (m1_by not_provided ++ bytes "x") (refused_with 2 0 1096) ∷
    either_way (unprovided_but "</PmtInf>" "<Other></Other></PmtInf>") (refused_with 3 10 1056) ∷
    either_way (unprovided_but "<EndToEndId>E2</EndToEndId>" "") (refused_with 4 40 867) ∷
    -- with 63 payments more
    either_way (replaced (bytes "</PmtInf>") (copies 63 (bare_payment (38 ∷ 41 ∷ 44 ∷ 45 ∷ []) "" [] "") ++ bytes "</PmtInf>") (m1_by not_provided)) (refused_with 5 37 11844) ∷
    -- a leaf before it
    either_way (unprovided_but "M1" "M_") (refused_with 7 4 100) ∷
    either_way (unprovided_but "Institute" "") (refused_with 6 25 434) ∷
    either_way (unprovided_but "LU566541234567890123" "LU566541234567890124") (refused_with 8 28 473) ∷
    -- a leaf behind it
    new_and_archived (unprovided_but "Study 12" "") (refused_with 28 32 543) (refused_with 6 35 610) ∷
    new_and_archived (unprovided_but "B Klein" "B_Klein") (refused_with 28 32 543) (refused_with 7 25 960) ∷
    new_and_archived (unprovided_but "E2" "E/") (refused_with 28 32 543) (refused_with 8 40 867) ∷
    -- 9, 10, 11, 12, 13
    new_and_archived (unprovided_but "</Amt>" "</Amt><UltmtDbtr><Nm>x</Nm></UltmtDbtr>") (refused_with 28 32 543) (refused_with 9 34 741) ∷
    new_and_archived (unprovided_but "<PmtTpInf><SvcLvl><Cd>SEPA</Cd></SvcLvl></PmtTpInf>" "") (refused_with 28 32 492) (refused_with 10 16 589) ∷
    new_and_archived (m3_by not_provided a_bic "B1") (refused_with 28 32 543) (refused_with 11 11 864) ∷
    new_and_archived (m3_by a_bic not_provided "B1") (refused_with 28 32 1153) (refused_with 11 11 854) ∷
    new_and_archived (unprovided_but "<NbOfTxs>2" "<NbOfTxs>3") (refused_with 28 32 543) (refused_with 12 6 147) ∷
    new_and_archived (unprovided_but "<CtrlSum>35.10" "<CtrlSum>35.11") (refused_with 28 32 543) (refused_with 13 7 167) ∷
    -- after 28 nothing is written, and no field is there
    table (m1_by not_provided) (times 41 7) (times 41 7) ∷
    parts m5 0 no_parts ∷
    archived (table (m1_by not_provided) (times 41 7)
    (0 ∷ 672 ∷ 2 ∷ 789 ∷ 20 ∷ 751 ∷ 6 ∷ 614 ∷ 8 ∷ 341 ∷ 30 ∷ 479 ∷ 20 ∷ 12 ∷ 50 ∷ 640 ∷ 0 ∷ 0 ∷ 0 ∷ 0 ∷
    0 ∷ 879 ∷ 2 ∷ 998 ∷ 20 ∷ 959 ∷ 7 ∷ 614 ∷ 8 ∷ 341 ∷ 30 ∷ 479 ∷ 20 ∷ 22 ∷ 60 ∷ 847 ∷ 0 ∷ 0 ∷ 0 ∷ 0 ∷ 7 ∷ [])) ∷ []

-- Of a regrouping only the first message may be archived. A payment whose agent was not provided then equals none of the second's: they differ in field 7, or in a lower one.
unfoldable pub withdrawn_regrouping_cases : List Case
withdrawn_regrouping_cases =
    moved (m1_by not_provided) m1 (list 0 1) (message_refused_with 1 28 32 543) ∷
    moved (m1_by not_provided) (m1_by not_provided) (list 0 1) (message_refused_with 1 28 32 543) ∷
    moved m1 (m1_by not_provided) (list 0 1) (message_refused_with 2 28 32 543) ∷
    archived (moved m1 (m1_by not_provided) (list 0 1) (message_refused_with 2 28 32 543)) ∷
    archived (moved m1 (m1_by not_provided) [] (message_refused_with 2 28 32 543)) ∷
    archived (moved (m1_by not_provided) (m1_by not_provided) (list 0 1) (message_refused_with 2 28 32 543)) ∷
    archived (moved m5 m5 one_alone (message_refused_with 2 28 32 631)) ∷
    archived (moved m4_new m4 three_in_order (message_refused_with 2 28 32 1741)) ∷
    archived (differing m1 (m1_by not_provided) (list 0 1) 0 0) ∷
    -- the first archived, refused or not for something else
    archived (moved (unprovided_but "<NbOfTxs>2" "<NbOfTxs>3") m1 (list 0 1) (message_refused_with 1 12 6 147)) ∷
    archived (moved (m1_by not_provided) (m1_holding "<BICFI>NOTPROVIDED</BICFI>") (list 0 1) (message_refused_with 2 8 31 543)) ∷
    archived (moved (m1_by not_provided) m5_new (list 0 1) (answered 15 0 0)) ∷
    archived (moved (m1_by not_provided) m1 [] (answered 16 0 0)) ∷
    archived (moved (m1_by not_provided) m1 one_alone (answered 17 0 0)) ∷
    archived (moved (m1_by not_provided) m1 (list 2 0) (answered 18 0 0)) ∷
    archived (moved (m1_by not_provided) m1 (list 0 1) (answered 20 0 7)) ∷
    archived (moved (m1_by not_provided) m1 (list 1 0) (answered 20 0 7)) ∷
    archived (differing (m1_by not_provided) m1 (list 0 1) 550 8) ∷
    archived (each_moved m5 one_alone
    (to (m5_new_but "LU566541234567890123" "BE68539007547034") (answered 20 0 6) ∷
    to m5_new (answered 20 0 7) ∷
    to (m5_new_but "Study 12" "Study 1") (answered 20 0 7) ∷
    to m5 (message_refused_with 2 28 32 631) ∷ [])) ∷
    -- the payments of another block are paired
    archived (moved m4 m4_new three_in_order (answered 20 2 7)) ∷
    archived (differing m4 m4_new three_in_order 1748 8) ∷
    archived (moved (m3_by a_bic not_provided "B2") (m3_by a_bic a_bic "B2") (list 0 1) (answered 20 1 7)) ∷
    -- archived, and without it
    archived (moved m1 m1 (list 0 1) (answered 0 0 0)) ∷
    archived (moved m1 m2 (list 1 0) (answered 0 0 0)) ∷
    archived (moved m4_new m4_new three_in_order (answered 0 0 0)) ∷ []

-- Under the instant profile.
unfoldable pub withdrawn_instant_cases : List Case
withdrawn_instant_cases =
    new_and_archived (i1_by not_provided) (refused_with 28 32 598) (accepted 1 2 3510) ∷
    new_and_archived (i1_by (bytes "<Othr><Id></Id></Othr>")) (refused_with 28 32 598) (refused_with 6 33 604) ∷
    either_way (i1_by (bytes "<Othr></Othr>")) (refused_with 4 33 604) ∷
    either_way i1 (accepted 1 2 3510) ∷
    either_way (m1_by not_provided) (refused_with 4 56 371) ∷
    either_way (but "INST" "SEPA" (i1_by not_provided)) (refused_with 8 57 382) ∷
    new_and_archived (but "<NbOfTxs>2" "<NbOfTxs>3" (i1_by not_provided)) (refused_with 28 32 598) (refused_with 12 6 147) ∷
    moved (i1_by not_provided) i1 (list 0 1) (message_refused_with 1 28 32 598) ∷
    moved i1 (i1_by not_provided) (list 0 1) (message_refused_with 2 28 32 598) ∷
    archived (moved i1 (i1_by not_provided) (list 0 1) (message_refused_with 2 28 32 598)) ∷
    archived (moved (i1_by not_provided) i1 (list 0 1) (answered 20 0 7)) ∷
    archived (differing (i1_by not_provided) i1 (list 0 1) 605 8) ∷
    archived (moved (i1_by not_provided) m1 (list 0 1) (message_refused_with 2 4 56 371)) ∷
    archived (moved i1 i2 (list 1 0) (answered 0 0 0)) ∷ []

unfoldable pub withdrawn_message_cases : List Case
withdrawn_message_cases = withdrawn_row_cases ++ withdrawn_order_cases
