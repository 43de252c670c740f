-- The cases that are computed, over the definitions. Under the first profile: those that were asked to be proved (P), in their order; the verdict on M1 itself, its
-- table, its fields' parts and the host's bytes; M6's table. Under the instant profile: I1, its table and field 4. Under both: some refusals in which they agree. Row 32 in
-- new and in archived messages, and how a caller says which they are.
use Rattle.std.specs.Prelude.{ℕ, zero, suc, List, [], ◌∷◌, ◌++◌, Bool, true, false, ◌≡◌}
use Prim.Native.String.{String}
use Rattle.paper.specs.Bytes.{bytes}
use Rattle.paper.specs.Form.{root_tag}
use Rattle.paper.specs.Rows.{Profile, first_profile, instant_profile, as_archived}
use Rattle.paper.specs.Values.{amount, iban, date, date_time_zone}
use Rattle.paper.specs.Sizes.{least_table}
use Rattle.paper.specs.Refusals.{MessageAnswer, accepted, refused, outcome_alone, outcome, verdict}
use Rattle.paper.specs.Table.{payment_numbers, table_after}
use Rattle.paper.specs.Fields.{field_part}
use Rattle.paper.specs.Regrouping.{RegroupingAnswer, message_refused, answered, regrouping, differing_part}
use Rattle.paper.specs.Host.{profile_numbered, bytes_after}
use Rattle.paper.specs.Answers.{profile_named}

-- Message M1, line by line, with what its neighbours change. Of a block and of a payment row 16 is given whole, or nothing where it has none; of a block what row 22 holds, and
-- what row 30 of its debtor's agent holds: a BIC, or NOTPROVIDED.
unfoldable pub header : (id count sum : String) → List ℕ
header id count sum =
    bytes "<GrpHdr><MsgId>" ++
    (bytes id ++
    (bytes "</MsgId><CreDtTm>2026-03-02T08:30:00</CreDtTm><NbOfTxs>" ++
    (bytes count ++
    (bytes "</NbOfTxs><CtrlSum>" ++
    (bytes sum ++ bytes "</CtrlSum><InitgPty><Nm>Trials</Nm></InitgPty></GrpHdr>\n")))))

unfoldable pub a_bic : List ℕ
a_bic = bytes "<BICFI>AAAALULL</BICFI>"

unfoldable pub not_provided : List ℕ
not_provided = bytes "<Othr><Id>NOTPROVIDED</Id></Othr>"

unfoldable pub block_by : (agent type date : List ℕ) (id count sum ultimate_debtor : String) → List ℕ
block_by agent type date id count sum ultimate_debtor =
    bytes "<PmtInf><PmtInfId>" ++
    (bytes id ++
    (bytes "</PmtInfId><PmtMtd>TRF</PmtMtd><NbOfTxs>" ++
    (bytes count ++
    (bytes "</NbOfTxs><CtrlSum>" ++
    (bytes sum ++
    (bytes "</CtrlSum>" ++
    (type ++
    (bytes "<ReqdExctnDt>" ++
    (date ++
    (bytes "</ReqdExctnDt><Dbtr><Nm>Institute</Nm></Dbtr>" ++
    (bytes "<DbtrAcct><Id><IBAN>LU566541234567890123</IBAN></Id></DbtrAcct><DbtrAgt><FinInstnId>" ++
    (agent ++
    (bytes "</FinInstnId></DbtrAgt>" ++ (bytes ultimate_debtor ++ bytes "\n"))))))))))))))

unfoldable pub block_with : (type date : List ℕ) (id count sum ultimate_debtor : String) → List ℕ
block_with type date id count sum ultimate_debtor = block_by a_bic type date id count sum ultimate_debtor

unfoldable pub sepa : List ℕ
sepa = bytes "<PmtTpInf><SvcLvl><Cd>SEPA</Cd></SvcLvl></PmtTpInf>"

unfoldable pub fourth_of_march : List ℕ
fourth_of_march = bytes "<Dt>2026-03-04</Dt>"

unfoldable pub block : (id count sum ultimate_debtor : String) → List ℕ
block id count sum ultimate_debtor = block_with sepa fourth_of_march id count sum ultimate_debtor

unfoldable pub payment_with : (type : List ℕ) (end_to_end_id amount creditor account : String) → List ℕ
payment_with type end_to_end_id amount creditor account =
    bytes "<CdtTrfTxInf><PmtId><EndToEndId>" ++
    (bytes end_to_end_id ++
    (bytes "</EndToEndId></PmtId>" ++
    (type ++
    (bytes "<Amt><InstdAmt Ccy=\"EUR\">" ++
    (bytes amount ++
    (bytes "</InstdAmt></Amt><Cdtr><Nm>" ++
    (bytes creditor ++
    (bytes "</Nm></Cdtr><CdtrAcct><Id><IBAN>" ++ (bytes account ++ bytes "</IBAN></Id></CdtrAcct></CdtTrfTxInf>\n")))))))))

unfoldable pub payment : (end_to_end_id amount creditor account : String) → List ℕ
payment end_to_end_id amount creditor account = payment_with [] end_to_end_id amount creditor account

unfoldable pub order : (header blocks : List ℕ) → List ℕ
order header blocks =
    root_tag ++ (bytes "<CstmrCdtTrfInitn>\n" ++ (header ++ (blocks ++ bytes "</PmtInf></CstmrCdtTrfInitn></Document>\n")))

unfoldable pub study_12 : String
study_12 = "<UltmtDbtr><Nm>Study 12</Nm></UltmtDbtr>"

unfoldable pub weis : List ℕ
weis = payment "E1" "12.5" "A Weis" "LU699871234567898765"

unfoldable pub klein : List ℕ
klein = payment "E2" "22.60" "B Klein" "LU415551234567898765"

-- M1 with another header; M1; M2 is M1 with its payments exchanged; M3 is M1 with the second payment in a block B2 without ultimate debtor, and so with other agents of the
-- debtor and another id of the second block.
unfoldable pub m1_with : (id count sum : String) → List ℕ
m1_with id count sum = order (header id count sum) (block "B1" "2" "35.1" study_12 ++ (weis ++ klein))

unfoldable pub m1 : List ℕ
m1 = m1_with "M1" "2" "35.10"

-- M1 with the largest amount in both payments, and these sums in header and block
unfoldable pub m1_largest : (sum block_sum : String) → List ℕ
m1_largest sum block_sum =
    order (header "M1" "2" sum)
    (block "B1" "2" block_sum study_12 ++
    (payment "E1" "999999999.99" "A Weis" "LU699871234567898765" ++ payment "E2" "999999999.99" "B Klein" "LU415551234567898765"))

unfoldable pub m2 : List ℕ
m2 = order (header "M1" "2" "35.10") (block "B1" "2" "35.1" study_12 ++ (klein ++ weis))

unfoldable pub m3_by : (agent other_agent : List ℕ) (other_id : String) → List ℕ
m3_by agent other_agent other_id =
    order (header "M1" "2" "35.10")
    (block_by agent sepa fourth_of_march "B1" "1" "12.5" study_12 ++
    (weis ++ (bytes "</PmtInf>" ++ (block_by other_agent sepa fourth_of_march other_id "1" "22.60" "" ++ klein))))

unfoldable pub m3 : List ℕ
m3 = m3_by a_bic a_bic "B2"

-- I1 is M1 with a local instrument in its row 16 and a date and time in its row 22; so with other rows 16 and 22. I2 is I1 with its payments exchanged.
unfoldable pub inst : List ℕ
inst = bytes "<PmtTpInf><SvcLvl><Cd>SEPA</Cd></SvcLvl><LclInstrm><Cd>INST</Cd></LclInstrm></PmtTpInf>"

unfoldable pub half_past_nine : List ℕ
half_past_nine = bytes "<DtTm>2026-03-04T09:30:00+01:00</DtTm>"

unfoldable pub i1_with : (type date : List ℕ) → List ℕ
i1_with type date = order (header "M1" "2" "35.10") (block_with type date "B1" "2" "35.1" study_12 ++ (weis ++ klein))

unfoldable pub i1 : List ℕ
i1 = i1_with inst half_past_nine

unfoldable pub i2 : List ℕ
i2 = order (header "M1" "2" "35.10") (block_with inst half_past_nine "B1" "2" "35.1" study_12 ++ (klein ++ weis))

-- M1 and I1 with another agent of the debtor; M1 so, with something behind its payments
unfoldable pub m1_by_and : (agent behind : List ℕ) → List ℕ
m1_by_and agent behind =
    order (header "M1" "2" "35.10") (block_by agent sepa fourth_of_march "B1" "2" "35.1" study_12 ++ (weis ++ (klein ++ behind)))

unfoldable pub m1_by : (agent : List ℕ) → List ℕ
m1_by agent = m1_by_and agent []

unfoldable pub i1_by : (agent : List ℕ) → List ℕ
i1_by agent = order (header "M1" "2" "35.10") (block_by agent inst half_past_nine "B1" "2" "35.1" study_12 ++ (weis ++ klein))

-- M6 has five payments: the first with a BIC of the creditor's agent and free text, the second with a reference and its issuer, the third with a reference without issuer,
-- the fourth with none of these, the fifth with a BIC alone. The debtor's agent has a BIC of its own. So with other rows 16 and 22. (M4 and M5 stand in
-- crates/paper_cases_messages/specs/Changed.antt.)
unfoldable pub m6_payment : (end_to_end_id amount agent remittance : String) → List ℕ
m6_payment end_to_end_id amount agent remittance =
    bytes "<CdtTrfTxInf><PmtId><EndToEndId>" ++
    (bytes end_to_end_id ++
    (bytes "</EndToEndId></PmtId><Amt><InstdAmt Ccy=\"EUR\">" ++
    (bytes amount ++
    (bytes "</InstdAmt></Amt>" ++
    (bytes agent ++
    (bytes "<Cdtr><Nm>A Weis</Nm></Cdtr><CdtrAcct><Id><IBAN>LU699871234567898765</IBAN></Id></CdtrAcct>" ++
    (bytes remittance ++ bytes "</CdtTrfTxInf>\n")))))))

unfoldable pub m6_with : (type date : List ℕ) → List ℕ
m6_with type date =
    order (header "M6" "5" "38.15")
    (block_with type date "B1" "5" "38.15" study_12 ++
    (m6_payment "E1" "12.5" "<CdtrAgt><FinInstnId><BICFI>BBBBLULLXXX</BICFI></FinInstnId></CdtrAgt>" "<RmtInf><Ustrd>Travel 12</Ustrd></RmtInf>" ++
    (m6_payment "E2" "22.60" ""
    "<RmtInf><Strd><CdtrRefInf><Tp><CdOrPrtry><Cd>SCOR</Cd></CdOrPrtry><Issr>ISO</Issr></Tp><Ref>RF18539007547034</Ref></CdtrRefInf></Strd></RmtInf>" ++
    (m6_payment "E3" "0.05" "" "<RmtInf><Strd><CdtrRefInf><Tp><CdOrPrtry><Cd>SCOR</Cd></CdOrPrtry></Tp><Ref>RF1912</Ref></CdtrRefInf></Strd></RmtInf>" ++
    (m6_payment "E4" "1" "" "" ++ m6_payment "E5" "2.00" "<CdtrAgt><FinInstnId><BICFI>CCCCLULL</BICFI></FinInstnId></CdtrAgt>" "")))))

unfoldable pub m6 : List ℕ
m6 = m6_with sepa fourth_of_march

-- the list of two ordinals
unfoldable pub list : (first second : ℕ) → List ℕ
list first second = bytes "RGL" ++ (0 ∷ 1 ∷ 0 ∷ 2 ∷ 0 ∷ first ∷ 0 ∷ second ∷ [])

-- A case: the verdict on a message with a table that is long enough, or has so many numbers; what a value's rule says; the answer to a regrouping; the table after a message, laid over
-- an old one, and its bytes; a payment's numbers in that table; the start and length of a field's part; those of the part that is handed back after a regrouping. It holds
-- under a profile. Two name their own: the verdict on a message under the profile that two numbers name, as a host in C does, or two truths, as the code does. One says which
-- profile the numbers name.
pub data Case : Type 0 where
  message : List ℕ → MessageAnswer → Case
  lent : (table_length : ℕ) → List ℕ → MessageAnswer → Case
  value : (List ℕ → Bool) → String → Bool → Case
  moved : (first second file : List ℕ) → RegroupingAnswer → Case
  table bytes_of : (message old after : List ℕ) → Case
  payment_has : (message old : List ℕ) (payment : ℕ) (numbers : List ℕ) → Case
  field : (message : List ℕ) (payment field start size : ℕ) → Case
  differing : (first second file : List ℕ) (start size : ℕ) → Case
  by_number : (profile archived : ℕ) → List ℕ → MessageAnswer → Case
  by_name : (instant archived : Bool) → List ℕ → MessageAnswer → Case
  numbers_name : (profile archived : ℕ) → Profile → Case

unfoldable pub Holds : Profile → Case → Type 0
Holds profile (message s a) = verdict profile least_table s ≡ a
Holds profile (lent n s a) = verdict profile n s ≡ a
Holds profile (value rule w allowed) = rule (bytes w) ≡ allowed
Holds profile (moved first second file a) = regrouping profile first second file ≡ a
Holds profile (table s old after) = table_after (outcome profile least_table s) old ≡ after
Holds profile (bytes_of s old after) = bytes_after (outcome profile least_table s) old ≡ after
Holds profile (payment_has s old payment numbers) = payment_numbers payment (table_after (outcome profile least_table s) old) ≡ numbers
Holds profile (field s payment number start size) = field_part (outcome_alone profile s) payment number ≡ record { start = start; size = size }
Holds profile (differing first second file start size) = differing_part profile first second file ≡ record { start = start; size = size }
Holds profile (by_number n archived s a) = verdict (profile_numbered n archived) least_table s ≡ a
Holds profile (by_name instant archived s a) = verdict (profile_named (record { instant = instant; archived = archived })) least_table s ≡ a
Holds profile (numbers_name n archived which) = profile_numbered n archived ≡ which

unfoldable pub refused_with : (number element offset : ℕ) → MessageAnswer
refused_with number element offset = refused (record { number = number; element = element; offset = offset })

unfoldable pub message_refused_with : (whose number element offset : ℕ) → RegroupingAnswer
message_refused_with whose number element offset = message_refused whose (record { number = number; element = element; offset = offset })

-- so many times one number
unfoldable pub times : ℕ → ℕ → List ℕ
times zero n = []
times (suc k) n = n ∷ times k n

unfoldable pub p_cases : List Case
p_cases =
    message [] (refused_with 2 0 0) ∷
    message (bytes "<Document>") (refused_with 2 0 9) ∷
    message (root_tag ++ bytes "</Document>") (refused_with 4 2 65) ∷
    message (m1_with "M1/" "2" "35.10") (refused_with 8 4 92) ∷
    message (m1_with "M_" "2" "35.10") (refused_with 7 4 100) ∷
    message (m1_with "M1" "3" "35.10") (refused_with 12 6 147) ∷
    message (m1_with "M1" "02" "35.10") (accepted 1 2 3510) ∷
    message (m1_with "M1" "2" "35.11") (refused_with 13 7 167) ∷
    value amount "0.01" true ∷
    value amount "999999999.99" true ∷
    value amount "0.00" false ∷
    value amount "1000000000.00" false ∷
    value iban "LU566541234567890123" true ∷
    value iban "LU566541234567890124" false ∷
    value iban "LU566541234567890122" false ∷
    value iban "LU699871234567898765" true ∷
    value iban "LU699871234567898766" false ∷
    value iban "LU699871234567898764" false ∷
    value iban "LU415551234567898765" true ∷
    value iban "LU415551234567898766" false ∷
    value iban "LU415551234567898764" false ∷
    value date "2024-02-29" true ∷
    value date "2026-02-29" false ∷
    message m1 (accepted 1 2 3510) ∷
    moved m1 m2 (list 1 0) (answered 0 0 0) ∷
    moved m1 m2 (list 0 1) (answered 20 0 10) ∷
    moved m1 m3 (list 0 1) (answered 20 1 8) ∷ []

-- M1's 40 numbers, twenty for each payment
unfoldable pub m1_numbers : List ℕ
m1_numbers =
    0 ∷ 662 ∷ 2 ∷ 779 ∷ 20 ∷ 741 ∷ 6 ∷ 604 ∷ 8 ∷ 341 ∷ 30 ∷ 479 ∷ 20 ∷ 12 ∷ 50 ∷ 630 ∷ 0 ∷ 0 ∷ 0 ∷ 0 ∷
    0 ∷ 869 ∷ 2 ∷ 988 ∷ 20 ∷ 949 ∷ 7 ∷ 604 ∷ 8 ∷ 341 ∷ 30 ∷ 479 ∷ 20 ∷ 22 ∷ 60 ∷ 837 ∷ 0 ∷ 0 ∷ 0 ∷ 0 ∷ []

unfoldable pub m1_bytes : List ℕ
m1_bytes =
    0 ∷ 0 ∷ 0 ∷ 0 ∷ 0 ∷ 0 ∷ 2 ∷ 150 ∷ 0 ∷ 0 ∷ 0 ∷ 2 ∷ 0 ∷ 0 ∷ 3 ∷ 11 ∷
    0 ∷ 0 ∷ 0 ∷ 20 ∷ 0 ∷ 0 ∷ 2 ∷ 229 ∷ 0 ∷ 0 ∷ 0 ∷ 6 ∷ 0 ∷ 0 ∷ 2 ∷ 92 ∷
    0 ∷ 0 ∷ 0 ∷ 8 ∷ 0 ∷ 0 ∷ 1 ∷ 85 ∷ 0 ∷ 0 ∷ 0 ∷ 30 ∷ 0 ∷ 0 ∷ 1 ∷ 223 ∷
    0 ∷ 0 ∷ 0 ∷ 20 ∷ 0 ∷ 0 ∷ 0 ∷ 12 ∷ 0 ∷ 0 ∷ 0 ∷ 50 ∷ 0 ∷ 0 ∷ 2 ∷ 118 ∷
    0 ∷ 0 ∷ 0 ∷ 0 ∷ 0 ∷ 0 ∷ 0 ∷ 0 ∷ 0 ∷ 0 ∷ 0 ∷ 0 ∷ 0 ∷ 0 ∷ 0 ∷ 0 ∷
    0 ∷ 0 ∷ 0 ∷ 0 ∷ 0 ∷ 0 ∷ 3 ∷ 101 ∷ 0 ∷ 0 ∷ 0 ∷ 2 ∷ 0 ∷ 0 ∷ 3 ∷ 220 ∷
    0 ∷ 0 ∷ 0 ∷ 20 ∷ 0 ∷ 0 ∷ 3 ∷ 181 ∷ 0 ∷ 0 ∷ 0 ∷ 7 ∷ 0 ∷ 0 ∷ 2 ∷ 92 ∷
    0 ∷ 0 ∷ 0 ∷ 8 ∷ 0 ∷ 0 ∷ 1 ∷ 85 ∷ 0 ∷ 0 ∷ 0 ∷ 30 ∷ 0 ∷ 0 ∷ 1 ∷ 223 ∷
    0 ∷ 0 ∷ 0 ∷ 20 ∷ 0 ∷ 0 ∷ 0 ∷ 22 ∷ 0 ∷ 0 ∷ 0 ∷ 60 ∷ 0 ∷ 0 ∷ 3 ∷ 69 ∷
    0 ∷ 0 ∷ 0 ∷ 0 ∷ 0 ∷ 0 ∷ 0 ∷ 0 ∷ 0 ∷ 0 ∷ 0 ∷ 0 ∷ 0 ∷ 0 ∷ 0 ∷ 0 ∷ []

-- M6's 100 numbers
unfoldable pub m6_numbers : List ℕ
m6_numbers =
    0 ∷ 663 ∷ 2 ∷ 850 ∷ 20 ∷ 812 ∷ 6 ∷ 605 ∷ 8 ∷ 342 ∷ 30 ∷ 480 ∷ 20 ∷ 12 ∷ 50 ∷ 631 ∷ 760 ∷ 11 ∷ 908 ∷ 9 ∷
    0 ∷ 981 ∷ 2 ∷ 1099 ∷ 20 ∷ 1061 ∷ 6 ∷ 605 ∷ 8 ∷ 342 ∷ 30 ∷ 480 ∷ 20 ∷ 22 ∷ 60 ∷ 949 ∷ 0 ∷ 0 ∷ 1234 ∷ 16 ∷
    0 ∷ 1332 ∷ 2 ∷ 1449 ∷ 20 ∷ 1411 ∷ 6 ∷ 605 ∷ 8 ∷ 342 ∷ 30 ∷ 480 ∷ 20 ∷ 0 ∷ 5 ∷ 1300 ∷ 0 ∷ 0 ∷ 1568 ∷ 6 ∷
    0 ∷ 1656 ∷ 2 ∷ 1770 ∷ 20 ∷ 1732 ∷ 6 ∷ 605 ∷ 8 ∷ 342 ∷ 30 ∷ 480 ∷ 20 ∷ 1 ∷ 0 ∷ 1624 ∷ 0 ∷ 0 ∷ 0 ∷ 0 ∷
    0 ∷ 1860 ∷ 2 ∷ 2044 ∷ 20 ∷ 2006 ∷ 6 ∷ 605 ∷ 8 ∷ 342 ∷ 30 ∷ 480 ∷ 20 ∷ 2 ∷ 0 ∷ 1828 ∷ 1957 ∷ 8 ∷ 0 ∷ 0 ∷ []

unfoldable pub more_cases : List Case
more_cases =
    message (m1_with "M1/" "3" "35.11") (refused_with 8 4 92) ∷
    message (m1_with "M1" "3" "35.11") (refused_with 12 6 147) ∷
    lent 1280 m1 (accepted 1 2 3510) ∷
    lent 1279 m1 (refused_with 14 0 0) ∷
    table m1 (times 42 1) (m1_numbers ++ (1 ∷ 1 ∷ [])) ∷
    table (m1_with "M1" "3" "35.10") (times 42 1) (times 42 1) ∷
    bytes_of m1 (times 163 1) (m1_bytes ++ (1 ∷ 1 ∷ 1 ∷ [])) ∷
    table m6 (times 101 1) (m6_numbers ++ (1 ∷ [])) ∷
    -- payment 1 begins at number 20, payment 4 at number 80
    payment_has m1 (times 40 1) 1
    (0 ∷ 869 ∷ 2 ∷ 988 ∷ 20 ∷ 949 ∷ 7 ∷ 604 ∷ 8 ∷ 341 ∷ 30 ∷ 479 ∷ 20 ∷ 22 ∷ 60 ∷ 837 ∷ 0 ∷ 0 ∷ 0 ∷ 0 ∷ []) ∷
    payment_has m6 (times 100 1) 4
    (0 ∷ 1860 ∷ 2 ∷ 2044 ∷ 20 ∷ 2006 ∷ 6 ∷ 605 ∷ 8 ∷ 342 ∷ 30 ∷ 480 ∷ 20 ∷ 2 ∷ 0 ∷ 1828 ∷ 1957 ∷ 8 ∷ 0 ∷ 0 ∷ []) ∷
    field m1 0 4 399 10 ∷
    field m1 0 1 0 0 ∷
    field m1 1 6 479 20 ∷
    field m1 1 7 550 8 ∷
    field m1 1 8 604 8 ∷
    field m1 1 11 917 5 ∷
    field m1 1 17 0 0 ∷
    field m1 2 6 0 0 ∷
    field m3 1 8 0 0 ∷
    differing m1 m2 (list 0 1) 662 2 ∷
    differing m1 m2 (list 1 0) 0 0 ∷
    -- a sum is exact, and not what is left of it in 32 bits
    message (m1_largest "1999999999.98" "1999999999.98") (accepted 1 2 199999999998) ∷
    message (m1_largest "24315043.82" "1999999999.98") (refused_with 13 7 167) ∷
    message (m1_largest "1999999999.98" "24315043.82") (refused_with 13 15 316) ∷ []

-- I1's 40 numbers: 9 and 10 are all that row 16 holds, the local instrument too.
unfoldable pub i1_numbers : List ℕ
i1_numbers =
    0 ∷ 717 ∷ 2 ∷ 834 ∷ 20 ∷ 796 ∷ 6 ∷ 659 ∷ 8 ∷ 341 ∷ 66 ∷ 534 ∷ 20 ∷ 12 ∷ 50 ∷ 685 ∷ 0 ∷ 0 ∷ 0 ∷ 0 ∷
    0 ∷ 924 ∷ 2 ∷ 1043 ∷ 20 ∷ 1004 ∷ 7 ∷ 659 ∷ 8 ∷ 341 ∷ 66 ∷ 534 ∷ 20 ∷ 22 ∷ 60 ∷ 892 ∷ 0 ∷ 0 ∷ 0 ∷ 0 ∷ []

-- Under the instant profile.
unfoldable pub instant_cases : List Case
instant_cases =
    message i1 (accepted 1 2 3510) ∷
    message m1 (refused_with 4 56 371) ∷
    message (i1_with inst (bytes "<Dt>2026-03-04</Dt>")) (accepted 1 2 3510) ∷
    message (i1_with inst (bytes "<Dt>2026-03-04</Dt><DtTm>2026-03-04T09:30:00+01:00</DtTm>")) (refused_with 3 22 450) ∷
    message (i1_with inst (bytes "<DtTm>2026-03-04T09:30:00+01:00</DtTm><Dt>2026-03-04</Dt>")) (refused_with 3 22 469) ∷
    message (i1_with inst (bytes "<DtTm>2026-03-04T09:30:00+14:01</DtTm>")) (refused_with 8 58 431) ∷
    table i1 (times 42 1) (i1_numbers ++ (1 ∷ 1 ∷ [])) ∷
    payment_has (m6_with inst half_past_nine) (times 100 1) 0
    (0 ∷ 718 ∷ 2 ∷ 905 ∷ 20 ∷ 867 ∷ 6 ∷ 660 ∷ 8 ∷ 342 ∷ 66 ∷ 535 ∷ 20 ∷ 12 ∷ 50 ∷ 686 ∷ 815 ∷ 11 ∷ 963 ∷ 9 ∷ []) ∷
    field i1 1 4 437 25 ∷
    moved i1 i2 (list 1 0) (answered 0 0 0) ∷
    moved m1 m2 (list 1 0) (message_refused_with 1 4 56 371) ∷
    -- the value of row 58, which goes by its text alone
    value date_time_zone "2026-03-04T09:30:00+14:00" true ∷
    value date_time_zone "2026-03-04T09:30:00Z" true ∷
    value date_time_zone "2026-03-04T09:30:00-00:00" true ∷
    value date_time_zone "2026-03-04T09:30:00-14:01" false ∷
    value date_time_zone "2026-03-04T09:30:00+13:60" false ∷
    value date_time_zone "2026-03-04T09:30:00z" false ∷
    value date_time_zone "2026-03-04T09:30:00" false ∷
    value date_time_zone "2026-02-29T09:30:00Z" false ∷
    -- which profile is meant: the number 1 is the instant one, any other the first
    by_number 0 0 m1 (accepted 1 2 3510) ∷
    by_number 1 0 i1 (accepted 1 2 3510) ∷
    by_number 2 0 i1 (refused_with 3 16 371) ∷
    by_number 257 0 i1 (refused_with 3 16 371) ∷
    by_name false false m1 (accepted 1 2 3510) ∷
    by_name true false i1 (accepted 1 2 3510) ∷ []

-- Under the first profile: I1, and M1 with a local instrument alone or a date and time alone.
unfoldable pub first_cases : List Case
first_cases =
    message i1 (refused_with 3 16 371) ∷
    message (i1_with inst (bytes "<Dt>2026-03-04</Dt>")) (refused_with 3 16 371) ∷
    message (i1_with sepa half_past_nine) (refused_with 3 22 395) ∷
    moved i1 i2 (list 1 0) (message_refused_with 1 3 16 371) ∷ []

-- Under both: the form; rows in which they are alike; that row 16 must stand somewhere.
unfoldable pub both_cases : List Case
both_cases =
    message [] (refused_with 2 0 0) ∷
    message (bytes "<Document>") (refused_with 2 0 9) ∷
    message (root_tag ++ bytes "</Document>") (refused_with 4 2 65) ∷
    message (i1_with (bytes "<PmtTpInf></PmtTpInf>") half_past_nine) (refused_with 4 18 341) ∷
    message (i1_with [] (bytes "<Dt>2026-03-04</Dt>")) (refused_with 10 16 579) ∷ []

-- Row 32 in place of the BIC. Under the first profile, which is for new messages: 28 at its `<`, whatever it holds, after 3 and 4, before a leaf behind it
-- and before the counts. Both messages of a regrouping are new.
unfoldable pub withdrawn_cases : List Case
withdrawn_cases =
    message (m1_by not_provided) (refused_with 28 32 543) ∷
    message (m1_by (bytes "<Othr><Id></Id></Othr>")) (refused_with 28 32 543) ∷
    message (m1_by (bytes "<Othr></Othr>")) (refused_with 4 33 549) ∷
    message (m1_by_and not_provided (bytes "<Other></Other>")) (refused_with 3 10 1056) ∷
    message (m1_by_and not_provided (payment "E3" "0.00" "A Weis" "LU699871234567898765")) (refused_with 28 32 543) ∷
    message (m1_by_and not_provided weis) (refused_with 28 32 543) ∷
    field (m1_by not_provided) 0 7 0 0 ∷
    moved (m1_by not_provided) m1 (list 0 1) (message_refused_with 1 28 32 543) ∷
    moved m1 (m1_by not_provided) (list 0 1) (message_refused_with 2 28 32 543) ∷ []

-- The same where the first message, or the only one, is archived. The second of a regrouping is new.
unfoldable pub archived_cases : List Case
archived_cases =
    message (m1_by not_provided) (accepted 1 2 3510) ∷
    message (m1_by (bytes "<Othr><Id></Id></Othr>")) (refused_with 6 33 549) ∷
    message (m1_by (bytes "<Othr></Othr>")) (refused_with 4 33 549) ∷
    message (m1_by_and not_provided (bytes "<Other></Other>")) (refused_with 3 10 1056) ∷
    message (m1_by_and not_provided (payment "E3" "0.00" "A Weis" "LU699871234567898765")) (refused_with 8 42 1116) ∷
    message (m1_by_and not_provided weis) (refused_with 12 6 147) ∷
    field (m1_by not_provided) 0 7 553 11 ∷
    moved (m1_by not_provided) m1 (list 0 1) (answered 20 0 7) ∷
    differing (m1_by not_provided) m1 (list 0 1) 550 8 ∷
    moved m1 (m1_by not_provided) (list 0 1) (message_refused_with 2 28 32 543) ∷
    moved (m1_by not_provided) (m1_by not_provided) (list 0 1) (message_refused_with 2 28 32 543) ∷
    table m1 (times 41 1) (m1_numbers ++ (1 ∷ [])) ∷
    moved m1 m2 (list 1 0) (answered 0 0 0) ∷ []

-- Which profile is meant, and of what message: the number 0 is a new one, any other an archived one.
unfoldable pub naming_cases : List Case
naming_cases =
    by_number 0 0 (m1_by not_provided) (refused_with 28 32 543) ∷
    by_number 0 1 (m1_by not_provided) (accepted 1 2 3510) ∷
    by_number 2 256 (m1_by not_provided) (accepted 1 2 3510) ∷
    by_number 1 0 (i1_by not_provided) (refused_with 28 32 598) ∷
    by_number 1 2 (i1_by not_provided) (accepted 1 2 3510) ∷
    by_number 0 1 (i1_by not_provided) (refused_with 3 16 371) ∷
    by_name false false (m1_by not_provided) (refused_with 28 32 543) ∷
    by_name false true (m1_by not_provided) (accepted 1 2 3510) ∷
    by_name true false (i1_by not_provided) (refused_with 28 32 598) ∷
    by_name true true (i1_by not_provided) (accepted 1 2 3510) ∷
    numbers_name 0 0 first_profile ∷
    numbers_name 0 1 (as_archived first_profile) ∷
    numbers_name 0 2 (as_archived first_profile) ∷
    numbers_name 0 256 (as_archived first_profile) ∷
    numbers_name 1 0 instant_profile ∷
    numbers_name 1 1 (as_archived instant_profile) ∷
    numbers_name 1 2 (as_archived instant_profile) ∷
    numbers_name 1 256 (as_archived instant_profile) ∷
    numbers_name 2 0 first_profile ∷
    numbers_name 2 1 (as_archived first_profile) ∷
    numbers_name 2 2 (as_archived first_profile) ∷
    numbers_name 2 256 (as_archived first_profile) ∷ []
