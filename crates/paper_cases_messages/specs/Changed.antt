-- A case, and the messages that the cases change a little.
use Rattle.std.specs.Prelude.{ℕ, zero, suc, List, [], ◌∷◌, ◌++◌, map, Bool, true, false, ◌&&◌, ◌≡◌, length, get_or, drop, eqb, if◌then◌else◌}
use Prim.Native.String.{String}
use Rattle.paper.specs.Bytes.{bytes, each}
use Rattle.paper.specs.Form.{root_tag}
use Rattle.paper.specs.Rows.{Profile, as_archived, as_new}
use Rattle.paper.specs.Sizes.{least_table}
use Rattle.paper.specs.Refusals.{MessageAnswer, Outcome, outcome_alone, outcome, verdict}
use Rattle.paper.specs.Table.{Part, table_after}
use Rattle.paper.specs.Fields.{Value, field_part}
use Rattle.paper.specs.Regrouping.{RegroupingAnswer, of_outcomes, regrouping, differing_part, file_of, often}
use Rattle.paper_cases.specs.Cases.{header, a_bic, not_provided, m1}

-- a second message for a regrouping, and the answer
pub data Second : Type 0 where
  to : (second : List ℕ) → RegroupingAnswer → Second

pub data Case : Type 0 where
  -- the verdict on a message with a table that is long enough, and with a table of so many numbers
  message : List ℕ → MessageAnswer → Case
  lent : (table_length : ℕ) → List ℕ → MessageAnswer → Case
  -- the table after a message, laid over an old one
  table : (message old after : List ℕ) → Case
  -- the parts of a payment's fields 0 to 18, of which 1 to 17 are known
  parts : (message : List ℕ) (payment : ℕ) (of_fields : List Part) → Case
  -- the answer to a regrouping, and those to several of one first message; start and length of the part that is handed back after it
  moved : (first second file : List ℕ) → RegroupingAnswer → Case
  each_moved : (first file : List ℕ) → List Second → Case
  differing : (first second file : List ℕ) (start size : ℕ) → Case
  -- the file of some ordinals; how often a payment, taken as its fields, stands among some
  filed : (ordinals file : List ℕ) → Case
  often_is : List Value → List (List Value) → ℕ → Case
  -- the verdicts on a message, as a new one and as an archived one; a case in which the message, or the first of two, is archived
  new_and_archived : List ℕ → (new archived : MessageAnswer) → Case
  archived : Case → Case

unfoldable pub part : (start size : ℕ) → Part
part start size = record { start = start; size = size }

unfoldable pub all_parts : Outcome → (payment : ℕ) → List Part
all_parts outcome payment =
    map (field_part outcome payment)
    (0 ∷ 1 ∷ 2 ∷ 3 ∷ 4 ∷ 5 ∷ 6 ∷ 7 ∷ 8 ∷ 9 ∷ 10 ∷ 11 ∷ 12 ∷ 13 ∷ 14 ∷ 15 ∷ 16 ∷ 17 ∷ 18 ∷ [])

-- fields that are nowhere
unfoldable pub no_parts : List Part
no_parts =
    part 0 0 ∷ part 0 0 ∷ part 0 0 ∷ part 0 0 ∷ part 0 0 ∷ part 0 0 ∷ part 0 0 ∷ part 0 0 ∷ part 0 0 ∷ part 0 0 ∷
    part 0 0 ∷ part 0 0 ∷ part 0 0 ∷ part 0 0 ∷ part 0 0 ∷ part 0 0 ∷ part 0 0 ∷ part 0 0 ∷ part 0 0 ∷ []

-- what is answered to regroupings of one first message, and what should be
unfoldable pub answers : Profile → (first : Outcome) (file : List ℕ) → List Second → List RegroupingAnswer
answers profile first file [] = []
answers profile first file (to second a ∷ others) = of_outcomes first (outcome_alone (as_new profile) second) file ∷ answers profile first file others

unfoldable pub expected : List Second → List RegroupingAnswer
expected [] = []
expected (to second a ∷ others) = a ∷ expected others

unfoldable pub Holds : Profile → Case → Type 0
Holds profile (message s a) = verdict profile least_table s ≡ a
Holds profile (lent n s a) = verdict profile n s ≡ a
Holds profile (table s old after) = table_after (outcome profile least_table s) old ≡ after
Holds profile (parts s payment of_fields) = all_parts (outcome_alone profile s) payment ≡ of_fields
Holds profile (moved first second file a) = regrouping profile first second file ≡ a
Holds profile (each_moved first file seconds) = answers profile (outcome_alone profile first) file seconds ≡ expected seconds
Holds profile (differing first second file start size) = differing_part profile first second file ≡ part start size
Holds profile (filed ordinals file) = file_of ordinals ≡ file
Holds profile (often_is p ps n) = often p ps ≡ n
Holds profile (new_and_archived s a b) = verdict (as_new profile) least_table s ∷ verdict (as_archived profile) least_table s ∷ [] ≡ a ∷ b ∷ []
Holds profile (archived c) = Holds (as_archived profile) c

-- the same verdict on a message, whether it is new or archived
unfoldable pub either_way : List ℕ → MessageAnswer → Case
either_way s a = new_and_archived s a a

-- a text begins with another
unfoldable pub begins_with : (front text : List ℕ) → Bool
begins_with [] s = true
begins_with (b ∷ front) [] = false
begins_with (b ∷ front) (c ∷ s) = eqb b c && begins_with front s

-- a text with other bytes in place of some, at the first place where these stand
unfoldable pub replaced : (old new text : List ℕ) → List ℕ
replaced old new [] = []
replaced old new (b ∷ s) = if begins_with old (b ∷ s) then new ++ drop (length old) (b ∷ s) else b ∷ replaced old new s

unfoldable pub but : (old new : String) → List ℕ → List ℕ
but old new s = replaced (bytes old) (bytes new) s

unfoldable pub m1_but : (old new : String) → List ℕ
m1_but old new = but old new m1

-- M4 has every optional row. Its first block books singly, has priority and category purpose, a BIC and charges; its second has no row 16, NOTPROVIDED and an ultimate
-- debtor. Its first payment has an ultimate debtor of its own, a BIC of the creditor's agent and free text; its second a reference with issuer; its third a row 16 and
-- charges of its own and a reference without issuer. So with another agent of the second block's debtor; with a BIC there it may be new.
unfoldable pub m4_by : (agent : List ℕ) → List ℕ
m4_by agent =
    root_tag ++
    (bytes "<CstmrCdtTrfInitn>\n" ++
    (header "M4" "3" "35.15" ++
    (bytes "<PmtInf><PmtInfId>B1</PmtInfId><PmtMtd>TRF</PmtMtd><BtchBookg>false</BtchBookg><NbOfTxs>2</NbOfTxs><CtrlSum>35.1</CtrlSum>" ++
    (bytes "<PmtTpInf> <InstrPrty>HIGH</InstrPrty><SvcLvl><Cd>SEPA</Cd></SvcLvl><CtgyPurp><Cd>SALA</Cd></CtgyPurp>\n</PmtTpInf>" ++
    (bytes "<ReqdExctnDt><Dt>2026-03-04</Dt></ReqdExctnDt><Dbtr><Nm>Institute</Nm></Dbtr><DbtrAcct><Id><IBAN>LU566541234567890123</IBAN></Id></DbtrAcct>" ++
    (bytes "<DbtrAgt><FinInstnId><BICFI>AAAALULL</BICFI></FinInstnId></DbtrAgt><ChrgBr>SLEV</ChrgBr>\n" ++
    (bytes "<CdtTrfTxInf><PmtId><InstrId>I1</InstrId><EndToEndId>E1</EndToEndId></PmtId><Amt><InstdAmt Ccy=\"EUR\">12.5</InstdAmt></Amt>" ++
    (bytes "<UltmtDbtr><Nm>Study 12</Nm></UltmtDbtr><CdtrAgt><FinInstnId><BICFI>BBBBLULLXXX</BICFI></FinInstnId></CdtrAgt><Cdtr><Nm>A Weis</Nm></Cdtr>" ++
    (bytes "<CdtrAcct><Id><IBAN>LU699871234567898765</IBAN></Id></CdtrAcct><UltmtCdtr><Nm>C Meyer</Nm></UltmtCdtr><Purp><Cd>GDDS</Cd></Purp>" ++
    (bytes "<RmtInf><Ustrd>Travel 12</Ustrd></RmtInf></CdtTrfTxInf>\n" ++
    (bytes "<CdtTrfTxInf><PmtId><EndToEndId>E2</EndToEndId></PmtId><Amt><InstdAmt Ccy=\"EUR\">22.60</InstdAmt></Amt><Cdtr><Nm>B Klein</Nm></Cdtr>" ++
    (bytes "<CdtrAcct><Id><IBAN>LU415551234567898765</IBAN></Id></CdtrAcct><RmtInf><Strd><CdtrRefInf>" ++
    (bytes "<Tp><CdOrPrtry><Cd>SCOR</Cd></CdOrPrtry><Issr>ISO</Issr></Tp><Ref>RF18</Ref></CdtrRefInf></Strd></RmtInf></CdtTrfTxInf>\n</PmtInf>" ++
    (bytes "<PmtInf><PmtInfId>B2</PmtInfId><PmtMtd>TRF</PmtMtd><NbOfTxs>1</NbOfTxs><CtrlSum>0.05</CtrlSum><ReqdExctnDt><Dt>2026-03-05</Dt></ReqdExctnDt>" ++
    (bytes "<Dbtr><Nm>Site</Nm></Dbtr><DbtrAcct><Id><IBAN>BE68539007547034</IBAN></Id></DbtrAcct>" ++
    (bytes "<DbtrAgt><FinInstnId>" ++
    (agent ++
    (bytes "</FinInstnId></DbtrAgt><UltmtDbtr><Nm>Study 13</Nm></UltmtDbtr>\n" ++
    (bytes "<CdtTrfTxInf><PmtId><EndToEndId>E3</EndToEndId></PmtId><PmtTpInf><SvcLvl><Cd>SEPA</Cd></SvcLvl><CtgyPurp><Cd>SUPP</Cd></CtgyPurp></PmtTpInf>" ++
    (bytes "<Amt><InstdAmt Ccy=\"EUR\">0.05</InstdAmt></Amt><ChrgBr>SLEV</ChrgBr><Cdtr><Nm>D Roth</Nm></Cdtr>" ++
    (bytes "<CdtrAcct><Id><IBAN>DE89370400440532013000</IBAN></Id></CdtrAcct><RmtInf><Strd><CdtrRefInf><Tp><CdOrPrtry><Cd>SCOR</Cd></CdOrPrtry></Tp>" ++
    bytes "<Ref>RF19</Ref></CdtrRefInf></Strd></RmtInf></CdtTrfTxInf>\n</PmtInf></CstmrCdtTrfInitn></Document>\n")))))))))))))))))))))

unfoldable pub m4 : List ℕ
m4 = m4_by not_provided

unfoldable pub m4_new : List ℕ
m4_new = m4_by a_bic

-- M5 has one payment, and every optional row once, each in the block where it may stand there. So with another agent of the debtor; with a BIC it may be new.
unfoldable pub m5_by : (agent : List ℕ) → List ℕ
m5_by agent =
    root_tag ++
    (bytes "<CstmrCdtTrfInitn>\n" ++
    (header "M5" "1" "12.5" ++
    (bytes "<PmtInf><PmtInfId>B1</PmtInfId><PmtMtd>TRF</PmtMtd><BtchBookg>false</BtchBookg><NbOfTxs>1</NbOfTxs><CtrlSum>12.5</CtrlSum>" ++
    (bytes "<PmtTpInf><InstrPrty>HIGH</InstrPrty><SvcLvl><Cd>SEPA</Cd></SvcLvl><CtgyPurp><Cd>SALA</Cd></CtgyPurp></PmtTpInf>" ++
    (bytes "<ReqdExctnDt><Dt>2026-03-04</Dt></ReqdExctnDt><Dbtr><Nm>Institute</Nm></Dbtr><DbtrAcct><Id><IBAN>LU566541234567890123</IBAN></Id></DbtrAcct>" ++
    (bytes "<DbtrAgt><FinInstnId>" ++
    (agent ++
    (bytes "</FinInstnId></DbtrAgt><UltmtDbtr><Nm>Study 12</Nm></UltmtDbtr><ChrgBr>SLEV</ChrgBr>\n" ++
    (bytes "<CdtTrfTxInf><PmtId><InstrId>I1</InstrId><EndToEndId>E1</EndToEndId></PmtId><Amt><InstdAmt Ccy=\"EUR\">12.5</InstdAmt></Amt>" ++
    (bytes "<CdtrAgt><FinInstnId><BICFI>BBBBLULL</BICFI></FinInstnId></CdtrAgt><Cdtr><Nm>A Weis</Nm></Cdtr>" ++
    (bytes "<CdtrAcct><Id><IBAN>LU699871234567898765</IBAN></Id></CdtrAcct><UltmtCdtr><Nm>C Meyer</Nm></UltmtCdtr><Purp><Cd>GDDS</Cd></Purp>" ++
    (bytes "<RmtInf><Strd><CdtrRefInf><Tp><CdOrPrtry><Cd>SCOR</Cd></CdOrPrtry><Issr>ISO</Issr></Tp><Ref>RF18</Ref></CdtrRefInf></Strd></RmtInf></CdtTrfTxInf>\n" ++
    bytes "</PmtInf></CstmrCdtTrfInitn></Document>\n"))))))))))))

unfoldable pub m5 : List ℕ
m5 = m5_by not_provided

unfoldable pub m5_but : (old new : String) → List ℕ
m5_but old new = but old new m5

unfoldable pub m5_new : List ℕ
m5_new = m5_by a_bic

unfoldable pub m5_new_but : (old new : String) → List ℕ
m5_new_but old new = but old new m5_new

-- Bare messages: of each row the element with the required children of its row and no text. They keep the rows or break them, and where they keep them their first leaf is
-- refused, being empty.
unfoldable pub bare_rows : List String
bare_rows =
    "" ∷  -- 0 to 2 are not asked for
    "" ∷
    "" ∷
    "<GrpHdr><MsgId></MsgId><CreDtTm></CreDtTm><NbOfTxs></NbOfTxs><CtrlSum></CtrlSum><InitgPty><Nm></Nm></InitgPty></GrpHdr>" ∷  -- 3
    "<MsgId></MsgId>" ∷
    "<CreDtTm></CreDtTm>" ∷  -- 5
    "<NbOfTxs></NbOfTxs>" ∷
    "<CtrlSum></CtrlSum>" ∷
    "<InitgPty><Nm></Nm></InitgPty>" ∷
    "<Nm></Nm>" ∷
    "<PmtInf></PmtInf>" ∷  -- 10, which is not bare but empty
    "<PmtInfId></PmtInfId>" ∷
    "<PmtMtd></PmtMtd>" ∷
    "<BtchBookg></BtchBookg>" ∷
    "<NbOfTxs></NbOfTxs>" ∷
    "<CtrlSum></CtrlSum>" ∷  -- 15
    "<PmtTpInf><SvcLvl><Cd></Cd></SvcLvl></PmtTpInf>" ∷
    "<InstrPrty></InstrPrty>" ∷
    "<SvcLvl><Cd></Cd></SvcLvl>" ∷
    "<Cd></Cd>" ∷
    "<CtgyPurp><Cd></Cd></CtgyPurp>" ∷  -- 20
    "<Cd></Cd>" ∷
    "<ReqdExctnDt><Dt></Dt></ReqdExctnDt>" ∷
    "<Dt></Dt>" ∷
    "<Dbtr><Nm></Nm></Dbtr>" ∷
    "<Nm></Nm>" ∷  -- 25
    "<DbtrAcct><Id><IBAN></IBAN></Id></DbtrAcct>" ∷
    "<Id><IBAN></IBAN></Id>" ∷
    "<IBAN></IBAN>" ∷
    "<DbtrAgt><FinInstnId><BICFI></BICFI></FinInstnId></DbtrAgt>" ∷
    "<FinInstnId><BICFI></BICFI></FinInstnId>" ∷  -- 30
    "<BICFI></BICFI>" ∷
    "<Othr><Id></Id></Othr>" ∷
    "<Id></Id>" ∷
    "<UltmtDbtr><Nm></Nm></UltmtDbtr>" ∷
    "<Nm></Nm>" ∷  -- 35
    "<ChrgBr></ChrgBr>" ∷
    "<CdtTrfTxInf></CdtTrfTxInf>" ∷  -- 37, which is not bare but empty
    "<PmtId><EndToEndId></EndToEndId></PmtId>" ∷
    "<InstrId></InstrId>" ∷
    "<EndToEndId></EndToEndId>" ∷  -- 40
    "<Amt><InstdAmt Ccy=\"EUR\"></InstdAmt></Amt>" ∷
    "<InstdAmt Ccy=\"EUR\"></InstdAmt>" ∷
    "<CdtrAgt><FinInstnId><BICFI></BICFI></FinInstnId></CdtrAgt>" ∷
    "<Cdtr><Nm></Nm></Cdtr>" ∷
    "<CdtrAcct><Id><IBAN></IBAN></Id></CdtrAcct>" ∷  -- 45
    "<UltmtCdtr><Nm></Nm></UltmtCdtr>" ∷
    "<Purp><Cd></Cd></Purp>" ∷
    "<RmtInf><Ustrd></Ustrd></RmtInf>" ∷
    "<Ustrd></Ustrd>" ∷
    "<Strd><CdtrRefInf><Tp><CdOrPrtry><Cd></Cd></CdOrPrtry></Tp><Ref></Ref></CdtrRefInf></Strd>" ∷  -- 50
    "<CdtrRefInf><Tp><CdOrPrtry><Cd></Cd></CdOrPrtry></Tp><Ref></Ref></CdtrRefInf>" ∷
    "<Tp><CdOrPrtry><Cd></Cd></CdOrPrtry></Tp>" ∷
    "<CdOrPrtry><Cd></Cd></CdOrPrtry>" ∷
    "<Issr></Issr>" ∷
    "<Ref></Ref>" ∷ []  -- 55

unfoldable pub bare : ℕ → List ℕ
bare k = bytes (get_or bare_rows k "")

-- a message whose row 2 holds this
unfoldable pub initiation : List ℕ → List ℕ
initiation held = root_tag ++ (bytes "<CstmrCdtTrfInitn>" ++ (held ++ bytes "</CstmrCdtTrfInitn></Document>"))

-- Between two texts bare elements of these rows: in the header; in a block behind bare elements of other rows; in a payment behind such.
unfoldable pub between : (opening : String) → List ℕ → (closing : String) → List ℕ
between opening rows closing = bytes opening ++ (each bare rows ++ bytes closing)

unfoldable pub header_of : List ℕ → List ℕ
header_of rows = initiation (between "<GrpHdr>" rows "</GrpHdr>")

unfoldable pub inside_block : (before : List ℕ) (opening : String) → List ℕ → (closing : String) → List ℕ
inside_block before opening rows closing = initiation (bare 3 ++ (between "<PmtInf>" before "" ++ (between opening rows closing ++ bytes "</PmtInf>")))

unfoldable pub block_of : List ℕ → List ℕ
block_of rows = inside_block rows "" [] ""

unfoldable pub bare_payment : (before : List ℕ) (opening : String) → List ℕ → (closing : String) → List ℕ
bare_payment before opening rows closing = between "<CdtTrfTxInf>" before "" ++ (between opening rows closing ++ bytes "</CdtTrfTxInf>")

unfoldable pub inside_payment : (before : List ℕ) (opening : String) → List ℕ → (closing : String) → List ℕ
inside_payment before opening rows closing =
    initiation
    (bare 3 ++
    (between "<PmtInf>" (11 ∷ 12 ∷ 14 ∷ 15 ∷ 22 ∷ 24 ∷ 26 ∷ 29 ∷ []) "" ++ (bare_payment before opening rows closing ++ bytes "</PmtInf>")))

unfoldable pub payment_of : List ℕ → List ℕ
payment_of rows = inside_payment rows "" [] ""

-- so many texts of one kind, one behind the other
unfoldable pub copies : ℕ → List ℕ → List ℕ
copies zero s = []
copies (suc n) s = s ++ copies n s

-- a block of so many bare payments
unfoldable pub crowd : ℕ → List ℕ
crowd n =
    between "<PmtInf>" (11 ∷ 12 ∷ 14 ∷ 15 ∷ 22 ∷ 24 ∷ 26 ∷ 29 ∷ []) "" ++
    (copies n (bare_payment (38 ∷ 41 ∷ 44 ∷ 45 ∷ []) "" [] "") ++ bytes "</PmtInf>")

-- so many elements, each in the one before, the last of them around a text
unfoldable pub nested : ℕ → List ℕ → List ℕ
nested zero s = s
nested (suc n) s = bytes "<A>" ++ (nested n s ++ bytes "</A>")
