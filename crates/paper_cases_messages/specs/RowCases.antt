-- Cases of the rows (docs/RULES.md, 3) and of refusals 3 and 4, one walk in the order of the file.
use Rattle.std.specs.Prelude.{List, [], ◌∷◌, ◌++◌}
use Rattle.paper.specs.Bytes.{bytes}
use Rattle.paper.specs.Form.{root_tag}
use Rattle.paper.specs.Refusals.{accepted}
use Rattle.paper_cases.specs.Cases.{refused_with}
use Rattle.paper_cases_messages.specs.Changed.{Case, message, archived, either_way, but, m1_but, m4, m5, m5_but, bare, initiation, between, header_of, inside_block, block_of, inside_payment, payment_of}

-- A child that the group does not have, or whose place is past, is 3, even where a required row is missing as well; what stands inside it is never looked at.
unfoldable pub child_cases : List Case
child_cases =
    message (m1_but "<MsgId>M1</MsgId>" "<Other>M1</Other>") (refused_with 3 3 92) ∷
    message (m1_but "<MsgId>M1</MsgId>" "<msgId>M1</msgId>") (refused_with 3 3 92) ∷
    message (m1_but "<MsgId>M1</MsgId>" "<Other><MsgId></MsgId><Nm></Nm></Other>") (refused_with 3 3 92) ∷
    message (m1_but "</GrpHdr>" "<Other></Other></GrpHdr>") (refused_with 3 3 227) ∷
    message (m1_but "</CreDtTm><NbOfTxs>2</NbOfTxs>" "</CreDtTm><MsgId>M1</MsgId>") (refused_with 3 3 147) ∷
    message (m1_but "<CstmrCdtTrfInitn>" "<CstmrCdtTrfInitn><Other></Other>") (refused_with 3 2 83) ∷
    message (m1_but "</CstmrCdtTrfInitn>" "</CstmrCdtTrfInitn><CstmrCdtTrfInitn></CstmrCdtTrfInitn>") (refused_with 3 1 1074) ∷
    message (m1_but "</PmtInf>" "</PmtInf><GrpHdr></GrpHdr>") (refused_with 3 2 1055) ∷
    message (m1_but "</PmtInf>" "<Dbtr></Dbtr></PmtInf>") (refused_with 3 10 1046) ∷
    message (root_tag ++ bytes "<Other></Other></Document>") (refused_with 3 1 65) ∷
    -- charges and ultimate debtor stand in one order in a block and in the other in a payment
    message (m1_but "<UltmtDbtr>" "<ChrgBr>SLEV</ChrgBr><UltmtDbtr>") (refused_with 3 10 610) ∷
    message (m1_but "</Amt>" "</Amt><UltmtDbtr></UltmtDbtr><ChrgBr></ChrgBr>") (refused_with 4 35 742) ∷
    message (m1_but "</Amt>" "</Amt><UltmtDbtr><Nm>x</Nm></UltmtDbtr><ChrgBr></ChrgBr>") (refused_with 3 37 764) ∷
    message (m1_but "</Amt>" "</Amt><PmtTpInf></PmtTpInf>") (refused_with 3 37 731) ∷
    message (m1_but "</CdtrAcct>" "</CdtrAcct><RmtInf><Ustrd>x</Ustrd></RmtInf><Purp></Purp>") (refused_with 3 37 855) ∷ []

-- A child whose row comes later, past a required one not yet seen, or the end tag too early: 4 on the first row missing.
unfoldable pub missing_cases : List Case
missing_cases =
    message (root_tag ++ bytes " \n</Document>") (refused_with 4 2 67) ∷
    message (initiation []) (refused_with 4 3 83) ∷
    message (initiation (bare 3)) (refused_with 4 10 202) ∷
    message (initiation (bytes "<PmtInf></PmtInf>")) (refused_with 4 3 83) ∷
    message (initiation (bare 3 ++ bare 10)) (refused_with 4 11 210) ∷
    message (m1_but "<MsgId>M1</MsgId>" "") (refused_with 4 4 92) ∷
    message (m1_but "<MsgId>M1</MsgId><CreDtTm>2026-03-02T08:30:00</CreDtTm>" "") (refused_with 4 4 92) ∷
    message (m1_but "<InitgPty><Nm>Trials</Nm></InitgPty>" "") (refused_with 4 8 191) ∷
    message (m1_but "<ReqdExctnDt><Dt>2026-03-04</Dt></ReqdExctnDt>" "") (refused_with 4 22 382) ∷
    message (m1_but "<PmtTpInf><SvcLvl><Cd>SEPA</Cd></SvcLvl></PmtTpInf><ReqdExctnDt><Dt>2026-03-04</Dt></ReqdExctnDt>" "") (refused_with 4 22 331) ∷
    message (m1_but "</PmtInf>" "</PmtInf><PmtInf></PmtInf>") (refused_with 4 11 1063) ∷
    message (m1_but "</PmtInf>" "<CdtTrfTxInf></CdtTrfTxInf></PmtInf>") (refused_with 4 38 1059) ∷ []

-- Of a choice a second alternative is 3 on the group, and nothing is 4 on its first row. FinInstnId under row 43 holds only 31.
unfoldable pub choice_cases : List Case
choice_cases =
    either_way (m1_but "</BICFI>" "</BICFI><Othr><Id>NOTPROVIDED</Id></Othr>") (refused_with 3 30 566) ∷
    either_way (m1_but "<BICFI>" "<Othr><Id>NOTPROVIDED</Id></Othr><BICFI>") (refused_with 3 30 576) ∷
    message (m1_but "</BICFI>" "</BICFI><BICFI>AAAALULL</BICFI>") (refused_with 3 30 566) ∷
    message (m1_but "<BICFI>AAAALULL</BICFI>" "") (refused_with 4 31 543) ∷
    message (m1_but "<BICFI>AAAALULL</BICFI>" " ") (refused_with 4 31 544) ∷
    message (m1_but "<BICFI>AAAALULL</BICFI>" "<Id>AAAALULL</Id>") (refused_with 3 30 543) ∷
    archived (message (m1_but "<BICFI>AAAALULL</BICFI>" "<Othr><Id>NOTPROVIDED</Id></Othr>") (accepted 1 2 3510)) ∷
    either_way (inside_payment (38 ∷ 41 ∷ []) "<CdtrAgt><FinInstnId>" (32 ∷ []) "</FinInstnId></CdtrAgt>") (refused_with 3 30 562) ∷
    either_way (m5_but "<BICFI>BBBBLULL</BICFI>" "<Othr><Id>NOTPROVIDED</Id></Othr>") (refused_with 3 30 892) ∷
    either_way (m5_but "<RmtInf>" "<RmtInf><Ustrd>x</Ustrd>") (refused_with 3 48 1118) ∷
    either_way (m5_but "</Strd>" "</Strd><Ustrd>x</Ustrd>") (refused_with 3 48 1216) ∷
    either_way (m5_but "</Strd>" "</Strd><Strd></Strd>") (refused_with 3 48 1216) ∷
    message (m1_but "</CdtrAcct>" "</CdtrAcct><RmtInf></RmtInf>") (refused_with 4 49 830) ∷
    message (m1_but "</CdtrAcct>" "</CdtrAcct><RmtInf><Ustrd>x</Ustrd></RmtInf>") (accepted 1 2 3510) ∷ []

-- A group that holds only text: the first byte that is not white space is 3; if all is white space, 4 at the end tag. A child inside a leaf is 3 on the leaf.
unfoldable pub text_in_group_cases : List Case
text_in_group_cases =
    message (m1_but "<Nm>Trials</Nm>" "x") (refused_with 3 8 201) ∷
    message (m1_but "<Nm>Trials</Nm>" " \t\r\nx y") (refused_with 3 8 205) ∷
    message (m1_but "<Nm>Trials</Nm>" " \t\r\n") (refused_with 4 9 205) ∷
    message (m1_but "<Nm>Trials</Nm>" "") (refused_with 4 9 201) ∷
    message (root_tag ++ bytes "x</Document>") (refused_with 3 1 65) ∷
    message (initiation (bytes " >")) (refused_with 3 2 84) ∷
    message (m1_but "M1" "<A></A>") (refused_with 3 4 99) ∷
    message (m1_but "M1" " <A></A><A></A>") (refused_with 3 4 100) ∷
    message (m1_but "12.5</InstdAmt>" "<A></A></InstdAmt>") (refused_with 3 42 710) ∷ []

-- Depth first, in the order of the file: of two faults the one whose place comes first, in a group or in one of its children.
unfoldable pub walk_cases : List Case
walk_cases =
    message (but "</PmtInf>" "<Other></Other></PmtInf>" (m1_but "<Nm>Trials</Nm>" "")) (refused_with 4 9 201) ∷
    message (but "<Nm>Trials</Nm>" "" (m1_but "<CreDtTm>" "<Other></Other><CreDtTm>")) (refused_with 3 3 109) ∷
    message (but "</GrpHdr>" "<Other></Other></GrpHdr>" (m1_but "<Nm>Trials</Nm>" "")) (refused_with 4 9 201) ∷
    message (but "<EndToEndId>E2</EndToEndId>" "" (m1_but "<EndToEndId>E1</EndToEndId>" "<A></A>")) (refused_with 3 38 650) ∷
    message (but "<EndToEndId>E2</EndToEndId>" "<A></A>" (m1_but "<EndToEndId>E1</EndToEndId>" "")) (refused_with 4 40 650) ∷ []

-- With every optional row, and with the rows kept and the leaves empty.
unfoldable pub whole_cases : List Case
whole_cases =
    archived (message m4 (accepted 2 3 3515)) ∷
    archived (message m5 (accepted 1 1 1250)) ∷
    message (inside_payment (38 ∷ 41 ∷ 44 ∷ 45 ∷ []) "" [] "") (refused_with 6 4 91) ∷
    message (payment_of (38 ∷ 16 ∷ 41 ∷ 36 ∷ 34 ∷ 43 ∷ 44 ∷ 45 ∷ 46 ∷ 47 ∷ 48 ∷ [])) (refused_with 6 4 91) ∷
    message (inside_payment (38 ∷ 41 ∷ 44 ∷ 45 ∷ []) "<RmtInf>" (50 ∷ []) "</RmtInf>") (refused_with 6 4 91) ∷ []

-- The header holds 4, 5, 6, 7, 8: the end tag too early, a row past a missing one, a row twice.
unfoldable pub header_row_cases : List Case
header_row_cases =
    message (header_of []) (refused_with 4 4 91) ∷
    message (header_of (4 ∷ [])) (refused_with 4 5 106) ∷
    message (header_of (4 ∷ 5 ∷ [])) (refused_with 4 6 125) ∷
    message (header_of (4 ∷ 5 ∷ 6 ∷ [])) (refused_with 4 7 144) ∷
    message (header_of (4 ∷ 5 ∷ 6 ∷ 7 ∷ [])) (refused_with 4 8 163) ∷
    message (header_of (5 ∷ [])) (refused_with 4 4 91) ∷
    message (header_of (4 ∷ 6 ∷ [])) (refused_with 4 5 106) ∷
    message (header_of (4 ∷ 5 ∷ 7 ∷ [])) (refused_with 4 6 125) ∷
    message (header_of (4 ∷ 5 ∷ 6 ∷ 8 ∷ [])) (refused_with 4 7 144) ∷
    message (header_of (4 ∷ 4 ∷ [])) (refused_with 3 3 106) ∷
    message (header_of (4 ∷ 5 ∷ 5 ∷ [])) (refused_with 3 3 125) ∷
    message (header_of (4 ∷ 5 ∷ 6 ∷ 6 ∷ [])) (refused_with 3 3 144) ∷
    message (header_of (4 ∷ 5 ∷ 6 ∷ 7 ∷ 7 ∷ [])) (refused_with 3 3 163) ∷
    message (header_of (4 ∷ 5 ∷ 6 ∷ 7 ∷ 8 ∷ 8 ∷ [])) (refused_with 3 3 193) ∷ []

-- A block holds 11, 12, 13?, 14, 15, 16?, 22, 24, 26, 29, 34?, 36?, 37+. (Row 37 is empty here: 4 on its first row.)
unfoldable pub block_row_cases : List Case
block_row_cases =
    message (block_of []) (refused_with 4 11 210) ∷
    message (block_of (11 ∷ [])) (refused_with 4 12 231) ∷
    message (block_of (11 ∷ 12 ∷ [])) (refused_with 4 14 248) ∷
    message (block_of (11 ∷ 12 ∷ 14 ∷ [])) (refused_with 4 15 267) ∷
    message (block_of (11 ∷ 12 ∷ 14 ∷ 15 ∷ [])) (refused_with 4 22 286) ∷
    message (block_of (11 ∷ 12 ∷ 14 ∷ 15 ∷ 22 ∷ [])) (refused_with 4 24 322) ∷
    message (block_of (11 ∷ 12 ∷ 14 ∷ 15 ∷ 22 ∷ 24 ∷ [])) (refused_with 4 26 344) ∷
    message (block_of (11 ∷ 12 ∷ 14 ∷ 15 ∷ 22 ∷ 24 ∷ 26 ∷ [])) (refused_with 4 29 387) ∷
    message (block_of (11 ∷ 12 ∷ 14 ∷ 15 ∷ 22 ∷ 24 ∷ 26 ∷ 29 ∷ [])) (refused_with 4 37 446) ∷
    message (block_of (12 ∷ [])) (refused_with 4 11 210) ∷
    message (block_of (11 ∷ 13 ∷ [])) (refused_with 4 12 231) ∷
    message (block_of (11 ∷ 12 ∷ 15 ∷ [])) (refused_with 4 14 248) ∷
    message (block_of (11 ∷ 12 ∷ 14 ∷ 16 ∷ [])) (refused_with 4 15 267) ∷
    message (block_of (11 ∷ 12 ∷ 14 ∷ 15 ∷ 24 ∷ [])) (refused_with 4 22 286) ∷
    message (block_of (11 ∷ 12 ∷ 14 ∷ 15 ∷ 22 ∷ 26 ∷ [])) (refused_with 4 24 322) ∷
    message (block_of (11 ∷ 12 ∷ 14 ∷ 15 ∷ 22 ∷ 24 ∷ 29 ∷ [])) (refused_with 4 26 344) ∷
    message (block_of (11 ∷ 12 ∷ 14 ∷ 15 ∷ 22 ∷ 24 ∷ 26 ∷ 34 ∷ [])) (refused_with 4 29 387) ∷
    message (block_of (11 ∷ 11 ∷ [])) (refused_with 3 10 231) ∷
    message (block_of (11 ∷ 12 ∷ 12 ∷ [])) (refused_with 3 10 248) ∷
    message (block_of (11 ∷ 12 ∷ 13 ∷ 13 ∷ [])) (refused_with 3 10 271) ∷
    message (block_of (11 ∷ 12 ∷ 13 ∷ 14 ∷ 14 ∷ [])) (refused_with 3 10 290) ∷
    message (block_of (11 ∷ 12 ∷ 13 ∷ 14 ∷ 15 ∷ 15 ∷ [])) (refused_with 3 10 309) ∷
    message (block_of (11 ∷ 12 ∷ 13 ∷ 14 ∷ 15 ∷ 16 ∷ 16 ∷ [])) (refused_with 3 10 356) ∷
    message (block_of (11 ∷ 12 ∷ 13 ∷ 14 ∷ 15 ∷ 16 ∷ 22 ∷ 22 ∷ [])) (refused_with 3 10 392) ∷
    message (block_of (11 ∷ 12 ∷ 13 ∷ 14 ∷ 15 ∷ 16 ∷ 22 ∷ 24 ∷ 24 ∷ [])) (refused_with 3 10 414) ∷
    message (block_of (11 ∷ 12 ∷ 13 ∷ 14 ∷ 15 ∷ 16 ∷ 22 ∷ 24 ∷ 26 ∷ 26 ∷ [])) (refused_with 3 10 457) ∷
    message (block_of (11 ∷ 12 ∷ 13 ∷ 14 ∷ 15 ∷ 16 ∷ 22 ∷ 24 ∷ 26 ∷ 29 ∷ 29 ∷ [])) (refused_with 3 10 516) ∷
    message (block_of (11 ∷ 12 ∷ 13 ∷ 14 ∷ 15 ∷ 16 ∷ 22 ∷ 24 ∷ 26 ∷ 29 ∷ 34 ∷ 34 ∷ [])) (refused_with 3 10 548) ∷
    message (block_of (11 ∷ 12 ∷ 13 ∷ 14 ∷ 15 ∷ 16 ∷ 22 ∷ 24 ∷ 26 ∷ 29 ∷ 34 ∷ 36 ∷ 36 ∷ [])) (refused_with 3 10 565) ∷ []

-- A payment holds 38, 16?, 41, 36?, 34?, 43?, 44, 45, 46?, 47?, 48?.
unfoldable pub payment_row_cases : List Case
payment_row_cases =
    message (payment_of []) (refused_with 4 38 459) ∷
    message (payment_of (38 ∷ [])) (refused_with 4 41 499) ∷
    message (payment_of (38 ∷ 41 ∷ [])) (refused_with 4 44 541) ∷
    message (payment_of (38 ∷ 41 ∷ 44 ∷ [])) (refused_with 4 45 563) ∷
    message (payment_of (16 ∷ [])) (refused_with 4 38 459) ∷
    message (payment_of (38 ∷ 36 ∷ [])) (refused_with 4 41 499) ∷
    message (payment_of (38 ∷ 41 ∷ 45 ∷ [])) (refused_with 4 44 541) ∷
    message (payment_of (38 ∷ 41 ∷ 44 ∷ 46 ∷ [])) (refused_with 4 45 563) ∷
    message (payment_of (38 ∷ 38 ∷ [])) (refused_with 3 37 499) ∷
    message (payment_of (38 ∷ 16 ∷ 16 ∷ [])) (refused_with 3 37 546) ∷
    message (payment_of (38 ∷ 16 ∷ 41 ∷ 41 ∷ [])) (refused_with 3 37 588) ∷
    message (payment_of (38 ∷ 16 ∷ 41 ∷ 36 ∷ 36 ∷ [])) (refused_with 3 37 605) ∷
    message (payment_of (38 ∷ 16 ∷ 41 ∷ 36 ∷ 34 ∷ 34 ∷ [])) (refused_with 3 37 637) ∷
    message (payment_of (38 ∷ 16 ∷ 41 ∷ 36 ∷ 34 ∷ 43 ∷ 43 ∷ [])) (refused_with 3 37 696) ∷
    message (payment_of (38 ∷ 16 ∷ 41 ∷ 36 ∷ 34 ∷ 43 ∷ 44 ∷ 44 ∷ [])) (refused_with 3 37 718) ∷
    message (payment_of (38 ∷ 16 ∷ 41 ∷ 36 ∷ 34 ∷ 43 ∷ 44 ∷ 45 ∷ 45 ∷ [])) (refused_with 3 37 761) ∷
    message (payment_of (38 ∷ 16 ∷ 41 ∷ 36 ∷ 34 ∷ 43 ∷ 44 ∷ 45 ∷ 46 ∷ 46 ∷ [])) (refused_with 3 37 793) ∷
    message (payment_of (38 ∷ 16 ∷ 41 ∷ 36 ∷ 34 ∷ 43 ∷ 44 ∷ 45 ∷ 46 ∷ 47 ∷ 47 ∷ [])) (refused_with 3 37 815) ∷
    message (payment_of (38 ∷ 16 ∷ 41 ∷ 36 ∷ 34 ∷ 43 ∷ 44 ∷ 45 ∷ 46 ∷ 47 ∷ 48 ∷ 48 ∷ [])) (refused_with 3 37 847) ∷ []

-- The groups below them: with nothing, with a row too early, with a row twice.
unfoldable pub deeper_row_cases : List Case
deeper_row_cases =
    -- 8
    message (initiation (between "<GrpHdr><MsgId></MsgId><CreDtTm></CreDtTm><NbOfTxs></NbOfTxs><CtrlSum></CtrlSum><InitgPty>" [] "</InitgPty></GrpHdr>")) (refused_with 4 9 173) ∷
    message (initiation (between "<GrpHdr><MsgId></MsgId><CreDtTm></CreDtTm><NbOfTxs></NbOfTxs><CtrlSum></CtrlSum><InitgPty>" (9 ∷ 9 ∷ []) "</InitgPty></GrpHdr>")) (refused_with 3 8 182) ∷
    -- 16 in a block
    message (inside_block (11 ∷ 12 ∷ 14 ∷ 15 ∷ []) "<PmtTpInf>" [] "</PmtTpInf>") (refused_with 4 18 296) ∷
    message (inside_block (11 ∷ 12 ∷ 14 ∷ 15 ∷ []) "<PmtTpInf>" (20 ∷ []) "</PmtTpInf>") (refused_with 4 18 296) ∷
    message (inside_block (11 ∷ 12 ∷ 14 ∷ 15 ∷ []) "<PmtTpInf>" (17 ∷ 17 ∷ []) "</PmtTpInf>") (refused_with 3 16 319) ∷
    message (inside_block (11 ∷ 12 ∷ 14 ∷ 15 ∷ []) "<PmtTpInf>" (17 ∷ 18 ∷ 18 ∷ []) "</PmtTpInf>") (refused_with 3 16 345) ∷
    message (inside_block (11 ∷ 12 ∷ 14 ∷ 15 ∷ []) "<PmtTpInf>" (17 ∷ 18 ∷ 20 ∷ 20 ∷ []) "</PmtTpInf>") (refused_with 3 16 375) ∷
    -- 18
    message (inside_block (11 ∷ 12 ∷ 14 ∷ 15 ∷ []) "<PmtTpInf><SvcLvl>" [] "</SvcLvl></PmtTpInf>") (refused_with 4 19 304) ∷
    message (inside_block (11 ∷ 12 ∷ 14 ∷ 15 ∷ []) "<PmtTpInf><SvcLvl>" (19 ∷ 19 ∷ []) "</SvcLvl></PmtTpInf>") (refused_with 3 18 313) ∷
    -- 20
    message (inside_block (11 ∷ 12 ∷ 14 ∷ 15 ∷ []) "<PmtTpInf><SvcLvl><Cd></Cd></SvcLvl><CtgyPurp>" [] "</CtgyPurp></PmtTpInf>") (refused_with 4 21 332) ∷
    message (inside_block (11 ∷ 12 ∷ 14 ∷ 15 ∷ []) "<PmtTpInf><SvcLvl><Cd></Cd></SvcLvl><CtgyPurp>" (21 ∷ 21 ∷ []) "</CtgyPurp></PmtTpInf>") (refused_with 3 20 341) ∷
    -- 22
    message (inside_block (11 ∷ 12 ∷ 14 ∷ 15 ∷ []) "<ReqdExctnDt>" [] "</ReqdExctnDt>") (refused_with 4 23 299) ∷
    message (inside_block (11 ∷ 12 ∷ 14 ∷ 15 ∷ []) "<ReqdExctnDt>" (23 ∷ 23 ∷ []) "</ReqdExctnDt>") (refused_with 3 22 308) ∷
    -- 24
    message (inside_block (11 ∷ 12 ∷ 14 ∷ 15 ∷ 22 ∷ []) "<Dbtr>" [] "</Dbtr>") (refused_with 4 25 328) ∷
    message (inside_block (11 ∷ 12 ∷ 14 ∷ 15 ∷ 22 ∷ []) "<Dbtr>" (25 ∷ 25 ∷ []) "</Dbtr>") (refused_with 3 24 337) ∷
    -- 26
    message (inside_block (11 ∷ 12 ∷ 14 ∷ 15 ∷ 22 ∷ 24 ∷ []) "<DbtrAcct>" [] "</DbtrAcct>") (refused_with 4 27 354) ∷
    message (inside_block (11 ∷ 12 ∷ 14 ∷ 15 ∷ 22 ∷ 24 ∷ []) "<DbtrAcct>" (27 ∷ 27 ∷ []) "</DbtrAcct>") (refused_with 3 26 376) ∷
    -- 27 in a block
    message (inside_block (11 ∷ 12 ∷ 14 ∷ 15 ∷ 22 ∷ 24 ∷ []) "<DbtrAcct><Id>" [] "</Id></DbtrAcct>") (refused_with 4 28 358) ∷
    message (inside_block (11 ∷ 12 ∷ 14 ∷ 15 ∷ 22 ∷ 24 ∷ []) "<DbtrAcct><Id>" (28 ∷ 28 ∷ []) "</Id></DbtrAcct>") (refused_with 3 27 371) ∷
    -- 29
    message (inside_block (11 ∷ 12 ∷ 14 ∷ 15 ∷ 22 ∷ 24 ∷ 26 ∷ []) "<DbtrAgt>" [] "</DbtrAgt>") (refused_with 4 30 396) ∷
    message (inside_block (11 ∷ 12 ∷ 14 ∷ 15 ∷ 22 ∷ 24 ∷ 26 ∷ []) "<DbtrAgt>" (30 ∷ 30 ∷ []) "</DbtrAgt>") (refused_with 3 29 436) ∷
    -- 30 in a block
    message (inside_block (11 ∷ 12 ∷ 14 ∷ 15 ∷ 22 ∷ 24 ∷ 26 ∷ []) "<DbtrAgt><FinInstnId>" [] "</FinInstnId></DbtrAgt>") (refused_with 4 31 408) ∷
    message (inside_block (11 ∷ 12 ∷ 14 ∷ 15 ∷ 22 ∷ 24 ∷ 26 ∷ []) "<DbtrAgt><FinInstnId>" (31 ∷ 31 ∷ []) "</FinInstnId></DbtrAgt>") (refused_with 3 30 423) ∷
    -- 32
    either_way (inside_block (11 ∷ 12 ∷ 14 ∷ 15 ∷ 22 ∷ 24 ∷ 26 ∷ []) "<DbtrAgt><FinInstnId><Othr>" [] "</Othr></FinInstnId></DbtrAgt>") (refused_with 4 33 414) ∷
    either_way (inside_block (11 ∷ 12 ∷ 14 ∷ 15 ∷ 22 ∷ 24 ∷ 26 ∷ []) "<DbtrAgt><FinInstnId><Othr>" (33 ∷ 33 ∷ []) "</Othr></FinInstnId></DbtrAgt>") (refused_with 3 32 423) ∷
    -- 34 in a block
    message (inside_block (11 ∷ 12 ∷ 14 ∷ 15 ∷ 22 ∷ 24 ∷ 26 ∷ 29 ∷ []) "<UltmtDbtr>" [] "</UltmtDbtr>") (refused_with 4 35 457) ∷
    message (inside_block (11 ∷ 12 ∷ 14 ∷ 15 ∷ 22 ∷ 24 ∷ 26 ∷ 29 ∷ []) "<UltmtDbtr>" (35 ∷ 35 ∷ []) "</UltmtDbtr>") (refused_with 3 34 466) ∷
    -- 38
    message (inside_payment [] "<PmtId>" [] "</PmtId>") (refused_with 4 40 466) ∷
    message (inside_payment [] "<PmtId>" (39 ∷ 39 ∷ []) "</PmtId>") (refused_with 3 38 485) ∷
    message (inside_payment [] "<PmtId>" (39 ∷ 40 ∷ 40 ∷ []) "</PmtId>") (refused_with 3 38 510) ∷
    -- 16 in a payment
    message (inside_payment (38 ∷ []) "<PmtTpInf>" [] "</PmtTpInf>") (refused_with 4 18 509) ∷
    message (inside_payment (38 ∷ []) "<PmtTpInf>" (20 ∷ []) "</PmtTpInf>") (refused_with 4 18 509) ∷
    message (inside_payment (38 ∷ []) "<PmtTpInf>" (17 ∷ 17 ∷ []) "</PmtTpInf>") (refused_with 3 16 532) ∷
    message (inside_payment (38 ∷ []) "<PmtTpInf>" (17 ∷ 18 ∷ 18 ∷ []) "</PmtTpInf>") (refused_with 3 16 558) ∷
    message (inside_payment (38 ∷ []) "<PmtTpInf>" (17 ∷ 18 ∷ 20 ∷ 20 ∷ []) "</PmtTpInf>") (refused_with 3 16 588) ∷
    -- 41
    message (inside_payment (38 ∷ []) "<Amt>" [] "</Amt>") (refused_with 4 42 504) ∷
    message (inside_payment (38 ∷ []) "<Amt>" (42 ∷ 42 ∷ []) "</Amt>") (refused_with 3 41 535) ∷
    -- 34 in a payment
    message (inside_payment (38 ∷ 41 ∷ []) "<UltmtDbtr>" [] "</UltmtDbtr>") (refused_with 4 35 552) ∷
    message (inside_payment (38 ∷ 41 ∷ []) "<UltmtDbtr>" (35 ∷ 35 ∷ []) "</UltmtDbtr>") (refused_with 3 34 561) ∷
    -- 43
    message (inside_payment (38 ∷ 41 ∷ []) "<CdtrAgt>" [] "</CdtrAgt>") (refused_with 4 30 550) ∷
    message (inside_payment (38 ∷ 41 ∷ []) "<CdtrAgt>" (30 ∷ 30 ∷ []) "</CdtrAgt>") (refused_with 3 43 590) ∷
    -- 30 in a payment
    message (inside_payment (38 ∷ 41 ∷ []) "<CdtrAgt><FinInstnId>" [] "</FinInstnId></CdtrAgt>") (refused_with 4 31 562) ∷
    message (inside_payment (38 ∷ 41 ∷ []) "<CdtrAgt><FinInstnId>" (31 ∷ 31 ∷ []) "</FinInstnId></CdtrAgt>") (refused_with 3 30 577) ∷
    -- 44
    message (inside_payment (38 ∷ 41 ∷ []) "<Cdtr>" [] "</Cdtr>") (refused_with 4 25 547) ∷
    message (inside_payment (38 ∷ 41 ∷ []) "<Cdtr>" (25 ∷ 25 ∷ []) "</Cdtr>") (refused_with 3 44 556) ∷
    -- 45
    message (inside_payment (38 ∷ 41 ∷ 44 ∷ []) "<CdtrAcct>" [] "</CdtrAcct>") (refused_with 4 27 573) ∷
    message (inside_payment (38 ∷ 41 ∷ 44 ∷ []) "<CdtrAcct>" (27 ∷ 27 ∷ []) "</CdtrAcct>") (refused_with 3 45 595) ∷
    -- 27 in a payment
    message (inside_payment (38 ∷ 41 ∷ 44 ∷ []) "<CdtrAcct><Id>" [] "</Id></CdtrAcct>") (refused_with 4 28 577) ∷
    message (inside_payment (38 ∷ 41 ∷ 44 ∷ []) "<CdtrAcct><Id>" (28 ∷ 28 ∷ []) "</Id></CdtrAcct>") (refused_with 3 27 590) ∷
    -- 46
    message (inside_payment (38 ∷ 41 ∷ 44 ∷ 45 ∷ []) "<UltmtCdtr>" [] "</UltmtCdtr>") (refused_with 4 35 617) ∷
    message (inside_payment (38 ∷ 41 ∷ 44 ∷ 45 ∷ []) "<UltmtCdtr>" (35 ∷ 35 ∷ []) "</UltmtCdtr>") (refused_with 3 46 626) ∷
    -- 47
    message (inside_payment (38 ∷ 41 ∷ 44 ∷ 45 ∷ []) "<Purp>" [] "</Purp>") (refused_with 4 21 612) ∷
    message (inside_payment (38 ∷ 41 ∷ 44 ∷ 45 ∷ []) "<Purp>" (21 ∷ 21 ∷ []) "</Purp>") (refused_with 3 47 621) ∷
    -- 48
    message (inside_payment (38 ∷ 41 ∷ 44 ∷ 45 ∷ []) "<RmtInf>" [] "</RmtInf>") (refused_with 4 49 614) ∷
    message (inside_payment (38 ∷ 41 ∷ 44 ∷ 45 ∷ []) "<RmtInf>" (49 ∷ 49 ∷ []) "</RmtInf>") (refused_with 3 48 629) ∷
    -- 50
    message (inside_payment (38 ∷ 41 ∷ 44 ∷ 45 ∷ []) "<RmtInf><Strd>" [] "</Strd></RmtInf>") (refused_with 4 51 620) ∷
    message (inside_payment (38 ∷ 41 ∷ 44 ∷ 45 ∷ []) "<RmtInf><Strd>" (51 ∷ 51 ∷ []) "</Strd></RmtInf>") (refused_with 3 50 697) ∷
    -- 51
    message (inside_payment (38 ∷ 41 ∷ 44 ∷ 45 ∷ []) "<RmtInf><Strd><CdtrRefInf>" [] "</CdtrRefInf></Strd></RmtInf>") (refused_with 4 52 632) ∷
    message (inside_payment (38 ∷ 41 ∷ 44 ∷ 45 ∷ []) "<RmtInf><Strd><CdtrRefInf>" (52 ∷ []) "</CdtrRefInf></Strd></RmtInf>") (refused_with 4 55 673) ∷
    message (inside_payment (38 ∷ 41 ∷ 44 ∷ 45 ∷ []) "<RmtInf><Strd><CdtrRefInf>" (55 ∷ []) "</CdtrRefInf></Strd></RmtInf>") (refused_with 4 52 632) ∷
    message (inside_payment (38 ∷ 41 ∷ 44 ∷ 45 ∷ []) "<RmtInf><Strd><CdtrRefInf>" (52 ∷ 52 ∷ []) "</CdtrRefInf></Strd></RmtInf>") (refused_with 3 51 673) ∷
    message (inside_payment (38 ∷ 41 ∷ 44 ∷ 45 ∷ []) "<RmtInf><Strd><CdtrRefInf>" (52 ∷ 55 ∷ 55 ∷ []) "</CdtrRefInf></Strd></RmtInf>") (refused_with 3 51 684) ∷
    -- 52
    message (inside_payment (38 ∷ 41 ∷ 44 ∷ 45 ∷ []) "<RmtInf><Strd><CdtrRefInf><Tp>" [] "</Tp></CdtrRefInf></Strd></RmtInf>") (refused_with 4 53 636) ∷
    message (inside_payment (38 ∷ 41 ∷ 44 ∷ 45 ∷ []) "<RmtInf><Strd><CdtrRefInf><Tp>" (54 ∷ []) "</Tp></CdtrRefInf></Strd></RmtInf>") (refused_with 4 53 636) ∷
    message (inside_payment (38 ∷ 41 ∷ 44 ∷ 45 ∷ []) "<RmtInf><Strd><CdtrRefInf><Tp>" (53 ∷ 53 ∷ []) "</Tp></CdtrRefInf></Strd></RmtInf>") (refused_with 3 52 668) ∷
    message (inside_payment (38 ∷ 41 ∷ 44 ∷ 45 ∷ []) "<RmtInf><Strd><CdtrRefInf><Tp>" (53 ∷ 54 ∷ 54 ∷ []) "</Tp></CdtrRefInf></Strd></RmtInf>") (refused_with 3 52 681) ∷
    -- 53
    message (inside_payment (38 ∷ 41 ∷ 44 ∷ 45 ∷ []) "<RmtInf><Strd><CdtrRefInf><Tp><CdOrPrtry>" [] "</CdOrPrtry></Tp></CdtrRefInf></Strd></RmtInf>") (refused_with 4 19 647) ∷
    message (inside_payment (38 ∷ 41 ∷ 44 ∷ 45 ∷ []) "<RmtInf><Strd><CdtrRefInf><Tp><CdOrPrtry>" (19 ∷ 19 ∷ []) "</CdOrPrtry></Tp></CdtrRefInf></Strd></RmtInf>") (refused_with 3 53 656) ∷ []

unfoldable pub row_cases : List Case
row_cases =
    child_cases ++
    (missing_cases ++
    (choice_cases ++
    (text_in_group_cases ++
    (walk_cases ++
    (whole_cases ++
    (header_row_cases ++
    (block_row_cases ++
    (payment_row_cases ++ deeper_row_cases))))))))
