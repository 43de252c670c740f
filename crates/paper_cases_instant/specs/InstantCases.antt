-- Cases of the instant profile: messages that differ a little from I1, their tables, fields and regroupings. `instant_message_cases` and `instant_later_cases` have the lists
-- that hold under the instant profile; `not_instant_cases` holds under the first.
use Rattle.std.specs.Prelude.{ℕ, List, [], ◌∷◌, ◌++◌}
use Prim.Native.String.{String}
use Rattle.paper.specs.Bytes.{bytes, each}
use Rattle.paper.specs.Refusals.{accepted}
use Rattle.paper.specs.Regrouping.{answered}
use Rattle.paper_cases.specs.Cases.{Case, message, table, field, moved, differing, refused_with, message_refused_with, times, header, block_with, payment_with, order, study_12, weis, klein, m1, sepa, inst, half_past_nine, i1_with, i1, i2, list}

-- What row 16 and row 22 may hold: 17, 18, 56, 20; 23, 58.
unfoldable pub priority : String
priority = "<InstrPrty>HIGH</InstrPrty>"

unfoldable pub level : String
level = "<SvcLvl><Cd>SEPA</Cd></SvcLvl>"

unfoldable pub instrument : String
instrument = "<LclInstrm><Cd>INST</Cd></LclInstrm>"

unfoldable pub category : String
category = "<CtgyPurp><Cd>SALA</Cd></CtgyPurp>"

unfoldable pub day : String
day = "<Dt>2026-03-04</Dt>"

unfoldable pub time : String
time = "<DtTm>2026-03-04T09:30:00+01:00</DtTm>"

-- I1 with these in its row 16; with these in its row 22
unfoldable pub typed : List String → List ℕ
typed held = i1_with (bytes "<PmtTpInf>" ++ (each bytes held ++ bytes "</PmtTpInf>")) half_past_nine

unfoldable pub dated : List String → List ℕ
dated held = i1_with inst (each bytes held)

-- row 16 with a text in row 57; row 58 with a text; I1 with them
unfoldable pub of_code : String → List ℕ
of_code w = bytes "<PmtTpInf><SvcLvl><Cd>SEPA</Cd></SvcLvl><LclInstrm><Cd>" ++ (bytes w ++ bytes "</Cd></LclInstrm></PmtTpInf>")

unfoldable pub of_time : String → List ℕ
of_time w = bytes "<DtTm>" ++ (bytes w ++ bytes "</DtTm>")

unfoldable pub coded : String → List ℕ
coded w = i1_with (of_code w) half_past_nine

unfoldable pub timed : String → List ℕ
timed w = i1_with inst (of_time w)

-- I1 with another row 16, or none, in its block and in each of its payments; I1 with a count of three and another row 22
unfoldable pub paid : (in_block in_first in_second : List ℕ) → List ℕ
paid in_block in_first in_second =
    order (header "M1" "2" "35.10")
    (block_with in_block half_past_nine "B1" "2" "35.1" study_12 ++
    (payment_with in_first "E1" "12.5" "A Weis" "LU699871234567898765" ++ payment_with in_second "E2" "22.60" "B Klein" "LU415551234567898765"))

unfoldable pub counted_three : (date : List ℕ) → List ℕ
counted_three date = order (header "M1" "3" "35.10") (block_with inst date "B1" "2" "35.1" study_12 ++ (weis ++ klein))

-- Row 16 is 17?, 18, 56, 20?. A missing 56 is 4 on 56, at the end tag or at the child behind it; a missing 18 comes before it.
unfoldable pub type_cases : List Case
type_cases =
    message (typed (priority ∷ level ∷ instrument ∷ category ∷ [])) (accepted 1 2 3510) ∷
    message (typed (priority ∷ level ∷ instrument ∷ [])) (accepted 1 2 3510) ∷
    message (typed (level ∷ instrument ∷ category ∷ [])) (accepted 1 2 3510) ∷
    message (typed (priority ∷ level ∷ [])) (refused_with 4 56 398) ∷
    message (typed (level ∷ category ∷ [])) (refused_with 4 56 371) ∷
    message (typed (priority ∷ level ∷ category ∷ [])) (refused_with 4 56 398) ∷
    -- 18 missing, and 18 and 56
    message (typed []) (refused_with 4 18 341) ∷
    message (typed (priority ∷ [])) (refused_with 4 18 368) ∷
    message (typed (category ∷ [])) (refused_with 4 18 341) ∷
    message (typed (instrument ∷ [])) (refused_with 4 18 341) ∷
    message (typed (priority ∷ instrument ∷ category ∷ [])) (refused_with 4 18 368) ∷
    -- 56 before 18, after 20, twice; 17 and 18 behind it
    message (typed (instrument ∷ level ∷ [])) (refused_with 4 18 341) ∷
    message (typed (level ∷ category ∷ instrument ∷ [])) (refused_with 4 56 371) ∷
    message (typed (level ∷ instrument ∷ instrument ∷ [])) (refused_with 3 16 407) ∷
    message (typed (level ∷ instrument ∷ category ∷ instrument ∷ [])) (refused_with 3 16 441) ∷
    message (typed (level ∷ instrument ∷ priority ∷ [])) (refused_with 3 16 407) ∷
    message (typed (level ∷ instrument ∷ level ∷ [])) (refused_with 3 16 407) ∷
    message (typed (level ∷ instrument ∷ category ∷ category ∷ [])) (refused_with 3 16 441) ∷
    -- a child that row 16 does not have is 3, even where 56 is missing as well
    message (typed (level ∷ "<Other></Other>" ∷ [])) (refused_with 3 16 371) ∷
    message (typed (level ∷ "<Cd>INST</Cd>" ∷ [])) (refused_with 3 16 371) ∷ []

-- Row 56 holds 57; it stands in row 16 alone.
unfoldable pub instrument_cases : List Case
instrument_cases =
    message (typed (level ∷ "<LclInstrm></LclInstrm>" ∷ [])) (refused_with 4 57 382) ∷
    message (typed (level ∷ "<LclInstrm> </LclInstrm>" ∷ [])) (refused_with 4 57 383) ∷
    message (typed (level ∷ "<LclInstrm>INST</LclInstrm>" ∷ [])) (refused_with 3 56 382) ∷
    message (typed (level ∷ "<LclInstrm><Prtry>INST</Prtry></LclInstrm>" ∷ [])) (refused_with 3 56 382) ∷
    message (typed (level ∷ "<LclInstrm><Cd>INST</Cd><Cd>INST</Cd></LclInstrm>" ∷ [])) (refused_with 3 56 395) ∷
    message (typed (level ∷ "<LclInstrm><Cd><A></A></Cd></LclInstrm>" ∷ [])) (refused_with 3 57 386) ∷
    message (i1_with (inst ++ bytes instrument) half_past_nine) (refused_with 3 10 418) ∷
    message (paid inst (bytes instrument) []) (refused_with 3 37 740) ∷ []

-- Row 57 is a leaf of at most 35 bytes, and INST; tried 6, 7, 8 as every leaf is. Row 19 stays SEPA.
unfoldable pub code_cases : List Case
code_cases =
    message (coded "") (refused_with 6 57 382) ∷
    message (coded "123456789012345678901234567890123456") (refused_with 6 57 382) ∷
    message (coded "_23456789012345678901234567890123456") (refused_with 6 57 382) ∷
    message (coded "12345678901234567890123456789012345") (refused_with 8 57 382) ∷
    message (coded "IN_T") (refused_with 7 57 388) ∷
    message (coded "INST_") (refused_with 7 57 390) ∷
    message (coded "INSU") (refused_with 8 57 382) ∷
    message (coded "SEPA") (refused_with 8 57 382) ∷
    message (coded "inst") (refused_with 8 57 382) ∷
    message (coded "INS") (refused_with 8 57 382) ∷
    message (coded "INST ") (refused_with 8 57 382) ∷
    message (coded " ") (refused_with 8 57 382) ∷
    message (typed ("<SvcLvl><Cd>INST</Cd></SvcLvl>" ∷ instrument ∷ [])) (refused_with 8 19 349) ∷ []

-- Row 22 is a choice of 23 and 58: nothing is 4 on 23, a second one 3 on 22.
unfoldable pub date_cases : List Case
date_cases =
    message (dated []) (refused_with 4 23 431) ∷
    message (dated (" " ∷ [])) (refused_with 4 23 432) ∷
    message (dated (day ∷ [])) (accepted 1 2 3510) ∷
    message (dated (day ∷ time ∷ [])) (refused_with 3 22 450) ∷
    message (dated (time ∷ day ∷ [])) (refused_with 3 22 469) ∷
    message (dated (time ∷ time ∷ [])) (refused_with 3 22 469) ∷
    message (dated (day ∷ day ∷ [])) (refused_with 3 22 450) ∷
    message (dated ("2026-03-04" ∷ [])) (refused_with 3 22 431) ∷
    message (dated ("<DtTim>2026-03-04T09:30:00Z</DtTim>" ∷ [])) (refused_with 3 22 431) ∷
    message (dated ("<Dt>2026-03-04T09:30:00+01:00</Dt>" ∷ [])) (refused_with 6 23 431) ∷
    message (dated ("<Dt>2026-02-29</Dt>" ∷ [])) (refused_with 8 23 431) ∷ []

-- Row 58 is a leaf of at most 25 bytes: a date and time as in row 5, then `Z`, or a sign and hh:mm from 00:00 to 14:00.
unfoldable pub time_cases : List Case
time_cases =
    message (timed "2026-03-04T09:30:00Z") (accepted 1 2 3510) ∷
    message (timed "2026-03-04T09:30:00+14:00") (accepted 1 2 3510) ∷
    message (timed "2026-03-04T23:59:59-14:00") (accepted 1 2 3510) ∷
    message (timed "2026-03-04T00:00:00-00:00") (accepted 1 2 3510) ∷
    message (timed "") (refused_with 6 58 431) ∷
    message (timed "2026-03-04T09:30:00+01:000") (refused_with 6 58 431) ∷
    message (timed "2026-03-04T09:30:00.000+01") (refused_with 6 58 431) ∷
    message (timed "2026-03-04T09:30:00_01:00") (refused_with 7 58 456) ∷
    message (timed "2026-03-04T09:30:00") (refused_with 8 58 431) ∷
    message (timed "2026-03-04T09:30:00z") (refused_with 8 58 431) ∷
    message (timed "2026-03-04T09:30:00+14:01") (refused_with 8 58 431) ∷
    message (timed "2026-03-04T09:30:00-14:01") (refused_with 8 58 431) ∷
    message (timed "2026-03-04T09:30:00+09:60") (refused_with 8 58 431) ∷
    message (timed "2026-03-04T09:30:00+0100") (refused_with 8 58 431) ∷
    message (timed "2026-03-04T09:30:00Z+1:00") (refused_with 8 58 431) ∷
    message (timed "2026-03-04T24:00:00Z") (refused_with 8 58 431) ∷
    message (timed "2026-02-29T09:30:00Z") (refused_with 8 58 431) ∷
    message (timed "2026-03-04") (refused_with 8 58 431) ∷
    message (timed "2026-03-04Z") (refused_with 8 58 431) ∷
    message (timed " ") (refused_with 8 58 431) ∷ []

-- Row 16 in the payments instead of the block; 9 and 10 as under the first profile.
unfoldable pub in_payment_cases : List Case
in_payment_cases =
    message (paid [] inst inst) (accepted 1 2 3510) ∷
    message (paid [] sepa inst) (refused_with 4 56 693) ∷
    message (paid [] inst sepa) (refused_with 4 56 987) ∷
    message (paid [] [] []) (refused_with 10 16 598) ∷
    message (paid [] inst []) (refused_with 10 16 892) ∷
    message (paid inst [] inst) (refused_with 9 16 947) ∷ []

-- The order: rows in the order of the file, then values in that order, then counts.
unfoldable pub instant_order_cases : List Case
instant_order_cases =
    message (i1_with sepa []) (refused_with 4 56 371) ∷
    message (i1_with (of_code "SEPA") []) (refused_with 4 23 431) ∷
    message (i1_with (of_code "SEPA") (of_time "2026-03-04")) (refused_with 8 57 382) ∷
    message (counted_three (of_time "2026-03-04")) (refused_with 8 58 431) ∷
    message (counted_three half_past_nine) (refused_with 12 6 147) ∷ []

-- The table: numbers 9 and 10 of a payment are all that its row 16 holds, in the payment or in its block. After a refusal nothing is written.
unfoldable pub instant_table_cases : List Case
instant_table_cases =
    table (paid [] inst inst) (times 41 7)
    (0 ∷ 630 ∷ 2 ∷ 834 ∷ 20 ∷ 796 ∷ 6 ∷ 572 ∷ 8 ∷ 663 ∷ 66 ∷ 447 ∷ 20 ∷ 12 ∷ 50 ∷ 598 ∷ 0 ∷ 0 ∷ 0 ∷ 0 ∷
    0 ∷ 924 ∷ 2 ∷ 1130 ∷ 20 ∷ 1091 ∷ 7 ∷ 572 ∷ 8 ∷ 957 ∷ 66 ∷ 447 ∷ 20 ∷ 22 ∷ 60 ∷ 892 ∷ 0 ∷ 0 ∷ 0 ∷ 0 ∷ 7 ∷ []) ∷
    table (dated (day ∷ [])) (times 40 7)
    (0 ∷ 698 ∷ 2 ∷ 815 ∷ 20 ∷ 777 ∷ 6 ∷ 640 ∷ 8 ∷ 341 ∷ 66 ∷ 515 ∷ 20 ∷ 12 ∷ 50 ∷ 666 ∷ 0 ∷ 0 ∷ 0 ∷ 0 ∷
    0 ∷ 905 ∷ 2 ∷ 1024 ∷ 20 ∷ 985 ∷ 7 ∷ 640 ∷ 8 ∷ 341 ∷ 66 ∷ 515 ∷ 20 ∷ 22 ∷ 60 ∷ 873 ∷ 0 ∷ 0 ∷ 0 ∷ 0 ∷ []) ∷
    table (typed (priority ∷ level ∷ instrument ∷ category ∷ [])) (times 40 7)
    (0 ∷ 778 ∷ 2 ∷ 895 ∷ 20 ∷ 857 ∷ 6 ∷ 720 ∷ 8 ∷ 341 ∷ 127 ∷ 595 ∷ 20 ∷ 12 ∷ 50 ∷ 746 ∷ 0 ∷ 0 ∷ 0 ∷ 0 ∷
    0 ∷ 985 ∷ 2 ∷ 1104 ∷ 20 ∷ 1065 ∷ 7 ∷ 720 ∷ 8 ∷ 341 ∷ 127 ∷ 595 ∷ 20 ∷ 22 ∷ 60 ∷ 953 ∷ 0 ∷ 0 ∷ 0 ∷ 0 ∷ []) ∷
    table m1 (times 41 7) (times 41 7) ∷ []

-- Field 4 is the text of 23 or 58; priority and category purpose stand before and behind the local instrument. Of a refused message no field is there.
unfoldable pub instant_part_cases : List Case
instant_part_cases =
    field i1 0 4 437 25 ∷
    field (dated (day ∷ [])) 0 4 435 10 ∷
    field (timed "2026-03-04T08:30:00Z") 1 4 437 20 ∷
    field (paid [] inst inst) 1 4 350 25 ∷
    field (typed (priority ∷ level ∷ instrument ∷ category ∷ [])) 1 2 352 4 ∷
    field (typed (priority ∷ level ∷ instrument ∷ category ∷ [])) 1 3 448 4 ∷
    field i1 0 2 0 0 ∷
    field i1 0 3 0 0 ∷
    field i1 1 6 534 20 ∷
    field i1 1 14 1043 20 ∷
    field m1 0 4 0 0 ∷ []

-- A regrouping reads both messages under the instant profile. Field 4 is compared by its text: the same moment in another zone differs. Row 56 is no field.
unfoldable pub instant_regrouping_cases : List Case
instant_regrouping_cases =
    moved i1 i2 (list 0 1) (answered 20 0 10) ∷
    moved i1 (paid [] inst inst) (list 0 1) (answered 0 0 0) ∷
    moved i1 (typed (" " ∷ level ∷ " " ∷ instrument ∷ [])) (list 0 1) (answered 0 0 0) ∷
    moved (dated (day ∷ [])) (dated (day ∷ [])) (list 0 1) (answered 0 0 0) ∷
    moved (timed "2026-03-04T08:30:00Z") (timed "2026-03-04T08:30:00+00:00") (list 0 1) (answered 20 0 4) ∷
    differing (timed "2026-03-04T08:30:00Z") (timed "2026-03-04T08:30:00+00:00") (list 0 1) 437 25 ∷
    differing (timed "2026-03-04T08:30:00+00:00") (timed "2026-03-04T08:30:00Z") (list 0 1) 437 20 ∷
    moved i1 (timed "2026-03-04T08:30:00Z") (list 0 1) (answered 20 0 4) ∷
    moved i1 (dated (day ∷ [])) (list 0 1) (answered 20 0 4) ∷
    differing i1 (dated (day ∷ [])) (list 0 1) 435 10 ∷
    moved (dated (day ∷ [])) i1 (list 0 1) (answered 20 0 4) ∷
    differing (dated (day ∷ [])) i1 (list 0 1) 437 25 ∷
    moved i1 (typed (level ∷ instrument ∷ category ∷ [])) (list 0 1) (answered 20 0 3) ∷
    differing i1 i2 (list 1 0) 0 0 ∷
    -- a message of the first profile is refused, whosever it is
    moved m1 i1 (list 0 1) (message_refused_with 1 4 56 371) ∷
    moved m1 m1 (list 0 1) (message_refused_with 1 4 56 371) ∷
    moved i1 m1 (list 0 1) (message_refused_with 2 4 56 371) ∷
    differing i1 m1 (list 0 1) 0 0 ∷ []

-- Under the first profile: what only the instant one has is 3 on its group, in the order of the file; then nothing is written, and no field is there.
unfoldable pub not_instant_cases : List Case
not_instant_cases =
    message (paid [] inst inst) (refused_with 3 22 344) ∷
    message (typed (level ∷ category ∷ [])) (refused_with 3 22 429) ∷
    message (typed (instrument ∷ [])) (refused_with 3 16 341) ∷
    message (coded "SEPA") (refused_with 3 16 371) ∷
    message (i1_with sepa half_past_nine) (refused_with 3 22 395) ∷
    message (i1_with sepa (bytes day ++ bytes time)) (refused_with 3 22 414) ∷
    message (i1_with sepa (bytes day)) (accepted 1 2 3510) ∷
    table i1 (times 41 7) (times 41 7) ∷
    field i1 0 4 0 0 ∷
    moved i1 i1 (list 0 1) (message_refused_with 1 3 16 371) ∷
    moved i1 m1 (list 0 1) (message_refused_with 1 3 16 371) ∷
    moved m1 i1 (list 0 1) (message_refused_with 2 3 16 371) ∷ []

unfoldable pub instant_message_cases : List Case
instant_message_cases = type_cases ++ (instrument_cases ++ (code_cases ++ (date_cases ++ (time_cases ++ (in_payment_cases ++ instant_order_cases)))))

unfoldable pub instant_later_cases : List Case
instant_later_cases = instant_table_cases ++ (instant_part_cases ++ instant_regrouping_cases)
